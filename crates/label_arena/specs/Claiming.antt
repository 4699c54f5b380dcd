-- The answer to a claim.
use Rattle.std.specs.Prelude.{◌≡◌, ℕ, ◌<◌, ◌≤◌, List, [], ◌∷◌, ◌++◌, All}
use Rattle.label_arena.specs.declared.seats.Claim.{Claim}
use Rattle.label_arena.specs.declared.seats.Claim.TheVariants.{Chunk, Full}

-- the number n joins what a seat drew, and is above all of it
abbrev pub DrawsNext : ℕ → List ℕ → List ℕ → Type 0
DrawsNext n before after = (after ≡ before ++ n ∷ []) × All (λ number. number < n) before

-- the answer to the number n, of so many chunks, with what the seat held before and holds after: the chunk of that number,
-- empty, exactly where n is below the number of chunks
abbrev pub AnswersClaim : {T : Type 0} → ℕ → ℕ → List ℕ → List ℕ → Claim T → Type 0
AnswersClaim chunks n before after (Chunk number chunk) = (n < chunks) × (number ≡ n) × (chunk ≡ []) × (after ≡ n ∷ before)
AnswersClaim chunks n before after Full = (chunks ≤ n) × (after ≡ before)
