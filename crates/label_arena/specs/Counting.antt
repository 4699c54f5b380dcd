-- Lists of drawn numbers, counted.
use Rattle.std.specs.Prelude.{ℕ, ◌+◌, ◌==◌, nat_lt, max, List, [], ◌∷◌, if◌then◌else◌}

-- how often x stands in the list
abbrev pub times : ℕ → List ℕ → ℕ
times x [] = 0
times x (y ∷ ys) = (if x == y then 1 else 0) + times x ys

-- 1 where x is below n, and else 0
abbrev pub once_below : ℕ → ℕ → ℕ
once_below x n = if nat_lt x n then 1 else 0

-- how many of the numbers are m or more
abbrev pub beyond : ℕ → List ℕ → ℕ
beyond m [] = 0
beyond m (x ∷ xs) = (if nat_lt x m then 0 else 1) + beyond m xs

-- one more than the greatest of the numbers, or 0
abbrev pub top : List ℕ → ℕ
top [] = 0
top (x ∷ xs) = max (x + 1) (top xs)

-- f of each, added up
abbrev pub total : {V : Type 0} → (V → ℕ) → List V → ℕ
total f [] = 0
total f (v ∷ vs) = f v + total f vs

-- the list without the first x in it
abbrev pub without : ℕ → List ℕ → List ℕ
without x [] = []
without x (y ∷ ys) = if x == y then ys else y ∷ without x ys
