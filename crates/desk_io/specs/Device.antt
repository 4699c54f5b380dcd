-- What happens to the bytes that are left or held, where they are told, and to a count of faults.
use Rattle.std.specs.Prelude.{◌≡◌, ℕ, ◌+◌, min, List, [], ◌++◌, Option, IfSome, option_map}

-- one more, or the last value of a counter, at which it stands
abbrev pub counted_up : ℕ → ℕ
counted_up n = min (n + 1) 18446744073709551615

-- the first bytes left are given, and the others are left; whether that is told does not change
abbrev pub GivesBytes : Option (List ℕ) → List ℕ → Option (List ℕ) → Type 0
GivesBytes before given after = before ≡ option_map (λ rest. given ++ rest) after

-- nothing is left, where that is told
abbrev pub NothingLeft : Option (List ℕ) → Type 0
NothingLeft left = IfSome left (λ rest. rest ≡ [])

-- bytes are appended to those held; whether that is told does not change
abbrev pub Takes : Option (List ℕ) → List ℕ → Option (List ℕ) → Type 0
Takes before taken after = after ≡ option_map (λ held. held ++ taken) before
