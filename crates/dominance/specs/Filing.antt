-- Labels in lists, one for each place.
use Rattle.std.specs.Prelude.{◌≡◌, ℕ, List, [], All, slice_index_or}
use Rattle.duty_plan.specs.declared.labels.Label.{Label}

-- the list of a place; past the last list there is no label
abbrev pub list_at : List (List Label) → ℕ → List Label
list_at lists place = slice_index_or lists place []

-- each label stands in the list of its own place
abbrev pub AreFiled : List (List Label) → Type 0
AreFiled lists = (place : ℕ) → All (λ label. label.place ≡ place) (list_at lists place)
