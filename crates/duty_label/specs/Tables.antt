-- Tables of numbers from each of 64 places to each.
use Rattle.std.specs.Prelude.{◌≡◌, ◌≢◌, ◌⊎◌, ℕ, ◌+◌, ◌<◌, ◌≤◌, List, [], slice_index_or, All}
use Rattle.week_book.specs.declared.weeks.Leg.{Leg as Road}
use Rattle.week_book.specs.declared.weeks.Week.{Week}

-- the number in a row; 0 past its end
abbrev pub number_at : List ℕ → ℕ → ℕ
number_at row to = slice_index_or row to 0

-- the number from one place to another; 0, which is a lower bound for any two, where either is no place of the table
abbrev pub cell : List (List ℕ) → ℕ → ℕ → ℕ
cell rows from to = number_at (slice_index_or rows from []) to

-- a number became the lesser one of itself and a sum
pub record IsLesser (old first second new : ℕ) : Type 0 where
  pub below : new ≤ old
  pub over : new ≤ first + second
  pub either : (new ≡ old) ⊎ (new ≡ first + second)

-- each number of a row became the lesser one of itself and what is needed over another place
abbrev pub IsLowered : ℕ → List ℕ → List ℕ → List ℕ → Type 0
IsLowered over through old new = (to : ℕ) → to < 64 →
    IsLesser (number_at old to) (number_at old over) (number_at through to) (number_at new to)

-- the same of each row of a table
abbrev pub AreLowered : ℕ → List (List ℕ) → List (List ℕ) → Type 0
AreLowered over old new = (from to : ℕ) → from < 64 → to < 64 →
    IsLesser (cell old from to) (cell old from over) (cell old over to) (cell new from to)

-- nothing is needed from a place to itself
abbrev pub HasZeros : List (List ℕ) → Type 0
HasZeros rows = (place : ℕ) → place < 64 → cell rows place place ≡ 0

-- no number rose
abbrev pub IsBelow : List (List ℕ) → List (List ℕ) → Type 0
IsBelow old new = (from to : ℕ) → from < 64 → to < 64 → cell new from to ≤ cell old from to

-- no number is more than what is needed over one of the first places
abbrev pub IsClosedOver : ℕ → List (List ℕ) → Type 0
IsClosedOver count rows = (from by to : ℕ) → from < 64 → by < count → to < 64 → cell rows from to ≤ cell rows from by + cell rows by to

-- each number from a place to another is at least the largest number that is counted
abbrev pub IsNowhere : List (List ℕ) → Type 0
IsNowhere rows = (from to : ℕ) → from < 64 → to < 64 → from ≢ to → 18446744073709551615 ≤ cell rows from to

-- but for the number from one place to another, which became the lesser one of itself and a number, a table stayed
pub record IsNoted (from to number : ℕ) (old new : List (List ℕ)) : Type 0 where
  pub noted : (cell new from to ≡ cell old from to) ⊎ (cell new from to ≡ number)
  pub rows : (a b : ℕ) → a ≢ from → cell new a b ≡ cell old a b
  pub columns : (b : ℕ) → b ≢ to → cell new from b ≡ cell old from b

-- no number is more than what a leg takes
abbrev pub IsBelowLegs : (Road → ℕ) → Week → List (List ℕ) → Type 0
IsBelowLegs takes week rows = All (λ leg. cell rows leg.from leg.to ≤ takes leg) week.legs
