-- Rows of a text, as fields.
use Rattle.std.specs.Prelude.{ℕ, zero, suc, List, [], ◌∷◌, ◌++◌, ◌==◌, if◌then◌else◌, fold, codes}
use Rattle.std.specs.Fmt.{decimal}

-- the fields of a row, each as its bytes
abbrev pub Row : Type 0
Row = List (List ℕ)

-- a text with one more row: its fields with a comma between each two, and a line feed
abbrev pub with_row : List ℕ → Row → List ℕ
with_row text [] = text ++ 10 ∷ []
with_row text (first ∷ more) = fold (λ before field. before ++ 44 ∷ field) (text ++ first) more ++ 10 ∷ []

-- a text with more rows
abbrev pub with_rows : List ℕ → List Row → List ℕ
with_rows text rows = fold with_row text rows

-- the rows that the numbers from 1 to n have, one after another
unfoldable pub rows_for_each : ℕ → (ℕ → List Row) → List Row
rows_for_each zero rows_of = []
rows_for_each (suc n) rows_of = rows_for_each n rows_of ++ rows_of (suc n)

-- the name of a place: 0 is the depot
abbrev pub place_name : ℕ → List ℕ
place_name place = if place == 0 then codes "HUB" else codes "P" ++ decimal place

-- the name of a driver
abbrev pub driver_name : ℕ → List ℕ
driver_name driver = codes "D" ++ decimal driver

-- the name of an order
abbrev pub order_name : ℕ → List ℕ
order_name order = codes "O" ++ decimal order
