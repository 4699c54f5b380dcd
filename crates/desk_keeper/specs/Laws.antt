-- What a publication moves, in the words of the tables.
use Rattle.std.specs.Prelude.{◌≡◌, ℕ, Bool, false, not, List, Some, filter, slice_get}
use Rattle.std.specs.List.{list_any}
use Rattle.std.specs.Str.{bytes_eq}
use Rattle.desk_keeper.specs.Tables.{Tables, DriverFields, DraftFields, RowFields, AreNamedOnce}
use Rattle.desk_keeper.specs.Entries.{history_in}
use Rattle.desk_keeper.specs.Changes.{row_after, with_issue}

-- whether one of the drivers has that name
abbrev pub is_named : List DriverFields → List ℕ → Bool
is_named drivers name = list_any (λ driver. bytes_eq driver.name name) drivers

-- the rows of drivers who are none of these
abbrev pub rows_of_others : List DriverFields → List RowFields → List RowFields
rows_of_others drivers rows = filter (λ row. not (is_named drivers row.driver)) rows

-- what is kept of each driver of the draft is the history after its week, up to the Monday that follows; what is kept of any
-- other driver is what was kept, in the same rows in the same order
pub record MovesItsDrivers (draft : DraftFields) (before after : Tables) : Type 0 where
  pub theirs : (k : ℕ) (driver : DriverFields) → slice_get draft.drivers k ≡ Some driver
      → history_in after driver.name ≡ Some (row_after draft.monday driver).kept
  pub others : (name : List ℕ) → is_named draft.drivers name ≡ false → history_in after name ≡ history_in before name
  pub rows : rows_of_others draft.drivers after.histories ≡ rows_of_others draft.drivers before.histories

-- a publication moves the drivers of its draft on, and no other
abbrev pub PublicationMovesItsDrivers : Type 0
PublicationMovesItsDrivers = (draft : DraftFields) (tables : Tables) → AreNamedOnce draft.drivers → MovesItsDrivers draft tables (with_issue draft tables)
