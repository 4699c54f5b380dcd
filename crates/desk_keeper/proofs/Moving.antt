-- One more driver is moved on.
use Rattle.std.proofs.Common.{◌≡◌, ℕ, ℤ, ◌+◌, ◌<◌, ap, sym, ◌∙◌, List, ◌∷◌, map, length, drop, get_or}
use Rattle.std.proofs.lemmas.List.{drop_more}
use Rattle.desk_keeper.specs.declared.records.DraftDriver.{DraftDriver}
use Rattle.desk_keeper.specs.Tables.{driver_fields, RowFields}
use Rattle.desk_keeper.specs.Changes.{with_row, row_after, moved_on}

pub moved_more : (monday : ℤ) (drivers : List DraftDriver) (i : ℕ) (driver d : DraftDriver) (before after all : List RowFields) (row : RowFields) → i < length drivers
    → driver ≡ get_or drivers i d → moved_on monday (map driver_fields (drop i drivers)) before ≡ all → row ≡ row_after monday (driver_fields driver)
    → after ≡ with_row row before → moved_on monday (map driver_fields (drop (i + 1) drivers)) after ≡ all
moved_more monday drivers i driver d before after all row here is so_far for_driver put =
    let left : drop i drivers ≡ driver ∷ drop (i + 1) drivers = drop_more drivers i d here ∙ ap (λ x. x ∷ drop (i + 1) drivers) (sym is) in
    ap (λ rows. moved_on monday (map driver_fields (drop (i + 1) drivers)) rows) (put ∙ ap (λ r. with_row r before) for_driver)
    ∙ (sym (ap (λ ds. moved_on monday (map driver_fields ds) before) left) ∙ so_far)
