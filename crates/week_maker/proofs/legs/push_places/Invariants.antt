use Rattle.std.proofs.Common.{◌≡◌, ◌∷◌, []}
use Rattle.week_maker.specs.Rows.{with_row, with_rows, rows_for_each}
use Rattle.week_maker.specs.MadeWeeks.{place_row}
use Rattle.week_maker.proofs.legs.push_places.Given as goal

abbrev pub invariant-loop-before : goal.invariant-loop-before
invariant-loop-before l = l.text ≡ with_rows (with_row l.fn.text (place_row 0)) (rows_for_each l.before (λ place. place_row place ∷ []))
