use Rattle.std.proofs.Common.{pos, ◌+ℤ◌, ◌∙◌, FitsSigned, w32, arith, to_z-of_z}
use Rattle.jiff_core.proofs.SignedLemmas.{signed_arith}
use Rattle.jiff_core.proofs.DateLemmas.{weekday_number-week}
use Rattle.desk_keeper.proofs.records.next_monday.Goals as goal

pub invariant_of-result : goal.invariant_of-result
invariant_of-result c =
    let day = c.args.monday.day in
    let in_range = c.args.monday.day_in in
    let now : FitsSigned w32 day = omega (arith, signed_arith) in
    let then : FitsSigned w32 (day +ℤ pos 7) = omega (arith, signed_arith) in
    simp to_z-of_z record { day_in = (omega (arith, signed_arith), omega (arith, signed_arith)); is_monday = weekday_number-week day ∙ c.args.monday.is_monday }
