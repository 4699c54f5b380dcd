use Rattle.std.proofs.Common.{arith, ◌≡◌, ◌∙◌, ap, FitsSigned, w32, to_z-of_z, pos, ◌≤ℤ◌}
use Rattle.jiff_core.specs.Date.{epoch_day}
use Rattle.jiff_core.proofs.SignedLemmas.{signed_arith}
use Rattle.minute_line.proofs.Years.{from_2000, to_2099}
use Rattle.minute_line.proofs.dates.monday_of.Goals as goal

pub make_monday-requires-clause-within : goal.make_monday-requires-clause-within
make_monday-requires-clause-within c =
    let is : c.to_unix_epoch_day.result ≡ epoch_day c.args.date = c.to_unix_epoch_day.ensures.value ∙ ap epoch_day c.to_plain.ensures in
    let low : pos 10957 ≤ℤ c.to_unix_epoch_day.result = rw is (from_2000 c.args.date c.requires.low) in
    let high : c.to_unix_epoch_day.result ≤ℤ pos 47485 = rw is (omega (arith, signed_arith, to_2099 c.args.date c.requires.high)) in
    let fits : FitsSigned w32 c.to_unix_epoch_day.result = omega (arith, signed_arith) in
    simp to_z-of_z (low, high)
