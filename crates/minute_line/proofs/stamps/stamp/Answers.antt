use Rattle.std.proofs.Common.{arith}
use Rattle.jiff_core.proofs.SignedLemmas.{signed_arith}
use Rattle.minute_line.proofs.StampTexts.{with_clock}
use Rattle.minute_line.proofs.stamps.stamp.Goals as goal

pub returns-clause-form : goal.returns-clause-form
returns-clause-form c =
    let day = c.day_text.ensures in
    rw c.at_clock.ensures (with_clock c.args.monday.day c.day_text.result c.args.minute (day.0, day.1, omega (arith, signed_arith, day.2, c.day_at.ensures))).0

pub returns-clause-minutes : goal.returns-clause-minutes
returns-clause-minutes c =
    let day = c.day_text.ensures in
    rw c.at_clock.ensures (with_clock c.args.monday.day c.day_text.result c.args.minute (day.0, day.1, omega (arith, signed_arith, day.2, c.day_at.ensures))).1
