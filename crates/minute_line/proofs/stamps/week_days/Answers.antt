use Rattle.std.proofs.Common.{arith}
use Rattle.jiff_core.proofs.SignedLemmas.{signed_arith}
use Rattle.minute_line.proofs.StampTexts.{seven_days}
use Rattle.minute_line.proofs.stamps.week_days.Goals as goal

pub returns : goal.returns
returns c =
    seven_days c.args.monday.day _ _ _ _ _ _ _
    (c.day_text.ensures.0, c.day_text.ensures.1, omega (arith, signed_arith, c.day_text.ensures.2))
    (c.day_text-2.ensures.0, c.day_text-2.ensures.1, omega (arith, signed_arith, c.day_text-2.ensures.2))
    (c.day_text-3.ensures.0, c.day_text-3.ensures.1, omega (arith, signed_arith, c.day_text-3.ensures.2))
    (c.day_text-4.ensures.0, c.day_text-4.ensures.1, omega (arith, signed_arith, c.day_text-4.ensures.2))
    (c.day_text-5.ensures.0, c.day_text-5.ensures.1, omega (arith, signed_arith, c.day_text-5.ensures.2))
    (c.day_text-6.ensures.0, c.day_text-6.ensures.1, omega (arith, signed_arith, c.day_text-6.ensures.2))
    (c.day_text-7.ensures.0, c.day_text-7.ensures.1, omega (arith, signed_arith, c.day_text-7.ensures.2))
