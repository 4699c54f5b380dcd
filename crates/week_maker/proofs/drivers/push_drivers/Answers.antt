use Rattle.std.proofs.Common.{refl}
use Rattle.week_maker.specs.MadeWeeks.{driver_rows}
use Rattle.week_maker.proofs.GrowingText.{rows-none, rows-more}
use Rattle.week_maker.proofs.drivers.push_drivers.Goals as goal

pub loop-before-init : goal.loop-before-init
loop-before-init c = rows-none c.args.text.now driver_rows

pub loop-before-preserved : goal.loop-before-preserved
loop-before-preserved c =
    rows-more c.args.text.now driver_rows c.loop-before.before _ _ _ c.loop-before.invariant refl c.in_ok-push_driver.ensures
