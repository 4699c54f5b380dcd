use Rattle.std.proofs.Common.{arith}
use Rattle.driver_history.proofs.Texts.{text-append, adds-past}
use Rattle.driver_history.proofs.tests.with_past.Goals as goal

pub loop-word-preserved : goal.loop-word-preserved
loop-word-preserved g c =
    rw c.in_ok-push.ensures.ok
    (text-append c.loop-word.text _ c.loop-word.invariant (omega arith) (adds-past _ c.in_ok-driver.driver _ _ (omega arith) (omega arith)))
