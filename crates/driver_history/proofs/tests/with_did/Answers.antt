use Rattle.std.proofs.Common.{arith}
use Rattle.driver_history.proofs.Texts.{text-append, adds-did}
use Rattle.driver_history.proofs.tests.with_did.Goals as goal

pub loop-word-preserved : goal.loop-word-preserved
loop-word-preserved g c =
    rw c.in_ok-push.ensures.ok
    (text-append c.loop-word.text _ c.loop-word.invariant (omega arith) (adds-did _ c.in_ok-driver.driver _ _ (omega arith) (omega arith)))
