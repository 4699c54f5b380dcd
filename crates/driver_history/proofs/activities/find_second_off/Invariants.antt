use Rattle.std.proofs.Common.{◌≡◌, drop, false}
use Rattle.driver_history.specs.Reading.{second_off}
use Rattle.driver_history.proofs.activities.find_second_off.Given as goal

abbrev pub invariant-loop-activity : goal.invariant-loop-activity
invariant-loop-activity l = second_off l.after_off (drop l.activity-index l.activities) ≡ second_off false l.activities
