use Rattle.std.proofs.Common.{◌≡◌, drop}
use Rattle.driver_history.specs.Reading.{late_weekly}
use Rattle.driver_history.proofs.activities.find_late_weekly.Given as goal

abbrev pub invariant-loop-place : goal.invariant-loop-place
invariant-loop-place l = late_weekly (drop l.place l.activities) ≡ late_weekly l.activities
