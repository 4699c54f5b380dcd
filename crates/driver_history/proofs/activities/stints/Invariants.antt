use Rattle.std.proofs.Common.{◌≡◌, ◌++◌, drop, map, true}
use Rattle.driver_history.specs.Reading.{stint_said}
use Rattle.driver_history.specs.Finding.{each_within}
use Rattle.driver_history.proofs.activities.stints.Given as goal

abbrev pub invariant-loop-activity : goal.invariant-loop-activity
invariant-loop-activity l = record {
  same : l.stints.items ++ map stint_said (drop l.activity-index l.activities) ≡ map stint_said l.activities;
  within : each_within 2000000 (drop l.activity-index l.activities) ≡ true;
}
