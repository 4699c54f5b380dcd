use Rattle.std.proofs.Common.{◌≡◌, ◌≤◌, ◌*◌, None, take}
use Rattle.duty_plan.specs.Duties.{cost_of_duties, duty_cost_limit}
use Rattle.duty_plan.specs.Verdicts.{duties_fault}
use Rattle.duty_plan.proofs.checks.check_duties.Given as goal

abbrev pub invariant-loop-driver : goal.invariant-loop-driver
invariant-loop-driver l = record {
  fault : duties_fault l.case 0 (take l.driver l.duties) ≡ None;
  cents : l.cents ≡ cost_of_duties l.case 0 (take l.driver l.duties);
  bound : l.cents ≤ l.driver * duty_cost_limit;
}
