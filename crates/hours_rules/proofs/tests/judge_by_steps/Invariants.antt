use Rattle.hours_rules.specs.Standing.{IsClock}
use Rattle.hours_rules.proofs.tests.judge_by_steps.Given as goal

abbrev pub invariant-loop-stint : goal.invariant-loop-stint
invariant-loop-stint l = IsClock l.clock
