use Rattle.hours_rules.specs.Standing.{IsClock}
use Rattle.hours_rules.proofs.tests.a_clock_counts_the_minutes_of_each_step.Given as goal

abbrev pub invariant-steps : goal.invariant-steps
invariant-steps g l = IsClock l.clock
