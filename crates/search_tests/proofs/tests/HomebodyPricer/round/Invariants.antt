use Rattle.std.proofs.Common.{◌≡◌, replicate}
use Rattle.duty_plan.proofs.Home.{home_answer_of}
use Rattle.search_tests.proofs.tests.HomebodyPricer.round.Given as goal

abbrev pub invariant-loop-driver : goal.invariant-loop-driver
invariant-loop-driver g l = l.answers ≡ replicate l._driver-index (home_answer_of l.case)
