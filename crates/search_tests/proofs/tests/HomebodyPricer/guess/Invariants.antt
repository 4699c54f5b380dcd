use Rattle.std.proofs.Common.{◌≡◌, replicate, None}
use Rattle.search_tests.proofs.tests.HomebodyPricer.guess.Given as goal

abbrev pub invariant-loop-driver : goal.invariant-loop-driver
invariant-loop-driver l = l.guesses ≡ replicate l._driver-index None
