-- A history for each driver so far.
use Rattle.std.proofs.Common.{◌≡◌, length}
use Rattle.sample_weeks.proofs.texts.case_of_text.Given as goal

abbrev pub invariant-loop-driver : goal.invariant-loop-driver
invariant-loop-driver l = length l.past ≡ l._driver-index
