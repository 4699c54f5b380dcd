use Rattle.std.proofs.Common.{length}
use Rattle.hours_rules.proofs.tests.+are_a_past.Given as goal

abbrev pub decreases-are_a_past : goal.decreases-are_a_past
decreases-are_a_past l = length l.stints.now
