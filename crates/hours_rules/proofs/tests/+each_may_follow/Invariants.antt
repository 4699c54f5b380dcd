use Rattle.std.proofs.Common.{length}
use Rattle.hours_rules.proofs.tests.+each_may_follow.Given as goal

abbrev pub decreases-each_may_follow : goal.decreases-each_may_follow
decreases-each_may_follow l = length l.stints.now
