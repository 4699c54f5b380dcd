use Rattle.std.proofs.Common.{◌≡◌, length}
use Rattle.cheap_plans.proofs.drafts.no_duties.Given as goal

abbrev pub invariant-loop-driver : goal.invariant-loop-driver
invariant-loop-driver l = record {
  duties : length l.duties ≡ l._driver-index;
  freed : length l.freed ≡ l._driver-index;
}
