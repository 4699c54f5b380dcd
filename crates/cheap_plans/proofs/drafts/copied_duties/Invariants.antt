use Rattle.std.proofs.Common.{◌≡◌, length}
use Rattle.cheap_plans.proofs.drafts.copied_duties.Given as goal

abbrev pub invariant-loop-duty : goal.invariant-loop-duty
invariant-loop-duty l = length l.copies ≡ l.duty-index
