use Rattle.std.proofs.Common.{◌≡◌, length}
use Rattle.cheap_plans.proofs.drafts.taken_orders.Given as goal

abbrev pub invariant-loop-order : goal.invariant-loop-order
invariant-loop-order l = length l.taken ≡ l.order
