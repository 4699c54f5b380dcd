use Rattle.std.proofs.Common.{◌≡◌, ◌<◌, ℕ}
use Rattle.duty_plan.specs.Values.{pair_at}
use Rattle.pricing_pool.proofs.twins.have_same_rows.Given as goal

abbrev pub invariant-comparing : goal.invariant-comparing
invariant-comparing l = (k : ℕ) → k < l.order → pair_at l.pairs l.one k ≡ pair_at l.pairs l.other k
