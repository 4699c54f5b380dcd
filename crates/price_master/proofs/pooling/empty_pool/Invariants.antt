use Rattle.std.proofs.Common.{◌≡◌, [], map, replicate}
use Rattle.price_master.proofs.pooling.empty_pool.Given as goal

abbrev pub invariant-loop-driver : goal.invariant-loop-driver
invariant-loop-driver l = map (λ pooled. pooled.items) l.lists.items ≡ replicate l._driver []
