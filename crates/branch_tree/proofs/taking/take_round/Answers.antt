use Rattle.std.proofs.Common.{arith}
use Rattle.price_master.proofs.Adding.{on-ok}
use Rattle.branch_tree.proofs.taking.take_round.Goals as goal

pub returns-clause-taken : goal.returns-clause-taken
returns-clause-taken c = on-ok c.offer_all.result (λ taken m pairs prices round. record {
  beats = λ driver value duty h plan lone.
      let low = c.in_ok-offer_picked.ensures.beats driver duty (c.in_ok-pool_round.ensures.pooled driver value duty h) plan lone in
      omega (arith, low, c.offer_all.ensures.falls);
  decided = λ decided once. taken m pairs prices round decided once;
}) c.offer_all.ensures.taken
