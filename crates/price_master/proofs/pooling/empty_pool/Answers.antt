use Rattle.std.proofs.Common.{◌≡◌, ◌∙◌, ℕ, [], List, ap, arith, replicate}
use Rattle.price_master.specs.declared.pooling.Pooled.{Pooled}
use Rattle.price_master.proofs.Adding.{empty-pool_lem}
use Rattle.price_master.proofs.pooling.empty_pool.Goals as goal

abbrev nothing : ℕ → List (List Pooled)
nothing n = replicate n []

pub returns-clause-pool : goal.returns-clause-pool
returns-clause-pool c = λ case many.
    let all : c.loop-driver._driver ≡ c.args.drivers = omega arith in
    empty-pool_lem case c.args.drivers _ (c.loop-driver.invariant ∙ ap nothing all) many
