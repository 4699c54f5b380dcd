use Rattle.std.proofs.Common.{◌<◌, refl, arith, length}
use Rattle.price_master.proofs.Adding.{adds-to, had, on-err, on-ok, pool-after, stays-so}
use Rattle.price_master.proofs.pooling.Pool.add.Goals as goal

pub keep-requires : goal.keep-requires
keep-requires c =
    let inside : c.args.driver < length c.args.self.now = omega (arith, c.requires.driver, c.requires.pool.drivers) in
    let there = had (λ pooled. pooled.items) c.self.inside.drivers.items c.args.self.now c.args.driver c.index_mut.result.now c.self.view_is inside c.index_mut.ensures.value in
    c.requires.pool.few c.args.driver c.index_mut.result.now.items there

pub returns-clause-added : goal.returns-clause-added
returns-clause-added c =
    let inside : c.args.driver < length c.args.self.now = omega (arith, c.requires.driver, c.requires.pool.drivers) in
    let there = had (λ pooled. pooled.items) c.self.inside.drivers.items c.args.self.now c.args.driver c.index_mut.result.now c.self.view_is inside c.index_mut.ensures.value in
    on-ok c.keep.result (λ a. adds-to (λ pooled. pooled.items) c.self.inside.drivers.items c.args.self.now c.args.driver _ c.index_mut.result.now c.keep.new.pooled
    (record { duty = c.args.duty; cost = c.in-Ok.cost }) c.self.view_is there c.in-Ok.ensures.cost a) c.keep.ensures.added

pub returns-clause-stays : goal.returns-clause-stays
returns-clause-stays c =
    let inside : c.args.driver < length c.args.self.now = omega (arith, c.requires.driver, c.requires.pool.drivers) in
    let there = had (λ pooled. pooled.items) c.self.inside.drivers.items c.args.self.now c.args.driver c.index_mut.result.now c.self.view_is inside c.index_mut.ensures.value in
    on-err c.keep.result (λ s. stays-so (λ pooled. pooled.items) c.self.inside.drivers.items c.args.self.now c.args.driver c.index_mut.result.now c.keep.new.pooled c.self.view_is there s)
    c.keep.ensures.stays

pub returns-clause-pool : goal.returns-clause-pool
returns-clause-pool c =
    let inside : c.args.driver < length c.args.self.now = omega (arith, c.requires.driver, c.requires.pool.drivers) in
    let there = had (λ pooled. pooled.items) c.self.inside.drivers.items c.args.self.now c.args.driver c.index_mut.result.now c.self.view_is inside c.index_mut.ensures.value in
    let added = on-ok c.keep.result (λ a. adds-to (λ pooled. pooled.items) c.self.inside.drivers.items c.args.self.now c.args.driver c.in-Ok.cost c.index_mut.result.now c.keep.new.pooled
    (record { duty = c.args.duty; cost = c.in-Ok.cost }) c.self.view_is there refl a) c.keep.ensures.added in
    let stays = on-err c.keep.result (λ s. stays-so (λ pooled. pooled.items) c.self.inside.drivers.items c.args.self.now c.args.driver c.index_mut.result.now c.keep.new.pooled c.self.view_is there s)
    c.keep.ensures.stays in
    pool-after c.keep.result c.args.case.now c.args.driver (record { duty = c.args.duty; cost = c.in-Ok.cost }) c.args.self.now _ c.requires.pool inside
    (record { lawful = c.requires.duty; costs = c.in-Ok.ensures.cost }) added stays
