use Rattle.std.proofs.Common.{◌≡◌, ◌<◌, ◌∙◌, subst, arith, length}
use Rattle.duty_plan.specs.declared.duties.Duty.{Duty}
use Rattle.price_master.specs.Pools.{IsPooled}
use Rattle.price_master.proofs.Adding.{added-pooled, on-ok}
use Rattle.branch_tree.proofs.PooledRounds.{others-after}
use Rattle.branch_tree.proofs.taking.pool_duty.Goals as goal

pub returns-in_ok-copied_duty-in-Least-clause-pooled : goal.returns-in_ok-copied_duty-in-Least-clause-pooled
returns-in_ok-copied_duty-in-Least-clause-pooled c = on-ok c.add.result (λ a value duty e.
    let was = c.in-Least.is in
    let same : c.in-Least.duty ≡ duty = cc in
    let inside : c.args.driver < length c.args.pool.now = omega (arith, c.requires.driver, c.requires.pool.drivers) in
    subst (λ (x : Duty). IsPooled c.add.new.self c.args.driver x) (c.in_ok-copied_duty-in-Least.ensures ∙ same)
    (added-pooled c.args.driver _ c.args.pool.now c.add.new.self inside a)) c.add.ensures.added

pub returns-in_ok-copied_duty-in-Least-clause-others : goal.returns-in_ok-copied_duty-in-Least-clause-others
returns-in_ok-copied_duty-in-Least-clause-others c = λ other duty d p.
    others-after c.add.result c.args.driver other _ duty c.args.pool.now c.add.new.self d c.add.ensures.added c.add.ensures.stays p
