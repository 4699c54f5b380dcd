use Rattle.std.proofs.Common.{◌≡◌, ◌∙◌, ℕ, List, [], length, replicate, ap, sym, subst}
use Rattle.week_book.specs.declared.weeks.Driver.{Driver}
use Rattle.duty_plan.specs.declared.duties.Duty.{Duty}
use Rattle.branch_tree.specs.Keeping.{AreAllOrders}
use Rattle.branch_tree.proofs.FirstPlan.{first-lawful, first-kept}
use Rattle.branch_tree.proofs.keeping.first_kept.Goals as goal

abbrev home : Duty
home = record { steps = [] }

pub unreachable-requires : goal.unreachable-requires
unreachable-requires c =
    let homes : c.in_ok-duties.duties ≡ replicate (length c.args.case.now.week.drivers) (record { steps = [] }) =
    c.in_ok-duties.ensures ∙ ap (λ (xs : List Driver). replicate (length xs) (home)) c.as_slice.ensures in
    let all : AreAllOrders (length c.args.case.now.week.orders) c.in_ok-out.out = subst (λ (n : ℕ). AreAllOrders n c.in_ok-out.out) c.len.ensures c.in_ok-out.ensures in
    let wrong = c.in-Err.ensures.lawful.1 (first-lawful c.args.case.now c.in_ok-duties.duties c.in_ok-out.out homes all) in cc

pub returns-clause-kept : goal.returns-clause-kept
returns-clause-kept c =
    let homes : c.in_ok-duties.duties ≡ replicate (length c.args.case.now.week.drivers) (record { steps = [] }) =
    c.in_ok-duties.ensures ∙ ap (λ (xs : List Driver). replicate (length xs) (home)) c.as_slice.ensures in
    let all : AreAllOrders (length c.args.case.now.week.orders) c.in_ok-out.out = subst (λ (n : ℕ). AreAllOrders n c.in_ok-out.out) c.len.ensures c.in_ok-out.ensures in
    first-kept c.args.case.now c.in_ok-duties.duties c.in_ok-out.out c.in-Ok.cost homes all c.in-Ok.ensures.cost

pub returns-clause-pool : goal.returns-clause-pool
returns-clause-pool c = c.in_ok-pool.ensures.pool c.args.case.now (sym c.len-2.ensures)
