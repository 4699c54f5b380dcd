-- Past the window of an order its service starts no more, and past the last turn nothing does.
use Rattle.std.proofs.Common.{◌≡◌, ◌*◌, false, sym, subst, arith}
use Rattle.duty_plan.specs.declared.duties.Act.{Act}
use Rattle.duty_plan.specs.Acts.{may_start}
use Rattle.duty_pricing.proofs.Going.{turn-low}
use Rattle.duty_pricing.proofs.Ruling.{serve-closed}
use Rattle.duty_pricing.proofs.rests.turns.Goals as goal

pub returns-in-Some-clause-closed : goal.returns-in-Some-clause-closed
returns-in-Some-clause-closed c = λ turn l h.
    subst (λ (a : Act). may_start c.args.asked.now.case.now.week a (turn * c.args.asked.now.case.now.week.grid) ≡ false) (sym c.in-Serve.is)
    (serve-closed c.args.asked.now.case.now.week _ c.in-Some.order.now turn c.args.asked.now.case.now.week.grid c.min.result (sym c.in-Some.ensures)
    c.min.ensures c.requires.asked.is_case.week.grid l h)

pub returns-in-None-clause-closed : goal.returns-in-None-clause-closed
returns-in-None-clause-closed c = λ turn l h.
    let low = turn-low turn c.args.asked.now.case.now.week.grid c.requires.asked.is_case.week.grid h in absurd (omega arith)

pub returns-in-Leg-clause-closed : goal.returns-in-Leg-clause-closed
returns-in-Leg-clause-closed c = λ turn l h.
    let low = turn-low turn c.args.asked.now.case.now.week.grid c.requires.asked.is_case.week.grid h in absurd (omega arith)
