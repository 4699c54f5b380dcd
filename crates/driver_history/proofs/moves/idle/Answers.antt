use Rattle.std.proofs.Common.{◌∙◌, ap, [], arith}
use Rattle.minute_line.specs.Histories.{Fields, fields_of}
use Rattle.driver_history.specs.Advancing.{advance_of}
use Rattle.driver_history.proofs.Idling.{idle-most, idle_more}
use Rattle.driver_history.proofs.moves.idle.Goals as goal

pub loop-preserved : goal.loop-preserved
loop-preserved c = c.in_ok-now-2.ensures ∙ ap (λ (f : Fields). advance_of f []) c.loop.invariant ∙ idle_more c.loop.counter (fields_of c.args.history.now)

pub returns : goal.returns
returns c =
    c.loop.invariant
    ∙ idle-most c.args.weeks c.loop.counter (fields_of c.args.history.now) c.args.history.now.shape c.args.history.now.run c.args.history.now.sixteen c.args.history.now.no_debt
    c.args.history.now.deadline (omega arith)
