use Rattle.std.proofs.Common.{ap}
use Rattle.desk.specs.Office.{device, shelf}
use Rattle.desk.proofs.Tellings.{on-check, told-done, told-refusal, told-fault}
use Rattle.desk.proofs.running.play.Goals as goal

pub returns-in-Done : goal.returns-in-Done
returns-in-Done g c =
    told-done c.args.command.now (g.B.Keeper.tables c.args.keeper.now) (g.B.Keeper.tables c.step.new.keeper) (g.B.Keeper.faults c.args.keeper.now)
    (g.B.Keeper.faults c.step.new.keeper) (device (g.K.Sink.held c.args.sink.now) (g.K.Sink.faults c.args.sink.now))
    (device (g.K.Sink.held c.tell.new.sink) (g.K.Sink.faults c.tell.new.sink)) c.tell.result c.step.result c.in-Done.text c.as_slice.result.now c.in-Done.is c.as_slice.ensures
    c.step.ensures.step c.step.ensures.answer c.step.ensures.counts
    (on-check c.args.command.now (ap (λ k. shelf (g.B.Keeper.tables k) (g.B.Keeper.faults k))) c.step.ensures.unasked) c.tell.ensures

pub returns-in-Refused : goal.returns-in-Refused
returns-in-Refused g c =
    told-refusal c.args.command.now (g.B.Keeper.tables c.args.keeper.now) (g.B.Keeper.tables c.step.new.keeper) (g.B.Keeper.faults c.args.keeper.now)
    (g.B.Keeper.faults c.step.new.keeper) (device (g.K.Sink.held c.args.sink.now) (g.K.Sink.faults c.args.sink.now))
    (device (g.K.Sink.held c.tell_refusal.new.sink) (g.K.Sink.faults c.tell_refusal.new.sink)) c.tell_refusal.result c.step.result c.in-Refused.refusal
    c.in-Refused.is c.step.ensures.step c.step.ensures.answer c.step.ensures.counts
    (on-check c.args.command.now (ap (λ k. shelf (g.B.Keeper.tables k) (g.B.Keeper.faults k))) c.step.ensures.unasked) c.tell_refusal.ensures

pub returns-in-KeeperFault : goal.returns-in-KeeperFault
returns-in-KeeperFault g c =
    told-fault c.args.command.now (g.B.Keeper.tables c.args.keeper.now) (g.B.Keeper.tables c.step.new.keeper) (g.B.Keeper.faults c.args.keeper.now)
    (g.B.Keeper.faults c.step.new.keeper) (device (g.K.Sink.held c.args.sink.now) (g.K.Sink.faults c.args.sink.now))
    (device (g.K.Sink.held c.tell-in-KeeperFault.new.sink) (g.K.Sink.faults c.tell-in-KeeperFault.new.sink)) c.tell-in-KeeperFault.result c.step.result
    c.in-KeeperFault.is c.step.ensures.step c.step.ensures.answer c.step.ensures.counts
    (on-check c.args.command.now (ap (λ k. shelf (g.B.Keeper.tables k) (g.B.Keeper.faults k))) c.step.ensures.unasked) c.tell-in-KeeperFault.ensures
