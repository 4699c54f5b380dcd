use Rattle.desk.specs.Office.{device, shelf, office}
use Rattle.desk.proofs.Tellings.{words-unread}
use Rattle.desk.proofs.running.run.Goals as goal

pub returns-in-Err-Memory : goal.returns-in-Err-Memory
returns-in-Err-Memory g c =
    words-unread _ (office (device (g.S.Source.left c.args.source.now) (g.S.Source.faults c.args.source.now)) (device (g.K.Sink.held c.args.sink.now) (g.K.Sink.faults c.args.sink.now)) (shelf (g.B.Keeper.tables c.args.keeper.now) (g.B.Keeper.faults c.args.keeper.now)))
