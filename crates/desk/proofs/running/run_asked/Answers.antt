use Rattle.desk.specs.Office.{device, shelf}
use Rattle.desk.proofs.MadeTellings.{told-made}
use Rattle.desk.proofs.running.run_asked.Goals as goal

pub returns-in-Make : goal.returns-in-Make
returns-in-Make g c =
    told-made c.args.ask c.in-Make.seed c.in-Make.limits (device (g.S.Source.left c.args.source.now) (g.S.Source.faults c.args.source.now))
    (device (g.K.Sink.held c.args.sink.now) (g.K.Sink.faults c.args.sink.now)) (device (g.K.Sink.held c.make.new.sink) (g.K.Sink.faults c.make.new.sink))
    (shelf (g.B.Keeper.tables c.args.keeper.now) (g.B.Keeper.faults c.args.keeper.now)) c.make.result c.in-Make.is c.make.ensures
