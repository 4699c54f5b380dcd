use Rattle.desk.specs.Office.{device, shelf, office}
use Rattle.desk.proofs.Showing.{shows}
use Rattle.desk.proofs.running.run_gated.Goals as goal

pub returns : goal.returns
returns g c = record {
  run = c.run.ensures;
  shows = shows _ (office (device (g.S.Source.left c.args.source.now) (g.S.Source.faults c.args.source.now)) (device (g.K.Sink.held c.args.sink.now) (g.K.Sink.faults c.args.sink.now)) (shelf (g.B.Keeper.tables c.args.keeper.now) (g.B.Keeper.faults c.args.keeper.now)))
      (office (device (g.S.Source.left c.run.new.source) (g.S.Source.faults c.run.new.source)) (device (g.K.Sink.held c.run.new.sink) (g.K.Sink.faults c.run.new.sink)) (shelf (g.B.Keeper.tables c.run.new.keeper) (g.B.Keeper.faults c.run.new.keeper)))
      c.run.result c.run.ensures;
}
