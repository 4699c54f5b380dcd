use Rattle.std.proofs.Common.{refl}
use Rattle.desk_http.proofs.Connections.{serves, serves_memory}
use Rattle.desk_http.proofs.Plans.{tells_plan}
use Rattle.desk_http.proofs.serving.serve_link.Goals as goal

pub returns-in-Ok-clause-served : goal.returns-in-Ok-clause-served
returns-in-Ok-clause-served g c =
    serves (g.S.Source.left c.args.link.now.source) c.in-Ok.request (g.B.Keeper.tables c.args.keeper.now) (g.B.Keeper.tables c.answer-outcome.new.keeper)
    (g.K.Sink.held c.args.link.now.sink) (g.K.Sink.held c.write_outcome.new.sink) c.answer-outcome.result c.write_outcome.result
    c.in-Ok.ensures.request c.answer-outcome.ensures.answer c.write_outcome.ensures.told

pub returns-in-Err-Memory-clause-served : goal.returns-in-Err-Memory-clause-served
returns-in-Err-Memory-clause-served g c =
    serves_memory (g.S.Source.left c.args.link.now.source) (g.B.Keeper.tables c.args.keeper.now) (g.B.Keeper.tables c.args.keeper.now)
    (g.K.Sink.held c.args.link.now.sink) (g.K.Sink.held c.write_outcome-in-Err-Memory.new.sink) (record {}) c.write_outcome-in-Err-Memory.result
    refl c.write_outcome-in-Err-Memory.ensures.told

pub returns-in-Ok-clause-planned : goal.returns-in-Ok-clause-planned
returns-in-Ok-clause-planned g c =
    tells_plan (g.S.Source.left c.args.link.now.source) (g.B.Keeper.tables c.args.keeper.now) (g.B.Keeper.tables c.answer-outcome.new.keeper)
    (g.K.Sink.held c.args.link.now.sink) (g.K.Sink.held c.write_outcome.new.sink) c.write_outcome.result (returns-in-Ok-clause-served g c)

pub returns-in-Err-Memory-clause-planned : goal.returns-in-Err-Memory-clause-planned
returns-in-Err-Memory-clause-planned g c =
    tells_plan (g.S.Source.left c.args.link.now.source) (g.B.Keeper.tables c.args.keeper.now) (g.B.Keeper.tables c.args.keeper.now)
    (g.K.Sink.held c.args.link.now.sink) (g.K.Sink.held c.write_outcome-in-Err-Memory.new.sink) c.write_outcome-in-Err-Memory.result
    (returns-in-Err-Memory-clause-served g c)
