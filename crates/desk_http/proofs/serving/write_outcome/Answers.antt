use Rattle.desk_http.proofs.Written.{tells, counts}
use Rattle.desk_http.proofs.serving.write_outcome.Goals as goal

pub returns-in-Ok-clause-told : goal.returns-in-Ok-clause-told
returns-in-Ok-clause-told g c =
    rw (c.in-Ok.is, c.outcome_of.ensures) (tells c.write_answer.result _ _ (g.K.Sink.held c.args.sink.now) (g.K.Sink.held c.write_answer.new.sink) c.write_answer.ensures.ok c.write_answer.ensures.err)

pub returns-in-Ok-clause-counts : goal.returns-in-Ok-clause-counts
returns-in-Ok-clause-counts g c =
    rw c.outcome_of.ensures (counts c.write_answer.result _ (g.K.Sink.faults c.args.sink.now) (g.K.Sink.faults c.write_answer.new.sink) c.write_answer.ensures.counts)

pub returns-in-Err-clause-told : goal.returns-in-Err-clause-told
returns-in-Err-clause-told g c =
    rw (c.in-Err.is, c.outcome_of-in-Err.ensures) (tells c.write_all.result _ _ (g.K.Sink.held c.args.sink.now) (g.K.Sink.held c.write_all.new.sink) c.write_all.ensures.ok c.write_all.ensures.err)

pub returns-in-Err-clause-counts : goal.returns-in-Err-clause-counts
returns-in-Err-clause-counts g c =
    rw c.outcome_of-in-Err.ensures (counts c.write_all.result _ (g.K.Sink.faults c.args.sink.now) (g.K.Sink.faults c.write_all.new.sink) c.write_all.ensures.counts)
