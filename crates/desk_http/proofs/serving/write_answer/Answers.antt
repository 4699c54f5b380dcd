use Rattle.std.proofs.Common.{subst, List, ℕ, ◌<◌, length, take, OnErr}
use Rattle.desk_io.specs.Device.{Takes}
use Rattle.desk_http.proofs.Written.{on_err, second_cut}
use Rattle.desk_http.proofs.serving.write_answer.Goals as goal

pub returns-clause-err : goal.returns-clause-err
returns-clause-err g c =
    let before = g.K.Sink.held c.args.sink.now in
    let middle = g.K.Sink.held c.write_all.new.sink in
    let after = g.K.Sink.held c.write_all-2.new.sink in
    let one : Takes before c.args.answer.now.head middle = subst (λ (t : List ℕ). Takes before t middle) c.as_slice.ensures c.in_ok-write_all.ensures.ok in
    let two : OnErr c.write_all-2.result ((n : ℕ) × (n < length c.args.answer.now.body) × Takes middle (take n c.args.answer.now.body) after) =
    subst (λ (t : List ℕ). OnErr c.write_all-2.result ((n : ℕ) × (n < length t) × Takes middle (take n t) after)) c.as_slice-2.ensures c.write_all-2.ensures.err in
    on_err c.write_all-2.result (second_cut before middle after c.args.answer.now.head c.args.answer.now.body one) two
