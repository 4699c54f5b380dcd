use Rattle.std.proofs.Common.{◌≤◌, ◌⊎◌, sym, subst, List, ℕ, length}
use Rattle.desk_io.specs.Device.{NothingLeft}
use Rattle.desk_http.specs.Heads.{IsHeadSettled}
use Rattle.desk_http.specs.Serving.{StandsFor, IsEnough}
use Rattle.desk_http.proofs.Stays.{stands}
use Rattle.desk_http.proofs.waiting.read_request.Goals as goal

pub returns-clause-request : goal.returns-clause-request
returns-clause-request g c =
    let left = g.S.Source.left c.args.source.now in
    let mid = g.S.Source.left c.read_to_head.new.source in
    let end = g.S.Source.left c.read_to.new.source in
    let n = c.in_ok-wanted.wanted in
    let more = c.in_ok-read_to.ensures.given in
    let enough = subst (λ (b : List ℕ). IsHeadSettled b → IsEnough b n) c.as_slice.ensures c.in_ok-wanted.ensures in
    let ends = subst (λ (b : List ℕ). (n ≤ length b) ⊎ NothingLeft end) more.2 c.in_ok-read_to.ensures.enough in
    subst (StandsFor left) (sym more.2) (stands left mid end c.in_ok-bytes.bytes more.0 n c.in_ok-bytes.ensures.given more.1 c.in_ok-bytes.ensures.settled enough ends)
