use Rattle.std.proofs.Common.{◌≡◌, List, ℕ, ◌++◌, ◌-◌, length}
use Rattle.desk_io.specs.Device.{GivesBytes}
use Rattle.desk_http.proofs.waiting.read_to.Given as goal

abbrev pub invariant-body : goal.invariant-body
invariant-body g l = record {
  given : (given : List ℕ) × GivesBytes (g.S.Source.left l.fn.source) given (g.S.Source.left l.source) × (l.bytes ≡ l.fn.bytes ++ given);
  counted : g.S.Source.faults l.source ≡ g.S.Source.faults l.fn.source;
}

abbrev pub decreases-body : goal.decreases-body
decreases-body g l = l.wanted - length l.bytes
