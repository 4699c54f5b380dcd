use Rattle.std.proofs.Common.{◌≡◌, ◌-◌, length}
use Rattle.desk_io.specs.Device.{GivesBytes}
use Rattle.desk_http.proofs.waiting.read_to_head.Given as goal

abbrev pub invariant-head : goal.invariant-head
invariant-head g l = record {
  given : GivesBytes (g.S.Source.left l.fn.source) l.bytes (g.S.Source.left l.source);
  counted : g.S.Source.faults l.source ≡ g.S.Source.faults l.fn.source;
}

abbrev pub decreases-head : goal.decreases-head
decreases-head g l = 8192 - length l.bytes
