use Rattle.std.proofs.Common.{◌≡◌, drop, [], map, option_map, length}
use Rattle.minute_line.specs.Histories.{fields_of}
use Rattle.desk_core.specs.Drafting.{pasts_read}
use Rattle.desk_core.proofs.drafting.pasts_of.Given as goal

abbrev pub invariant-loop-driver : goal.invariant-loop-driver
invariant-loop-driver l = record {
  read : pasts_read l.rows (map (option_map fields_of) l.pasts) (drop l.driver-index l.drivers) ≡ pasts_read l.rows [] l.drivers;
  each : length l.pasts ≡ l.driver-index;
}
