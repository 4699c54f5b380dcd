use Rattle.std.proofs.Common.{◌≡◌}
use Rattle.minute_line.specs.Histories.{fields_of}
use Rattle.driver_history.specs.Advancing.{idle_of}
use Rattle.driver_history.proofs.moves.idle.Given as goal

abbrev pub invariant-loop : goal.invariant-loop
invariant-loop l = fields_of l.now ≡ idle_of l.counter (fields_of l.fn.history)
