use Rattle.std.proofs.Common.{arith}
use Rattle.duty_label.proofs.Closing.{closes-more}
use Rattle.duty_label.proofs.Taking.{taken-lowered}
use Rattle.duty_label.proofs.tables.Table.close.Goals as goal

pub loop-over-preserved : goal.loop-over-preserved
loop-over-preserved c =
    let was = c.loop-over.invariant in record {
      zeros = λ place low. omega (arith, was.zeros place low, (c.lower_over.ensures place place low low).below);
      below = λ from to f t. omega (arith, was.below from to f t, (c.lower_over.ensures from to f t).below);
      closed =
          closes-more c.loop-over.over c.loop-over.self.rows.items c.lower_over.new.self.rows.items (omega arith) was.zeros was.closed
          c.lower_over.ensures;
      taken = λ takes week known.
          taken-lowered takes week c.loop-over.over c.loop-over.self.rows.items c.lower_over.new.self.rows.items (omega arith) c.lower_over.ensures
          (was.taken takes week known);
    }

pub returns-clause-taken : goal.returns-clause-taken
returns-clause-taken c = c.loop-over.invariant.taken
