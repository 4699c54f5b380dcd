-- Each word test is a test of every bit.
use Rattle.std.proofs.lemmas.Bool.{eqb-true, eq-eqb, and_from, and_parts}
use Rattle.dominance.proofs.Among.{among_from, none_over, agree_from, none_differ}
use Rattle.dominance.proofs.comparing.serves_among.Goals as goal

pub returns : goal.returns
returns c = (
  λ both. let h = and_parts _ _ both in (
    λ order. among_from c.args.a c.args.b order c.ranges.a.fits c.ranges.b.fits (eqb-true _ 0 h.0),
    λ order is_forced. agree_from c.args.a c.args.b c.args.forced order (eqb-true _ 0 h.1) is_forced,
  ),
  λ g. and_from _ _
      (eq-eqb _ 0 (none_over c.args.a c.args.b c.ranges.a.fits c.ranges.b.fits g.0))
      (eq-eqb _ 0 (none_differ c.args.a c.args.b c.args.forced g.1)),
)
