-- One leg more, and all legs.
use Rattle.std.proofs.Common.{All, List, subst}
use Rattle.week_book.specs.declared.weeks.Leg.{Leg as Road}
use Rattle.duty_outlook.specs.Outlooks.{AdmitsRoad}
use Rattle.duty_outlook.proofs.Lists.{within-more, all-within}
use Rattle.duty_outlook.proofs.Raising.{grows-on, road-up, legs-all}
use Rattle.duty_outlook.proofs.outlooks.Outlook.raise_legs.Goals as goal

pub loop-leg-preserved : goal.loop-leg-preserved
loop-leg-preserved c = record {
  grows = grows-on c.args.row.now c.loop-leg.row c.raise_leg.new.row c.loop-leg.invariant.grows c.raise_leg.ensures.grows;
  admits = λ week. within-more (AdmitsRoad week c.args.self.now c.args.spot c.loop-leg.row)
      (AdmitsRoad week c.args.self.now c.args.spot c.raise_leg.new.row) c.as_slice-leg-items.result.now c.loop-leg.leg-index
      (record { from = 0; to = 0; minutes = 0; cents = 0 }) c.loop-leg-test.true
      (λ leg. road-up week c.args.self.now c.args.spot leg c.loop-leg.row c.raise_leg.new.row c.raise_leg.ensures.grows)
      (c.loop-leg.invariant.admits week) (c.raise_leg.ensures.admits week);
}

pub returns-clause-admits : goal.returns-clause-admits
returns-clause-admits c =
    let week = c.args.week.now in
    let each = all-within (AdmitsRoad week c.args.self.now c.args.spot c.loop-leg.row) c.as_slice-leg-items.result.now
    c.loop-leg.leg-index c.loop-leg-test.false (c.loop-leg.invariant.admits week) in
    legs-all week c.args.self.now c.args.spot c.loop-leg.row
    (subst (λ (legs : List Road). All (AdmitsRoad week c.args.self.now c.args.spot c.loop-leg.row) legs) c.as_slice-leg-items.ensures each)
