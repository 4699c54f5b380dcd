-- Each leg is tried.
use Rattle.std.proofs.lemmas.Option.{get_or_from_slice_get}
use Rattle.duty_plan.proofs.Lists.{slice_get-lt}
use Rattle.std.proofs.Common.{List, ◌≡◌, Some, slice_get, below_more, ap, ◌∙◌, subst, arith}
use Rattle.hours_rules.specs.declared.clocks.Stay.{Stay}
use Rattle.week_book.specs.declared.weeks.Leg.{Leg as Road}
use Rattle.duty_plan.specs.declared.duties.Act.TheVariants.{Leg}
use Rattle.duty_pricing.specs.Searching.{HasTried}
use Rattle.duty_pricing.proofs.Going.{goes-itself, goes-further, tried-stays}
use Rattle.duty_pricing.proofs.stores.LabelStore.try_legs.Goals as goal

pub loop-leg-init : goal.loop-leg-init
loop-leg-init c = record {
  open_still = c.requires.open;
  on = goes-itself c.args.asked.now c.args.number c.args.from.now c.args.self.now c.requires.search c.requires.from;
  tried = λ k l. absurd (omega arith);
}

pub returns-then-not-try_leg-clause-on : goal.returns-then-not-try_leg-clause-on
returns-then-not-try_leg-clause-on c =
    goes-further c.args.asked.now c.args.number c.args.from.now c.args.self.now c.loop-leg.self c.try_leg.new.self c.loop-leg.invariant.on c.try_leg.ensures.on

pub loop-leg-preserved : goal.loop-leg-preserved
loop-leg-preserved c = record {
  open_still = c.try_leg.ensures.open c.if-not-try_leg.false;
  on = goes-further c.args.asked.now c.args.number c.args.from.now c.args.self.now c.loop-leg.self c.try_leg.new.self c.loop-leg.invariant.on c.try_leg.ensures.on;
  tried = below_more _ _
      (λ k l leg h at stay. tried-stays c.args.asked.now c.args.number c.args.from.now c.loop-leg.self c.try_leg.new.self _ c.loop-leg.invariant.on.still c.try_leg.ensures.on.grows
      (c.loop-leg.invariant.tried k l leg h at stay))
      (λ leg h.
      subst (λ (x : Road). x.from ≡ c.args.from.now.place → (stay : Stay) →
      HasTried c.args.asked.now c.try_leg.new.self c.args.number (record { stay = stay; act = Leg x.to }))
      (get_or_from_slice_get c.as_slice-leg-items.result.now c.loop-leg.leg-index leg _ h) (c.try_leg.ensures.tried c.if-not-try_leg.false));
}

pub returns-clause-tried : goal.returns-clause-tried
returns-clause-tried c = λ _ k leg h.
    let at : slice_get c.as_slice-leg-items.result.now k ≡ Some leg = ap (λ (xs : List Road). slice_get xs k) c.as_slice-leg-items.ensures ∙ h in
    c.loop-leg.invariant.tried k (omega (arith, slice_get-lt c.as_slice-leg-items.result.now k leg at, c.loop-leg-test.false)) leg at
