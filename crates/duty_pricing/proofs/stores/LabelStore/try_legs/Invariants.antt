-- The legs so far were tried.
use Rattle.std.proofs.Common.{◌≡◌, ◌<◌, ℕ, Some, slice_get}
use Rattle.hours_rules.specs.declared.clocks.Stay.{Stay}
use Rattle.week_book.specs.declared.weeks.Leg.{Leg as Road}
use Rattle.duty_plan.specs.declared.duties.Act.TheVariants.{Leg}
use Rattle.duty_pricing.specs.Searching.{GoesOn, HasTried, IsOpen}
use Rattle.duty_pricing.proofs.stores.LabelStore.try_legs.Given as goal

abbrev pub invariant-loop-leg : goal.invariant-loop-leg
invariant-loop-leg l = record {
  open_still : IsOpen l.asked l.seat l.self;
  on : GoesOn l.asked l.number l.from l.fn.self l.self;
  tried : (k : ℕ) → k < l.leg-index → (leg : Road) → slice_get l.leg-items k ≡ Some leg → leg.from ≡ l.from.place → (stay : Stay) →
      HasTried l.asked l.self l.number (record { stay = stay; act = Leg leg.to });
}
