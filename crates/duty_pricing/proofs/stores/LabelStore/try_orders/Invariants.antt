-- The orders so far were tried.
use Rattle.std.proofs.Common.{◌≡◌, ◌<◌, ℕ, true}
use Rattle.hours_rules.specs.declared.clocks.Stay.{Stay}
use Rattle.week_book.specs.Weeks.{order_of}
use Rattle.duty_plan.specs.declared.duties.Act.TheVariants.{Serve}
use Rattle.duty_plan.specs.Acts.{is_at}
use Rattle.duty_pricing.specs.Searching.{GoesOn, HasTried, IsOpen}
use Rattle.duty_pricing.proofs.stores.LabelStore.try_orders.Given as goal

abbrev pub invariant-loop-order : goal.invariant-loop-order
invariant-loop-order l = record {
  open_still : IsOpen l.asked l.seat l.self;
  on : GoesOn l.asked l.number l.from l.fn.self l.self;
  tried : (order : ℕ) → order < l.order → is_at (order_of l.asked.case.now.week order) l.from.place ≡ true → (stay : Stay) →
      HasTried l.asked l.self l.number (record { stay = stay; act = Serve order });
}
