-- The slots of the minute past the link are done with.
use Rattle.duty_pricing.specs.Slots.{minute_of}
use Rattle.duty_pricing.specs.Searching.{GrowsTo, IsOpen, IsSearch}
use Rattle.duty_pricing.specs.Visiting.{IsDoneAt}
use Rattle.duty_pricing.proofs.Links.{HasWalked}
use Rattle.duty_pricing.proofs.stores.LabelStore.visit_minute.Given as goal

abbrev pub invariant-loop-link : goal.invariant-loop-link
invariant-loop-link l = record {
  open_still : IsOpen l.asked l.seat l.self;
  search : IsSearch l.asked l.minute l.self;
  grows : GrowsTo l.minute l.fn.self l.self;
  walked : HasWalked minute_of l.fn.self.slots l.minute l.link (λ n slot. IsDoneAt l.asked l.self n);
}

abbrev pub decreases-loop-link : goal.decreases-loop-link
decreases-loop-link l = l.link
