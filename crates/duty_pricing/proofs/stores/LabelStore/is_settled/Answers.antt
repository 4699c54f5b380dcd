-- The label has a place, and its reach is what the walks say.
use Rattle.std.proofs.Common.{ℕ, sym, subst, arith}
use Rattle.dominance.specs.Reaching.{DominatesWithin}
use Rattle.duty_pricing.proofs.Trying.{search-days}
use Rattle.duty_pricing.proofs.Visiting.{entry-minute, entry-place}
use Rattle.duty_pricing.proofs.stores.LabelStore.is_settled.Goals as goal

pub bettered-requires-clause-place : goal.bettered-requires-clause-place
bettered-requires-clause-place c = entry-place c.args.asked.now c.args.from.now.clock.at c.args.self.now c.args.number c.args.from.now c.requires.asked c.requires.search c.requires.from

pub bettered-requires-clause-minute : goal.bettered-requires-clause-minute
bettered-requires-clause-minute c = entry-minute c.args.asked.now c.args.from.now.clock.at c.args.self.now c.args.number c.args.from.now c.requires.asked c.requires.search c.requires.from

pub bettered-requires-clause-days : goal.bettered-requires-clause-days
bettered-requires-clause-days c = search-days c.args.asked.now c.args.from.now.clock.at c.args.self.now c.requires.search

pub returns-clause-settled : goal.returns-clause-settled
returns-clause-settled c = λ e.
    let b = c.bettered.ensures.some e in record {
      number = b.0;
      slot = b.1;
      begun = omega arith;
      later = (let l = b.2 in omega arith);
      is_slot = b.3;
      better = subst (λ (r : ℕ). DominatesWithin b.1.label c.args.from.now c.args.asked.now.forced r) c.reach.ensures b.4;
    }

pub returns-clause-free : goal.returns-clause-free
returns-clause-free c = λ f t.
    c.bettered.ensures.none f t.number t.slot (omega (arith, t.later)) t.is_slot
    (subst (λ (r : ℕ). DominatesWithin t.slot.label c.args.from.now c.args.asked.now.forced r) (sym c.reach.ensures) t.better)
