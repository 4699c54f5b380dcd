-- The next leg is noted in both tables.
use Rattle.std.proofs.Common.{arith, refl}
use Rattle.week_book.specs.declared.weeks.Leg.{Leg}
use Rattle.duty_plan.specs.Acts.{cents_of_road, minutes_of_road}
use Rattle.duty_label.proofs.Closing.{noted-more}
use Rattle.duty_label.proofs.Taking.{taken-more}
use Rattle.duty_label.proofs.walks.Walks.note_legs.Goals as goal

pub loop-leg-preserved : goal.loop-leg-preserved
loop-leg-preserved c =
    let none : Leg = record { from = 0; to = 0; minutes = 0; cents = 0 } in
    let was = c.loop-leg.invariant in record {
      minute_zeros = λ place low. omega (arith, was.minute_zeros place low, c.note.ensures.below place place low low);
      cent_zeros = λ place low. omega (arith, was.cent_zeros place low, c.note-in-loop-leg.ensures.below place place low low);
      minutes =
          noted-more (λ leg. leg.minutes) c.args.week.now c.loop-leg.self.minutes.rows.items c.note.new.self.rows.items c.as_slice-leg-items.result.now
          c.loop-leg.leg-index none c.as_slice-leg-items.ensures c.requires.week c.note.ensures.below c.loop-leg-test.true was.minutes
          (omega (arith, c.note.ensures.noted, c.from.ensures));
      cents =
          noted-more (λ leg. leg.cents) c.args.week.now c.loop-leg.self.cents.rows.items c.note-in-loop-leg.new.self.rows.items c.as_slice-leg-items.result.now
          c.loop-leg.leg-index none c.as_slice-leg-items.ensures c.requires.week c.note-in-loop-leg.ensures.below c.loop-leg-test.true was.cents
          c.note-in-loop-leg.ensures.noted;
      minutes_taken =
          taken-more minutes_of_road c.args.week.now c.loop-leg.self.minutes.rows.items c.note.new.self.rows.items c.as_slice-leg-items.result.now
          c.loop-leg.leg-index c.from.result none c.as_slice-leg-items.ensures c.requires.week c.loop-leg-test.true c.from.ensures c.note.ensures.others
          was.minutes_taken;
      cents_taken =
          taken-more cents_of_road c.args.week.now c.loop-leg.self.cents.rows.items c.note-in-loop-leg.new.self.rows.items c.as_slice-leg-items.result.now
          c.loop-leg.leg-index _ none c.as_slice-leg-items.ensures c.requires.week c.loop-leg-test.true refl c.note-in-loop-leg.ensures.others was.cents_taken;
    }

pub returns-clause-taken : goal.returns-clause-taken
returns-clause-taken c = record { minutes = c.loop-leg.invariant.minutes_taken; cents = c.loop-leg.invariant.cents_taken }
