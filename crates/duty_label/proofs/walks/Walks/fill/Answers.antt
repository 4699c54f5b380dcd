-- Both tables are closed, no leg undercuts them, and they have the walks of no leg, of one, and those that are put together from them.
use Rattle.duty_plan.specs.Acts.{cents_of_road, minutes_of_road}
use Rattle.duty_label.proofs.Closing.{are-bounds, legs-below}
use Rattle.duty_label.proofs.Taking.{taken-cleared}
use Rattle.duty_label.proofs.walks.Walks.fill.Goals as goal

pub note_legs-requires-clause-minutes_taken : goal.note_legs-requires-clause-minutes_taken
note_legs-requires-clause-minutes_taken c =
    taken-cleared minutes_of_road c.args.week.now c.clear.new.self.rows.items c.clear.ensures.zeros c.clear.ensures.nowhere

pub note_legs-requires-clause-cents_taken : goal.note_legs-requires-clause-cents_taken
note_legs-requires-clause-cents_taken c =
    taken-cleared cents_of_road c.args.week.now c.clear-2.new.self.rows.items c.clear-2.ensures.zeros c.clear-2.ensures.nowhere

pub returns-clause-bounds : goal.returns-clause-bounds
returns-clause-bounds c =
    let week = c.args.week.now in record {
      minutes = are-bounds minutes_of_road week c.close.new.self.rows.items c.requires c.close.new.self.size c.close.ensures.zeros c.close.ensures.closed
          (legs-below (λ leg. leg.minutes) week c.note_legs.new.self.minutes.rows.items c.close.new.self.rows.items c.requires c.close.ensures.below
          c.note_legs.ensures.minutes);
      cents = are-bounds cents_of_road week c.close-2.new.self.rows.items c.requires c.close-2.new.self.size c.close-2.ensures.zeros c.close-2.ensures.closed
          (legs-below (λ leg. leg.cents) week c.note_legs.new.self.cents.rows.items c.close-2.new.self.rows.items c.requires c.close-2.ensures.below
          c.note_legs.ensures.cents);
    }

pub returns-clause-least : goal.returns-clause-least
returns-clause-least c = record {
  minutes = c.close.ensures.taken minutes_of_road c.args.week.now c.note_legs.ensures.taken.minutes;
  cents = c.close-2.ensures.taken cents_of_road c.args.week.now c.note_legs.ensures.taken.cents;
}
