-- The days of the week are days of the calendar, and stamps are read back.
use Rattle.std.proofs.Common.{◌≡◌, ℕ, ◌-◌, ◌*◌, codes, refl, arith, rules, pos, neg_ℤ}
use Rattle.jiff_core.specs.Calendar.{days_from_civil, day_count, days_of_years, days_of_months, weekday_number}
use Rattle.minute_line.specs.DateText.{IsDateText, IsClockText, IsStampText, stamp_minutes, text_day, IsMondayText}
use Rattle.minute_line.specs.DateWriting.{AreDaysOf}
use Rattle.minute_line.proofs.StampTexts.{stamp_is_minute, seven_days}
use Rattle.seeded_draws.specs.Draws.{state_after}
use Rattle.week_maker.specs.MadeWeeks.{week_dates, week_monday, rest_end, order_of, order_seed}
use Rattle.week_maker.specs.Stamps.{IsWeekReadBack}
use Rattle.week_maker.proofs.Ranges.{order-in-range}

monday-text : IsMondayText week_monday
unfolding IsDateText days_from_civil day_count days_of_years days_of_months weekday_number
monday-text = (refl, search rules, refl)

are-days : AreDaysOf (text_day week_monday) week_dates
unfolding IsDateText days_from_civil day_count days_of_years days_of_months weekday_number
are-days =
    seven_days (text_day week_monday) (codes "2026-03-02") (codes "2026-03-03") (codes "2026-03-04") (codes "2026-03-05")
    (codes "2026-03-06") (codes "2026-03-07") (codes "2026-03-08")
    (refl, search rules, refl)
    (refl, search rules, refl)
    (refl, search rules, refl)
    (refl, search rules, refl)
    (refl, search rules, refl)
    (refl, search rules, refl)
    (refl, search rules, refl)

rest-ended : IsStampText rest_end × (stamp_minutes (text_day week_monday) rest_end ≡ neg_ℤ (pos 2880))
unfolding IsDateText IsClockText days_from_civil day_count days_of_years days_of_months weekday_number
rest-ended = ((refl, search rules, search rules), refl)

-- the stamps of the week of each seed are read back
pub week-read-back : (seed : ℕ) → IsWeekReadBack seed
week-read-back seed = record {
  monday = monday-text;
  rest = rest-ended;
  opens =
      λ number. let order = order-in-range (state_after (order_seed seed) (7 * (number - 1))) in
      stamp_is_minute (text_day week_monday) week_dates (order_of (order_seed seed) number).opens are-days
      (omega (arith, order.window, order.week));
  closes =
      λ number. let order = order-in-range (state_after (order_seed seed) (7 * (number - 1))) in
      stamp_is_minute (text_day week_monday) week_dates (order_of (order_seed seed) number).closes are-days (omega (arith, order.week));
}
