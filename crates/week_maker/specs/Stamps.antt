-- What the stamps of made weeks are read as.
use Rattle.std.specs.Prelude.{◌≡◌, ℕ, pos, neg_ℤ}
use Rattle.minute_line.specs.DateText.{IsMondayText, IsStampText, stamp_minutes, text_day}
use Rattle.minute_line.specs.DateWriting.{stamp_text}
use Rattle.week_maker.specs.MadeWeeks.{week_monday, week_dates, rest_end, order_of, order_seed}

-- the stamp that is written for a minute is a stamp, and is read as that minute of the week that begins on its Monday
abbrev pub IsReadBack : ℕ → Type 0
IsReadBack minute =
    IsStampText (stamp_text week_dates minute)
    × (stamp_minutes (text_day week_monday) (stamp_text week_dates minute) ≡ pos minute)

-- the week begins on a Monday, the stamps of each window are read as its minutes, and the drivers' rest ended two days before
pub record IsWeekReadBack (seed : ℕ) : Type 0 where
  pub monday : IsMondayText week_monday
  pub rest : IsStampText rest_end × (stamp_minutes (text_day week_monday) rest_end ≡ neg_ℤ (pos 2880))
  pub opens : (number : ℕ) → IsReadBack (order_of (order_seed seed) number).opens
  pub closes : (number : ℕ) → IsReadBack (order_of (order_seed seed) number).closes
