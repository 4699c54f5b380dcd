-- How the code follows the debt of a line, stint by stint. The contracts of the private functions cite this; no public
-- clause does.
use Rattle.std.specs.Prelude.{ℕ, ◌+◌, ◌-◌, ◌/◌, ◌≤◌, Bool, ◌&&◌, ◌||◌, if◌then◌else◌, nat_le, nat_lt, nat_eq, List, fold}
use Rattle.minute_line.specs.declared.marks.Kind.TheVariants.{Plain}
use Rattle.minute_line.specs.declared.marks.Stint.{Stint}
use Rattle.minute_line.specs.declared.lines.TheConstants.{WEEK_MINUTES}
use Rattle.minute_line.specs.declared.debts.TheConstants.{REGULAR_WEEKLY_REST}
use Rattle.minute_line.specs.Histories.{Fields}
use Rattle.minute_line.specs.Marks.{is_off, is_daily, is_weekly}
use Rattle.hours_rules.specs.declared.thresholds.TheConstants.{REGULAR_DAILY_REST}
use Rattle.driver_history.specs.declared.owing.Owed.{Owed}
use Rattle.driver_history.specs.declared.owing.Owing.{Owing}

-- the open run ends as a weekly rest
abbrev pub ends_as_weekly : Owing → Bool
ends_as_weekly o = nat_le 1 o.off && is_weekly o.declared

-- it ends as a rest that pays what is owed
abbrev pub ends_as_paying : Owing → Bool
ends_as_paying o =
    ((nat_le 1 o.off && is_daily o.declared) && nat_le (REGULAR_DAILY_REST + o.debt.owed) o.off)
    || (ends_as_weekly o && nat_le (REGULAR_WEEKLY_REST + o.debt.owed) o.off)

-- it ends as a reduced weekly rest where nothing is owed yet
abbrev pub ends_as_owing : Owing → Bool
ends_as_owing o = ends_as_weekly o && (nat_lt o.off REGULAR_WEEKLY_REST && nat_eq o.debt.owed 0)

-- the debt of a reduced weekly rest that ends now, due three weeks after the week of its last minute
abbrev pub owed_now : Owing → Owed
owed_now o = record { owed = REGULAR_WEEKLY_REST - o.off; due = (o.at + (WEEK_MINUTES - 1)) / WEEK_MINUTES + 3 }

-- the debt once the open run has ended
abbrev pub owed_after : Owing → Owed
owed_after o =
    if ends_as_paying o then record { owed = 0; due = 0 } else (if ends_as_owing o then owed_now o else o.debt)

-- one more stint
abbrev pub owe_stint : Owing → Stint → Owing
owe_stint o s =
    if is_off s.mark then record o { off = o.off + s.minutes; declared = s.kind; at = o.at + s.minutes }
    else record {
      debt = owed_after o;
      begun = if ends_as_weekly o then owed_after o else o.begun;
      off = 0;
      declared = Plain;
      at = o.at + s.minutes;
    }

-- before the first minute of a line that begins with a debt
abbrev pub owing_from : Owed → Owing
owing_from owed = record { debt = owed; begun = owed; off = 0; declared = Plain; at = 0 }

-- on Monday, after so many open minutes
abbrev pub owing_on_monday : Owing → ℕ → Owing
owing_on_monday o open_off = record o { off = o.off + open_off; declared = Plain; at = 0 }

-- the debt where the line begins that is left of a history and a week with these stints
abbrev pub owed_left : Fields → List Stint → Owed
owed_left h line =
    (fold owe_stint (owing_on_monday (fold owe_stint (owing_from (record { owed = h.owed; due = h.due })) h.stints) h.open_off) line).begun

-- the weeks from next Monday to the end of the week by which it is due, 0 where that is past or nothing is owed
abbrev pub weeks_later : Owed → ℕ
weeks_later owed = if nat_eq owed.owed 0 then 0 else owed.due - 1

-- n more minutes are few enough to be counted; a history and a week have at most 50,400 together, far below this round number
pub record IsShort (o : Owing) (n : ℕ) : Type 0 where
  pub off : o.off + n ≤ 4000000
  pub at : o.at + n ≤ 4000000
