-- What a line that is carried on may hold. The contracts of the private functions cite this; no public clause does.
use Rattle.std.specs.Prelude.{◌≡◌, ℕ, ◌+◌, ◌≤◌, true, false}
use Rattle.minute_line.specs.Minutes.{total_of}
use Rattle.minute_line.specs.Stints.{is_past}
use Rattle.minute_line.specs.declared.debts.TheConstants.{WEEKLY_REST}
use Rattle.minute_line.specs.declared.lines.TheConstants.{PAST_LIMIT}
use Rattle.driver_history.specs.declared.carrying.SinceWeeklyRest.{SinceWeeklyRest}
use Rattle.driver_history.specs.Carrying.{SinceWeeklyRestFields, all_stints}

-- what the struct holds
abbrev pub seen : SinceWeeklyRest → SinceWeeklyRestFields
seen c = record {
  prev_weekly = c.prev_weekly;
  stints = c.stints.items;
  mark = c.mark;
  minutes = c.minutes;
  open_off = c.open_off;
  declared = c.declared;
}

-- the minutes of the block and the run at the end
abbrev pub held : SinceWeeklyRestFields → ℕ
held c = c.minutes + c.open_off

-- what is left keeps the bounds of a history
pub record KeepsHistoryBounds (c : SinceWeeklyRestFields) : Type 0 where
  pub rest : WEEKLY_REST ≤ c.prev_weekly
  pub short : c.prev_weekly ≤ 1000000
  pub shape : is_past false (all_stints c) ≡ true
  pub total : total_of (all_stints c) ≤ PAST_LIMIT
