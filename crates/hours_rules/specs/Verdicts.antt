-- What a judge finds of a history and a week's line.
use Rattle.std.specs.Prelude.{◌-◌, ◌*◌, pos, List, length, sum, None, Some, Option}
use Rattle.minute_line.specs.declared.marks.Mark.TheVariants.{Off}
use Rattle.minute_line.specs.declared.marks.Kind.TheVariants.{Plain}
use Rattle.minute_line.specs.declared.marks.Stint.{Stint}
use Rattle.minute_line.specs.declared.lines.Line.{Line}
use Rattle.minute_line.specs.declared.lines.History.{History}
use Rattle.minute_line.specs.declared.lines.TheConstants.{WEEK_MINUTES}
use Rattle.minute_line.specs.Histories.{Fields, fields_of}
use Rattle.minute_line.specs.Minutes.{Minutes, stretch, reached_by}
use Rattle.hours_rules.specs.declared.rules.Broken.{Broken}
use Rattle.hours_rules.specs.declared.rules.Verdict.{Verdict}
use Rattle.hours_rules.specs.declared.rules.Verdict.TheVariants.{Lawful, Broken as fails}
use Rattle.hours_rules.specs.Debts.{Debt}
use Rattle.hours_rules.specs.Rules.{Past}

-- the debt where the line of a history begins; a history counts in weeks when it is due
abbrev pub debt_from : Fields → Debt
debt_from h = record { owed = h.owed; due = pos (h.due * WEEK_MINUTES) }

-- all that the fields of a history put before Monday
abbrev pub past_from : Fields → Past
past_from h = record {
  minutes = stretch h.open_off Off Plain (reached_by h.stints).minutes;
  prev_weekly = h.prev_weekly;
  prev_drive = h.prev_drive;
  work_before = sum h.work16;
  debt = debt_from h;
}

-- all that a history puts before Monday
abbrev pub past_of : History → Past
past_of h = past_from (fields_of h)

-- the minutes of a week with these stints, with Off to the end of the week
abbrev pub week_from : List Stint → Minutes
week_from stints = stretch (WEEK_MINUTES - length (reached_by stints).minutes) Off Plain (reached_by stints).minutes

-- the minutes of a week's line, with Off to the end of the week
abbrev pub week_minutes : Line → Minutes
week_minutes line = week_from line.stints

-- a fault as a verdict
abbrev pub verdict_of : Option Broken → Verdict
verdict_of None = Lawful
verdict_of (Some broken) = fails broken
