-- What a history says.
use Rattle.std.specs.Prelude.{ℕ, ◌-◌, Bool, ◌&&◌, ◌||◌, nat_le, nat_eq, List, [], length, replicate, false}
use Rattle.minute_line.specs.Minutes.{total_of}
use Rattle.minute_line.specs.Stints.{is_past, all_up_to}
use Rattle.minute_line.specs.declared.marks.Stint.{Stint}
use Rattle.minute_line.specs.declared.debts.TheConstants.{REGULAR_WEEKLY_REST, WEEKLY_REST}
use Rattle.minute_line.specs.declared.lines.TheConstants.{PAST_LIMIT, WEEK_MINUTES}
use Rattle.minute_line.specs.declared.lines.History.{History}

-- a history without where its stints lie in memory
pub record Fields : Type 0 where
  pub prev_weekly : ℕ
  pub stints : List Stint
  pub open_off : ℕ
  pub prev_drive : ℕ
  pub work16 : List ℕ
  pub owed : ℕ
  pub due : ℕ

-- the fields of a history
abbrev pub fields_of : History → Fields
fields_of h = record {
  prev_weekly = h.prev_weekly;
  stints = h.stints.stints;
  open_off = h.open_off;
  prev_drive = h.prev_drive;
  work16 = h.work16;
  owed = h.owed;
  due = h.due;
}

-- a driver who was at rest for 45 hours before Monday, and did nothing before
abbrev pub fresh_fields : Fields
fresh_fields = record { prev_weekly = REGULAR_WEEKLY_REST; stints = []; open_off = REGULAR_WEEKLY_REST; prev_drive = 0; work16 = replicate 16 0; owed = 0; due = 0 }

-- the minutes of the last weekly rest and of the open off run are in range
abbrev pub has_rests : Fields → Bool
has_rests f = (nat_le WEEKLY_REST f.prev_weekly && nat_le f.prev_weekly 1000000) && nat_le f.open_off PAST_LIMIT

-- the sums of last week and of the sixteen weeks before are in range
abbrev pub has_sums : Fields → Bool
has_sums f = nat_le f.prev_drive WEEK_MINUTES && (nat_eq (length f.work16) 16 && all_up_to WEEK_MINUTES f.work16)

-- the stints are those of a history, and not too many minutes
abbrev pub has_stints : Fields → Bool
has_stints f = is_past false f.stints && nat_le (total_of f.stints) PAST_LIMIT

-- the debt is one that a weekly rest can leave, and without a debt nothing is due
abbrev pub has_debt : Fields → Bool
has_debt f = nat_le f.owed (REGULAR_WEEKLY_REST - WEEKLY_REST) && (nat_le f.due 3 && (nat_le 1 f.owed || nat_eq f.due 0))

-- the fields are those of a history: a history has no others, and for such fields there is one
abbrev pub is_history : Fields → Bool
is_history f = (has_rests f && has_debt f) && (has_sums f && has_stints f)
