-- What is left of a line of stints after its last weekly rest.
use Rattle.std.specs.Prelude.{ℕ, ◌+◌, Bool, true, false, if◌then◌else◌, List, [], ◌∷◌, ◌++◌, nat_eq, min}
use Rattle.minute_line.specs.declared.marks.Mark.{Mark}
use Rattle.minute_line.specs.declared.marks.Mark.TheVariants.{Drive, Work, Ready, Off}
use Rattle.minute_line.specs.declared.marks.Kind.{Kind}
use Rattle.minute_line.specs.declared.marks.Kind.TheVariants.{Plain}
use Rattle.minute_line.specs.declared.marks.Stint.{Stint}
use Rattle.minute_line.specs.Marks.{is_off, is_weekly}
use Rattle.minute_line.specs.Histories.{Fields}
use Rattle.minute_line.specs.declared.lines.TheConstants.{PAST_LIMIT}

-- what is left of a line: the length of the last weekly rest that ended, the stints since then, the on-duty block at
-- their end (none where it has no minute), and the off run after it with what it is declared to be
pub record SinceWeeklyRestFields : Type 0 where
  pub prev_weekly : ℕ
  pub stints : List Stint
  pub mark : Mark
  pub minutes : ℕ
  pub open_off : ℕ
  pub declared : Kind

-- the two marks are one
abbrev pub same_mark : Mark → Mark → Bool
same_mark Drive Drive = true
same_mark Work Work = true
same_mark Ready Ready = true
same_mark Off Off = true
same_mark _ _ = false

-- an on-duty stint
abbrev pub duty : Mark → ℕ → Stint
duty mark minutes = record { mark = mark; minutes = minutes; kind = Plain }

-- an off run as a stint
abbrev pub rest : ℕ → Kind → Stint
rest minutes kind = record { mark = Off; minutes = minutes; kind = kind }

-- the line after a weekly rest of this length, before its first minute
abbrev pub no_line : ℕ → SinceWeeklyRestFields
no_line weekly = record { prev_weekly = weekly; stints = []; mark = Work; minutes = 0; open_off = 0; declared = Plain }

-- the stints up to the last on-duty minute
abbrev pub all_stints : SinceWeeklyRestFields → List Stint
all_stints c = if nat_eq c.minutes 0 then c.stints else c.stints ++ duty c.mark c.minutes ∷ []

-- off minutes lengthen the off run, and say what it is
abbrev pub add_off : SinceWeeklyRestFields → ℕ → Kind → SinceWeeklyRestFields
add_off c minutes kind = record c { open_off = c.open_off + minutes; declared = kind }

-- the off run ends: after a weekly one nothing before it is left
abbrev pub end_off : SinceWeeklyRestFields → SinceWeeklyRestFields
end_off c =
    if nat_eq c.open_off 0 then c
    else (if is_weekly c.declared then no_line c.open_off
    else record (no_line c.prev_weekly) { stints = all_stints c ++ rest c.open_off c.declared ∷ [] })

-- on-duty minutes join those of the same mark right before them
abbrev pub add_duty : SinceWeeklyRestFields → Mark → ℕ → SinceWeeklyRestFields
add_duty c mark minutes =
    if same_mark c.mark mark then record c { mark = mark; minutes = c.minutes + minutes; declared = Plain }
    else record c { stints = all_stints c; mark = mark; minutes = minutes; declared = Plain }

-- what is left of a line once it has one more stint
abbrev pub carry : SinceWeeklyRestFields → Stint → SinceWeeklyRestFields
carry c s = if is_off s.mark then add_off c s.minutes s.kind else add_duty (end_off c) s.mark s.minutes

-- the longest open run that a history states; a longer one passes and fails the same tests
abbrev pub held_off : ℕ → ℕ
held_off minutes = min PAST_LIMIT minutes

-- the history of what is left of a line, with the work of the weeks before, where nothing is owed
abbrev pub fields_left : SinceWeeklyRestFields → ℕ → List ℕ → Fields
fields_left c drive weeks = record {
  prev_weekly = c.prev_weekly;
  stints = all_stints c;
  open_off = held_off c.open_off;
  prev_drive = drive;
  work16 = weeks;
  owed = 0;
  due = 0;
}
