-- What a list of steps comes to, and the office rules at a step: the grid (keeps_grid), weekly rest at home (rests_home),
-- stay lengths (has_lawful_length), road and times (follows_road, ends_in_week), windows and loads (is_in_window, keeps_capacity, serves_anew).
use Rattle.std.specs.Prelude.{◌≡◌, ℕ, ◌+◌, ◌%◌, Bool, true, false, not, ◌&&◌, ◌||◌, ◌==◌, nat_le, nat_lt, List, [], ◌∷◌, length}
use Rattle.minute_line.specs.declared.lines.TheConstants.{WEEK_MINUTES}
use Rattle.hours_rules.specs.declared.thresholds.TheConstants.{FIRST_PART, FULL_BREAK, SECOND_PART, SPLIT_REST}
use Rattle.minute_line.specs.declared.marks.Kind.{Kind}
use Rattle.minute_line.specs.declared.marks.Kind.TheVariants.{Plain, Daily, Weekly}
use Rattle.minute_line.specs.Marks.{is_rest, is_weekly}
use Rattle.minute_line.specs.Minutes.{Minutes}
use Rattle.hours_rules.specs.declared.clocks.Stay.{Stay}
use Rattle.hours_rules.specs.Going.{with_stay}
use Rattle.week_book.specs.declared.weeks.Week.{Week}
use Rattle.duty_plan.specs.declared.duties.Act.{Act}
use Rattle.duty_plan.specs.declared.duties.Act.TheVariants.{Leg, Serve, Load}
use Rattle.duty_plan.specs.declared.duties.Step.{Step}
use Rattle.duty_plan.specs.Acts.{mark_of, minutes_of, place_by, can_be_done, may_start, used_by, loaded_by, serves_order}

-- a partial duty: the steps of a duty so far, the newest first
abbrev pub PartialDuty : Type 0
PartialDuty = List Step

-- where the driver is after a partial duty; the week begins at the depot, place 0
abbrev pub place_after : PartialDuty → ℕ
place_after [] = 0
place_after (step ∷ before) = place_by step.act (place_after before)

-- the minutes of a partial duty's line in the week, the newest first: each stay's Ready and Off minutes, then its act's
abbrev pub line_after : Week → PartialDuty → Minutes
line_after week [] = []
line_after week (step ∷ before) =
    with_stay step.stay (mark_of step.act) (minutes_of week (place_after before) step.act) (line_after week before)

-- the week minute at which a partial duty ends
abbrev pub at_after : Week → PartialDuty → ℕ
at_after week partial = length (line_after week partial)

-- the week minute at which a step's act starts
abbrev pub start_of : Week → Step → PartialDuty → ℕ
start_of week step before = at_after week before + step.stay.ready + step.stay.off

-- a step of the partial duty serves the order
abbrev pub serves : ℕ → PartialDuty → Bool
serves order [] = false
serves order (step ∷ before) = serves_order order step.act || serves order before

-- the partial duty has a load act
abbrev pub loaded_after : PartialDuty → Bool
loaded_after [] = false
loaded_after (step ∷ before) = loaded_by step.act (loaded_after before)

-- the kg served since the last load act
abbrev pub used_after : Week → PartialDuty → ℕ
used_after week [] = 0
used_after week (step ∷ before) = used_by week step.act (used_after week before)

-- the grid: the act after a Daily or Weekly stay starts at a minute that the week's grid divides
abbrev pub keeps_grid : Week → Step → PartialDuty → Bool
keeps_grid week step before = not (is_rest step.stay.kind) || (start_of week step before % week.grid == 0)

-- weekly rest at home: a Weekly stay is at the depot
abbrev pub rests_home : Step → PartialDuty → Bool
rests_home step before = not (is_weekly step.stay.kind) || (place_after before == 0)

-- the lengths of a break or an idle time: none, the parts of a break, a full break, the first part of a split daily rest (Art. 7, 4(g))
abbrev pub is_plain_length : ℕ → Bool
is_plain_length off = (off == 0) || ((off == FIRST_PART) || ((off == SECOND_PART) || ((off == FULL_BREAK) || (off == SPLIT_REST))))

-- the Off minutes of a stay: a Plain one has one of five lengths, a Daily or Weekly one has a minute
abbrev pub is_length : Kind → ℕ → Bool
is_length Plain off = is_plain_length off
is_length Daily off = nat_le 1 off
is_length Weekly off = nat_le 1 off

-- a stay after an open off run has no Ready minute, and may have no Off minute of its own where it is Daily or Weekly
abbrev pub has_lengths : Bool → Stay → Bool
has_lengths true stay = (stay.ready == 0) && (is_rest stay.kind || is_plain_length stay.off)
has_lengths false stay = is_length stay.kind stay.off

-- the next step begins a duty after a history that ends in an open off run
abbrev pub ends_open : ℕ → PartialDuty → Bool
ends_open open_off [] = nat_lt 0 open_off
ends_open open_off (step ∷ before) = false

-- stay lengths: each stay has the lengths of its kind, where the first may stand after the history's open off run
abbrev pub has_lawful_length : ℕ → Step → PartialDuty → Bool
has_lawful_length open_off step before = has_lengths (ends_open open_off before) step.stay

-- the road: the step's act can be done where the driver is
abbrev pub follows_road : Week → Step → PartialDuty → Bool
follows_road week step before = can_be_done week (place_after before) step.act

-- the times: the step's act ends by the end of the week
abbrev pub ends_in_week : Week → Step → PartialDuty → Bool
ends_in_week week step before = nat_le (at_after week (step ∷ before)) WEEK_MINUTES

-- windows: a service starts within its order's window
abbrev pub is_in_window : Week → Step → PartialDuty → Bool
is_in_window week step before = may_start week step.act (start_of week step before)

-- the act's load was loaded, and with what was served since the last load act it is at most the lorry's capacity
abbrev pub may_carry : Week → ℕ → Bool → ℕ → Act → Bool
may_carry week capacity loaded used (Leg to) = true
may_carry week capacity loaded used (Serve order) = loaded && nat_le (used_by week (Serve order) used) capacity
may_carry week capacity loaded used Load = true

-- loads: nothing is served before a load act, and no more than the lorry's capacity since the last one
abbrev pub keeps_capacity : Week → ℕ → Step → PartialDuty → Bool
keeps_capacity week capacity step before =
    may_carry week capacity (loaded_after before) (used_after week before) step.act

-- the act serves no order that the partial duty serves
abbrev pub is_new : Act → PartialDuty → Bool
is_new (Leg to) before = true
is_new (Serve order) before = not (serves order before)
is_new Load before = true

-- no order is served twice
abbrev pub serves_anew : Step → PartialDuty → Bool
serves_anew step before = is_new step.act before

-- the office rules hold at the step, which follows the partial duty `before`
pub record KeepsOffice (week : Week) (open_off : ℕ) (capacity : ℕ) (step : Step) (before : PartialDuty) : Type 0 where
  pub road : follows_road week step before ≡ true
  pub stay : has_lawful_length open_off step before ≡ true
  pub away : rests_home step before ≡ true
  pub grid : keeps_grid week step before ≡ true
  pub late : ends_in_week week step before ≡ true
  pub window : is_in_window week step before ≡ true
  pub load : keeps_capacity week capacity step before ≡ true
  pub twice : serves_anew step before ≡ true

-- the office rules hold at each step
abbrev pub KeepsOfficeThrough : Week → ℕ → ℕ → PartialDuty → Type 0
KeepsOfficeThrough week open_off capacity [] = Unit {0}
KeepsOfficeThrough week open_off capacity (step ∷ before) =
    KeepsOffice week open_off capacity step before × KeepsOfficeThrough week open_off capacity before
