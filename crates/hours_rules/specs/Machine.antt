-- How a clock moves on. The contracts of the private functions cite this; no public clause does.
use Rattle.std.specs.Prelude.{ℕ, ◌+◌, ◌-◌, Bool, false, not, ◌&&◌, ◌||◌, nat_eq, nat_lt, nat_le, if◌then◌else◌, pos, ◌-ℤ◌, min, int_lt, nat_abs, ℤ, int_le, List, [], ◌∷◌, Option, None, find, option_map, ◌≤◌, ◌↔◌}
use Rattle.minute_line.specs.declared.marks.Mark.{Mark}
use Rattle.minute_line.specs.declared.marks.Mark.TheVariants.{Drive, Work, Ready}
use Rattle.minute_line.specs.declared.marks.Kind.{Kind}
use Rattle.minute_line.specs.declared.marks.Kind.TheVariants.{Plain}
use Rattle.minute_line.specs.declared.debts.TheConstants.{REGULAR_WEEKLY_REST}
use Rattle.hours_rules.specs.declared.thresholds.TheConstants.{PERIOD_DRIVE, FULL_BREAK, FIRST_PART, SECOND_PART, DAY_DRIVE, LONG_DAY_DRIVE, LONG_DAYS, DAY_LENGTH, REGULAR_DAILY_REST, DAY_BEFORE_REST, SPLIT_REST, REDUCED_RESTS, WEEKLY_SPAN, WEEK_DRIVE, FORTNIGHT_DRIVE, WEEK_WORK, SEVENTEEN_WEEKS_WORK, PAUSE, UNPAUSED_WORK, SHORT_PAUSES, BRIEFLY_PAUSED_WORK, LONG_PAUSES}
use Rattle.hours_rules.specs.declared.clocks.Clock.{Clock}
use Rattle.hours_rules.specs.declared.rules.Rule.{Rule}
use Rattle.hours_rules.specs.declared.rules.Rule.TheVariants.{H1, H2, H3, H4, H5, H6, H7, H8, H9, H10, H11, H12}
use Rattle.hours_rules.specs.declared.rules.Broken.{Broken}
use Rattle.hours_rules.specs.Debts.{third_week_end}
use Rattle.hours_rules.specs.Rules.{least_rest, all_rules}
use Rattle.minute_line.specs.Marks.{is_drive, is_working, is_daily, is_weekly, is_rest}

-- the open run, declared to be of this kind, ends as a rest
abbrev pub rest_here : Clock → Kind → Bool
rest_here c kind = nat_le 1 c.off && is_rest kind

-- it ends as a weekly rest
abbrev pub weekly_here : Clock → Kind → Bool
weekly_here c kind = nat_le 1 c.off && is_weekly kind

-- it ends as a daily rest
abbrev pub daily_here : Clock → Kind → Bool
daily_here c kind = nat_le 1 c.off && is_daily kind

-- it ends as a full break
abbrev pub break_here : Clock → Bool
break_here c = nat_le FULL_BREAK c.off || (nat_le SECOND_PART c.off && c.half)

-- it ends a long day that counts
abbrev pub long_here : Clock → Kind → Bool
long_here c kind = rest_here c kind && (nat_lt DAY_DRIVE c.drive_day && nat_lt c.off c.at)

-- it ends as a reduced daily rest
abbrev pub reduced_here : Clock → Kind → Bool
reduced_here c kind =
    daily_here c kind && (not c.split
    && (nat_lt c.off REGULAR_DAILY_REST || int_lt (pos DAY_BEFORE_REST) ((pos c.at -ℤ c.day_from) -ℤ pos c.off)))

-- it ends as a rest that pays what is owed
abbrev pub paying_here : Clock → Kind → Bool
paying_here c kind =
    (daily_here c kind && nat_le (REGULAR_DAILY_REST + c.owed) c.off) || (weekly_here c kind && nat_le (REGULAR_WEEKLY_REST + c.owed) c.off)

-- it ends as a reduced weekly rest where nothing is owed yet
abbrev pub owing_here : Clock → Kind → Bool
owing_here c kind = weekly_here c kind && (nat_lt c.off REGULAR_WEEKLY_REST && nat_eq c.owed 0)

-- it is too short for what it is declared to be
abbrev pub short_here : Clock → Kind → Bool
short_here c kind = nat_le 1 c.off && nat_lt c.off (least_rest kind c.prev_weekly c.owed)

-- the clock once its open run, declared to be of this kind, has ended
abbrev pub run_ended : Clock → Kind → Clock
run_ended c kind = record c {
  off = 0;
  day_from = if rest_here c kind then pos c.at else c.day_from;
  rest_from = if weekly_here c kind then pos c.at else c.rest_from;
  period = if break_here c then 0 else c.period;
  half = if break_here c then false else (nat_le FIRST_PART c.off || c.half);
  drive_day = if rest_here c kind then 0 else c.drive_day;
  long_days = (if long_here c kind then 1 else 0) + c.long_days;
  split = if rest_here c kind then false else (nat_le SPLIT_REST c.off || c.split);
  reduced = if weekly_here c kind then 0 else ((if reduced_here c kind then 1 else 0) + c.reduced);
  prev_weekly = if weekly_here c kind then c.off else c.prev_weekly;
  work_run = if nat_le PAUSE c.off then 0 else c.work_run;
  work_day = if rest_here c kind then 0 else c.work_day;
  pause_day = if rest_here c kind then 0 else min LONG_PAUSES ((if nat_le PAUSE c.off then c.off else 0) + c.pause_day);
  owed = if paying_here c kind then 0 else (if owing_here c kind then REGULAR_WEEKLY_REST - c.off else c.owed);
  due =
      if paying_here c kind then pos 0
      else (if owing_here c kind then third_week_end (pos c.at -ℤ pos 1) else c.due);
}

-- n minutes if the test holds
abbrev pub if_so : Bool → ℕ → ℕ
if_so test n = if test then n else 0

-- the clock after n more on-duty minutes of one mark, where no run is open
abbrev pub ticked : Clock → Mark → ℕ → Clock
ticked c mark n = record c {
  at = c.at + n;
  period = if_so (is_drive mark) n + c.period;
  drive_day = if_so (is_drive mark) n + c.drive_day;
  drive_week = if_so (is_drive mark) n + c.drive_week;
  work_run = if_so (is_working mark) n + c.work_run;
  work_day = if_so (is_working mark) n + c.work_day;
  work_week = if_so (is_working mark) n + c.work_week;
}

-- the clock after n more Off minutes
abbrev pub rested : Clock → ℕ → Clock
rested c n = record c { at = c.at + n; off = c.off + n }

-- more minutes than a week has, or the stints of a history: the room by a rule that does not judge such minutes
abbrev pub unlimited : ℕ
unlimited = 20000

-- a limit that stands only where the test holds
abbrev pub limit_if : Bool → ℕ → ℕ
limit_if test limit = if test then limit else unlimited

-- how many minutes are left until so many from where a span began
abbrev pub left_until : ℕ → ℤ → ℕ → ℕ
left_until limit from at = if int_le ((pos at -ℤ from)) (pos limit) then nat_abs (pos limit -ℤ (pos at -ℤ from)) else 0

-- how many minutes are left until the last one at which a rest that pays what is owed can begin
abbrev pub debt_room : Clock → ℕ
debt_room e = limit_if (nat_lt 0 e.owed) (min unlimited (left_until 0 (e.due -ℤ pos (REGULAR_DAILY_REST + e.owed)) e.at))

-- how many minutes of one on-duty mark may follow by a rule, where `c` is the clock before them and `e` the clock once
-- its open run has ended
abbrev pub room : Clock → Clock → Mark → Kind → Rule → ℕ
room c e mark kind H1 = limit_if (is_drive mark) (PERIOD_DRIVE - e.period)
room c e mark kind H2 = limit_if (is_drive mark) ((if nat_lt e.long_days LONG_DAYS then LONG_DAY_DRIVE else DAY_DRIVE) - e.drive_day)
room c e mark kind H3 = left_until DAY_LENGTH e.day_from e.at
room c e mark kind H4 = if nat_le e.reduced REDUCED_RESTS then unlimited else 0
room c e mark kind H5 = if short_here c kind then 0 else unlimited
room c e mark kind H6 = left_until WEEKLY_SPAN e.rest_from e.at
room c e mark kind H7 = limit_if (is_drive mark) (WEEK_DRIVE - e.drive_week)
room c e mark kind H8 = limit_if (is_drive mark) (FORTNIGHT_DRIVE - (e.drive_week + e.prev_drive))
room c e mark kind H9 = limit_if (is_working mark) (min (WEEK_WORK - e.work_week) (SEVENTEEN_WEEKS_WORK - (e.work_week + e.work_before)))
room c e mark kind H10 = limit_if (is_working mark) (UNPAUSED_WORK - e.work_run)
room c e mark kind H11 =
    limit_if (is_working mark && nat_lt e.pause_day LONG_PAUSES) ((if nat_lt e.pause_day SHORT_PAUSES then UNPAUSED_WORK else BRIEFLY_PAUSED_WORK) - e.work_day)
room c e mark kind H12 = debt_room e

-- the least room by some rules, and at most n
abbrev pub least_room : (Rule → ℕ) → ℕ → List Rule → ℕ
least_room f n [] = n
least_room f n (r ∷ rs) = min (f r) (least_room f n rs)

-- the least rule whose room is at most so much, at the minute that this leads to from minute `at`
abbrev pub fault_after : (Rule → ℕ) → ℕ → ℕ → Option Broken
fault_after f at least =
    option_map (λ rule. record { rule = rule; minute = at + least }) (find (λ rule. nat_le (f rule) least) all_rules)

-- the first fault in n minutes from minute `at` on, where each rule has so much room
abbrev pub fault_within : (Rule → ℕ) → ℕ → ℕ → Option Broken
fault_within f at n =
    if nat_le n (least_room f n all_rules) then None else fault_after f at (least_room f n all_rules)

-- the room by the rules that are judged at each on-duty minute, as far as a block of minutes can tell
abbrev pub IsDutyRoom : Clock → Clock → Kind → ℕ → Type 0
IsDutyRoom c e kind least = (n : ℕ) → n ≤ unlimited → n ≤ least ↔
    ((n ≤ room c e Ready kind H3) × (n ≤ room c e Ready kind H4) × (n ≤ room c e Ready kind H5) × (n ≤ room c e Ready kind H6)
    × (n ≤ room c e Ready kind H12))

-- the room of working minutes by the rules on working time
abbrev pub work_room : Clock → ℕ
work_room e = min (min (room e e Work Plain H9) (room e e Work Plain H10)) (room e e Work Plain H11)

-- the room of Drive minutes by the rules on driving
abbrev pub drive_room : Clock → ℕ
drive_room e =
    min (min (min (room e e Drive Plain H1) (room e e Drive Plain H2)) (room e e Drive Plain H7)) (room e e Drive Plain H8)

-- the clock of a line that was counted from its own start, once it stands before Monday
abbrev pub at_monday : Clock → Clock
at_monday c = record c {
  at = 0;
  day_from = c.day_from -ℤ pos c.at;
  rest_from = c.rest_from -ℤ pos c.at;
  long_days = 0;
  drive_week = 0;
  work_week = 0;
}
