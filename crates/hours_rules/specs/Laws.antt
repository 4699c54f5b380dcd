-- What the definitions come to, in the words of the regulation.
use Rattle.std.specs.Prelude.{◌≡◌, ◌↔◌, ◌⊎◌, ℕ, ◌≤◌, ◌<◌, Bool, true, false, [], ◌∷◌, ◌++◌, length, Some, None}
use Rattle.minute_line.specs.declared.marks.Mark.TheVariants.{Off}
use Rattle.minute_line.specs.declared.marks.Kind.TheVariants.{Plain}
use Rattle.minute_line.specs.Marks.{is_duty}
use Rattle.minute_line.specs.Minutes.{Minute, Minutes, stretch}
use Rattle.hours_rules.specs.declared.thresholds.TheConstants.{FIRST_PART, FULL_BREAK, SECOND_PART}
use Rattle.hours_rules.specs.declared.rules.Rule.{Rule}
use Rattle.hours_rules.specs.declared.rules.Broken.{Broken}
use Rattle.hours_rules.specs.Counts.{open_run, has_run, ends_rest, since, period_of}
use Rattle.hours_rules.specs.Rules.{Past, holds, fault_from, rule_number}

-- the driving period begins afresh at the minute m, which follows `before`
abbrev pub BeginsPeriod : Minute → Minutes → Type 0
BeginsPeriod m before = period_of (m ∷ before) ≡ m ∷ []

-- an off run of 45 minutes or more always ends the driving period (Art. 7)
abbrev pub FortyFiveEnds : Type 0
FortyFiveEnds = (m : Minute) (before : Minutes) → is_duty m.mark ≡ true → FULL_BREAK ≤ open_run before → BeginsPeriod m before

-- each minute of a list is on duty, and there is one
abbrev pub AllOnDuty : Minutes → Type 0
AllOnDuty [] = ⊥
AllOnDuty (m ∷ []) = is_duty m.mark ≡ true
AllOnDuty (m ∷ (x ∷ before)) = (is_duty m.mark ≡ true) × AllOnDuty (x ∷ before)

-- two off runs of so many minutes, the first after an on-duty minute, with on-duty minutes between them
abbrev pub two_runs : ℕ → Minutes → ℕ → Minutes → Minutes
two_runs first between second before = stretch second Off Plain (between ++ stretch first Off Plain before)

-- a run of 15 to 44 minutes that is no full break itself, and then one of at least 30, end the driving period (Art. 7)
abbrev pub FifteenThenThirtyEnds : Type 0
FifteenThenThirtyEnds = (before between : Minutes) (first second : ℕ) (m : Minute) → open_run before ≡ 0 →
    FIRST_PART ≤ first → first < FULL_BREAK → (SECOND_PART ≤ first → has_run FIRST_PART (period_of before) ≡ false) → AllOnDuty between → SECOND_PART ≤ second →
    is_duty m.mark ≡ true → BeginsPeriod m (two_runs first between second before)

-- a run of 30 to 44 minutes and then one of 15 to 29 don't, in a period with no part of 15 before them: all of its
-- minutes go on to count
abbrev pub ThirtyThenFifteenGoesOn : Type 0
ThirtyThenFifteenGoesOn = (before between : Minutes) (first second : ℕ) (m : Minute) → open_run before ≡ 0 →
    has_run FIRST_PART (period_of before) ≡ false →
    SECOND_PART ≤ first → first < FULL_BREAK → AllOnDuty between → FIRST_PART ≤ second → second < SECOND_PART →
    period_of (m ∷ two_runs first between second before) ≡ m ∷ two_runs first between second (period_of before)

-- each rule holds at each minute of the week so far from minute `from` on
abbrev pub ObeysAll : ℕ → Past → Minutes → Type 0
ObeysAll from past week = (later : Minutes) (m : Minute) (earlier : Minutes) → week ≡ later ++ m ∷ earlier →
    from ≤ length earlier → (r : Rule) → holds past m earlier r ≡ true

-- the fault's rule fails at the fault's minute, which is not before `from`, each smaller rule holds there, and each rule at
-- each minute from `from` up to it
pub record FailsFirst (from : ℕ) (past : Past) (week : Minutes) (broken : Broken) : Type 0 where
  pub later : Minutes
  pub m : Minute
  pub earlier : Minutes
  pub is : week ≡ later ++ m ∷ earlier
  pub minute : length earlier ≡ broken.minute
  pub judged : from ≤ broken.minute
  pub fails : holds past m earlier broken.rule ≡ false
  pub smaller : (r : Rule) → rule_number r < rule_number broken.rule → holds past m earlier r ≡ true
  pub before : ObeysAll from past earlier

-- a fault from a minute on is the least rule of the first minute from there on at which one fails, and where there is none,
-- all rules hold from there on; from minute 0 on, this is the fault of the week
pub record FaultIsFirst : Type 0 where
  pub first : (from : ℕ) (past : Past) (week : Minutes) (broken : Broken) → fault_from from past week ≡ Some broken →
      FailsFirst from past week broken
  pub none : (from : ℕ) (past : Past) (week : Minutes) → fault_from from past week ≡ None ↔ ObeysAll from past week

-- the line is its span and what lies before it; a line that has a minute has one in its span; the test holds at no minute of
-- the span but its first, and there it does, or that is the line's first
pub record SpanBegins (begins : Minute → Minutes → Bool) (line : Minutes) : Type 0 where
  pub earlier : Minutes
  pub is : line ≡ since begins line ++ earlier
  pub some : since begins line ≡ [] → line ≡ []
  pub inside : (later : Minutes) (m x : Minute) (before : Minutes) → since begins line ≡ later ++ m ∷ (x ∷ before) →
      begins m ((x ∷ before) ++ earlier) ≡ false
  pub starts : (later : Minutes) (m : Minute) → since begins line ≡ later ++ m ∷ [] →
      (earlier ≡ []) ⊎ (begins m earlier ≡ true)

-- a span begins at the last minute at which its test holds, or at the line's start
abbrev pub SpansBegin : Type 0
SpansBegin = (begins : Minute → Minutes → Bool) (line : Minutes) → SpanBegins begins line

-- the work day of a minute begins after the last daily or weekly rest that ended before it (Art. 4)
abbrev pub DayFollowsRest : Type 0
DayFollowsRest = (line : Minutes) → SpanBegins ends_rest line
