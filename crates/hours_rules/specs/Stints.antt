-- What a stint does to a line and its clock. The contracts of the private functions cite this; no public clause does.
use Rattle.std.specs.Prelude.{◌≡◌, ℕ, ◌≤◌, length, sum, [], None, Result}
use Rattle.minute_line.specs.declared.marks.Kind.{Kind}
use Rattle.minute_line.specs.declared.marks.Stint.{Stint}
use Rattle.minute_line.specs.declared.lines.History.{History}
use Rattle.minute_line.specs.Histories.{fields_of}
use Rattle.minute_line.specs.Minutes.{Reached, add_stint}
use Rattle.hours_rules.specs.declared.clocks.Clock.{Clock}
use Rattle.hours_rules.specs.declared.rules.Broken.{Broken}
use Rattle.hours_rules.specs.Rules.{Past, fault_from}
use Rattle.hours_rules.specs.Standing.{Stands}
use Rattle.hours_rules.specs.Going.{StandsOrBreaks}
use Rattle.hours_rules.specs.Verdicts.{debt_from}

-- whatever line the clock stands for, this is the answer for the line with a stint added
abbrev pub AnswersStint : Clock → Kind → Stint → Result Clock Broken → Type 0
AnswersStint clock declared stint answer = (from : ℕ) (past : Past) (reached : Reached) → reached.declared ≡ declared →
    Stands clock past reached.minutes → from ≤ length reached.minutes → fault_from from past reached.minutes ≡ None →
    StandsOrBreaks from past (add_stint reached stint).minutes answer

-- whatever line the clock stands for, the new one stands for that line with a stint added
abbrev pub StandsAfter : Clock → Kind → Stint → Clock → Type 0
StandsAfter clock declared stint next = (past : Past) (reached : Reached) → reached.declared ≡ declared →
    Stands clock past reached.minutes → Stands next past (add_stint reached stint).minutes

-- this is what the off run at the end is declared to be, once the stint is added
abbrev pub TakesKind : Stint → Kind → Type 0
TakesKind stint kind = (reached : Reached) → (add_stint reached stint).declared ≡ kind

-- what stands before the first minute of a history
abbrev pub before_history : History → Past
before_history h = record {
  minutes = [];
  prev_weekly = h.prev_weekly;
  prev_drive = h.prev_drive;
  work_before = sum h.work16;
  debt = debt_from (fields_of h);
}
