-- What is said of driven weeks.
use Rattle.std.specs.Prelude.{ℕ, Option, unwrap_or, Result, Ok, List, [], ◌∷◌, ◌++◌, codes}
use Rattle.std.specs.Fmt.{decimal}
use Rattle.minute_line.specs.declared.marks.Stint.{Stint}
use Rattle.minute_line.specs.Histories.{Fields, fresh_fields}
use Rattle.minute_line.specs.Writing.{with_line}
use Rattle.hours_rules.specs.declared.rules.Broken.{Broken}
use Rattle.hours_rules.specs.declared.rules.Verdict.{Verdict}
use Rattle.hours_rules.specs.declared.rules.Verdict.TheVariants.{Lawful, Broken as Breaks}
use Rattle.hours_rules.specs.Rules.{fault, rule_number}
use Rattle.hours_rules.specs.Verdicts.{past_from, week_from, verdict_of}
use Rattle.week_book.specs.declared.rows.Row.{Row}
use Rattle.week_book.specs.Driven.{did_of}
use Rattle.driver_history.specs.Reading.{line_said as line_driven}
use Rattle.desk_csv.specs.declared.errors.Form.TheVariants.{Check}
use Rattle.desk_core.specs.declared.refusals.Refusal.{Refusal}
use Rattle.desk_core.specs.declared.refusals.Refusal.TheVariants as because
use Rattle.desk_core.specs.Refusing.{◌>>=◌, refuse, rows_said}
use Rattle.desk_core.specs.Planning.{past_or_refusal}

-- a driver without history rows was at rest for 45 hours, and did nothing before
abbrev pub or_fresh : Option Fields → Fields
or_fresh past = unwrap_or past fresh_fields

-- what the judge finds of a driven week
abbrev pub verdict_said : Fields → List Stint → Verdict
verdict_said past stints = verdict_of (fault (past_from past) (week_from stints))

-- the words that name a broken rule and its minute
abbrev pub broken_words : Broken → List (List ℕ)
broken_words broken = codes "broken" ∷ (codes "H" ++ decimal (rule_number broken.rule)) ∷ decimal broken.minute ∷ []

-- the line that says what the judge finds
abbrev pub verdict_line : List ℕ → List ℕ → Verdict → List ℕ
verdict_line text name Lawful = with_line text name (codes "lawful" ∷ [])
verdict_line text name (Breaks broken) = with_line text name (broken_words broken)

-- what a driver's did rows say
abbrev pub line_or_refusal : List Row → List ℕ → Result (List Stint) Refusal
line_or_refusal rows name = refuse (because.Line name) (line_driven name rows)

-- a text with the line of a driver, whose history is read before what was driven
abbrev pub driver_said : List Row → List ℕ → List ℕ → Result (List ℕ) Refusal
driver_said rows text name = do
  past ← past_or_refusal rows name
  stints ← line_or_refusal rows name
  Ok (verdict_line text name (verdict_said (or_fresh past) stints))

-- a text with the lines of drivers, or the first refusal
abbrev pub drivers_said : List Row → List ℕ → List (List ℕ) → Result (List ℕ) Refusal
drivers_said rows text [] = Ok text
drivers_said rows text (name ∷ names) = driver_said rows text name >>= λ longer. drivers_said rows longer names

-- what is said of a check text
abbrev pub check_said : List ℕ → Result (List ℕ) Refusal
check_said text = do
  rows ← rows_said Check text
  names ← refuse because.Week (did_of rows)
  drivers_said rows [] names
