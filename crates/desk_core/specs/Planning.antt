-- The week of a week text, with its drivers' histories.
use Rattle.std.specs.Prelude.{ℕ, Option, Some, None, Result, Ok, Err, List, [], ◌∷◌, ◌++◌}
use Rattle.std.specs.Option.{option_or}
use Rattle.minute_line.specs.Histories.{Fields}
use Rattle.week_book.specs.declared.rows.Row.{Row}
use Rattle.week_book.specs.declared.weeks.Week.{Week}
use Rattle.week_book.specs.declared.weeks.Driver.{Driver}
use Rattle.week_book.specs.Checking.{week_of}
use Rattle.driver_history.specs.Reading.{past_said as history_in}
use Rattle.desk_csv.specs.declared.errors.Form.TheVariants.{Plan}
use Rattle.desk_core.specs.declared.refusals.Refusal.{Refusal}
use Rattle.desk_core.specs.declared.refusals.Refusal.TheVariants as because
use Rattle.desk_core.specs.Refusing.{◌>>=◌, refuse, rows_said}

-- the history that a driver's rows make, or none where there are no such rows
abbrev pub past_or_refusal : List Row → List ℕ → Result (Option Fields) Refusal
past_or_refusal rows name = refuse (because.Past name) (history_in name rows)

-- the histories of the drivers so far, and the first driver who has none
pub record Gathered : Type 0 where
  pub past : List Fields
  pub missing : Option (List ℕ)

-- no driver so far
abbrev pub nobody : Gathered
nobody = record { past = []; missing = None }

-- one more driver, with a history or without
abbrev pub with_driver : Gathered → List ℕ → Option Fields → Gathered
with_driver g name (Some past) = record { past = g.past ++ past ∷ []; missing = g.missing }
with_driver g name None = record { past = g.past; missing = option_or g.missing (Some name) }

-- each driver has a history, or the first one who has none is named
abbrev pub all_said : Gathered → Result (List Fields) Refusal
all_said g = elim g.missing [ Some name ↦ Err (because.NoHistory name) | None ↦ Ok g.past ]

-- the histories of more drivers: one that is refused comes before one that is missing
abbrev pub pasts_said : List Row → Gathered → List Driver → Result Gathered Refusal
pasts_said rows g [] = Ok g
pasts_said rows g (d ∷ ds) = past_or_refusal rows d.name >>= λ past. pasts_said rows (with_driver g d.name past) ds

-- the history of each driver, in their order
abbrev pub histories_said : List Row → List Driver → Result (List Fields) Refusal
histories_said rows drivers = pasts_said rows nobody drivers >>= all_said

-- a week, and the history of each of its drivers
pub record Book : Type 0 where
  pub week : Week
  pub past : List Fields

-- what a week text comes to: its rows, its week, all histories that it has, and a history for each driver
abbrev pub case_said : List ℕ → Result Book Refusal
case_said text = do
  rows ← rows_said Plan text
  week ← refuse because.Week (week_of rows)
  past ← histories_said rows week.drivers
  Ok (record { week = week; past = past })
