-- The lines of a duty: each step's waiting, its off run and its act, at the stamps of their first minutes.
use Rattle.std.specs.Prelude.{ℕ, zero, suc, ◌+◌, ◌<◌, ◌≤◌, List, [], ◌∷◌, ◌++◌, Option, Some, None, unwrap_or, slice_get, codes}
use Rattle.std.specs.Fmt.{decimal}
use Rattle.minute_line.specs.declared.marks.Kind.{Kind}
use Rattle.minute_line.specs.declared.marks.Kind.TheVariants.{Plain, Daily, Weekly}
use Rattle.minute_line.specs.DateWriting.{stamp_text}
use Rattle.week_book.specs.declared.weeks.Order.{Order}
use Rattle.week_book.specs.declared.weeks.Week.{Week}
use Rattle.week_book.specs.Weeks.{order_of}
use Rattle.duty_plan.specs.declared.duties.Act.{Act}
use Rattle.duty_plan.specs.declared.duties.Act.TheVariants.{Leg, Serve, Load}
use Rattle.duty_plan.specs.declared.duties.Step.{Step}
use Rattle.duty_plan.specs.Acts.{minutes_of}
use Rattle.duty_plan.specs.PartialDuties.{PartialDuty, at_after, place_after, start_of}
use Rattle.desk_report.specs.Lines.{Line}

-- the word of an off run's kind
abbrev pub kind_word : Kind → List ℕ
kind_word Plain = codes "plain"
kind_word Daily = codes "daily"
kind_word Weekly = codes "weekly"

-- the name of a place
abbrev pub place_name : Week → ℕ → List ℕ
place_name week place = unwrap_or (slice_get week.places place) []

-- the name of an order that may be missing
abbrev pub name_or_none : Option Order → List ℕ
name_or_none None = []
name_or_none (Some order) = order.name

-- the name of the order of that number
abbrev pub order_name : Week → ℕ → List ℕ
order_name week order = name_or_none (order_of week order)

-- the line of Ready minutes that begin at a minute, where there are some
abbrev pub ready_lines : List (List ℕ) → ℕ → ℕ → List Line
ready_lines days at zero = []
ready_lines days at (suc n) = (stamp_text days at ∷ codes "ready" ∷ decimal (suc n) ∷ []) ∷ []

-- the line of Off minutes that begin at a minute, where there are some or they are a rest
abbrev pub off_lines : List (List ℕ) → ℕ → ℕ → Kind → List Line
off_lines days at zero Plain = []
off_lines days at n kind = (stamp_text days at ∷ codes "off" ∷ decimal n ∷ kind_word kind ∷ []) ∷ []

-- what an act is: a leg is told by the place that it leads to, a service by its order
abbrev pub act_words : Week → ℕ → Act → Line
act_words week minutes (Leg to) = codes "drive" ∷ place_name week to ∷ decimal minutes ∷ []
act_words week minutes (Serve order) = codes "serve" ∷ order_name week order ∷ decimal minutes ∷ []
act_words week minutes Load = codes "load" ∷ decimal minutes ∷ []

-- the lines of a step that begins at a minute and a place
abbrev pub step_lines : List (List ℕ) → Week → ℕ → ℕ → Step → List Line
step_lines days week at place step =
    ready_lines days at step.stay.ready
    ++ (off_lines days (at + step.stay.ready) step.stay.off step.stay.kind
    ++ (stamp_text days (at + step.stay.ready + step.stay.off) ∷ act_words week (minutes_of week place step.act) step.act) ∷ [])

-- the lines of a partial duty, one step's after another's
abbrev pub duty_lines : List (List ℕ) → Week → PartialDuty → List Line
duty_lines days week [] = []
duty_lines days week (step ∷ before) =
    duty_lines days week before ++ step_lines days week (at_after week before) (place_after before) step

-- each act of a duty takes a minute and ends by the end of the week
abbrev pub StaysInWeek : Week → PartialDuty → Type 0
StaysInWeek week [] = Unit {0}
StaysInWeek week (step ∷ before) =
    ((start_of week step before < at_after week (step ∷ before)) × (at_after week (step ∷ before) ≤ 10080)) × StaysInWeek week before
