-- The report of an outcome, as lines of text.
use Rattle.std.specs.Prelude.{◌≡◌, ℕ, ◌+◌, List, [], ◌∷◌, ◌++◌, Option, Some, None, get_or, length, slice_get, codes}
use Rattle.std.specs.Fmt.{decimal}
use Rattle.minute_line.specs.declared.lines.History.{History}
use Rattle.minute_line.specs.DateWriting.{AreDaysOf, stamp_text}
use Rattle.minute_line.specs.Histories.{fields_of}
use Rattle.minute_line.specs.Spelling.{spelling}
use Rattle.week_book.specs.declared.weeks.Driver.{Driver}
use Rattle.week_book.specs.declared.weeks.Order.{Order}
use Rattle.week_book.specs.declared.weeks.Week.{Week}
use Rattle.week_book.specs.Weeks.{driver_of}
use Rattle.duty_plan.specs.declared.duties.Duty.{Duty}
use Rattle.duty_plan.specs.declared.outcomes.Outcome.{Outcome}
use Rattle.duty_plan.specs.declared.outcomes.State.{State}
use Rattle.duty_plan.specs.declared.outcomes.State.TheVariants.{Proved, OpenLabels, OpenNodes}
use Rattle.duty_plan.specs.declared.plans.Case.{Case}
use Rattle.duty_plan.specs.Duties.{partial_of, cost_after}
use Rattle.desk_report.specs.declared.services.Service.{Service}
use Rattle.desk_report.specs.Lines.{Line, with_lines}
use Rattle.desk_report.specs.Services.{service_from}
use Rattle.desk_report.specs.Steps.{duty_lines}

-- the word of the state that a search ended in
abbrev pub state_word : State → List ℕ
state_word Proved = codes "proved"
state_word OpenLabels = codes "labels"
state_word OpenNodes = codes "nodes"

-- what a search found: cost, bound, state and the number of nodes
abbrev pub found_lines : Outcome → List Line
found_lines outcome =
    (codes "cost" ∷ decimal outcome.cost ∷ [])
    ∷ (codes "bound" ∷ decimal outcome.bound ∷ [])
    ∷ (codes "state" ∷ state_word outcome.state ∷ [])
    ∷ (codes "nodes" ∷ decimal (length outcome.tree) ∷ [])
    ∷ []

-- the week, and what the search found
abbrev pub outcome_lines : List ℕ → Outcome → List Line
outcome_lines monday outcome = (codes "week" ∷ monday ∷ []) ∷ found_lines outcome

-- the name of a driver who may be missing
abbrev pub name_or_none : Option Driver → List ℕ
name_or_none None = []
name_or_none (Some driver) = driver.name

-- the name of the driver of that number
abbrev pub driver_name : Week → ℕ → List ℕ
driver_name week driver = name_or_none (driver_of week driver)

-- the text of a history that may be missing
abbrev pub text_or_none : Option History → List ℕ
text_or_none None = []
text_or_none (Some history) = spelling (fields_of history)

-- the text of a driver's history
abbrev pub text_at : Case → ℕ → List ℕ
text_at case driver = text_or_none (slice_get case.past driver)

-- the lines of a driver: the cost of the duty, the history that it follows, and the duty
abbrev pub driver_lines : List (List ℕ) → Case → ℕ → Duty → List Line
driver_lines days case driver duty =
    (codes "driver" ∷ driver_name case.week driver ∷ codes "cost" ∷ decimal (cost_after case driver (partial_of duty)) ∷ [])
    ∷ (codes "past" ∷ driver_name case.week driver ∷ text_at case driver ∷ [])
    ∷ duty_lines days case.week (partial_of duty)

-- the lines of drivers, whose first has that number
abbrev pub drivers_lines : List (List ℕ) → Case → ℕ → List Duty → List Line
drivers_lines days case driver [] = []
drivers_lines days case driver (duty ∷ rest) = driver_lines days case driver duty ++ drivers_lines days case (driver + 1) rest

-- the line of an order: who serves it and from when, or what a subcontractor takes for it
abbrev pub order_line : List (List ℕ) → Week → Order → Option Service → Line
order_line days week order (Some service) =
    codes "order" ∷ order.name ∷ codes "by" ∷ driver_name week service.driver ∷ stamp_text days service.start ∷ []
order_line days week order None = codes "order" ∷ order.name ∷ codes "out" ∷ decimal order.price ∷ []

-- the lines of orders, whose first has that number
abbrev pub orders_lines : List (List ℕ) → Week → List Duty → ℕ → List Order → List Line
orders_lines days week duties number [] = []
orders_lines days week duties number (order ∷ rest) =
    order_line days week order (service_from week 0 duties number) ∷ orders_lines days week duties (number + 1) rest

-- what a report says of an outcome: what the search found, the drivers, the orders
abbrev pub body_lines : List (List ℕ) → Case → Outcome → List Line
body_lines days case outcome =
    outcome_lines (get_or days 0 []) outcome
    ++ (drivers_lines days case 0 outcome.plan.duties ++ orders_lines days case.week outcome.plan.duties 0 case.week.orders)

-- the report of an outcome that is kept as a draft: its body, and the draft's revision
abbrev pub report_lines : List (List ℕ) → Case → Outcome → ℕ → List Line
report_lines days case outcome revision = body_lines days case outcome ++ (codes "draft" ∷ decimal revision ∷ []) ∷ []

-- the text is the body of an outcome's report, with the stamps of the week's days
abbrev pub IsBodyOf : Case → Outcome → List ℕ → Type 0
IsBodyOf case outcome text =
    (days : List (List ℕ)) × AreDaysOf case.week.monday.day days × (text ≡ with_lines [] (body_lines days case outcome))

-- the text is the report of an outcome that is kept as a draft of that revision, with the stamps of the week's days
abbrev pub IsReportOf : Case → Outcome → ℕ → List ℕ → Type 0
IsReportOf case outcome revision text =
    (days : List (List ℕ)) × AreDaysOf case.week.monday.day days × (text ≡ with_lines [] (report_lines days case outcome revision))
