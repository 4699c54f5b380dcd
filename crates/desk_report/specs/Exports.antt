-- The export of an outcome, as rows.
use Rattle.std.specs.Prelude.{◌≡◌, ℕ, zero, suc, ◌+◌, List, [], ◌∷◌, ◌++◌, Option, Some, None, get_or, map, codes}
use Rattle.std.specs.Fmt.{decimal}
use Rattle.minute_line.specs.declared.marks.Kind.{Kind}
use Rattle.minute_line.specs.declared.marks.Kind.TheVariants.{Plain}
use Rattle.minute_line.specs.DateWriting.{AreDaysOf, stamp_text}
use Rattle.week_book.specs.declared.weeks.Order.{Order}
use Rattle.week_book.specs.declared.weeks.Week.{Week}
use Rattle.duty_plan.specs.declared.duties.Act.{Act}
use Rattle.duty_plan.specs.declared.duties.Act.TheVariants.{Leg, Serve, Load}
use Rattle.duty_plan.specs.declared.duties.Step.{Step}
use Rattle.duty_plan.specs.declared.duties.Duty.{Duty}
use Rattle.duty_plan.specs.declared.nodes.Decision.{Decision}
use Rattle.duty_plan.specs.declared.nodes.Decision.TheVariants.{Root, Forced, Barred}
use Rattle.duty_plan.specs.declared.nodes.Node.{Node}
use Rattle.duty_plan.specs.declared.nodes.NodeState.{NodeState}
use Rattle.duty_plan.specs.declared.nodes.NodeState.TheVariants.{Branched, Closed, Empty, Open, Spent}
use Rattle.duty_plan.specs.declared.outcomes.Outcome.{Outcome}
use Rattle.duty_plan.specs.declared.plans.Case.{Case}
use Rattle.duty_plan.specs.Acts.{minutes_of}
use Rattle.duty_plan.specs.PartialDuties.{PartialDuty, at_after, place_after}
use Rattle.duty_plan.specs.Duties.{partial_of}
use Rattle.desk_report.specs.declared.services.Service.{Service}
use Rattle.desk_report.specs.Reports.{driver_name}
use Rattle.desk_report.specs.Rows.{Fields, rows_text}
use Rattle.desk_report.specs.Services.{service_from}
use Rattle.desk_report.specs.Steps.{kind_word, place_name, order_name}

-- a row of a driver's duty: the stamp of its first minute, what it is, the place or order that it is for, and its minutes
abbrev pub duty_row : List (List ℕ) → List ℕ → ℕ → List ℕ → List ℕ → ℕ → Fields
duty_row days driver at what name minutes =
    codes "duty" ∷ driver ∷ stamp_text days at ∷ what ∷ name ∷ decimal minutes ∷ []

-- the row of Ready minutes that begin at a minute, where there are some
abbrev pub ready_rows : List (List ℕ) → List ℕ → ℕ → ℕ → List Fields
ready_rows days driver at zero = []
ready_rows days driver at (suc n) = duty_row days driver at (codes "ready") [] (suc n) ∷ []

-- the row of Off minutes that begin at a minute, where there are some or they are a rest
abbrev pub off_rows : List (List ℕ) → List ℕ → ℕ → ℕ → Kind → List Fields
off_rows days driver at zero Plain = []
off_rows days driver at n kind = duty_row days driver at (kind_word kind) [] n ∷ []

-- the row of an act that starts at a minute: a leg is for the place that it leads to, a service for its order
abbrev pub act_row : List (List ℕ) → Week → List ℕ → ℕ → ℕ → Act → Fields
act_row days week driver at minutes (Leg to) = duty_row days driver at (codes "drive") (place_name week to) minutes
act_row days week driver at minutes (Serve order) = duty_row days driver at (codes "serve") (order_name week order) minutes
act_row days week driver at minutes Load = duty_row days driver at (codes "load") [] minutes

-- the rows of a driver's step that begins at a minute and a place
abbrev pub step_rows : List (List ℕ) → Week → List ℕ → ℕ → ℕ → Step → List Fields
step_rows days week driver at place step =
    ready_rows days driver at step.stay.ready
    ++ (off_rows days driver (at + step.stay.ready) step.stay.off step.stay.kind
    ++ act_row days week driver (at + step.stay.ready + step.stay.off) (minutes_of week place step.act) step.act ∷ [])

-- the rows of a driver's partial duty, one step's after another's
abbrev pub duty_rows : List (List ℕ) → Week → List ℕ → PartialDuty → List Fields
duty_rows days week driver [] = []
duty_rows days week driver (step ∷ before) =
    duty_rows days week driver before ++ step_rows days week driver (at_after week before) (place_after before) step

-- the rows of the duties of drivers, whose first has that number
abbrev pub duties_rows : List (List ℕ) → Week → ℕ → List Duty → List Fields
duties_rows days week driver [] = []
duties_rows days week driver (duty ∷ rest) =
    duty_rows days week (driver_name week driver) (partial_of duty) ++ duties_rows days week (driver + 1) rest

-- the row of an order that no duty serves: what a subcontractor takes for it
abbrev pub out_rows : Order → Option Service → List Fields
out_rows order (Some service) = []
out_rows order None = (codes "out" ∷ order.name ∷ decimal order.price ∷ []) ∷ []

-- the rows of the subcontracted ones among orders, whose first has that number
abbrev pub outs_rows : Week → List Duty → ℕ → List Order → List Fields
outs_rows week duties number [] = []
outs_rows week duties number (order ∷ rest) =
    out_rows order (service_from week 0 duties number) ++ outs_rows week duties (number + 1) rest

-- what a node decides: the driver, the order, and whether the pair is forced or barred
abbrev pub decision_fields : Week → Decision → Fields
decision_fields week Root = [] ∷ [] ∷ codes "root" ∷ []
decision_fields week (Forced driver order) = driver_name week driver ∷ order_name week order ∷ codes "forced" ∷ []
decision_fields week (Barred driver order) = driver_name week driver ∷ order_name week order ∷ codes "barred" ∷ []

-- the word of a node's state
abbrev pub node_word : NodeState → List ℕ
node_word Branched = codes "branched"
node_word Closed = codes "closed"
node_word Empty = codes "empty"
node_word Open = codes "open"
node_word Spent = codes "spent"

-- the row of a node: its number, its parent's, what it decides, its bound, what the plan cost when it was branched, its state
abbrev pub node_row : Week → ℕ → Node → Fields
node_row week number node =
    (codes "node" ∷ decimal number ∷ decimal node.parent ∷ [])
    ++ (decision_fields week node.decision ++ (decimal node.bound ∷ decimal node.seen ∷ node_word node.state ∷ []))

-- the row of a node's prices
abbrev pub price_row : ℕ → Node → Fields
price_row number node = (codes "price" ∷ decimal number ∷ []) ++ map decimal node.prices.cents

-- the rows of nodes, whose first has that number
abbrev pub nodes_rows : Week → ℕ → List Node → List Fields
nodes_rows week number [] = []
nodes_rows week number (node ∷ rest) = node_row week number node ∷ price_row number node ∷ nodes_rows week (number + 1) rest

-- the rows of an export: the week, the duties of the drivers, the subcontracted orders, the nodes
abbrev pub export_rows : List (List ℕ) → Case → Outcome → List Fields
export_rows days case outcome =
    (codes "week" ∷ get_or days 0 [] ∷ [])
    ∷ (duties_rows days case.week 0 outcome.plan.duties
    ++ (outs_rows case.week outcome.plan.duties 0 case.week.orders ++ nodes_rows case.week 1 outcome.tree))

-- the text is the export of an outcome, with the stamps of the week's days
abbrev pub IsExportOf : Case → Outcome → List ℕ → Type 0
IsExportOf case outcome text =
    (days : List (List ℕ)) × AreDaysOf case.week.monday.day days × (text ≡ rows_text (export_rows days case outcome))
