-- An export grows row by row.
use Rattle.std.proofs.Common.{◌≡◌, ℕ, List, [], ◌∷◌, ◌++◌, get_or, ap, ◌∙◌, append_assoc, codes, Result, Ok, Err, IfOk}
use Rattle.std.specs.Fmt.{decimal}
use Rattle.minute_line.specs.declared.many.Memory.{Memory}
use Rattle.minute_line.specs.DateWriting.{AreDaysOf}
use Rattle.week_book.specs.declared.weeks.Week.{Week}
use Rattle.duty_plan.specs.declared.nodes.Node.{Node}
use Rattle.duty_plan.specs.declared.outcomes.Outcome.{Outcome}
use Rattle.duty_plan.specs.declared.plans.Case.{Case}
use Rattle.desk_report.specs.Exports.{duties_rows, outs_rows, decision_fields, node_word, node_row, nodes_rows, export_rows, IsExportOf}
use Rattle.desk_report.specs.Rows.{Fields, rows_text}

-- the first fields of a node's row
abbrev front_of : ℕ → Node → Fields
front_of number node = codes "node" ∷ decimal number ∷ decimal node.parent ∷ []

-- the fields of a node's row, one after another
pub node-row-whole : (week : Week) (number : ℕ) (node : Node) (front longer bound seen : Fields) (r : Result Fields Memory)
    → front ≡ codes "node" ∷ decimal number ∷ decimal node.parent ∷ [] → longer ≡ front ++ decision_fields week node.decision
    → bound ≡ longer ++ decimal node.bound ∷ [] → seen ≡ bound ++ decimal node.seen ∷ []
    → IfOk r (λ row. row ≡ seen ++ node_word node.state ∷ []) → IfOk r (λ row. row ≡ node_row week number node)
node-row-whole week number node front longer bound seen (Err memory) f l b s w = tt
node-row-whole week number node front longer bound seen (Ok row) f l b s w =
    rw (w, s, b, l, f)
    (append_assoc ((front_of number node ++ decision_fields week node.decision) ++ decimal node.bound ∷ []) (decimal node.seen ∷ []) (node_word node.state ∷ [])
    ∙ append_assoc (front_of number node ++ decision_fields week node.decision) (decimal node.bound ∷ []) (decimal node.seen ∷ node_word node.state ∷ [])
    ∙ append_assoc (front_of number node) (decision_fields week node.decision) (decimal node.bound ∷ decimal node.seen ∷ node_word node.state ∷ []))

-- the rows of an export, one kind after another
pub export-whole : (days : List (List ℕ)) (case : Case) (outcome : Outcome) (first duties outs nodes : List Fields)
    → first ≡ (codes "week" ∷ get_or days 0 [] ∷ []) ∷ [] → duties ≡ first ++ duties_rows days case.week 0 outcome.plan.duties
    → outs ≡ duties ++ outs_rows case.week outcome.plan.duties 0 case.week.orders → nodes ≡ outs ++ nodes_rows case.week 1 outcome.tree
    → nodes ≡ export_rows days case outcome
export-whole days case outcome first duties outs nodes f d o n =
    rw (n, o, d, f)
    (append_assoc ((codes "week" ∷ get_or days 0 [] ∷ []) ∷ duties_rows days case.week 0 outcome.plan.duties) (outs_rows case.week outcome.plan.duties 0 case.week.orders) (nodes_rows case.week 1 outcome.tree)
    ∙ append_assoc ((codes "week" ∷ get_or days 0 [] ∷ []) ∷ []) (duties_rows days case.week 0 outcome.plan.duties) (outs_rows case.week outcome.plan.duties 0 case.week.orders ++ nodes_rows case.week 1 outcome.tree))

-- the text of these rows is the export
pub is-export : (case : Case) (outcome : Outcome) (days : List (List ℕ)) (rows : List Fields) (r : Result (List ℕ) Memory) → AreDaysOf case.week.monday.day days
    → rows ≡ export_rows days case outcome → IfOk r (λ text. text ≡ rows_text rows) → IfOk r (IsExportOf case outcome)
is-export case outcome days rows (Ok text) are same e = (days, are, e ∙ ap rows_text same)
is-export case outcome days rows (Err memory) are same e = tt
