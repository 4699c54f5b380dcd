-- Laws on reports and exports.
use Rattle.std.specs.Prelude.{◌≡◌, ◌<◌, ◌^◌, ℕ, List, length, map, All}
use Rattle.minute_line.specs.Histories.{fields_of}
use Rattle.duty_plan.specs.declared.nodes.Node.{Node}
use Rattle.duty_plan.specs.declared.outcomes.Outcome.{Outcome}
use Rattle.duty_plan.specs.declared.plans.Case.{Case}
use Rattle.duty_plan.specs.declared.plans.Plan.{Plan}
use Rattle.duty_plan.specs.Duties.{IsCase, IsLawfulPlan, times}
use Rattle.duty_plan.specs.Nodes.{IsTree}
use Rattle.desk_report.specs.Exports.{IsExportOf}
use Rattle.desk_report.specs.Reports.{IsBodyOf, IsReportOf}

-- the numbers of an outcome are such as a program holds
pub record AreNumbers (outcome : Outcome) : Type 0 where
  pub cost : outcome.cost < 2 ^ 64
  pub bound : outcome.bound < 2 ^ 64
  pub nodes : length outcome.tree < 2 ^ 64

-- the numbers of a node are such as a program holds
pub record AreNodeNumbers (node : Node) : Type 0 where
  pub parent : node.parent < 2 ^ 64
  pub prices : All (λ cents. cents < 2 ^ 64) node.prices.cents
  pub bound : node.bound < 2 ^ 64
  pub seen : node.seen < 2 ^ 64

-- two searches found the same cost, bound and state, by the same number of nodes
pub record FoundSame (one two : Outcome) : Type 0 where
  pub cost : one.cost ≡ two.cost
  pub bound : one.bound ≡ two.bound
  pub state : one.state ≡ two.state
  pub nodes : length one.tree ≡ length two.tree

-- outcomes with one body of a report found the same
abbrev pub ReportsTellFindings : Type 0
ReportsTellFindings = (case other : Case) (one two : Outcome) (text : List ℕ) → AreNumbers one → AreNumbers two
    → IsBodyOf case one text → IsBodyOf other two text → FoundSame one two

-- two plans have the same duties, and give away the same orders of the case
pub record PlanSame (case : Case) (one two : Plan) : Type 0 where
  pub duties : one.duties ≡ two.duties
  pub out : (order : ℕ) → order < length case.week.orders → times order one.out ≡ times order two.out

-- two outcomes were planned after the same histories, have the same plan, and found the same
pub record PlannedSame (case other : Case) (one two : Outcome) : Type 0 where
  pub past : map fields_of case.past ≡ map fields_of other.past
  pub plan : PlanSame case one.plan two.plan
  pub found : FoundSame one two

-- outcomes of cases of one week, each with a lawful plan, such as a program holds
pub record AreRivals (case other : Case) (one two : Outcome) : Type 0 where
  pub week : case.week ≡ other.week
  pub cases : IsCase case × IsCase other
  pub lawful : IsLawfulPlan case one.plan × IsLawfulPlan other two.plan
  pub numbers : AreNumbers one × AreNumbers two

-- such outcomes with one body of a report are planned the same
abbrev pub BodiesTellAll : Type 0
BodiesTellAll = (case other : Case) (one two : Outcome) (text : List ℕ) → AreRivals case other one two
    → IsBodyOf case one text → IsBodyOf other two text → PlannedSame case other one two

-- such outcomes with one report are planned the same, and are drafts of one revision
abbrev pub ReportsTellAll : Type 0
ReportsTellAll = (case other : Case) (one two : Outcome) (revision later : ℕ) (text : List ℕ) → AreRivals case other one two
    → revision < 2 ^ 64 → later < 2 ^ 64 → IsReportOf case one revision text → IsReportOf other two later text
    → PlannedSame case other one two × (revision ≡ later)

-- outcomes of a case with one export have the same plan and the same tree
abbrev pub ExportsTellAll : Type 0
ExportsTellAll = (case : Case) (one two : Outcome) (text : List ℕ) → IsCase case
    → IsLawfulPlan case one.plan → IsLawfulPlan case two.plan → IsTree case.week one.tree → IsTree case.week two.tree
    → All AreNodeNumbers one.tree → All AreNodeNumbers two.tree → IsExportOf case one text → IsExportOf case two text
    → PlanSame case one.plan two.plan × (one.tree ≡ two.tree)
