-- An export says the plan and the tree of its outcome.
use Rattle.std.proofs.Common.{◌≡◌, ℕ, ◌+◌, List, [], ◌∷◌, ◌++◌, drop, get_or, Option, Some, None, All, refl, ap, sym, ◌∙◌, arith}
use Rattle.std.proofs.lemmas.List.{append_cancel_left}
use Rattle.csv.specs.Writing.{read_back}
use Rattle.week_book.specs.declared.weeks.Order.{Order}
use Rattle.week_book.specs.declared.weeks.Week.{Week}
use Rattle.duty_plan.specs.declared.duties.Duty.{Duty}
use Rattle.duty_plan.specs.declared.nodes.Node.{Node}
use Rattle.duty_plan.specs.declared.outcomes.Outcome.{Outcome}
use Rattle.duty_plan.specs.declared.plans.Case.{Case}
use Rattle.duty_plan.specs.declared.plans.Plan.{Plan}
use Rattle.duty_plan.specs.Duties.{IsCase, IsLawfulPlan, carried, times, partial_of}
use Rattle.duty_plan.specs.Nodes.{IsTree}
use Rattle.desk_report.specs.declared.services.Service.{Service}
use Rattle.desk_report.specs.Exports.{duty_rows, duties_rows, out_rows, outs_rows, nodes_rows, export_rows, IsExportOf}
use Rattle.desk_report.specs.Laws.{AreNodeNumbers, PlanSame}
use Rattle.desk_report.specs.Reports.{driver_name}
use Rattle.desk_report.specs.Rows.{Fields}
use Rattle.desk_report.specs.Services.{service_from}
use Rattle.desk_report.proofs.KnownPairs.{tree-known}
use Rattle.desk_report.proofs.OneSheet.{HaveFields, one-sheet}
use Rattle.desk_report.proofs.TellingDuties.{AreRowsOf, BeginsElse, duty-rows-of, lawful-tellable, duties-say}
use Rattle.desk_report.proofs.TellingNodes.{nodes-say}

have-more : (rows more : List Fields) → HaveFields rows → HaveFields more → HaveFields (rows ++ more)
have-more [] more p q = q
have-more (row ∷ rows) more p q = (p.0, have-more rows more p.1 q)

filled : (row : Fields) → get_or (get_or row 0 []) 0 0 ≡ 100 → read_back row ≡ row
filled [] e = absurd (omega (arith, e))
filled (field ∷ row) e = refl

rows-have : (driver : List ℕ) (rows : List Fields) → AreRowsOf driver rows → HaveFields rows
rows-have driver [] p = tt
rows-have driver (row ∷ rows) p = (filled row p.0.0, rows-have driver rows p.1)

duties-have : (days : List (List ℕ)) (week : Week) (number : ℕ) (duties : List Duty) → HaveFields (duties_rows days week number duties)
duties-have days week number [] = tt
duties-have days week number (duty ∷ duties) =
    have-more (duty_rows days week (driver_name week number) (partial_of duty)) _
    (rows-have (driver_name week number) _ (duty-rows-of days week (driver_name week number) (partial_of duty))) (duties-have days week (number + 1) duties)

outs-have : (week : Week) (duties : List Duty) (number : ℕ) (orders : List Order) → HaveFields (outs_rows week duties number orders)
outs-have week duties number [] = tt
outs-have week duties number (order ∷ orders) =
    have-more (out_rows order (service_from week 0 duties number)) _ (one (service_from week 0 duties number)) (outs-have week duties (number + 1) orders)
  where
    one : (service : Option Service) → HaveFields (out_rows order service)
    one (Some service) = tt
    one None = (refl, tt)

nodes-have : (week : Week) (number : ℕ) (tree : List Node) → HaveFields (nodes_rows week number tree)
nodes-have week number [] = tt
nodes-have week number (node ∷ tree) = (refl, (refl, nodes-have week (number + 1) tree))

export-has : (days : List (List ℕ)) (case : Case) (outcome : Outcome) → HaveFields (export_rows days case outcome)
export-has days case outcome = (
  refl,
  have-more (duties_rows days case.week 0 outcome.plan.duties) _ (duties-have days case.week 0 outcome.plan.duties)
      (have-more (outs_rows case.week outcome.plan.duties 0 case.week.orders) _ (outs-have case.week outcome.plan.duties 0 case.week.orders) (nodes-have case.week 1 outcome.tree)),
)

-- after the duties comes no row of one
outs-else : (driver : List ℕ) (week : Week) (duties : List Duty) (number : ℕ) (orders : List Order) (tail : List Fields) → BeginsElse driver tail
    → BeginsElse driver (outs_rows week duties number orders ++ tail)
outs-else driver week duties number [] tail b = b
outs-else driver week duties number (order ∷ orders) tail b = one (service_from week 0 duties number) (outs-else driver week duties (number + 1) orders tail b)
  where
    one : (service : Option Service) → BeginsElse driver (outs_rows week duties (number + 1) orders ++ tail)
        → BeginsElse driver ((out_rows order service ++ outs_rows week duties (number + 1) orders) ++ tail)
    one (Some service) c = c
    one None c = λ is. let other : 111 ≡ 100 = is.0 in omega (arith, other)

nodes-else : (driver : List ℕ) (week : Week) (number : ℕ) (tree : List Node) → BeginsElse driver (nodes_rows week number tree)
nodes-else driver week number [] = tt
nodes-else driver week number (node ∷ tree) = λ is. let other : 110 ≡ 100 = is.0 in omega (arith, other)

-- where the duties are the same, so are the orders that none serves
pub same-plan : (case : Case) (one two : Plan) → IsLawfulPlan case one → IsLawfulPlan case two → one.duties ≡ two.duties → PlanSame case one two
same-plan case one two p q e = record {
  duties = e;
  out = λ order known.
      let served : times order (carried one.duties) ≡ times order (carried two.duties) = ap (λ (ds : List Duty). times order (carried ds)) e in
      omega (arith, p.once order known, q.once order known, served);
}

pub exports_tell_all : (case : Case) (one two : Outcome) (text : List ℕ) → IsCase case
    → IsLawfulPlan case one.plan → IsLawfulPlan case two.plan → IsTree case.week one.tree → IsTree case.week two.tree
    → All AreNodeNumbers one.tree → All AreNodeNumbers two.tree → IsExportOf case one text → IsExportOf case two text
    → PlanSame case one.plan two.plan × (one.tree ≡ two.tree)
exports_tell_all case one two text valid p q t u m n (days, are, is) (dates, be, same) =
    let week = case.week in
    let rows = one-sheet (export_rows days case one) (export_rows dates case two) (export-has days case one) (export-has dates case two) (sym is ∙ same) in
    let nodes = nodes_rows week 1 one.tree in
    let others = nodes_rows week 1 two.tree in
    let duties = duties-say days dates week 0 one.plan.duties two.plan.duties (outs_rows week one.plan.duties 0 week.orders ++ nodes)
    (outs_rows week two.plan.duties 0 week.orders ++ others) valid.week (omega (arith, p.duties)) (omega (arith, q.duties))
    (lawful-tellable case one.plan.duties valid.week p.lawful) (lawful-tellable case two.plan.duties valid.week q.lawful)
    (λ driver. outs-else driver week one.plan.duties 0 week.orders nodes (nodes-else driver week 1 one.tree))
    (λ driver. outs-else driver week two.plan.duties 0 week.orders others (nodes-else driver week 1 two.tree)) (ap (drop 1) rows) in
    let tails : outs_rows week two.plan.duties 0 week.orders ++ nodes ≡ outs_rows week two.plan.duties 0 week.orders ++ others =
    ap (λ (ds : List Duty). outs_rows week ds 0 week.orders ++ nodes) (sym duties.0) ∙ duties.1 in (
      same-plan case one.plan two.plan p q duties.0,
      nodes-say week 1 one.tree two.tree valid.week m n (tree-known week one.tree t) (tree-known week two.tree u)
          (append_cancel_left (outs_rows week two.plan.duties 0 week.orders) nodes others tails),
    )
