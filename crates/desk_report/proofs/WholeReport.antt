-- A report says the histories, the plan, the findings and the revision.
use Rattle.std.proofs.Common.{◌≡◌, ℕ, ◌+◌, ◌<◌, ◌≤◌, ◌^◌, List, [], ◌∷◌, ◌++◌, length, suc, drop, get_or, codes, Option, Some, None, slice_get, refl, ap, sym, ◌∙◌, append_assoc, subst, arith, ℤ}
use Rattle.std.specs.Fmt.{decimal}
use Rattle.std.proofs.lemmas.Fmt.{decimal_injective}
use Rattle.std.proofs.lemmas.List.{append_cancel_left, append_cancel_right}
use Rattle.minute_line.specs.declared.lines.History.{History}
use Rattle.minute_line.specs.DateWriting.{AreDaysOf}
use Rattle.minute_line.proofs.DayTexts.{one_text}
use Rattle.week_book.specs.declared.weeks.Order.{Order}
use Rattle.week_book.specs.declared.weeks.Week.{Week}
use Rattle.duty_plan.specs.declared.duties.Duty.{Duty}
use Rattle.duty_plan.specs.declared.outcomes.Outcome.{Outcome}
use Rattle.duty_plan.specs.declared.plans.Case.{Case}
use Rattle.duty_plan.specs.declared.plans.Plan.{Plan}
use Rattle.duty_plan.specs.Duties.{IsLawful, IsLawfulPlan}
use Rattle.desk_report.specs.declared.services.Service.{Service}
use Rattle.desk_report.specs.Laws.{PlannedSame, AreRivals}
use Rattle.desk_report.specs.Lines.{Line, add_line, with_lines}
use Rattle.desk_report.specs.Reports.{outcome_lines, drivers_lines, order_line, orders_lines, body_lines, report_lines, IsBodyOf, IsReportOf}
use Rattle.desk_report.specs.Services.{service_from}
use Rattle.desk_report.proofs.OneExport.{same-plan}
use Rattle.desk_report.proofs.OneReport.{first-line, begins, begins_with, found-same}
use Rattle.desk_report.proofs.SpelledPasts.{one-past}
use Rattle.desk_report.proofs.TellingDrivers.{AreLawfulFrom, lines-join, lawful-from, drivers-say}

-- a week's days have one list of texts
same-texts : (texts others : List (List ℕ)) → length texts ≡ length others
    → ((k : ℕ) (a b : List ℕ) → slice_get texts k ≡ Some a → slice_get others k ≡ Some b → a ≡ b) → texts ≡ others
same-texts [] [] l each = refl
same-texts [] (b ∷ others) l each = absurd (omega (arith, l))
same-texts (a ∷ texts) [] l each = absurd (omega (arith, l))
same-texts (a ∷ texts) (b ∷ others) l each =
    ap (λ t. t ∷ texts) (each 0 a b refl refl)
    ∙ ap (λ ts. b ∷ ts) (same-texts texts others (omega (arith, l)) (λ k c d p q. each (suc k) c d p q))

same-days : (day : ℤ) (days dates : List (List ℕ)) → AreDaysOf day days → AreDaysOf day dates → days ≡ dates
same-days day days dates are be =
    same-texts days dates (are.0 ∙ sym be.0) (λ k a b p q. one_text _ a b (are.1 k a p) (be.1 k b q))

-- the line of a draft
abbrev draft_line : ℕ → Line
draft_line revision = codes "draft" ∷ decimal revision ∷ []

-- the lines of orders and of a draft begin with no stamp
orders-head : (days : List (List ℕ)) (week : Week) (duties : List Duty) (number : ℕ) (orders : List Order) (revision : ℕ)
    → 100 ≤ get_or (with_lines [] (orders_lines days week duties number orders ++ draft_line revision ∷ [])) 0 100
orders-head days week duties number [] revision = omega arith
orders-head days week duties number (order ∷ orders) revision =
    rw (first-line (order_line days week order (service_from week 0 duties number)) (orders_lines days week duties (number + 1) orders ++ draft_line revision ∷ []))
    (one (service_from week 0 duties number))
  where
    one : (service : Option Service) → 100 ≤ get_or (add_line [] (order_line days week order service)
        ++ with_lines [] (orders_lines days week duties (number + 1) orders ++ draft_line revision ∷ [])) 0 100
    one (Some service) = omega arith
    one None = omega arith

-- the revision of a draft's line
same-revision : (first later : ℕ) → first < 2 ^ 64 → later < 2 ^ 64 → with_lines [] (draft_line first ∷ []) ≡ with_lines [] (draft_line later ∷ []) → first ≡ later
same-revision first later p q e =
    let digits : decimal first ++ 10 ∷ [] ≡ decimal later ++ 10 ∷ [] = ap (drop 6) e in
    decimal_injective first later p q (append_cancel_right (decimal first) (decimal later) (10 ∷ []) digits)

-- a report's lines: the findings, the drivers, the orders, the draft
apart : (days : List (List ℕ)) (case : Case) (outcome : Outcome) (revision : ℕ)
    → with_lines [] (report_lines days case outcome revision)
    ≡ begins_with (get_or days 0 []) outcome.cost outcome.bound outcome.state (length outcome.tree)
    (with_lines [] (drivers_lines days case 0 outcome.plan.duties)
    ++ with_lines [] (orders_lines days case.week outcome.plan.duties 0 case.week.orders ++ draft_line revision ∷ []))
apart days case outcome revision =
    let monday = get_or days 0 [] in
    let found = outcome_lines monday outcome in
    let drivers = drivers_lines days case 0 outcome.plan.duties in
    let orders = orders_lines days case.week outcome.plan.duties 0 case.week.orders in
    let draft : List Line = draft_line revision ∷ [] in
    let lines : report_lines days case outcome revision ≡ found ++ (drivers ++ (orders ++ draft)) =
    append_assoc found (drivers ++ orders) draft ∙ ap (λ (ls : List Line). found ++ ls) (append_assoc drivers orders draft) in
    ap (λ (ls : List Line). with_lines [] ls) lines ∙ begins monday outcome (drivers ++ (orders ++ draft))
    ∙ ap (λ (t : List ℕ). begins_with monday outcome.cost outcome.bound outcome.state (length outcome.tree) t) (lines-join drivers (orders ++ draft))

lawful-all : (case : Case) (plan : Plan) → IsLawfulPlan case plan → AreLawfulFrom case 0 plan.duties
lawful-all case plan p =
    lawful-from case 0 plan.duties (λ i duty there. let same : i ≡ 0 + i = omega arith in subst (λ k. IsLawful case k duty) same (p.lawful i duty there))

abbrev of : Week → List History → Case
of week past = record { week = week; past = past }

by_week : (week : Week) (past before : List History) (one two : Outcome) (first later : ℕ) (days : List (List ℕ)) → AreDaysOf week.monday.day days
    → AreRivals (of week past) (of week before) one two → first < 2 ^ 64 → later < 2 ^ 64
    → with_lines [] (report_lines days (of week past) one first) ≡ with_lines [] (report_lines days (of week before) two later)
    → PlannedSame (of week past) (of week before) one two × (first ≡ later)
by_week week past before one two first later days are rivals k l e =
    let v = rivals.cases.0 in
    let u = rivals.cases.1 in
    let p = rivals.lawful.0 in
    let q = rivals.lawful.1 in
    let head = found-same (get_or days 0 []) (get_or days 0 []) one two _ _ refl rivals.numbers.0 rivals.numbers.1 (sym (apart days (of week past) one first) ∙ e ∙ apart days (of week before) two later) in
    let drivers = drivers-say week.monday.day days week past before 0 one.plan.duties two.plan.duties _ _ are v u (omega (arith, p.duties)) (omega (arith, q.duties))
    (lawful-all (of week past) one.plan p) (lawful-all (of week before) two.plan q)
    (orders-head days week one.plan.duties 0 week.orders first) (orders-head days week two.plan.duties 0 week.orders later) head.1 in
    let orders = orders_lines days week two.plan.duties 0 week.orders in
    let tails : with_lines [] (orders ++ draft_line first ∷ []) ≡ with_lines [] (orders ++ draft_line later ∷ []) =
    ap (λ (ds : List Duty). with_lines [] (orders_lines days week ds 0 week.orders ++ draft_line first ∷ [])) (sym drivers.duties) ∙ drivers.rest in
    let drafts = append_cancel_left (with_lines [] orders) (with_lines [] (draft_line first ∷ [])) (with_lines [] (draft_line later ∷ []))
    (sym (lines-join orders (draft_line first ∷ [])) ∙ tails ∙ lines-join orders (draft_line later ∷ [])) in
    let placed : IsLawfulPlan (of week past) two.plan = record {
      duties = q.duties;
      lawful = subst (λ (ds : List Duty). (i : ℕ) (duty : Duty) → slice_get ds i ≡ Some duty → IsLawful (of week past) i duty) drivers.duties p.lawful;
      once = q.once;
      known = q.known;
    } in
    let same : PlannedSame (of week past) (of week before) one two = record {
      past = one-past past before (v.drivers ∙ sym u.drivers) (λ i below. drivers.pasts i (omega arith) (omega (arith, below, v.drivers, p.duties)));
      plan = same-plan (of week past) one.plan two.plan p placed drivers.duties;
      found = head.0;
    } in (same, same-revision first later k l drafts)

pub reports_tell_all : (case other : Case) (one two : Outcome) (revision later : ℕ) (text : List ℕ) → AreRivals case other one two
    → revision < 2 ^ 64 → later < 2 ^ 64 → IsReportOf case one revision text → IsReportOf other two later text
    → PlannedSame case other one two × (revision ≡ later)
reports_tell_all case other one two revision later text rivals k l (days, are, is) (dates, be, same) =
    let w = rivals.week in
    let whole : of case.week other.past ≡ other = ap (λ (week : Week). of week other.past) w in
    let dates_too : AreDaysOf case.week.monday.day dates = subst (λ (week : Week). AreDaysOf week.monday.day dates) (sym w) be in
    let one_list : dates ≡ days = same-days case.week.monday.day dates days dates_too are in
    let texts : with_lines [] (report_lines days case one revision) ≡ with_lines [] (report_lines days (of case.week other.past) two later) =
    sym is ∙ same ∙ ap (λ (ds : List (List ℕ)). with_lines [] (report_lines ds other two later)) one_list
    ∙ ap (λ (c : Case). with_lines [] (report_lines days c two later)) (sym whole) in
    subst (λ (c : Case). PlannedSame case c one two × (revision ≡ later)) whole
    (by_week case.week case.past other.past one two revision later days are (subst (λ (c : Case). AreRivals case c one two) (sym whole) rivals) k l texts)

-- a body with a draft's line is a report
body-drafted : (case : Case) (outcome : Outcome) (text : List ℕ) → IsBodyOf case outcome text → IsReportOf case outcome 1 (text ++ with_lines [] (draft_line 1 ∷ []))
body-drafted case outcome text (days, are, is) =
    (days, are, ap (λ (t : List ℕ). t ++ with_lines [] (draft_line 1 ∷ [])) is ∙ sym (lines-join (body_lines days case outcome) (draft_line 1 ∷ [])))

pub bodies_tell_all : (case other : Case) (one two : Outcome) (text : List ℕ) → AreRivals case other one two
    → IsBodyOf case one text → IsBodyOf other two text → PlannedSame case other one two
bodies_tell_all case other one two text rivals p q =
    (reports_tell_all case other one two 1 1 _ rivals (omega arith) (omega arith) (body-drafted case one text p) (body-drafted other two text q)).0
