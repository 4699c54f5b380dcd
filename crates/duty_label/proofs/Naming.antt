-- The fault of a step is the one that the judge of duties names.
use Rattle.std.proofs.Common.{◌≡◌, ℕ, Bool, true, false, eqb, List, [], ◌∷◌, length, refl, ap, sym, ◌∙◌, Option, Some, None, option_map, Err}
use Rattle.hours_rules.specs.declared.rules.Broken.{Broken}
use Rattle.hours_rules.specs.Rules.{fault}
use Rattle.week_book.specs.declared.weeks.Week.{Week}
use Rattle.duty_plan.specs.declared.duties.Step.{Step}
use Rattle.duty_plan.specs.declared.faults.DutyFault.{DutyFault}
use Rattle.duty_plan.specs.declared.faults.DutyFault.TheVariants.{Rule}
use Rattle.duty_plan.specs.PartialDuties.{PartialDuty, line_after, place_after}
use Rattle.duty_plan.specs.Duties.{cost_after, past_at, open_off_at, capacity_at}
use Rattle.duty_plan.specs.Verdicts.{Test, earlier_or, first_failed, numbered, office_fault, tests_of_step, verdict_after}
use Rattle.duty_plan.proofs.Keeping.{none-keeps}
use Rattle.duty_label.specs.Children.{NamedAsJudged, NamedForDuties}

-- each fault is told of the step of that number
abbrev AllOf : ℕ → List Test → Type 0
AllOf n [] = Unit {0}
AllOf n (test ∷ rest) = (numbered n (numbered 0 test.fault) ≡ test.fault) × AllOf n rest

first-of : (n : ℕ) (tests : List Test) (found : DutyFault) → AllOf n tests → first_failed tests ≡ Some found → numbered n (numbered 0 found) ≡ found
first-of n [] found all h = cc
first-of n (test ∷ rest) found all h = by_test test.passes refl h (λ m. first-of n rest found all.1 m)
  where
    by_test : (b : Bool) → test.passes ≡ b → first_failed (test ∷ rest) ≡ Some found → (first_failed rest ≡ Some found → numbered n (numbered 0 found) ≡ found) →
        numbered n (numbered 0 found) ≡ found
    by_test true e m more = let later : first_failed rest ≡ Some found = rw e at m in more later
    by_test false e m more =
        let here : Some test.fault ≡ Some found = rw e at m in
        let same : test.fault ≡ found = cc in
        rw same at all.0

-- the faults of a step have its number
own-number : (week : Week) (open_off capacity : ℕ) (step : Step) (before : PartialDuty) (found : DutyFault) →
    first_failed (tests_of_step week open_off capacity step before) ≡ Some found → numbered (length before) (numbered 0 found) ≡ found
own-number week open_off capacity step before found h =
    first-of (length before) (tests_of_step week open_off capacity step before) found
    (refl, (refl, (refl, (refl, (refl, (refl, (refl, (refl, tt)))))))) h

-- the fault that is told of step 0, with the number given back
told : (n cost : ℕ) (office : Option DutyFault) (broken : Option Broken) (found : DutyFault) →
    ((f : DutyFault) → office ≡ Some f → numbered n (numbered 0 f) ≡ f) →
    earlier_or (option_map (numbered 0) office) (option_map (λ b. Rule b) broken) ≡ Some found →
    verdict_after office true broken cost ≡ Err (numbered n found)
told n cost (Some f) broken found own h =
    let same : numbered 0 f ≡ found = cc in
    ap (λ (x : DutyFault). Err x) (sym (own f refl)) ∙ ap (λ (x : DutyFault). Err (numbered n x)) same
told n cost None (Some b) found own h =
    let same : Rule b ≡ found = cc in
    ap (λ (x : DutyFault). Err (numbered n x)) same
told n cost None None found own h = cc

pub named_as_judged : NamedAsJudged
named_as_judged case driver before step found lawful h =
    let week = case.week in
    let open_off = open_off_at case driver in
    let capacity = capacity_at case driver in
    let first = first_failed (tests_of_step week open_off capacity step before) in
    let office : office_fault week open_off capacity (step ∷ before) ≡ first =
    ap (λ (x : Option DutyFault). earlier_or x first) (none-keeps week open_off capacity before lawful.office) in
    ap (λ (x : Option DutyFault). verdict_after x true (fault (past_at case driver) (line_after week (step ∷ before))) (cost_after case driver (step ∷ before))) office
    ∙ told (length before) (cost_after case driver (step ∷ before)) first (fault (past_at case driver) (line_after week (step ∷ before))) found
    (λ f e. own-number week open_off capacity step before f e) h

pub named_for_duties : NamedForDuties
named_for_duties case driver duty before step found is home lawful h =
    let test : eqb (place_after (step ∷ before)) 0 ≡ true = ap (λ (x : ℕ). eqb x 0) home in
    ap (λ (x : PartialDuty). verdict_after (office_fault case.week (open_off_at case driver) (capacity_at case driver) x) (eqb (place_after x) 0)
    (fault (past_at case driver) (line_after case.week x)) (cost_after case driver x)) is
    ∙ (ap (λ (x : Bool). verdict_after (office_fault case.week (open_off_at case driver) (capacity_at case driver) (step ∷ before)) x
    (fault (past_at case driver) (line_after case.week (step ∷ before))) (cost_after case driver (step ∷ before))) test
    ∙ named_as_judged case driver before step found lawful h)
