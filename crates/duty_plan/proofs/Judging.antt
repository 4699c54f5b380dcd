-- What the judge of a duty finds.
use Rattle.std.proofs.Common.{◌≡◌, ℕ, suc, ◌+◌, ◌<◌, Bool, true, false, cond, eqb, List, [], ◌∷◌, ◌++◌, length, reverse, take, drop, get_or, Option, Some, None, Result, Ok, Err, is_ok, IfOk, IsOk, slice_get, refl, ap, sym, ◌∙◌, arith, ◌↔◌}
use Rattle.std.proofs.lemmas.Bool.{eqb-true, eq-eqb}
use Rattle.std.proofs.lemmas.Bool.Decides.{nat_tests}
use Rattle.minute_line.specs.declared.lines.History.{History}
use Rattle.hours_rules.specs.declared.clocks.Clock.{Clock}
use Rattle.hours_rules.specs.declared.rules.Broken.{Broken}
use Rattle.hours_rules.specs.Rules.{Past, fault}
use Rattle.hours_rules.specs.Going.{StandsOrBreaks}
use Rattle.hours_rules.specs.Verdicts.{past_of}
use Rattle.week_book.specs.declared.weeks.Driver.{Driver}
use Rattle.week_book.specs.declared.weeks.Week.{Week}
use Rattle.week_book.specs.Weeks.{driver_of}
use Rattle.minute_line.specs.Minutes.{Minutes}
use Rattle.duty_plan.specs.declared.duties.Step.{Step}
use Rattle.duty_plan.specs.declared.duties.Duty.{Duty}
use Rattle.duty_plan.specs.declared.plans.Case.{Case}
use Rattle.duty_plan.specs.declared.duty_checks.DutyCheck.{DutyCheck}
use Rattle.duty_plan.specs.declared.faults.DutyFault.{DutyFault}
use Rattle.duty_plan.specs.PartialDuties.{PartialDuty, place_after, line_after, KeepsOfficeThrough}
use Rattle.duty_plan.specs.Duties.{partial_of, past_at, past_or_none, open_off_at, open_or_none, capacity_at, capacity_or_none, fee_or_none, cents_after, cost_after, IsLawful}
use Rattle.duty_plan.specs.Verdicts.{first_failed, tests_of_step, office_fault, verdict_after, duty_verdict}
use Rattle.duty_plan.specs.DutyChecks.{StandsFor, broken_of}
use Rattle.duty_plan.proofs.Lists.{reverse-at, reverse-more}
use Rattle.duty_plan.proofs.Keeping.{none-keeps, keeps-none, fault-step, fault-more}

-- a verdict that is a cost
verdict-ok : (office : Option DutyFault) (home : Bool) (broken : Option Broken) (cost : ℕ) → is_ok (verdict_after office home broken cost) ≡ true →
    (office ≡ None) × (home ≡ true) × (broken ≡ None)
verdict-ok (Some fault) home broken cost h = cc
verdict-ok None false broken cost h = cc
verdict-ok None true (Some b) cost h = cc
verdict-ok None true None cost h = (refl, refl, refl)

verdict-cost : (office : Option DutyFault) (home : Bool) (broken : Option Broken) (cost : ℕ) → IfOk (verdict_after office home broken cost) (λ cents. cents ≡ cost)
verdict-cost (Some fault) home broken cost = tt
verdict-cost None false broken cost = tt
verdict-cost None true (Some b) cost = tt
verdict-cost None true None cost = refl

-- a duty is lawful just where its verdict is a cost
pub lawful-ok : (case : Case) (driver : ℕ) (duty : Duty) → IsOk (duty_verdict case driver duty) → IsLawful case driver duty
lawful-ok case driver duty h =
    let parts = verdict-ok (office_fault case.week (open_off_at case driver) (capacity_at case driver) (partial_of duty)) (eqb (place_after (partial_of duty)) 0)
    (fault (past_at case driver) (line_after case.week (partial_of duty))) (cost_after case driver (partial_of duty)) h in record {
      partial = record {
        office = keeps-none case.week (open_off_at case driver) (capacity_at case driver) (partial_of duty) parts.0;
        hours = parts.2;
      };
      home = eqb-true (place_after (partial_of duty)) 0 parts.1;
    }

pub ok-lawful : (case : Case) (driver : ℕ) (duty : Duty) → IsLawful case driver duty → duty_verdict case driver duty ≡ Ok (cost_after case driver (partial_of duty))
ok-lawful case driver duty l =
    let office = none-keeps case.week (open_off_at case driver) (capacity_at case driver) (partial_of duty) l.partial.office in
    let home = eq-eqb (place_after (partial_of duty)) 0 l.home in
    rw (office, home, l.partial.hours) refl

pub cost-ok : (case : Case) (driver : ℕ) (duty : Duty) → IfOk (duty_verdict case driver duty) (λ cents. cents ≡ cost_after case driver (partial_of duty))
cost-ok case driver duty = verdict-cost _ _ _ _

-- the fault of the first step that fails a test
pub early-fault : (case : Case) (driver : ℕ) (lorry : Driver) (history : History) (duty : Duty) (steps : List Step) (i : ℕ) (step d : Step) (found : DutyFault) →
    driver_of case.week driver ≡ Some lorry → slice_get case.past driver ≡ Some history → steps ≡ duty.steps →
    KeepsOfficeThrough case.week history.open_off lorry.capacity (reverse (take i steps)) →
    first_failed (tests_of_step case.week history.open_off lorry.capacity step (reverse (take i steps))) ≡ Some found →
    i < length steps → step ≡ get_or steps i d → duty_verdict case driver duty ≡ Err found
early-fault case driver lorry history duty steps i step d found a b same k f l e =
    let here : office_fault case.week history.open_off lorry.capacity (step ∷ reverse (take i steps)) ≡ Some found =
    fault-step case.week history.open_off lorry.capacity step (reverse (take i steps)) found k f in
    let more : office_fault case.week history.open_off lorry.capacity (reverse (drop (suc i) steps) ++ (step ∷ reverse (take i steps))) ≡ Some found =
    fault-more case.week history.open_off lorry.capacity (reverse (drop (suc i) steps)) (step ∷ reverse (take i steps)) found here in
    let whole : office_fault case.week history.open_off lorry.capacity (partial_of duty) ≡ Some found =
    ap (λ (x : List Step). office_fault case.week history.open_off lorry.capacity (reverse x)) (sym same)
    ∙ (ap (office_fault case.week history.open_off lorry.capacity) (reverse-at steps i step d l e) ∙ more) in
    let open_off : open_off_at case driver ≡ history.open_off = ap open_or_none b in
    let capacity : capacity_at case driver ≡ lorry.capacity = ap capacity_or_none a in
    rw (open_off, capacity, whole) refl

-- one step more
pub stands-more : (week : Week) (lorry : Driver) (history : History) (check : DutyCheck) (steps : List Step) (i : ℕ) (step d : Step) →
    StandsFor week lorry history (step ∷ reverse (take i steps)) check → i < length steps → step ≡ get_or steps i d →
    StandsFor week lorry history (reverse (take (i + 1) steps)) check
stands-more week lorry history check steps i step d s l e = rw (reverse-more steps i step d l e) s

cost-partial : (case : Case) (driver : ℕ) (lorry : Driver) (partial : PartialDuty) (n cents : ℕ) → driver_of case.week driver ≡ Some lorry → n ≡ length partial →
    cents ≡ cents_after case.week partial → cond (eqb n 0) 0 (lorry.fee + cents) ≡ cost_after case driver partial
cost-partial case driver lorry [] n cents a e c = rw e refl
cost-partial case driver lorry (step ∷ before) n cents a e c =
    let fee : fee_or_none (driver_of case.week driver) ≡ lorry.fee = ap fee_or_none a in
    let some : eqb (suc (length before)) 0 ≡ false = grind (arith, nat_tests) in
    rw (e, fee, c, some) refl

broken-partial : (past : Past) (week : Minutes) (hours : Result Clock Broken) → StandsOrBreaks 0 past week hours → broken_of hours ≡ fault past week
broken-partial past week (Ok clock) h = sym h.1
broken-partial past week (Err broken) h = sym h

-- the verdict of a walk that stands for the whole duty
pub whole-duty : (case : Case) (driver : ℕ) (lorry : Driver) (history : History) (duty : Duty) (check : DutyCheck) → driver_of case.week driver ≡ Some lorry →
    slice_get case.past driver ≡ Some history → StandsFor case.week lorry history (partial_of duty) check →
    verdict_after None (eqb check.position.place 0) (broken_of check.hours) (cond (eqb check.steps 0) 0 (lorry.fee + check.cents)) ≡ duty_verdict case driver duty
whole-duty case driver lorry history duty check a b s =
    let open_off : open_off_at case driver ≡ history.open_off = ap open_or_none b in
    let capacity : capacity_at case driver ≡ lorry.capacity = ap capacity_or_none a in
    let office : office_fault case.week history.open_off lorry.capacity (partial_of duty) ≡ None =
    none-keeps case.week history.open_off lorry.capacity (partial_of duty) s.office in
    let past : past_at case driver ≡ past_of history = ap past_or_none b in
    let hours : broken_of check.hours ≡ fault (past_of history) (line_after case.week (partial_of duty)) =
    broken-partial (past_of history) (line_after case.week (partial_of duty)) check.hours s.hours in
    let cost = cost-partial case driver lorry (partial_of duty) check.steps check.cents a s.steps s.cents in
    rw (open_off, capacity, office, past, s.position, hours, cost) refl

-- what a verdict says in the words of the subject
pub record Says (case : Case) (driver : ℕ) (duty : Duty) (answer : Result ℕ DutyFault) : Type 0 where
  pub verdict : answer ≡ duty_verdict case driver duty
  pub lawful : IsOk answer ↔ IsLawful case driver duty
  pub cost : IfOk answer (λ cents. cents ≡ cost_after case driver (partial_of duty))

pub verdict-clauses : (case : Case) (driver : ℕ) (duty : Duty) (answer : Result ℕ DutyFault) → answer ≡ duty_verdict case driver duty → Says case driver duty answer
verdict-clauses case driver duty answer e = record {
  verdict = e;
  lawful = (λ h. lawful-ok case driver duty (ap is_ok (sym e) ∙ h), λ l. ap is_ok (e ∙ ok-lawful case driver duty l));
  cost = rw e (cost-ok case driver duty);
}
