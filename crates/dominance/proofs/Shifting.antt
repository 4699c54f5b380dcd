-- Whatever may follow a partial duty can be done with listed stays.
use Rattle.std.proofs.Common.{◌≡◌, ℕ, ◌+◌, ◌-◌, ◌≤◌, Bool, true, false, List, [], ◌∷◌, ◌++◌, refl, ap, ◌∙◌, arith}
use Rattle.minute_line.specs.Marks.{is_rest}
use Rattle.week_book.specs.Weeks.{driver_of}
use Rattle.duty_plan.specs.declared.duties.Act.{Act}
use Rattle.duty_plan.specs.declared.duties.Step.{Step}
use Rattle.duty_plan.specs.declared.plans.Case.{Case}
use Rattle.duty_plan.specs.Acts.{order_of_act}
use Rattle.duty_plan.specs.PartialDuties.{PartialDuty, at_after, start_of}
use Rattle.duty_plan.specs.Duties.{IsCase, IsLawfulPartialDuty, open_off_at, capacity_at, fee_or_none}
use Rattle.duty_plan.specs.Labels.{listed_ready, is_listed}
use Rattle.dominance.specs.Completions.{IsShifted, ListsCompletions, Shifts}
use Rattle.dominance.proofs.ShiftedSteps.{with_minutes, same-itself, start-same, plain-listed, rest-listed}
use Rattle.dominance.proofs.ShiftedOffice.{same-step, keeps-plain, keeps-rest}
use Rattle.dominance.proofs.ShiftedPartialDuties.{PartialDutyGoes, PartialDutiesDid, KeepsAt, lawful-before, goes-itself, goes-plain, goes-rest, wait-early}

-- listed steps that do what those do after the partial duty, and what the next step asks of them
record ShiftsTo (case : Case) (driver : ℕ) (partial more : PartialDuty) : Type 0 where
  listed : PartialDuty
  shifted : IsShifted case driver partial more listed
  same : PartialDutiesDid case driver (listed ++ partial) (more ++ partial)
  goes : PartialDutyGoes case driver (listed ++ partial) (more ++ partial)

-- one more listed step, with a start that is no later
one_more : (case : Case) (driver : ℕ) (partial more : PartialDuty) (step : Step) (ready off : ℕ) (t : ShiftsTo case driver partial more) →
    KeepsAt case driver (with_minutes ready off step) (t.listed ++ partial) →
    start_of case.week (with_minutes ready off step) (t.listed ++ partial) ≤ start_of case.week step (more ++ partial) →
    PartialDutyGoes case driver (with_minutes ready off step ∷ (t.listed ++ partial)) (step ∷ (more ++ partial)) →
    is_listed case.week (with_minutes ready off step) (t.listed ++ partial) ≡ true → ShiftsTo case driver partial (step ∷ more)
one_more case driver partial more step ready off t k l g listed_stay =
    let next : PartialDutiesDid case driver (with_minutes ready off step ∷ (t.listed ++ partial)) (step ∷ (more ++ partial)) =
    same-step case.week (open_off_at case driver) step ready off (t.listed ++ partial) (more ++ partial) t.same l in record {
      listed = with_minutes ready off step ∷ t.listed;
      shifted = record {
        listed_stays = (listed_stay, t.shifted.listed_stays);
        lawful = record { office = (k, t.shifted.lawful.office); hours = g.none };
        place = next.place;
        acts = ap (λ (acts : List Act). step.act ∷ acts) t.shifted.acts;
        orders = ap (λ (orders : List ℕ). order_of_act step.act ++ orders) t.shifted.orders;
        cost = ap (λ (cents : ℕ). fee_or_none (driver_of case.week driver) + cents) next.cents;
        early = next.early;
      };
      same = next;
      goes = g;
    }

shifts-step : (case : Case) (driver : ℕ) (partial more : PartialDuty) (step : Step) → IsCase case →
    IsLawfulPartialDuty case driver (step ∷ (more ++ partial)) → ShiftsTo case driver partial more → ShiftsTo case driver partial (step ∷ more)
shifts-step case driver partial more step c l t = by_rest (is_rest step.stay.kind) refl
  where
    by_rest : (b : Bool) → is_rest step.stay.kind ≡ b → ShiftsTo case driver partial (step ∷ more)
    by_rest false r =
        let new : PartialDuty = t.listed ++ partial in
        let old : PartialDuty = more ++ partial in
        one_more case driver partial more step (listed_ready case.week step new) step.stay.off t
        (keeps-plain case.week (open_off_at case driver) (capacity_at case driver) step new old t.same l.office.0 r)
        (omega (arith, wait-early case driver step new old t.same l.office.0))
        (goes-plain case driver step new old c t.same t.goes l r) (plain-listed case.week step new r)
    by_rest true r =
        let new : PartialDuty = t.listed ++ partial in
        let old : PartialDuty = more ++ partial in
        one_more case driver partial more step 0 (start_of case.week step old - at_after case.week new) t
        (keeps-rest case.week (open_off_at case driver) (capacity_at case driver) step new old t.same l.office.0 r)
        (omega (arith, start-same case.week step new old t.same.early))
        (goes-rest case driver step new old c t.same t.goes l r) (rest-listed case.week step new old r)

shifts-to : (case : Case) (driver : ℕ) (partial more : PartialDuty) → IsCase case → IsLawfulPartialDuty case driver (more ++ partial) →
    ShiftsTo case driver partial more
shifts-to case driver partial [] c l = record {
  listed = [];
  shifted = record { listed_stays = tt; lawful = l; place = refl; acts = refl; orders = refl; cost = refl; early = omega arith };
  same = same-itself case.week (open_off_at case driver) partial;
  goes = goes-itself case driver partial c l;
}
shifts-to case driver partial (step ∷ more) c l =
    shifts-step case driver partial more step c l (shifts-to case driver partial more c (lawful-before case driver step (more ++ partial) l))

-- the law
pub shift : Shifts
shift case driver partial more c l = let t = shifts-to case driver partial more c l in (t.listed, t.shifted)

-- and of completions
pub lists_completions : ListsCompletions
lists_completions case driver partial more c done =
    let t = shift case driver partial more c done.lawful in
    (t.0, t.1, record { lawful = t.1.lawful; home = t.1.place ∙ done.home })
