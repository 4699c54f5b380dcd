-- The first step of a completion, and what is the same of two partial duties with the same acts.
use Rattle.std.proofs.Common.{◌≡◌, ℕ, true, false, Bool, ◌||◌, List, [], ◌∷◌, ◌++◌, length, refl, ap, sym, ◌∙◌, arith, append_assoc}
use Rattle.std.proofs.lemmas.List.{map-append}
use Rattle.std.specs.Prelude.{pos, ◌-ℤ◌}
use Rattle.week_book.specs.declared.weeks.Week.{Week}
use Rattle.duty_plan.specs.declared.duties.Act.{Act}
use Rattle.duty_plan.specs.declared.duties.Step.{Step}
use Rattle.duty_plan.specs.declared.plans.Case.{Case}
use Rattle.duty_plan.specs.declared.deciding.Pairs.{Pairs}
use Rattle.duty_plan.specs.declared.pricing.Prices.{Prices}
use Rattle.duty_plan.specs.Acts.{serves_order, order_of_act}
use Rattle.duty_plan.specs.PartialDuties.{PartialDuty, serves}
use Rattle.duty_plan.specs.Duties.{IsLawfulPartialDuty, cost_after, orders_of, worth}
use Rattle.duty_plan.specs.Values.{IsInside, price_at, reduced_cost}
use Rattle.duty_plan.specs.Labels.{is_listed}
use Rattle.dominance.specs.Completions.{AllListedAfter, IsShifted, acts_of}
use Rattle.dominance.proofs.ShiftedPartialDuties.{lawful-before}

-- the first step of some steps, and those after it
pub record Begins (more : PartialDuty) : Type 0 where
  pub step : Step
  pub rest : PartialDuty
  pub is : more ≡ rest ++ step ∷ []

pub begins : (step : Step) (more : PartialDuty) → Begins (step ∷ more)
begins step [] = record { step = step; rest = []; is = refl }
begins step (next ∷ more) =
    let b = begins next more in
    record { step = b.step; rest = step ∷ b.rest; is = ap (λ (x : PartialDuty). step ∷ x) b.is }

-- the first step of listed steps is listed
pub first-listed : (week : Week) (partial rest : PartialDuty) (step : Step) → AllListedAfter week partial (rest ++ step ∷ []) →
    is_listed week step partial ≡ true
first-listed week partial [] step l = l.0
first-listed week partial (next ∷ rest) step l = first-listed week partial rest step l.1

-- a lawful partial duty is lawful without its last steps
pub lawful-without : (case : Case) (driver : ℕ) (more partial : PartialDuty) → IsLawfulPartialDuty case driver (more ++ partial) →
    IsLawfulPartialDuty case driver partial
lawful-without case driver [] partial l = l
lawful-without case driver (step ∷ more) partial l =
    lawful-without case driver more partial (lawful-before case driver step (more ++ partial) l)

-- an act of the list serves the order
serves_one : ℕ → List Act → Bool
serves_one order [] = false
serves_one order (act ∷ acts) = serves_order order act || serves_one order acts

serves-acts : (order : ℕ) (partial : PartialDuty) → serves order partial ≡ serves_one order (acts_of partial)
unfolding serves_one
serves-acts order [] = refl
serves-acts order (step ∷ before) = ap (λ (x : Bool). serves_order order step.act || x) (serves-acts order before)

-- the same acts serve the same orders
pub serves-same : (order : ℕ) (a b partial : PartialDuty) → acts_of a ≡ acts_of b → serves order (a ++ partial) ≡ serves order (b ++ partial)
serves-same order a b partial e =
    let acts : acts_of (a ++ partial) ≡ acts_of (b ++ partial) =
    map-append (λ (step : Step). step.act) a partial
    ∙ (ap (λ (x : List Act). x ++ acts_of partial) e ∙ sym (map-append (λ (step : Step). step.act) b partial)) in
    serves-acts order (a ++ partial) ∙ (ap (serves_one order) acts ∙ sym (serves-acts order (b ++ partial)))

-- what is served before is served in the longer partial duty
pub serves-longer : (order : ℕ) (more partial : PartialDuty) → serves order (more ++ partial) ≡ false → serves order partial ≡ false
serves-longer order [] partial h = h
serves-longer order (step ∷ more) partial h = serves-longer order more partial (right (serves_order order step.act) _ h)
  where
    right : (a b : Bool) → (a || b) ≡ false → b ≡ false
    right true b h = cc
    right false b h = h

pub orders-append : (a b : PartialDuty) → orders_of (a ++ b) ≡ orders_of a ++ orders_of b
orders-append [] b = refl
orders-append (step ∷ a) b =
    ap (λ (x : List ℕ). order_of_act step.act ++ x) (orders-append a b)
    ∙ sym (append_assoc (order_of_act step.act) (orders_of a) (orders_of b))

-- shifted steps are worth the same
pub shifted-value : (case : Case) (driver : ℕ) (prices : Prices) (partial more listed : PartialDuty) → IsShifted case driver partial more listed →
    reduced_cost case driver prices (listed ++ partial) ≡ reduced_cost case driver prices (more ++ partial)
shifted-value case driver prices partial more listed s =
    let orders : orders_of (listed ++ partial) ≡ orders_of (more ++ partial) =
    orders-append listed partial ∙ (ap (λ (x : List ℕ). x ++ orders_of partial) s.orders ∙ sym (orders-append more partial)) in
    ap (λ (x : ℕ). pos x -ℤ pos (worth (price_at prices) (orders_of (listed ++ partial)))) s.cost
    ∙ ap (λ (x : List ℕ). pos (cost_after case driver (more ++ partial)) -ℤ pos (worth (price_at prices) x)) orders

-- and are inside where the others are
pub shifted-inside : (case : Case) (driver : ℕ) (pairs : Pairs) (partial more listed : PartialDuty) → IsShifted case driver partial more listed →
    IsInside case.week pairs driver (more ++ partial) → IsInside case.week pairs driver (listed ++ partial)
shifted-inside case driver pairs partial more listed s i = record {
  forced = λ o l p. serves-same o listed more partial s.acts ∙ i.forced o l p;
  barred = λ o l p. serves-same o listed more partial s.acts ∙ i.barred o l p;
}

-- the same acts are as many steps
pub acts-length : (a b : PartialDuty) → acts_of a ≡ acts_of b → length a ≡ length b
acts-length [] [] e = refl
acts-length [] (t ∷ b) e = cc
acts-length (s ∷ a) [] e = cc
acts-length (s ∷ a) (t ∷ b) e =
    let rest : acts_of a ≡ acts_of b = cc in
    omega (arith, acts-length a b rest)
