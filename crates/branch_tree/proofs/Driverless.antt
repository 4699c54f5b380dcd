-- A case without drivers has a right outcome: all orders are given away.
use Rattle.std.proofs.Common.{◌≡◌, ◌≢◌, ◌⊎◌, inl, inr, ℕ, zero, suc, ◌*◌, ◌≤◌, ◌<◌, Bool, true, false, List, [], ◌∷◌, length, map, refl, ap, sym, subst, arith, eqb, Some, slice_get, pos, ◌+ℤ◌}
use Rattle.std.proofs.lemmas.Bool.Decides.{nat_tests}
use Rattle.std.proofs.lemmas.Int.{ints}
use Rattle.duty_plan.specs.declared.plans.Case.{Case}
use Rattle.duty_plan.specs.declared.nodes.NodeStart.{NodeStart}
use Rattle.duty_plan.specs.declared.outcomes.Limits.{Limits}
use Rattle.duty_plan.specs.declared.outcomes.Outcome.{Outcome}
use Rattle.duty_plan.specs.declared.deciding.Pairs.{Pairs}
use Rattle.duty_plan.specs.declared.plans.Plan.{Plan}
use Rattle.duty_plan.specs.declared.pricing.Prices.{Prices}
use Rattle.duty_plan.specs.Duties.{IsLawfulPlan, times, worth, price_of}
use Rattle.duty_plan.specs.Values.{cost_of_all, lagrangian_term, barred_for_all, or_zero}
use Rattle.duty_plan.specs.Sums.{total_below}
use Rattle.duty_plan.specs.Rounds.{Round, IsRound, ArePricingRounds, IsBest, IsFirstAt, is_whole, has_none, value_of_round}
use Rattle.duty_plan.specs.Trees.{HasRun, IsRight, IsLimits, EndsEmpty, BeatsDuties}
use Rattle.duty_plan.proofs.OneNode.{closed_root, one_node_of, one_node}
use Rattle.duty_plan.proofs.Sums.{total-same}

-- the numbers below n
abbrev down : ℕ → List ℕ
down zero = []
down (suc n) = n ∷ down n

worth-down : (f : ℕ → ℕ) (n : ℕ) → worth f (down n) ≡ total_below f n
worth-down f zero = refl
worth-down f (suc n) = omega (arith, worth-down f n)

times-past : (o n : ℕ) → n ≤ o → times o (down n) ≡ 0
times-past o zero l = refl
times-past o (suc n) l =
    let e : eqb o n ≡ false = grind (arith, nat_tests) in rw e (omega (arith, times-past o n (omega arith)))

times-step : (o n : ℕ) (b : Bool) → eqb o n ≡ b → o < suc n → (o < n → times o (down n) ≡ 1) → times o (down (suc n)) ≡ 1
times-step o n true e l more =
    let same : o ≡ n = grind (arith, nat_tests) in rw e (omega (arith, times-past o n (omega arith)))
times-step o n false e l more = let other : o ≢ n = grind (arith, nat_tests) in rw e (omega (arith, more (omega arith)))

times-down : (o n : ℕ) → o < n → times o (down n) ≡ 1
times-down o zero l = absurd (omega arith)
times-down o (suc n) l = times-step o n (eqb o n) refl l (λ h. times-down o n h)

down-below : (n m : ℕ) → m ≤ n → (k o : ℕ) → slice_get (down m) k ≡ Some o → o < n
down-below n zero l k o h = cc
down-below n (suc m) l zero o h = let same : m ≡ o = cc in omega arith
down-below n (suc m) l (suc k) o h = down-below n m (omega arith) k o h

abbrev start_of_case : Case → Prices
start_of_case case = record { cents = map (λ order. order.price) case.week.orders }

abbrev round_of_case : Case → Round
round_of_case case = record { prices = start_of_case case; answers = [] }

abbrev plan_of_case : Case → Plan
plan_of_case case = record { duties = []; out = down (length case.week.orders) }

lawful : (case : Case) → length case.week.drivers ≡ 0 → IsLawfulPlan case (plan_of_case case)
lawful case none = record {
  duties = sym none;
  lawful = λ k duty h. cc;
  once = λ o l. omega (arith, times-down o (length case.week.orders) l);
  known = down-below (length case.week.orders) (length case.week.orders) (omega arith);
}

value : (case : Case) (pairs : Pairs) → length case.week.drivers ≡ 0 → value_of_round case.week pairs (round_of_case case) ≡ cost_of_all case.week
value case pairs none =
    let lagrangian_terms : total_below (lagrangian_term case.week pairs (start_of_case case)) (length case.week.orders) ≡ cost_of_all case.week =
    total-same _ _ (length case.week.orders) (λ o l. charged o) in
    let whole : (pos (total_below (lagrangian_term case.week pairs (start_of_case case)) (length case.week.orders)) +ℤ pos 0) ≡ pos (cost_of_all case.week) =
    omega (arith, ints) in
    ap or_zero whole
  where
    charged : (o : ℕ) → lagrangian_term case.week pairs (start_of_case case) o ≡ price_of case.week o
    charged o = let all : barred_for_all case.week pairs o ≡ true = rw none refl in rw all refl

abbrev pairs_of_case : Case → Pairs
pairs_of_case case = record { orders = length case.week.orders; cells = [] }

-- how the root begins
abbrev root_start : Case → NodeStart
root_start case = record { pairs = pairs_of_case case; bound = 0; prices = start_of_case case }

best : (case : Case) → length case.week.drivers ≡ 0 →
    IsBest case.week (root_start case) (round_of_case case ∷ []) (cost_of_all case.week) (start_of_case case)
best case none = record {
  above_first = omega arith;
  above = above;
  from = by_cost (cost_of_all case.week) refl;
}
  where
    above : (k : ℕ) (round : Round) → slice_get (round_of_case case ∷ []) k ≡ Some round → is_whole round.answers ≡ true →
        value_of_round case.week (pairs_of_case case) round ≤ cost_of_all case.week
    above zero round h w =
        let same : round_of_case case ≡ round = cc in
        subst (λ (x : Round). value_of_round case.week (pairs_of_case case) x ≤ cost_of_all case.week) same (omega (arith, value case (pairs_of_case case) none))
    above (suc k) round h w = cc

    by_cost : (n : ℕ) → cost_of_all case.week ≡ n →
        ((cost_of_all case.week ≡ 0) × (start_of_case case ≡ start_of_case case)) ⊎
        IsFirstAt case.week (root_start case) (round_of_case case ∷ []) (cost_of_all case.week) (start_of_case case)
    by_cost zero e = inl (e, refl)
    by_cost (suc n) e = inr (record {
      number = 0;
      round = round_of_case case;
      is_round = refl;
      whole = refl;
      value = value case (pairs_of_case case) none;
      prices = refl;
      above_first = omega arith;
      earlier = λ k other l h w. absurd (omega arith);
    })

run : (case : Case) (limits : Limits) (m : ℕ) → IsLimits limits → length case.week.drivers ≡ 0 →
    ArePricingRounds m case limits.rounds (root_start case) (cost_of_all case.week) (cost_of_all case.week) (start_of_case case) (round_of_case case ∷ [])
run case limits m l none = record {
  some = (omega arith, l.rounds.0);
  begins = begins;
  moves = λ k round next h i. cc;
  each = each;
  whole = λ k round s h. absurd (omega arith);
  ends = λ round h w. inr (inl (λ driver order a b. absurd (omega arith)));
  best = best case none;
}
  where
    begins : (round : Round) → slice_get (round_of_case case ∷ []) 0 ≡ Some round → round.prices ≡ start_of_case case
    begins round h = let same : round_of_case case ≡ round = cc in sym (ap (λ (x : Round). x.prices) same)

    each : (k : ℕ) (round : Round) → slice_get (round_of_case case ∷ []) k ≡ Some round →
        IsRound m case (pairs_of_case case) round.prices round.answers
    each zero round h =
        let same : round_of_case case ≡ round = cc in
        subst (λ (x : Round). IsRound m case (pairs_of_case case) x.prices x.answers) same
        (record { drivers = sym none; each = λ j answer i. cc })
    each (suc k) round h = cc

has-run : (case : Case) (limits : Limits) → IsLimits limits → length case.week.drivers ≡ 0 →
    HasRun case limits (cost_of_all case.week) (closed_root (start_of_case case) (cost_of_all case.week) ∷ []) 1
    (closed_root (start_of_case case) (cost_of_all case.week)) (round_of_case case ∷ [])
has-run case limits l none = record {
  start = root_start case;
  begins = record {
    pairs = record { shape = record { orders = refl; cells = cells }; each = λ d o a b. absurd (omega arith) };
    root = λ e. (refl, refl);
    child = λ node is. absurd (omega (arith, is.0));
  };
  run = run case limits _ l none;
}
  where
    cells : 0 ≡ length case.week.drivers * length case.week.orders
    cells = rw none (omega arith)

pub driverless : (case : Case) (limits : Limits) → IsLimits limits → length case.week.drivers ≡ 0 → (outcome : Outcome) × IsRight case limits outcome
driverless case limits l none = (
  one_node_of (plan_of_case case) (start_of_case case) (cost_of_all case.week),
  one_node case limits (plan_of_case case) (start_of_case case) (cost_of_all case.week) (round_of_case case ∷ []) l (lawful case none)
      (omega (arith, worth-down (price_of case.week) (length case.week.orders))) (omega arith) (has-run case limits l none) beats full,
)
  where
    beats : BeatsDuties case (cost_of_all case.week) (round_of_case case ∷ [])
    beats zero driver round v duty h w i =
        let answers : round.answers ≡ [] = let that : round_of_case case ≡ round = cc in sym (ap (λ (x : Round). x.answers) that) in cc
    beats (suc j) driver round v duty h w i = cc

    full : EndsEmpty (round_of_case case ∷ []) → ⊥
    full ends =
        let that : round_of_case case ≡ ends.0 = cc in
        let none_there : has_none ends.0.answers ≡ false = ap (λ (x : Round). has_none x.answers) (sym that) in cc
