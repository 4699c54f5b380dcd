-- What a plan's duties carry: an order that a duty serves, once, and one that two serve, twice.
use Rattle.std.proofs.Common.{◌≡◌, ◌≢◌, ◌||◌, ◌⊎◌, inl, inr, ℕ, zero, suc, ◌≤◌, ◌<◌, Bool, true, false, List, [], ◌∷◌, length, refl, ap, ◌∙◌, arith, Some, slice_get}
use Rattle.duty_plan.specs.declared.duties.Act.{Act}
use Rattle.duty_plan.specs.declared.duties.Act.TheVariants.{Leg, Serve, Load}
use Rattle.duty_plan.specs.declared.duties.Duty.{Duty}
use Rattle.duty_plan.specs.PartialDuties.{PartialDuty, serves}
use Rattle.duty_plan.specs.Acts.{serves_order, order_of_act}
use Rattle.duty_plan.specs.Duties.{times, carried, orders_of, partial_of}
use Rattle.duty_plan.proofs.Sums.{times-append}

served_act : (o : ℕ) (act : Act) → serves_order o act ≡ true → times o (order_of_act act) ≡ 1
served_act o (Leg to) h = cc
served_act o (Serve order) h = rw h refl
served_act o Load h = cc

pub or_cases : (a b : Bool) → (a || b) ≡ true → (a ≡ true) ⊎ ((a ≡ false) × (b ≡ true))
or_cases true b h = inl refl
or_cases false b h = inr (refl, h)

-- a partial duty that serves an order carries it
pub served : (o : ℕ) (partial : PartialDuty) → serves o partial ≡ true → 1 ≤ times o (orders_of partial)
served o [] h = cc
served o (step ∷ before) h = by_cases (or_cases _ _ h) (λ b. served o before b)
  where
    by_cases : (serves_order o step.act ≡ true) ⊎ ((serves_order o step.act ≡ false) × (serves o before ≡ true)) →
        (serves o before ≡ true → 1 ≤ times o (orders_of before)) → 1 ≤ times o (orders_of (step ∷ before))
    by_cases (inl g) more = omega (arith, times-append o (order_of_act step.act) (orders_of before), served_act o step.act g)
    by_cases (inr g) more = let m = more g.1 in omega (arith, times-append o (order_of_act step.act) (orders_of before), m)

pub served_by : (o k : ℕ) (duties : List Duty) (duty : Duty) → slice_get duties k ≡ Some duty → serves o (partial_of duty) ≡ true →
    1 ≤ times o (carried duties)
served_by o k [] duty h s = cc
served_by o zero (first ∷ rest) duty h s =
    let same : first ≡ duty = cc in
    let here : serves o (partial_of first) ≡ true = ap (λ (d : Duty). serves o (partial_of d)) same ∙ s in
    omega (arith, times-append o (orders_of (partial_of first)) (carried rest), served o (partial_of first) here)
served_by o (suc k) (first ∷ rest) duty h s =
    omega (arith, times-append o (orders_of (partial_of first)) (carried rest), served_by o k rest duty h s)

-- an order that two drivers' duties serve is carried twice
pub served_twice : (o k j : ℕ) (duties : List Duty) (d e : Duty) → k ≢ j → slice_get duties k ≡ Some d → slice_get duties j ≡ Some e →
    serves o (partial_of d) ≡ true → serves o (partial_of e) ≡ true → 2 ≤ times o (carried duties)
served_twice o k j [] d e n h i s t = cc
served_twice o zero zero (first ∷ rest) d e n h i s t = absurd (n refl)
served_twice o zero (suc j) (first ∷ rest) d e n h i s t =
    let same : first ≡ d = cc in
    let here : serves o (partial_of first) ≡ true = ap (λ (x : Duty). serves o (partial_of x)) same ∙ s in
    omega (arith, times-append o (orders_of (partial_of first)) (carried rest), served o (partial_of first) here, served_by o j rest e i t)
served_twice o (suc k) zero (first ∷ rest) d e n h i s t =
    let same : first ≡ e = cc in
    let here : serves o (partial_of first) ≡ true = ap (λ (x : Duty). serves o (partial_of x)) same ∙ t in
    omega (arith, times-append o (orders_of (partial_of first)) (carried rest), served o (partial_of first) here, served_by o k rest d h s)
served_twice o (suc k) (suc j) (first ∷ rest) d e n h i s t =
    omega (
      arith,
      times-append o (orders_of (partial_of first)) (carried rest),
      served_twice o k j rest d e (λ same. n (ap suc same)) h i s t,
    )

pub get-below : {X : Type 0} (xs : List X) (k : ℕ) → k < length xs → (x : X) × (slice_get xs k ≡ Some x)
get-below [] k l = absurd (omega arith)
get-below (x ∷ xs) zero l = (x, refl)
get-below (x ∷ xs) (suc k) l = get-below xs k (omega arith)
