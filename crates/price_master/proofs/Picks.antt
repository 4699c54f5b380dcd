-- What is picked: a plan of least cost, or one that no plan of a single pooled duty beats.
use Rattle.std.proofs.Common.{◌≡◌, ℕ, zero, suc, ◌+◌, ◌<◌, ◌≤◌, Bool, true, false, cond, List, length, refl, ap, sym, subst, arith, Some, slice_get}
use Rattle.duty_plan.specs.declared.duties.Duty.{Duty}
use Rattle.duty_plan.specs.declared.plans.Case.{Case}
use Rattle.duty_plan.specs.declared.plans.Plan.{Plan}
use Rattle.duty_plan.specs.PartialDuties.{serves}
use Rattle.duty_plan.specs.Duties.{cost_after, cost_of_plan, orders_of, partial_of, price_of, worth}
use Rattle.duty_plan.specs.Sums.{total_below}
use Rattle.duty_plan.specs.Trees.{IsSingleDutyPlan}
use Rattle.duty_plan.specs.Values.{cost_of_all}
use Rattle.duty_plan.proofs.Sums.{total-add, total-same}
use Rattle.price_master.specs.declared.bidding.Bid.{Bid}
use Rattle.price_master.specs.declared.pooling.Pooled.{Pooled}
use Rattle.price_master.specs.Pools.{IsCutPlan, IsLeastPooled, IsPool, IsPooled}
use Rattle.price_master.specs.Bids.{AreBidsOfAll, AreChosen, CanSave, IsMostOf, bid_by, turns_of}
use Rattle.price_master.specs.Placing.{AreDutiesAt}
use Rattle.price_master.specs.Completing.{IsRest}
use Rattle.price_master.proofs.Carried.{get-below}
use Rattle.price_master.proofs.Chosen.{IsPlanOf, chosen-plan}
use Rattle.price_master.proofs.DriverBids.{worth-right}
use Rattle.price_master.proofs.Lone.{costs_alone}
use Rattle.price_master.proofs.Others.{no-cheaper}
use Rattle.price_master.proofs.Turns.{turns-all_ways}
use Rattle.std.proofs.lemmas.Option.{slice_get_within}

-- the bids as a list and as a slice
pub bids-seen : (case : Case) (pool : List (List Pooled)) (bids seen : List (List Bid)) → AreBidsOfAll case.week pool bids → seen ≡ bids → AreBidsOfAll case.week pool seen
bids-seen case pool bids seen a e = subst (λ (x : List (List Bid)). AreBidsOfAll case.week pool x) (sym e) a

pub plan-of : (case : Case) (pool : List (List Pooled)) (bids : List (List Bid)) (places : List ℕ) (plan : Plan) (saving : ℕ) →
    IsPool case pool → AreBidsOfAll case.week pool bids → AreChosen bids places saving → AreDutiesAt pool places plan.duties → IsRest case plan.duties plan.out →
    IsPlanOf case pool plan saving
plan-of case pool bids places plan saving is_pool are_bids chosen at rest = chosen-plan case pool bids places plan.duties plan.out saving is_pool are_bids at chosen rest

pub least-pooled : (case : Case) (pool : List (List Pooled)) (bids : List (List Bid)) (plan : Plan) (saving cost : ℕ) → IsPool case pool →
    AreBidsOfAll case.week pool bids → IsPlanOf case pool plan saving → cost ≡ cost_of_plan case plan → ((more : ℕ) → CanSave bids 0 more → more ≤ saving) →
    IsLeastPooled case pool plan cost
least-pooled case pool bids plan saving cost is_pool are_bids p e most = record {
  pooled = p.pooled;
  costs = sym e;
  least = λ other po. omega (arith, no-cheaper case pool bids saving other is_pool are_bids po most, p.costs, e);
}

-- a plan of one duty, and what the duty's orders are worth
lone-worth : (case : Case) (driver : ℕ) (duty : Duty) (plan : Plan) → IsSingleDutyPlan case driver duty plan →
    cost_of_plan case plan + worth (price_of case.week) (orders_of (partial_of duty)) ≡ cost_of_all case.week + cost_after case driver (partial_of duty)
lone-worth case driver duty plan lone =
    let n = length case.week.orders in
    let out = λ (o : ℕ). cond (serves o (partial_of duty)) 0 (price_of case.week o) in
    let carried_worth = λ (o : ℕ). cond (serves o (partial_of duty)) (price_of case.week o) 0 in
    let parts : total_below (λ o. out o + carried_worth o) n ≡ cost_of_all case.week = total-same _ _ n (λ o l. by_served (serves o (partial_of duty)) (price_of case.week o)) in
    omega (
      arith,
      parts,
      total-add out carried_worth n,
      costs_alone case driver duty plan lone,
      worth-right case driver duty (lone.lawful.lawful driver duty lone.given),
    )
  where
    by_served : (b : Bool) (price : ℕ) → cond b 0 price + cond b price 0 ≡ price
    by_served true price = omega arith
    by_served false price = omega arith

-- no single pooled duty saves more
single-low : (case : Case) (pool : List (List Pooled)) (bids : List (List Bid)) (saving driver : ℕ) (duty : Duty) → IsPool case pool → AreBidsOfAll case.week pool bids →
    ((d : ℕ) (of_driver : List Bid) → slice_get bids d ≡ Some of_driver → IsMostOf of_driver saving) → IsPooled pool driver duty →
    worth (price_of case.week) (orders_of (partial_of duty)) ≤ cost_after case driver (partial_of duty) + saving
single-low case pool bids saving driver duty is_pool are_bids most (pooled, at, (n, entry, there, same)) =
    let found = get-below bids driver (omega (arith, slice_get_within pool driver pooled at, are_bids.drivers)) in
    let a = are_bids.each driver pooled found.0 at found.1 in
    let costs = (is_pool.entries driver pooled at n entry there).costs in
    let cost : cost_after case driver (partial_of entry.duty) ≡ cost_after case driver (partial_of duty) = ap (λ (x : Duty). cost_after case driver (partial_of x)) same in
    let value : worth (price_of case.week) (orders_of (partial_of entry.duty)) ≡ worth (price_of case.week) (orders_of (partial_of duty)) =
    ap (λ (x : Duty). worth (price_of case.week) (orders_of (partial_of x))) same in
    by_saving ((bid_by case.week n entry).saving) refl costs cost value
    (λ some. let its = a.all n entry there some in most driver found.0 found.1 its.0 (bid_by case.week n entry) its.1)
  where
    by_saving : (t : ℕ) → (bid_by case.week n entry).saving ≡ t → entry.cost ≡ cost_after case driver (partial_of entry.duty) →
        cost_after case driver (partial_of entry.duty) ≡ cost_after case driver (partial_of duty) →
        worth (price_of case.week) (orders_of (partial_of entry.duty)) ≡ worth (price_of case.week) (orders_of (partial_of duty)) →
        (0 < (bid_by case.week n entry).saving → (bid_by case.week n entry).saving ≤ saving) →
        worth (price_of case.week) (orders_of (partial_of duty)) ≤ cost_after case driver (partial_of duty) + saving
    by_saving zero e costs cost value low = omega (arith, e, costs, cost, value)
    by_saving (suc t) e costs cost value low = let under = low (omega (arith, e)) in omega (arith, e, costs, cost, value, under)

pub cut-plan : (case : Case) (pool : List (List Pooled)) (bids : List (List Bid)) (plan : Plan) (saving cost : ℕ) → IsPool case pool →
    AreBidsOfAll case.week pool bids → IsPlanOf case pool plan saving → cost ≡ cost_of_plan case plan →
    ((d : ℕ) (of_driver : List Bid) → slice_get bids d ≡ Some of_driver → IsMostOf of_driver saving) → 20000 ≤ turns_of bids 0 → IsCutPlan case pool plan cost
cut-plan case pool bids plan saving cost is_pool are_bids p e most long = record {
  pooled = p.pooled;
  costs = sym e;
  cheap = omega (arith, p.costs, e);
  beats = λ driver duty pooled other lone.
      omega (arith, lone-worth case driver duty other lone, single-low case pool bids saving driver duty is_pool are_bids most pooled, p.costs, e);
  long = omega (arith, long, turns-all_ways case.week pool bids are_bids);
}

-- each driver has its bids
pub bids-below : (case : Case) (pool : List (List Pooled)) (bids : List (List Bid)) (driver : ℕ) (of_driver : List Bid) → AreBidsOfAll case.week pool bids →
    slice_get bids driver ≡ Some of_driver → (pooled : List Pooled) × (slice_get pool driver ≡ Some pooled)
bids-below case pool bids driver of_driver a at = get-below pool driver (omega (arith, slice_get_within bids driver of_driver at, a.drivers))
