-- The plan of chosen bids: what its duties carry, and what they cost.
use Rattle.std.proofs.Common.{◌≡◌, ◌≢◌, ◌⊎◌, inl, inr, ℕ, zero, suc, ◌+◌, ◌<◌, ◌≤◌, Bool, true, false, eqb, List, [], ◌∷◌, ◌++◌, length, take, reverse, get_or, refl, ap, sym, ◌∙◌, subst, arith, add-one, Some, slice_get, bit_and, bit_or}
use Rattle.std.specs.Int.{bit_at}
use Rattle.std.proofs.lemmas.Bool.Decides.{nat_tests}
use Rattle.std.proofs.lemmas.List.{take_all}
use Rattle.std.proofs.lemmas.Nat.Bits.{bit_at_and, bit_at_or, bit_at-lt, bit_at-zero}
use Rattle.std.proofs.lemmas.Option.{slice_get_within, get_or_from_slice_get}
use Rattle.duty_plan.specs.declared.duties.Duty.{Duty}
use Rattle.duty_plan.specs.declared.duties.Step.{Step}
use Rattle.duty_plan.specs.declared.plans.Case.{Case}
use Rattle.duty_plan.specs.declared.plans.Plan.{Plan}
use Rattle.duty_plan.specs.PartialDuties.{serves}
use Rattle.duty_plan.specs.Duties.{EachOf, IsLawful, IsLawfulPlan, carried, cost_after, cost_of_duties, cost_of_plan, orders_of, partial_of, price_of, times, worth}
use Rattle.duty_plan.specs.Sums.{total_below}
use Rattle.duty_plan.specs.Values.{cost_of_all}
use Rattle.duty_plan.proofs.Bits.{served_bits}
use Rattle.duty_plan.proofs.Carrying.{carried-append, served-known, served-once, served-times}
use Rattle.duty_plan.proofs.Lists.{take-more}
use Rattle.duty_plan.proofs.Sums.{share, share-none, share-one, times-append, total-add, total-same, total-share, worth-append}
use Rattle.price_master.specs.declared.bidding.Bid.{Bid}
use Rattle.price_master.specs.declared.pooling.Pooled.{Pooled}
use Rattle.price_master.specs.Pools.{IsAmong, IsEntry, IsPool, IsPooledPlan, IsPooled, are_apart, orders_in}
use Rattle.price_master.specs.Bids.{AreBids, AreBidsOfAll, AreChosen, AreFixed, IsBid, IsFixedNext, bid_by, home}
use Rattle.price_master.specs.Placing.{AreDutiesAt, IsDutyAt}
use Rattle.price_master.specs.Completing.{IsRest}
use Rattle.price_master.proofs.Carried.{get-below}
use Rattle.price_master.proofs.Once.{carried-known, listed-known}
use Rattle.price_master.proofs.Rests.{completed-lawful, empty-lawful}

-- ---- what lawful plans carry and give away is worth what it costs to give all away

pub whole-worth : (case : Case) (plan : Plan) → IsLawfulPlan case plan →
    worth (price_of case.week) (carried plan.duties) + worth (price_of case.week) plan.out ≡ cost_of_all case.week
whole-worth case plan lawful =
    let n = length case.week.orders in
    let price = price_of case.week in
    let one = total-share price n (carried plan.duties)
    (λ o t. carried-known o n plan.duties (λ k duty h s. served-known case.week _ _ o (partial_of duty) (lawful.lawful k duty h).partial.office s) t) in
    let two = total-share price n plan.out (listed-known n plan.out lawful.known) in
    let both : total_below (λ o. share price o (carried plan.duties) + share price o plan.out) n ≡ total_below price n = total-same _ _ n (λ o l. by_times o l (times o (carried plan.duties)) refl) in
    omega (arith, one, two, both, total-add (λ o. share price o (carried plan.duties)) (λ o. share price o plan.out) n)
  where
    by_times : (o : ℕ) → o < length case.week.orders → (t : ℕ) → times o (carried plan.duties) ≡ t →
        share (price_of case.week) o (carried plan.duties) + share (price_of case.week) o plan.out ≡ price_of case.week o
    by_times o l zero e =
        omega (arith, share-none (price_of case.week) o (carried plan.duties) e, share-one (price_of case.week) o plan.out (omega (arith, lawful.once o l)))
    by_times o l (suc t) e =
        omega (
          arith,
          share-one (price_of case.week) o (carried plan.duties) (omega (arith, lawful.once o l)),
          share-none (price_of case.week) o plan.out (omega (arith, lawful.once o l)),
        )

-- ---- one duty

-- what a driver's duty is that a bid stands for: its orders are the bid's, and are worth what it costs and saves
pub record IsBidden (case : Case) (driver : ℕ) (pooled : List Pooled) (duty : Duty) (bid : Bid) : Type 0 where
  pub lawful : IsLawful case driver duty
  pub among : (duty.steps ≡ []) ⊎ IsAmong pooled duty
  pub serves_them : (o : ℕ) → times o (orders_of (partial_of duty)) ≡ bit_at bid.served o
  pub saves : worth (price_of case.week) (orders_of (partial_of duty)) ≡ cost_after case driver (partial_of duty) + bid.saving

empty-bidden : (case : Case) (driver : ℕ) (pooled : List Pooled) (duty : Duty) → duty.steps ≡ [] → IsBidden case driver pooled duty home
empty-bidden case driver pooled duty e = record {
  lawful = empty-lawful case driver duty e;
  among = inl e;
  serves_them = λ o. ap (λ (xs : List Step). times o (orders_of (reverse xs))) e ∙ sym (bit_at-zero o);
  saves = ap (λ (xs : List Step). worth (price_of case.week) (orders_of (reverse xs))) e ∙
      sym (ap (λ (xs : List Step). cost_after case driver (reverse xs) + 0) e);
}

pub bits-of : (case : Case) (driver : ℕ) (duty : Duty) (o : ℕ) → IsLawful case driver duty → times o (orders_of (partial_of duty)) ≡ bit_at (orders_in duty) o
bits-of case driver duty o lawful =
    served-times o duty (serves o (partial_of duty)) (bit_at (orders_in duty) o) refl (served_bits o (partial_of duty))
    (served-once case.week _ _ o (partial_of duty) lawful.partial.office)

entry-bidden : (case : Case) (driver n : ℕ) (pooled : List Pooled) (entry : Pooled) → slice_get pooled n ≡ Some entry → IsEntry case driver entry →
    0 < (bid_by case.week n entry).saving → IsBidden case driver pooled entry.duty (bid_by case.week n entry)
entry-bidden case driver n pooled entry at e saves = record {
  lawful = e.lawful;
  among = inr (n, entry, at, refl);
  serves_them = λ o. bits-of case driver entry.duty o e.lawful;
  saves = omega (arith, e.costs, saves);
}

-- the duty at a bid's place
pub is-bidden : (case : Case) (driver place : ℕ) (pooled : List Pooled) (bids : List Bid) (k : ℕ) (bid : Bid) (duty : Duty) → length pooled ≤ 64 →
    EachOf (λ n entry. IsEntry case driver entry) pooled → AreBids case.week pooled bids → slice_get bids k ≡ Some bid → place ≡ bid.place →
    IsDutyAt pooled place duty → IsBidden case driver pooled duty bid
is-bidden case driver place pooled bids k bid duty few entries a at told d = by_kind (a.each k bid at)
  where
    by_kind : (bid ≡ home) ⊎ IsBid case.week pooled bid → IsBidden case driver pooled duty bid
    by_kind (inl e) =
        let far : place ≡ 4294967295 = told ∙ ap (λ (b : Bid). b.place) e in
        subst (λ (b : Bid). IsBidden case driver pooled duty b) (sym e) (empty-bidden case driver pooled duty (d.past (omega arith)))
    by_kind (inr g) =
        let here : place ≡ g.0 = told ∙ ap (λ (b : Bid). b.place) g.3 in
        let there : slice_get pooled place ≡ Some g.1 = ap (slice_get pooled) here ∙ g.2 in
        let its : 0 < (bid_by case.week g.0 g.1).saving = subst (λ (b : Bid). 0 < b.saving) g.3 g.4 in
        let bidden = entry-bidden case driver g.0 pooled g.1 g.2 (entries g.0 g.1 g.2) its in
        subst (λ (b : Bid). IsBidden case driver pooled duty b) (sym g.3)
        (subst (λ (x : Duty). IsBidden case driver pooled x (bid_by case.week g.0 g.1)) (sym (d.here g.1 there)) bidden)

-- ---- the duties of the first drivers

pub apart-and : (a b : ℕ) → are_apart a b ≡ true → bit_and a b ≡ 0
apart-and a b e = grind (arith, nat_tests)

apart-bits : (a b o : ℕ) → are_apart a b ≡ true → bit_at (bit_or a b) o ≡ bit_at a o + bit_at b o
apart-bits a b o e =
    let none : bit_at (bit_and a b) o ≡ 0 = ap (λ (x : ℕ). bit_at x o) (apart-and a b e) ∙ bit_at-zero o in
    omega (arith, bit_at_or a b o, bit_at_and a b o, none)

cost-push : (case : Case) (n : ℕ) (duties : List Duty) (duty : Duty) →
    cost_of_duties case n (duties ++ duty ∷ []) ≡ cost_of_duties case n duties + cost_after case (n + length duties) (partial_of duty)
cost-push case n [] duty =
    let e : n + 0 ≡ n = omega arith in
    let same : cost_after case (n + 0) (partial_of duty) ≡ cost_after case n (partial_of duty) = ap (λ (m : ℕ). cost_after case m (partial_of duty)) e in
    omega (arith, same)
cost-push case n (first ∷ rest) duty =
    let e : n + 1 + length rest ≡ n + length (first ∷ rest) = omega arith in
    let same : cost_after case (n + 1 + length rest) (partial_of duty) ≡ cost_after case (n + length (first ∷ rest)) (partial_of duty) =
    ap (λ (m : ℕ). cost_after case m (partial_of duty)) e in
    omega (arith, same, cost-push case (n + 1) rest duty)

-- what the duties of the first n drivers come to
pub record ComeTo (case : Case) (duties : List Duty) (served saving : ℕ) : Type 0 where
  pub serves_them : (o : ℕ) → times o (carried duties) ≡ bit_at served o
  pub saves : worth (price_of case.week) (carried duties) ≡ cost_of_duties case 0 duties + saving

come-more : (case : Case) (pooled : List Pooled) (duties : List Duty) (duty : Duty) (bid : Bid) (n before sum served saving : ℕ) → ComeTo case duties before sum →
    length duties ≡ n → IsBidden case n pooled duty bid → are_apart before bid.served ≡ true → served ≡ bit_or before bid.served → saving ≡ sum + bid.saving →
    ComeTo case (duties ++ duty ∷ []) served saving
come-more case pooled duties duty bid n before sum served saving c size b apart s v = record {
  serves_them = λ o.
      let all : times o (carried (duties ++ duty ∷ [])) ≡ times o (carried duties ++ (orders_of (partial_of duty) ++ [])) = ap (times o) (carried-append duties (duty ∷ [])) in
      let bits : bit_at served o ≡ bit_at (bit_or before bid.served) o = ap (λ (x : ℕ). bit_at x o) s in
      omega (
        arith,
        all,
        bits,
        times-append o (carried duties) (orders_of (partial_of duty) ++ []),
        times-append o (orders_of (partial_of duty)) [],
        c.serves_them o,
        b.serves_them o,
        apart-bits before bid.served o apart,
      );
  saves =
      let price = price_of case.week in
      let all : worth price (carried (duties ++ duty ∷ [])) ≡ worth price (carried duties ++ (orders_of (partial_of duty) ++ [])) =
      ap (worth price) (carried-append duties (duty ∷ [])) in
      let at : 0 + length duties ≡ n = omega (arith, size) in
      let cost : cost_after case (0 + length duties) (partial_of duty) ≡ cost_after case n (partial_of duty) = ap (λ (m : ℕ). cost_after case m (partial_of duty)) at in
      omega (
        arith,
        all,
        cost,
        v,
        worth-append price (carried duties) (orders_of (partial_of duty) ++ []),
        worth-append price (orders_of (partial_of duty)) [],
        c.saves,
        b.saves,
        cost-push case 0 duties duty,
      );
}

-- the duty of the last driver that is fixed
next-bidden : (case : Case) (pool : List (List Pooled)) (bids : List (List Bid)) (places : List ℕ) (duties : List Duty) (n before served sum saving : ℕ) (duty : Duty) →
    IsPool case pool → AreBidsOfAll case.week pool bids → AreDutiesAt pool places duties → slice_get duties n ≡ Some duty →
    (next : IsFixedNext bids n (get_or places n 0) before served sum saving) → (pooled : List Pooled) × (slice_get pool n ≡ Some pooled) × IsBidden case n pooled duty next.bid
next-bidden case pool bids places duties n before served sum saving duty is_pool are_bids at there next =
    let found = get-below pool n (omega (arith, slice_get_within duties n duty there, at.drivers)) in (
      found.0,
      found.1,
      is-bidden case n (get_or places n 0) found.0 next.of_driver next.number next.bid duty (is_pool.few n found.0 found.1) (is_pool.entries n found.0 found.1)
          (are_bids.each n found.0 next.of_driver found.1 next.are_bids) next.is_bid next.told (at.each n found.0 duty found.1 there),
    )

pub come-to : (case : Case) (pool : List (List Pooled)) (bids : List (List Bid)) (places : List ℕ) (duties : List Duty) (n served saving : ℕ) →
    IsPool case pool → AreBidsOfAll case.week pool bids → AreDutiesAt pool places duties → n ≤ length duties → AreFixed bids places n served saving →
    ComeTo case (take n duties) served saving
come-to case pool bids places duties zero served saving is_pool are_bids at l f = record {
  serves_them = λ o. sym (ap (λ (x : ℕ). bit_at x o) f.0 ∙ bit_at-zero o);
  saves = omega (arith, f.1);
}
come-to case pool bids places duties (suc n) served saving is_pool are_bids at l f =
    let before = come-to case pool bids places duties n f.0 f.1 is_pool are_bids at (omega arith) f.2 in
    let found = get-below duties n (omega arith) in
    let next = next-bidden case pool bids places duties n f.0 served f.1 saving found.0 is_pool are_bids at found.1 f.3 in
    let read : found.0 ≡ get_or duties n found.0 = sym (get_or_from_slice_get duties n found.0 found.0 found.1) in
    let more : take (suc n) duties ≡ take n duties ++ found.0 ∷ [] = ap (λ (m : ℕ). take m duties) (sym (add-one n)) ∙ take-more duties n found.0 found.0 (omega arith) read in
    let size : length (take n duties) ≡ n = taken duties n (omega arith) in
    subst (λ (xs : List Duty). ComeTo case xs served saving) (sym more)
    (come-more case next.0 (take n duties) found.0 f.3.bid n f.0 f.1 served saving before size next.2 f.3.apart f.3.serves f.3.saves)
  where
    taken : (xs : List Duty) (m : ℕ) → m ≤ length xs → length (take m xs) ≡ m
    taken xs zero h = refl
    taken [] (suc m) h = absurd (omega arith)
    taken (x ∷ xs) (suc m) h = omega (arith, taken xs m (omega arith))

-- each duty of the first n drivers is lawful, and is pooled or empty
pub each-bidden : (case : Case) (pool : List (List Pooled)) (bids : List (List Bid)) (places : List ℕ) (duties : List Duty) (n served saving : ℕ) →
    IsPool case pool → AreBidsOfAll case.week pool bids → AreDutiesAt pool places duties → AreFixed bids places n served saving →
    (driver : ℕ) (duty : Duty) → driver < n → slice_get duties driver ≡ Some duty → IsLawful case driver duty × ((duty.steps ≡ []) ⊎ IsPooled pool driver duty)
each-bidden case pool bids places duties zero served saving is_pool are_bids at f driver duty l there = absurd (omega arith)
each-bidden case pool bids places duties (suc n) served saving is_pool are_bids at f driver duty l there =
    by_end (eqb driver n) refl (λ h. each-bidden case pool bids places duties n f.0 f.1 is_pool are_bids at f.2 driver duty h there)
  where
    among : (d : ℕ) (pooled : List Pooled) → slice_get pool d ≡ Some pooled → (duty.steps ≡ []) ⊎ IsAmong pooled duty → (duty.steps ≡ []) ⊎ IsPooled pool d duty
    among d pooled e (inl g) = inl g
    among d pooled e (inr g) = inr (pooled, e, g)

    by_end : (b : Bool) → eqb driver n ≡ b → (driver < n → IsLawful case driver duty × ((duty.steps ≡ []) ⊎ IsPooled pool driver duty)) →
        IsLawful case driver duty × ((duty.steps ≡ []) ⊎ IsPooled pool driver duty)
    by_end false e more =
        let other : driver ≢ n = grind (arith, nat_tests) in
        more (omega arith)
    by_end true e more =
        let same : driver ≡ n = grind (arith, nat_tests) in
        let mine : slice_get duties n ≡ Some duty = ap (slice_get duties) (sym same) ∙ there in
        let next = next-bidden case pool bids places duties n f.0 served f.1 saving duty is_pool are_bids at mine f.3 in
        subst (λ (d : ℕ). IsLawful case d duty × ((duty.steps ≡ []) ⊎ IsPooled pool d duty)) (sym same)
        (next.2.lawful, among n next.0 next.1 next.2.among)

-- ---- the plan

-- the plan of a choice is pooled, and costs what is saved less than giving all away
pub record IsPlanOf (case : Case) (pool : List (List Pooled)) (plan : Plan) (saving : ℕ) : Type 0 where
  pub pooled : IsPooledPlan case pool plan
  pub costs : cost_of_plan case plan + saving ≡ cost_of_all case.week

pub chosen-plan : (case : Case) (pool : List (List Pooled)) (bids : List (List Bid)) (places : List ℕ) (duties : List Duty) (out : List ℕ) (saving : ℕ) →
    IsPool case pool → AreBidsOfAll case.week pool bids → AreDutiesAt pool places duties → AreChosen bids places saving → IsRest case duties out →
    IsPlanOf case pool (record { duties = duties; out = out }) saving
chosen-plan case pool bids places duties out saving is_pool are_bids at chosen rest =
    let all : length bids ≡ length duties = are_bids.drivers ∙ sym at.drivers in
    let fixed : AreFixed bids places (length duties) chosen.0 saving = subst (λ (n : ℕ). AreFixed bids places n chosen.0 saving) all chosen.1 in
    let part : ComeTo case (take (length duties) duties) chosen.0 saving =
    come-to case pool bids places duties (length duties) chosen.0 saving is_pool are_bids at (omega arith) fixed in
    let come : ComeTo case duties chosen.0 saving = subst (λ (xs : List Duty). ComeTo case xs chosen.0 saving) (take_all (length duties) duties (omega arith)) part in
    let each = each-bidden case pool bids places duties (length duties) chosen.0 saving is_pool are_bids at fixed in
    let lawful : IsLawfulPlan case (record { duties = duties; out = out }) = completed-lawful case duties out (at.drivers ∙ is_pool.drivers)
    (λ driver duty h. (each driver duty (slice_get_within duties driver duty h) h).0)
    (λ o l. omega (arith, come.serves_them o, bit_at-lt chosen.0 o)) rest in record {
      pooled = record { lawful = lawful; pooled = λ driver duty h. (each driver duty (slice_get_within duties driver duty h) h).1 };
      costs = omega (arith, come.saves, whole-worth case (record { duties = duties; out = out }) lawful);
    }
