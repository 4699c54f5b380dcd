-- No pooled plan saves more than the best choice of bids.
use Rattle.std.proofs.Common.{◌≡◌, ◌≢◌, ◌⊎◌, inl, inr, ℕ, zero, suc, ◌+◌, ◌<◌, ◌≤◌, true, eqb, List, [], ◌∷◌, length, reverse, refl, ap, sym, ◌∙◌, subst, arith, Some, slice_get, bit_and, bit_or}
use Rattle.std.specs.Int.{bit_at}
use Rattle.std.specs.Int.Bits.{or_zero_r}
use Rattle.std.proofs.lemmas.Nat.Bits.{bit_at_and, bit_at_or, bit_at-zero, same_from_bits}
use Rattle.duty_plan.specs.declared.duties.Duty.{Duty}
use Rattle.duty_plan.specs.declared.duties.Step.{Step}
use Rattle.duty_plan.specs.declared.plans.Case.{Case}
use Rattle.duty_plan.specs.declared.plans.Plan.{Plan}
use Rattle.duty_plan.specs.Duties.{EachOf, IsLawful, carried, cost_after, cost_of_duties, cost_of_plan, orders_of, partial_of, price_of, times, worth}
use Rattle.duty_plan.specs.Values.{cost_of_all}
use Rattle.duty_plan.proofs.Carrying.{served-known}
use Rattle.duty_plan.proofs.Sums.{times-append, worth-append}
use Rattle.price_master.specs.declared.bidding.Bid.{Bid}
use Rattle.price_master.specs.declared.pooling.Pooled.{Pooled}
use Rattle.price_master.specs.Pools.{IsAmong, IsEntry, IsPool, IsPooledPlan, IsPooled, are_apart, orders_in}
use Rattle.price_master.specs.Bids.{AreBids, AreBidsOfAll, CanSave, bid_by, home}
use Rattle.price_master.proofs.Chosen.{bits-of, whole-worth}
use Rattle.price_master.proofs.Singles.{zero-apart}
use Rattle.price_master.proofs.Once.{carried-known}

-- ---- other plans

-- the drivers from k on: their pooled duties, their bids and their duties in a plan
pub record AreLined (case : Case) (k : ℕ) (pool : List (List Pooled)) (bids : List (List Bid)) (duties : List Duty) : Type 0 where
  pub pools : length pool ≡ length duties
  pub as_many : length bids ≡ length duties
  pub bidden : (d : ℕ) (pooled : List Pooled) (of_driver : List Bid) → slice_get pool d ≡ Some pooled → slice_get bids d ≡ Some of_driver →
      AreBids case.week pooled of_driver
  pub entries : (m d : ℕ) (pooled : List Pooled) → m ≡ k + d → slice_get pool d ≡ Some pooled → EachOf (λ n entry. IsEntry case m entry) pooled
  pub given : (d : ℕ) (pooled : List Pooled) (duty : Duty) → slice_get pool d ≡ Some pooled → slice_get duties d ≡ Some duty →
      (duty.steps ≡ []) ⊎ IsAmong pooled duty
  pub once : (o : ℕ) → times o (carried duties) ≤ 1

-- a choice of bids that saves as much as the duties do
pub record Saves (case : Case) (k : ℕ) (bids : List (List Bid)) (duties : List Duty) (served : ℕ) : Type 0 where
  pub saving : ℕ
  pub can : CanSave bids served saving
  pub worths : worth (price_of case.week) (carried duties) ≤ cost_of_duties case k duties + saving

-- the duties serve none of these orders
abbrev AreNew : List Duty → ℕ → Type 0
AreNew duties served = (o : ℕ) → 1 ≤ times o (carried duties) → bit_at served o ≡ 0

new-apart : (a b : ℕ) → ((o : ℕ) → 1 ≤ bit_at b o → bit_at a o ≡ 0) → are_apart a b ≡ true
new-apart a b new = ap (λ (y : ℕ). eqb y 0) (same_from_bits (bit_and a b) 0 (λ o. by_bit o (bit_at b o) refl))
  where
    by_bit : (o n : ℕ) → bit_at b o ≡ n → bit_at (bit_and a b) o ≡ bit_at 0 o
    by_bit o zero e = omega (arith, bit_at_and a b o, bit_at-zero o)
    by_bit o (suc n) e = omega (arith, bit_at_and a b o, bit_at-zero o, new o (omega arith))

one-bid : (case : Case) (k : ℕ) (of_driver : List Bid) (bids : List (List Bid)) (duty : Duty) (rest : List Duty) (served n : ℕ) (bid : Bid) →
    slice_get of_driver n ≡ Some bid → are_apart served bid.served ≡ true → Saves case (k + 1) bids rest (bit_or served bid.served) →
    worth (price_of case.week) (orders_of (partial_of duty)) ≤ cost_after case k (partial_of duty) + bid.saving →
    Saves case k (of_driver ∷ bids) (duty ∷ rest) served
one-bid case k of_driver bids duty rest served n bid at apart more low = record {
  saving = bid.saving + more.saving;
  can = (n, bid, more.saving, at, apart, refl, more.can);
  worths = omega (arith, low, more.worths, worth-append (price_of case.week) (orders_of (partial_of duty)) (carried rest));
}

tail-lined : (case : Case) (k : ℕ) (pooled : List Pooled) (pool : List (List Pooled)) (of_driver : List Bid) (bids : List (List Bid)) (duty : Duty) (duties : List Duty) →
    AreLined case k (pooled ∷ pool) (of_driver ∷ bids) (duty ∷ duties) → AreLined case (k + 1) pool bids duties
tail-lined case k pooled pool of_driver bids duty duties l = record {
  pools = omega (arith, l.pools);
  as_many = omega (arith, l.as_many);
  bidden = λ d p b h i. l.bidden (suc d) p b h i;
  entries = λ m d p e h. l.entries m (suc d) p (omega arith) h;
  given = λ d p x h i. l.given (suc d) p x h i;
  once = λ o. omega (arith, l.once o, times-append o (orders_of (partial_of duty)) (carried duties));
}

pub plan-saves : (case : Case) (k : ℕ) (pool : List (List Pooled)) (bids : List (List Bid)) (duties : List Duty) (served : ℕ) →
    AreLined case k pool bids duties → AreNew duties served → Saves case k bids duties served
plan-saves case k [] [] [] served l new = record { saving = 0; can = refl; worths = omega arith }
plan-saves case k [] [] (duty ∷ duties) served l new = absurd (omega (arith, l.pools))
plan-saves case k [] (of_driver ∷ bids) [] served l new = absurd (omega (arith, l.as_many))
plan-saves case k [] (of_driver ∷ bids) (duty ∷ duties) served l new = absurd (omega (arith, l.pools))
plan-saves case k (pooled ∷ pool) [] [] served l new = absurd (omega (arith, l.pools))
plan-saves case k (pooled ∷ pool) [] (duty ∷ duties) served l new = absurd (omega (arith, l.as_many))
plan-saves case k (pooled ∷ pool) (of_driver ∷ bids) [] served l new = absurd (omega (arith, l.pools))
plan-saves case k (pooled ∷ pool) (of_driver ∷ bids) (duty ∷ duties) served l new =
    by_kind (λ s n. plan-saves case (k + 1) pool bids duties s (tail-lined case k pooled pool of_driver bids duty duties l) n) (l.given 0 pooled duty refl refl)
  where
    a : AreBids case.week pooled of_driver
    a = l.bidden 0 pooled of_driver refl refl

    new-more : (o : ℕ) → 1 ≤ times o (carried duties) → bit_at served o ≡ 0
    new-more o t = new o (omega (arith, t, times-append o (orders_of (partial_of duty)) (carried duties)))

    new-home : (o : ℕ) → 1 ≤ times o (carried duties) → bit_at (bit_or served 0) o ≡ 0
    new-home o t = ap (λ (x : ℕ). bit_at x o) (or_zero_r served) ∙ new-more o t

    at-home : ((s : ℕ) → AreNew duties s → Saves case (k + 1) bids duties s) →
        worth (price_of case.week) (orders_of (partial_of duty)) ≤ cost_after case k (partial_of duty) + 0 →
        Saves case k (of_driver ∷ bids) (duty ∷ duties) served
    at-home more low =
        one-bid case k of_driver bids duty duties served a.has_home.0 home a.has_home.1 (zero-apart served) (more (bit_or served 0) (λ o t. new-home o t)) low

    by_saving : ((s : ℕ) → AreNew duties s → Saves case (k + 1) bids duties s) → (n : ℕ) (entry : Pooled) → slice_get pooled n ≡ Some entry → entry.duty ≡ duty →
        (t : ℕ) → (bid_by case.week n entry).saving ≡ t → Saves case k (of_driver ∷ bids) (duty ∷ duties) served
    by_saving more n entry at same t e =
        let is : IsEntry case k entry = l.entries k 0 pooled (omega arith) refl n entry at in
        let cost : cost_after case k (partial_of entry.duty) ≡ cost_after case k (partial_of duty) = ap (λ (x : Duty). cost_after case k (partial_of x)) same in
        let value : worth (price_of case.week) (orders_of (partial_of entry.duty)) ≡ worth (price_of case.week) (orders_of (partial_of duty)) =
        ap (λ (x : Duty). worth (price_of case.week) (orders_of (partial_of x))) same in
        let costs = is.costs in
        by_some t e cost value costs (subst (λ (x : Duty). IsLawful case k x) same is.lawful)
      where
        by_some : (t : ℕ) → (bid_by case.week n entry).saving ≡ t → cost_after case k (partial_of entry.duty) ≡ cost_after case k (partial_of duty) →
            worth (price_of case.week) (orders_of (partial_of entry.duty)) ≡ worth (price_of case.week) (orders_of (partial_of duty)) →
            entry.cost ≡ cost_after case k (partial_of entry.duty) → IsLawful case k duty → Saves case k (of_driver ∷ bids) (duty ∷ duties) served
        by_some zero none cost value costs lawful = at-home more (omega (arith, none, cost, value, costs))
        by_some (suc t) some cost value costs lawful =
            let its = a.all n entry at (omega (arith, some)) in
            let bits : (o : ℕ) → bit_at (orders_in entry.duty) o ≡ times o (orders_of (partial_of duty)) =
            λ o. ap (λ (x : Duty). bit_at (orders_in x) o) same ∙ sym (bits-of case k duty o lawful) in
            let apart : are_apart served (orders_in entry.duty) ≡ true = new-apart served (orders_in entry.duty)
            (λ o h. new o (omega (arith, h, bits o, times-append o (orders_of (partial_of duty)) (carried duties)))) in
            let later : AreNew duties (bit_or served (orders_in entry.duty)) = λ o h.
            omega (arith, bit_at_or served (orders_in entry.duty) o, bits o, new-more o h, l.once o, h, times-append o (orders_of (partial_of duty)) (carried duties)) in
            one-bid case k of_driver bids duty duties served its.0 (bid_by case.week n entry) its.1 apart (more (bit_or served (orders_in entry.duty)) later)
            (omega (arith, cost, value, costs, some))

    by_kind : ((s : ℕ) → AreNew duties s → Saves case (k + 1) bids duties s) → (duty.steps ≡ []) ⊎ IsAmong pooled duty → Saves case k (of_driver ∷ bids) (duty ∷ duties) served
    by_kind more (inl e) =
        at-home more (let nothing : worth (price_of case.week) (orders_of (partial_of duty)) ≡ 0 = ap (λ (xs : List Step). worth (price_of case.week) (orders_of (reverse xs))) e in omega arith)
    by_kind more (inr g) = by_saving more g.0 g.1 g.2 g.3 ((bid_by case.week g.0 g.1).saving) refl

-- no pooled plan saves more than can be saved
pub no-cheaper : (case : Case) (pool : List (List Pooled)) (bids : List (List Bid)) (best : ℕ) (plan : Plan) → IsPool case pool → AreBidsOfAll case.week pool bids →
    IsPooledPlan case pool plan → ((saving : ℕ) → CanSave bids 0 saving → saving ≤ best) → cost_of_all case.week ≤ cost_of_plan case plan + best
no-cheaper case pool bids best plan is_pool are_bids pooled most =
    let s = plan-saves case 0 pool bids plan.duties 0 lined (λ o t. bit_at-zero o) in
    omega (arith, s.worths, most s.saving s.can, whole-worth case plan pooled.lawful)
  where
    known : (o : ℕ) → times o (carried plan.duties) ≢ 0 → o < length case.week.orders
    known o t = carried-known o (length case.week.orders) plan.duties
        (λ k duty h s. served-known case.week _ _ o (partial_of duty) (pooled.lawful.lawful k duty h).partial.office s) t

    once : (o n : ℕ) → times o (carried plan.duties) ≡ n → n ≤ 1
    once o zero e = omega arith
    once o (suc n) e = omega (arith, pooled.lawful.once o (known o (λ z. absurd (omega arith))))

    lined : AreLined case 0 pool bids plan.duties
    lined = record {
      pools = is_pool.drivers ∙ sym pooled.lawful.duties;
      as_many = are_bids.drivers ∙ (is_pool.drivers ∙ sym pooled.lawful.duties);
      bidden = λ d p b h i. are_bids.each d p b h i;
      entries = λ m d p e h. let at : slice_get pool m ≡ Some p = ap (slice_get pool) (e ∙ omega arith) ∙ h in is_pool.entries m p at;
      given = λ d p duty h i. by_kind d p duty h (pooled.pooled d duty i);
      once = λ o. once o (times o (carried plan.duties)) refl;
    }
      where
        by_kind : (d : ℕ) (p : List Pooled) (duty : Duty) → slice_get pool d ≡ Some p → (duty.steps ≡ []) ⊎ IsPooled pool d duty →
            (duty.steps ≡ []) ⊎ IsAmong p duty
        by_kind d p duty h (inl e) = inl e
        by_kind d p duty h (inr g) =
            let at = g.1 in
            let same : g.0 ≡ p = cc in
            inr (subst (λ (x : List Pooled). IsAmong x duty) same g.2)
