-- The bids of a driver, one duty after another.
use Rattle.std.proofs.Common.{◌≡◌, ◌⊎◌, inl, inr, ℕ, zero, suc, ◌+◌, ◌-◌, ◌^◌, ◌<◌, ◌≤◌, Bool, true, false, cond, List, [], ◌∷◌, ◌++◌, length, take, refl, ap, sym, ◌∙◌, subst, arith, Some, slice_get}
use Rattle.std.specs.Int.{bit_at}
use Rattle.std.specs.List.{sum_by}
use Rattle.std.proofs.lemmas.List.Sums.{sum_by_push, sum_by_more, sum_by-take-le}
use Rattle.std.proofs.lemmas.Nat.Bits.{bit_at_or, bit_at-zero, bit_at-pow_other, same_from_bits}
use Rattle.std.proofs.lemmas.Option.{slice_get_within, get_or_from_slice_get}
use Rattle.week_book.specs.declared.weeks.Week.{Week}
use Rattle.duty_plan.specs.declared.plans.Case.{Case}
use Rattle.duty_plan.specs.declared.duties.Duty.{Duty}
use Rattle.duty_plan.specs.PartialDuties.{serves}
use Rattle.duty_plan.specs.Duties.{IsLawful, orders_of, partial_of, price_of, times, worth}
use Rattle.duty_plan.specs.Labels.{bits_below, served_after}
use Rattle.duty_plan.specs.Sums.{total_below}
use Rattle.duty_plan.proofs.Bits.{served_bits, test_bits}
use Rattle.duty_plan.proofs.Carrying.{is-served, served-known, served-once, unserved}
use Rattle.duty_plan.proofs.Sums.{share, share-none, share-one, total-same, total-share}
use Rattle.price_master.specs.declared.bidding.Bid.{Bid}
use Rattle.price_master.specs.declared.pooling.Pooled.{Pooled}
use Rattle.price_master.specs.Pools.{orders_in}
use Rattle.price_master.specs.Bids.{AreBids, IsBid, IsIn, bid_by, home}
use Rattle.price_master.proofs.Lookups.{EarlierOrLast, get-before, last-there, same-or-not, split}

-- ---- what a duty bids

-- no bit past the last test
bits-past : (test : ℕ → Bool) (n k : ℕ) → n ≤ k → bit_at (bits_below test n) k ≡ 0
bits-past test zero k l = bit_at-zero k
bits-past test (suc n) k l =
    bit_at_or (bits_below test n) (cond (test n) (2 ^ n) 0) k ∙ omega (arith, bits-past test n k (omega arith), here (test n))
  where
    here : (b : Bool) → bit_at (cond b (2 ^ n) 0) k ≡ 0
    here true = bit_at-pow_other n k (λ e. absurd (omega arith))
    here false = bit_at-zero k

-- the tested orders are those that a lawful duty serves
pub bits-right : (case : Case) (driver : ℕ) (duty : Duty) → IsLawful case driver duty →
    bits_below (λ o. serves o (partial_of duty)) (length case.week.orders) ≡ served_after (partial_of duty)
bits-right case driver duty lawful =
    same_from_bits _ _ (λ o. by_order o (same-or-more o))
  where
    same-or-more : (o : ℕ) → (o < length case.week.orders) ⊎ (length case.week.orders ≤ o)
    same-or-more o = below o (length case.week.orders)
      where
        below : (a b : ℕ) → (a < b) ⊎ (b ≤ a)
        below a zero = inr (omega arith)
        below zero (suc b) = inl (omega arith)
        below (suc a) (suc b) = by_rest (below a b)
          where
            by_rest : (a < b) ⊎ (b ≤ a) → (suc a < suc b) ⊎ (suc b ≤ suc a)
            by_rest (inl g) = inl (omega arith)
            by_rest (inr g) = inr (omega arith)

    idle : (o : ℕ) → length case.week.orders ≤ o → (b : Bool) → serves o (partial_of duty) ≡ b → (let z : ℕ = cond b 1 0 in z ≡ 0)
    idle o l false e = refl
    idle o l true e =
        let some : 1 ≤ times o (orders_of (partial_of duty)) = is-served o (partial_of duty) e in
        let known : o < length case.week.orders = served-known case.week _ _ o (partial_of duty) lawful.partial.office (λ z. absurd (omega arith)) in
        absurd (omega arith)

    by_order : (o : ℕ) → (o < length case.week.orders) ⊎ (length case.week.orders ≤ o) →
        bit_at (bits_below (λ p. serves p (partial_of duty)) (length case.week.orders)) o ≡ bit_at (served_after (partial_of duty)) o
    by_order o (inl l) = test_bits (λ p. serves p (partial_of duty)) (length case.week.orders) o l ∙ sym (served_bits o (partial_of duty))
    by_order o (inr l) =
        bits-past (λ p. serves p (partial_of duty)) (length case.week.orders) o l ∙
        sym (served_bits o (partial_of duty) ∙ idle o l (serves o (partial_of duty)) refl)

-- their prices are what the duty's orders are worth
pub worth-right : (case : Case) (driver : ℕ) (duty : Duty) → IsLawful case driver duty →
    total_below (λ o. cond (serves o (partial_of duty)) (price_of case.week o) 0) (length case.week.orders) ≡
    worth (price_of case.week) (orders_of (partial_of duty))
worth-right case driver duty lawful =
    total-same _ _ (length case.week.orders) (λ o l. sym (by_served o (serves o (partial_of duty)) refl)) ∙
    total-share (price_of case.week) (length case.week.orders) (orders_of (partial_of duty))
    (λ o t. served-known case.week _ _ o (partial_of duty) lawful.partial.office t)
  where
    by_served : (o : ℕ) (b : Bool) → serves o (partial_of duty) ≡ b →
        share (price_of case.week) o (orders_of (partial_of duty)) ≡ cond (serves o (partial_of duty)) (price_of case.week o) 0
    by_served o false e = rw e (share-none (price_of case.week) o (orders_of (partial_of duty)) (unserved o (partial_of duty) e))
    by_served o true e =
        let one : times o (orders_of (partial_of duty)) ≡ 1 =
        omega (arith, served-once case.week _ _ o (partial_of duty) lawful.partial.office, is-served o (partial_of duty) e) in
        rw e (share-one (price_of case.week) o (orders_of (partial_of duty)) one)

abbrev of_parts : ℕ → ℕ → ℕ → Bid
of_parts place served saving = record { place = place; served = served; saving = saving }

-- what the loop over all orders comes to
pub bid-right : (case : Case) (driver place served worths saving n : ℕ) (entry : Pooled) → IsLawful case driver entry.duty → n ≡ length case.week.orders →
    served ≡ bits_below (λ o. serves o (partial_of entry.duty)) n →
    worths ≡ total_below (λ o. cond (serves o (partial_of entry.duty)) (price_of case.week o) 0) n →
    saving ≡ worths - entry.cost → of_parts place served saving ≡ bid_by case.week place entry
bid-right case driver place served worths saving n entry lawful all bits total e =
    let one : served ≡ orders_in entry.duty = bits ∙ (ap (bits_below (λ o. serves o (partial_of entry.duty))) all ∙ bits-right case driver entry.duty lawful) in
    let sum : worths ≡ worth (price_of case.week) (orders_of (partial_of entry.duty)) =
    total ∙ (ap (total_below (λ o. cond (serves o (partial_of entry.duty)) (price_of case.week o) 0)) all ∙ worth-right case driver entry.duty lawful) in
    let two : saving ≡ worth (price_of case.week) (orders_of (partial_of entry.duty)) - entry.cost = e ∙ ap (λ (x : ℕ). x - entry.cost) sum in
    ap (λ (x : ℕ). of_parts place x saving) one ∙ ap (λ (x : ℕ). of_parts place (orders_in entry.duty) x) two

-- ---- the bids of the first n duties

pub record AreBidsSoFar (week : Week) (pooled : List Pooled) (n : ℕ) (bids : List Bid) : Type 0 where
  pub each : (k : ℕ) (bid : Bid) → slice_get bids k ≡ Some bid → IsBid week pooled bid
  pub all : (m : ℕ) (entry : Pooled) → m < n → slice_get pooled m ≡ Some entry → 0 < (bid_by week m entry).saving → IsIn bids (bid_by week m entry)
  pub few : (f : ℕ → ℕ) → sum_by (λ bid. f bid.served) bids ≤ sum_by (λ entry. f (orders_in entry.duty)) (take n pooled)
  pub small : (k : ℕ) (bid : Bid) → slice_get bids k ≡ Some bid → bid.saving ≤ 1099511627776

entry-more : (g : Pooled → ℕ) (pooled : List Pooled) (n : ℕ) (entry : Pooled) → slice_get pooled n ≡ Some entry →
    sum_by g (take (n + 1) pooled) ≡ sum_by g (take n pooled) + g entry
entry-more g pooled n entry e =
    let l : n < length pooled = slice_get_within pooled n entry e in
    sum_by_more g pooled n entry l ∙ ap (λ (x : Pooled). sum_by g (take n pooled) + g x) (get_or_from_slice_get pooled n entry entry e)

-- a duty that saves nothing
pub bids-skipped : (week : Week) (pooled : List Pooled) (n : ℕ) (bids : List Bid) (entry : Pooled) (bid : Bid) → AreBidsSoFar week pooled n bids →
    slice_get pooled n ≡ Some entry → bid ≡ bid_by week n entry → bid.saving ≤ 0 → AreBidsSoFar week pooled (n + 1) bids
bids-skipped week pooled n bids entry bid a there e none = record {
  each = a.each;
  all = λ m other l at saves. by_place m other l at saves (same-or-not m n);
  few = λ f. omega (arith, a.few f, entry-more (λ x. f (orders_in x.duty)) pooled n entry there);
  small = a.small;
}
  where
    by_place : (m : ℕ) (other : Pooled) → m < n + 1 → slice_get pooled m ≡ Some other → 0 < (bid_by week m other).saving →
        (m ≡ n) ⊎ (m ≡ n → ⊥) → IsIn bids (bid_by week m other)
    by_place m other l at saves (inr d) = a.all m other (omega arith) at saves
    by_place m other l at saves (inl same) =
        let now : slice_get pooled n ≡ Some other = ap (slice_get pooled) (sym same) ∙ at in
        let is : entry ≡ other = cc in
        let its : bid.saving ≡ (bid_by week n entry).saving = ap (λ (b : Bid). b.saving) e in
        let moved : (bid_by week n entry).saving ≡ (bid_by week m other).saving = ap (λ (x : Pooled). (bid_by week n x).saving) is in
        absurd (omega arith)

-- a duty that saves
pub bids-more : (week : Week) (pooled : List Pooled) (n : ℕ) (bids more : List Bid) (entry : Pooled) (bid : Bid) → AreBidsSoFar week pooled n bids →
    slice_get pooled n ≡ Some entry → bid ≡ bid_by week n entry → 0 < bid.saving → bid.saving ≤ 1099511627776 →
    more ≡ bids ++ bid ∷ [] → AreBidsSoFar week pooled (n + 1) more
bids-more week pooled n bids more entry bid a there e saves low is = subst (λ (x : List Bid). AreBidsSoFar week pooled (n + 1) x) (sym is) (record {
  each = λ k other h. each k other (split bids bid other k h);
  all = λ m other below at some. by_place m other below at some (same-or-not m n);
  few = λ f. few f;
  small = λ k other h. small k other (split bids bid other k h);
})
  where
    each : (k : ℕ) (other : Bid) → EarlierOrLast bids bid k other → IsBid week pooled other
    each k other (inl g) = a.each k other g.1
    each k other (inr g) = subst (λ (b : Bid). IsBid week pooled b) g.1 (n, entry, there, e, saves)

    small : (k : ℕ) (other : Bid) → EarlierOrLast bids bid k other → other.saving ≤ 1099511627776
    small k other (inl g) = a.small k other g.1
    small k other (inr g) = subst (λ (b : Bid). b.saving ≤ 1099511627776) g.1 low

    few : (f : ℕ → ℕ) → sum_by (λ b. f b.served) (bids ++ bid ∷ []) ≤ sum_by (λ x. f (orders_in x.duty)) (take (n + 1) pooled)
    few f =
        let its : f bid.served ≡ f (orders_in entry.duty) = ap (λ (b : Bid). f b.served) e in
        omega (arith, a.few f, its, entry-more (λ x. f (orders_in x.duty)) pooled n entry there, sum_by_push (λ b. f b.served) bids bid)

    by_place : (m : ℕ) (other : Pooled) → m < n + 1 → slice_get pooled m ≡ Some other → 0 < (bid_by week m other).saving →
        (m ≡ n) ⊎ (m ≡ n → ⊥) → IsIn (bids ++ bid ∷ []) (bid_by week m other)
    by_place m other below at some (inr d) =
        let old = a.all m other (omega arith) at some in
        (old.0, get-before bids (bid ∷ []) old.0 (slice_get_within bids old.0 (bid_by week m other) old.1) ∙ old.1)
    by_place m other below at some (inl same) =
        let now : slice_get pooled n ≡ Some other = ap (slice_get pooled) (sym same) ∙ at in
        let is : entry ≡ other = cc in
        let its : bid ≡ bid_by week m other = e ∙ (ap (λ (x : Pooled). bid_by week n x) is ∙ ap (λ (x : ℕ). bid_by week x other) (sym same)) in
        (length bids, last-there bids bid ∙ ap (λ (b : Bid). Some b) its)

-- all duties, and the empty one
pub bids-done : (week : Week) (pooled : List Pooled) (n : ℕ) (bids more : List Bid) → AreBidsSoFar week pooled n bids → length pooled ≤ n →
    more ≡ bids ++ home ∷ [] → AreBids week pooled more
bids-done week pooled n bids more a l is = subst (λ (x : List Bid). AreBids week pooled x) (sym is) (record {
  each = λ k bid h. each k bid (split bids home bid k h);
  all = λ m entry at saves.
      let old = a.all m entry (omega (arith, slice_get_within pooled m entry at)) at saves in
      (old.0, get-before bids (home ∷ []) old.0 (slice_get_within bids old.0 (bid_by week m entry) old.1) ∙ old.1);
  has_home = (length bids, last-there bids home);
  few = λ f. omega (
    arith,
    a.few f,
    sum_by_push (λ bid. f bid.served) bids home,
    sum_by-take-le (λ entry. f (orders_in entry.duty)) pooled n,
  );
  small = λ k bid h. small k bid (split bids home bid k h);
})
  where
    each : (k : ℕ) (bid : Bid) → EarlierOrLast bids home k bid → (bid ≡ home) ⊎ IsBid week pooled bid
    each k bid (inl g) = inr (a.each k bid g.1)
    each k bid (inr g) = inl (sym g.1)

    small : (k : ℕ) (bid : Bid) → EarlierOrLast bids home k bid → bid.saving ≤ 1099511627776
    small k bid (inl g) = a.small k bid g.1
    small k bid (inr g) = subst (λ (b : Bid). b.saving ≤ 1099511627776) g.1 (omega arith)
