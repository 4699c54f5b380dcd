-- The choice of one bid alone.
use Rattle.std.proofs.Common.{◌≡◌, ◌≢◌, ◌⊎◌, inl, inr, ℕ, zero, suc, ◌+◌, ◌<◌, ◌≤◌, true, List, length, get_or, set, refl, ap, sym, ◌∙◌, subst, arith, Some, slice_get, bit_or, eqb, get_or-set_other}
use Rattle.std.specs.Int.Bits.{and_zero_l, and_zero_r, or_zero_r}
use Rattle.std.proofs.lemmas.Option.{slice_get_within}
use Rattle.price_master.specs.declared.bidding.Bid.{Bid}
use Rattle.price_master.specs.Pools.{are_apart}
use Rattle.price_master.specs.Bids.{AreChosen, AreFixed, HaveHomes, home}
use Rattle.price_master.proofs.Carried.{get-below}
use Rattle.price_master.proofs.Fixing.{fixed-next}
use Rattle.price_master.proofs.Lookups.{same-or-not}

pub zero-apart : (x : ℕ) → are_apart x 0 ≡ true
zero-apart x = ap (λ (y : ℕ). eqb y 0) (and_zero_r x)

pub apart-zero : (x : ℕ) → are_apart 0 x ≡ true
apart-zero x = ap (λ (y : ℕ). eqb y 0) (and_zero_l x)

-- the drivers after n are given the empty duty
pub homes-on : (bids : List (List Bid)) (places : List ℕ) (n m served saving : ℕ) → HaveHomes bids → AreFixed bids places n served saving → n ≤ m →
    m ≤ length bids → ((j : ℕ) → n ≤ j → j < m → get_or places j 0 ≡ 4294967295) → AreFixed bids places m served saving
homes-on bids places n zero served saving homes f l below all =
    let e : n ≡ zero = omega arith in subst (λ (k : ℕ). AreFixed bids places k served saving) e f
homes-on bids places n (suc m) served saving homes f l below all =
    by_end (same-or-not n (suc m)) (λ h. homes-on bids places n m served saving homes f h (omega arith) (λ j a b. all j a (omega arith)))
  where
    by_end : (n ≡ suc m) ⊎ (n ≢ suc m) → (n ≤ m → AreFixed bids places m served saving) → AreFixed bids places (suc m) served saving
    by_end (inl e) rest = subst (λ (k : ℕ). AreFixed bids places k served saving) e f
    by_end (inr d) rest =
        let more : AreFixed bids places m served saving = rest (omega arith) in
        let found = get-below bids m (omega arith) in
        let its = homes m found.0 found.1 in (
          served,
          saving,
          more,
          record {
            of_driver = found.0;
            bid = home;
            number = its.0;
            are_bids = found.1;
            is_bid = its.1;
            told = all m (omega arith) (omega arith);
            apart = zero-apart served;
            serves = sym (or_zero_r served);
            saves = omega arith;
          },
        )

-- one bid, and the empty duty for the others
pub single-chosen : (bids : List (List Bid)) (places : List ℕ) (driver k : ℕ) (of_driver : List Bid) (bid : Bid) → HaveHomes bids → length bids ≤ length places →
    ((j : ℕ) → j < length bids → get_or places j 0 ≡ 4294967295) → slice_get bids driver ≡ Some of_driver → slice_get of_driver k ≡ Some bid →
    AreChosen bids (set places driver bid.place) bid.saving
single-chosen bids places driver k of_driver bid homes room all at is =
    let inside : driver < length bids = slice_get_within bids driver of_driver at in
    let before : AreFixed bids places driver 0 0 =
    homes-on bids places 0 driver 0 0 homes (refl, refl) (omega arith) (omega arith) (λ j a b. all j (omega arith)) in
    let here = fixed-next bids places driver 0 0 k of_driver bid before at is (apart-zero bid.served) (omega arith) in
    let after = homes-on bids (set places driver bid.place) (driver + 1) (length bids) (bit_or 0 bid.served) (0 + bid.saving) homes here (omega arith) (omega arith)
    (λ j a b. get_or-set_other places driver j bid.place 0 (λ e. absurd (omega arith)) ∙ all j b) in
    let sum : 0 + bid.saving ≡ bid.saving = omega arith in
    subst (λ (s : ℕ). AreChosen bids (set places driver bid.place) s) sum (bit_or 0 bid.served, after)

-- the empty duty for all
pub homes-fixed : (bids : List (List Bid)) (places : List ℕ) → HaveHomes bids → ((j : ℕ) → j < length bids → get_or places j 0 ≡ 4294967295) →
    AreFixed bids places (length bids) 0 0
homes-fixed bids places homes all = homes-on bids places 0 (length bids) 0 0 homes (refl, refl) (omega arith) (omega arith) (λ j a b. all j b)

pub homes-chosen : (bids : List (List Bid)) (places : List ℕ) → HaveHomes bids → ((j : ℕ) → j < length bids → get_or places j 0 ≡ 4294967295) →
    AreChosen bids places 0
homes-chosen bids places homes all = (0, homes-fixed bids places homes all)

-- the better of two choices is one of them
pub chosen-either : (bids : List (List Bid)) (p q r : List ℕ) (s t u : ℕ) → ((u ≡ s) × (r ≡ p)) ⊎ ((u ≡ t) × (r ≡ q)) → AreChosen bids p s → AreChosen bids q t →
    AreChosen bids r u
chosen-either bids p q r s t u (inl e) a b =
    subst (λ (x : List ℕ). AreChosen bids x u) (sym e.1) (subst (λ (n : ℕ). AreChosen bids p n) (sym e.0) a)
chosen-either bids p q r s t u (inr e) a b =
    subst (λ (x : List ℕ). AreChosen bids x u) (sym e.1) (subst (λ (n : ℕ). AreChosen bids q n) (sym e.0) b)
