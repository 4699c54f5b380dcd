-- How many turns it takes to take listed bids: at most one for each way to give each driver a bid.
use Rattle.std.proofs.Common.{◌≡◌, ◌≢◌, ◌⊎◌, inl, inr, ℕ, zero, suc, ◌+◌, ◌-◌, ◌≤◌, Bool, true, false, cond, eqb, nat_lt, List, [], ◌∷◌, drop, get_or, refl, ap, sym, ◌∙◌, arith, Some, slice_get, bit_or}
use Rattle.std.proofs.lemmas.Bool.Decides.{nat_tests}
use Rattle.std.specs.Int.Bits.{or_zero_r}
use Rattle.std.specs.List.{sum_by}
use Rattle.std.proofs.lemmas.List.Sums.{sum_by-cons, sum_by-le-sum_by}
use Rattle.price_master.proofs.Lookups.{begins}
use Rattle.price_master.specs.declared.bidding.Bid.{Bid}
use Rattle.price_master.specs.declared.alike.ClassBid.{ClassBid}
use Rattle.price_master.specs.Pools.{are_apart}
use Rattle.price_master.specs.Bids.{HaveHomes, home, turns_of}
use Rattle.price_master.specs.Classes.{AreClassBids, can_take, sum_class, sum_saving, taken, tries_of}
use Rattle.price_master.proofs.Free.{flag-off, same-tests, taken-more}
use Rattle.price_master.proofs.Singles.{zero-apart}
use Rattle.price_master.proofs.Taking.{can-make, can-parts, count_in, kinds}
use Rattle.price_master.proofs.Turns.{cond-le}
use Rattle.price_master.proofs.Ways.{less_in, on-yes, ways-more, ways_first, ways_in, ways_on}

-- ---- turns

-- how many are left of each class
less-count : (class c : ℕ) (ds : List ℕ) → 1 ≤ count_in class ds → count_in c (less_in class ds) + cond (eqb class c) 1 0 ≡ count_in c ds
less-count class c [] some = let none : count_in class [] ≡ 0 = refl in absurd (omega (arith, some, none))
less-count class c (d ∷ ds) some = by_test (same-tests d class) (λ more. less-count class c ds more)
  where
    by_test : ((eqb d class ≡ true) × (d ≡ class)) ⊎ ((eqb d class ≡ false) × (d ≢ class)) →
        (1 ≤ count_in class ds → count_in c (less_in class ds) + cond (eqb class c) 1 0 ≡ count_in c ds) →
        count_in c (less_in class (d ∷ ds)) + cond (eqb class c) 1 0 ≡ count_in c (d ∷ ds)
    by_test (inl e) rest =
        let less : count_in c (less_in class (d ∷ ds)) ≡ count_in c ds = ap (λ (b : Bool). count_in c (cond b ds (d ∷ less_in class ds))) e.0 in
        let same : cond (eqb d c) 1 0 ≡ cond {A = ℕ} (eqb class c) 1 0 = ap (λ (k : ℕ). cond (eqb k c) 1 0) e.1 in
        let first : count_in c (d ∷ ds) ≡ cond (eqb d c) 1 0 + count_in c ds = refl in
        omega (arith, less, same, first)
    by_test (inr e) rest =
        let less : count_in c (less_in class (d ∷ ds)) ≡ cond (eqb d c) 1 0 + count_in c (less_in class ds) =
        ap (λ (b : Bool). count_in c (cond b ds (d ∷ less_in class ds))) e.0 in
        let first : count_in c (d ∷ ds) ≡ cond (eqb d c) 1 0 + count_in c ds = refl in
        let its : count_in class (d ∷ ds) ≡ cond (eqb d class) 1 0 + count_in class ds = refl in
        omega (arith, less, first, rest (omega (arith, some, its, flag-off (eqb d class) e.0)))

flag-le : (b : Bool) → cond b 1 0 ≤ 1
flag-le true = omega arith
flag-le false = omega arith

tries-few : (list : List ClassBid) (free : ℕ → ℕ) (ds : List ℕ) (served : ℕ) → ((c : ℕ) → free c ≤ count_in c ds) → 1 + tries_of list free served ≤ ways_in list ds served
tries-few [] free ds served low = no_bids ds
  where
    no_bids : (ds : List ℕ) → 1 ≤ ways_in [] ds served
    no_bids [] = let one : ways_in [] [] served ≡ 1 = refl in omega (arith, one)
    no_bids (d ∷ ds) = let more : ways_in [] (d ∷ ds) served ≡ ways_in [] ds served + 0 = refl in omega (arith, no_bids ds, more)
tries-few (x ∷ rest) free ds served low =
    by_can (can_take free served x) refl (tries-few rest free ds served low)
    (λ few. tries-few rest (taken free x.class) (less_in x.class ds) (bit_or served x.bid.served) few)
  where
    by_can : (t : Bool) → can_take free served x ≡ t → 1 + tries_of rest free served ≤ ways_in rest ds served →
        (((c : ℕ) → taken free x.class c ≤ count_in c (less_in x.class ds)) →
        1 + tries_of rest (taken free x.class) (bit_or served x.bid.served) ≤ ways_in rest (less_in x.class ds) (bit_or served x.bid.served)) →
        1 + tries_of (x ∷ rest) free served ≤ ways_in (x ∷ rest) ds served
    by_can false e skip take =
        let same : tries_of (x ∷ rest) free served ≡ tries_of rest free served + 0 =
        ap (λ (b : Bool). tries_of rest free served + cond b (1 + tries_of rest (taken free x.class) (bit_or served x.bid.served)) 0) e in
        omega (arith, same, skip, ways-more x rest ds served)
    by_can true e skip take =
        let parts = can-parts free served x e in
        let some : 1 ≤ count_in x.class ds = omega (arith, parts.0, low x.class) in
        let sum : tries_of (x ∷ rest) free served ≡ tries_of rest free served + (1 + tries_of rest (taken free x.class) (bit_or served x.bid.served)) =
        ap (λ (b : Bool). tries_of rest free served + cond b (1 + tries_of rest (taken free x.class) (bit_or served x.bid.served)) 0) e in
        let not_none : eqb (count_in x.class ds) 0 ≡ false = grind (arith, nat_tests) in
        let first : ways_first x rest ds served ≡ ways_in rest (less_in x.class ds) (bit_or served x.bid.served) =
        ap (λ (b : Bool). cond b 0 (ways_on rest (less_in x.class ds) served x.bid.served)) not_none ∙ on-yes rest (less_in x.class ds) served x.bid.served parts.1 in
        omega (arith, sum, first, skip, take (left some), ways-more x rest ds served)
      where
        left : 1 ≤ count_in x.class ds → (c : ℕ) → taken free x.class c ≤ count_in c (less_in x.class ds)
        left some c = by_test (same-tests c x.class)
          where
            by_test : ((eqb c x.class ≡ true) × (c ≡ x.class)) ⊎ ((eqb c x.class ≡ false) × (c ≢ x.class)) → taken free x.class c ≤ count_in c (less_in x.class ds)
            by_test (inl s) =
                let its : taken free x.class c ≡ free c - 1 = ap (λ (b : Bool). cond b (free c - 1) (free c)) s.0 in
                let one : cond {A = ℕ} (eqb x.class c) 1 0 ≤ 1 = flag-le (eqb x.class c) in
                omega (arith, its, one, low c, less-count x.class c ds some)
            by_test (inr s) =
                let its : taken free x.class c ≡ free c = ap (λ (b : Bool). cond b (free c - 1) (free c)) s.0 in
                let differs : x.class ≢ c = λ z. s.1 (sym z) in
                let no : eqb x.class c ≡ false = grind (arith, nat_tests) in
                omega (arith, its, flag-off (eqb x.class c) no, low c, less-count x.class c ds some)

-- the bids that save anything, and the empty one, are among a driver's
saving-one : (b : Bool) (n : ℕ) → cond b n 0 ≤ n
saving-one true n = omega arith
saving-one false n = omega arith

saving-all : (f : ℕ → ℕ) (bids : List Bid) → sum_saving f bids ≤ sum_by (λ bid. f bid.served) bids
saving-all f bids = sum_by-le-sum_by (λ (b : Bid). cond (nat_lt 0 b.saving) (f b.served) 0) (λ (b : Bid). f b.served) bids (λ b. saving-one (nat_lt 0 b.saving) (f b.served))

saving-home : (f : ℕ → ℕ) (bids : List Bid) (k : ℕ) → slice_get bids k ≡ Some home → sum_saving f bids + f 0 ≤ sum_by (λ bid. f bid.served) bids
saving-home f [] k at = cc
saving-home f (bid ∷ rest) zero at =
    let same : bid ≡ home = cc in
    omega (
      arith,
      sum_by-cons (λ (b : Bid). cond (nat_lt 0 b.saving) (f b.served) 0) bid rest,
      sum_by-cons (λ (b : Bid). f b.served) bid rest,
      ap (λ (b : Bid). cond {A = ℕ} (nat_lt 0 b.saving) (f b.served) 0) same,
      ap (λ (b : Bid). f b.served) same,
      saving-all f rest,
    )
saving-home f (bid ∷ rest) (suc k) at =
    omega (
      arith,
      sum_by-cons (λ (b : Bid). cond (nat_lt 0 b.saving) (f b.served) 0) bid rest,
      sum_by-cons (λ (b : Bid). f b.served) bid rest,
      saving-one (nat_lt 0 bid.saving) (f bid.served),
      saving-home f rest k at,
    )

ways-turns : (bids : List (List Bid)) (classes : List ℕ) (list : List ClassBid) → AreClassBids bids classes list → HaveHomes bids →
    (rest : List (List Bid)) (d : ℕ) → rest ≡ drop d bids → (served : ℕ) → ways_in list (kinds classes d rest) served ≤ 1 + turns_of rest served
ways-turns bids classes list a homes [] d e served = let one : ways_in list (kinds classes d []) served ≡ 1 = refl in omega (arith, one)
ways-turns bids classes list a homes (mine ∷ rest) d e served =
    let parts = begins bids d mine rest e in
    let its = homes d mine parts.0 in
    on parts.0 its.0 its.1 (λ s. ways-turns bids classes list a homes rest (d + 1) parts.1 s)
  where
    ds : List ℕ
    ds = kinds classes (d + 1) rest

    on : slice_get bids d ≡ Some mine → (k : ℕ) → slice_get mine k ≡ Some home → ((s : ℕ) → ways_in list ds s ≤ 1 + turns_of rest s) →
        ways_in list (kinds classes d (mine ∷ rest)) served ≤ 1 + turns_of (mine ∷ rest) served
    on there k at more =
        let whole : ways_in list (kinds classes d (mine ∷ rest)) served ≡ ways_in list ds served + sum_class (ways_on list ds served) (get_or classes d 0) list = refl in
        let empty : ways_on list ds served 0 ≡ ways_in list ds served = on-yes list ds served 0 (zero-apart served) ∙ ap (ways_in list ds) (or_zero_r served) in
        let turns : turns_of (mine ∷ rest) served ≡ sum_by (λ (b : Bid). cond (are_apart served b.served) (1 + turns_of rest (bit_or served b.served)) 0) mine = refl in
        let each : sum_by (λ (b : Bid). ways_on list ds served b.served) mine ≤
        sum_by (λ (b : Bid). cond (are_apart served b.served) (1 + turns_of rest (bit_or served b.served)) 0) mine =
        sum_by-le-sum_by (λ (b : Bid). ways_on list ds served b.served) (λ (b : Bid). cond (are_apart served b.served) (1 + turns_of rest (bit_or served b.served)) 0) mine
        (λ b. cond-le (are_apart served b.served) (ways_in list ds (bit_or served b.served)) (1 + turns_of rest (bit_or served b.served)) (more (bit_or served b.served))) in
        omega (arith, whole, empty, turns, each, a.few (ways_on list ds served) d mine there, saving-home (ways_on list ds served) mine k at)

pub tries-turns : (bids : List (List Bid)) (classes : List ℕ) (list : List ClassBid) (free : ℕ → ℕ) → AreClassBids bids classes list → HaveHomes bids →
    ((c : ℕ) → free c ≤ count_in c (kinds classes 0 bids)) → tries_of list free 0 ≤ turns_of bids 0
tries-turns bids classes list free a homes low =
    omega (arith, tries-few list free (kinds classes 0 bids) 0 low, ways-turns bids classes list a homes bids 0 refl 0)

-- fewer turns where fewer drivers are free
pub tries-less : (list : List ClassBid) (f g : ℕ → ℕ) (served : ℕ) → ((c : ℕ) → f c ≤ g c) → tries_of list f served ≤ tries_of list g served
tries-less [] f g served low = omega arith
tries-less (x ∷ rest) f g served low =
    by_can (can_take f served x) refl (tries-less rest f g served low)
    (tries-less rest (taken f x.class) (taken g x.class) (bit_or served x.bid.served) (taken-more f g x.class low))
  where
    by_can : (t : Bool) → can_take f served x ≡ t → tries_of rest f served ≤ tries_of rest g served →
        tries_of rest (taken f x.class) (bit_or served x.bid.served) ≤ tries_of rest (taken g x.class) (bit_or served x.bid.served) →
        tries_of (x ∷ rest) f served ≤ tries_of (x ∷ rest) g served
    by_can false e skip take =
        let none : tries_of (x ∷ rest) f served ≡ tries_of rest f served + 0 =
        ap (λ (b : Bool). tries_of rest f served + cond b (1 + tries_of rest (taken f x.class) (bit_or served x.bid.served)) 0) e in
        let whole : tries_of (x ∷ rest) g served ≡
        tries_of rest g served + cond (can_take g served x) (1 + tries_of rest (taken g x.class) (bit_or served x.bid.served)) 0 = refl in
        omega (arith, none, whole, skip)
    by_can true e skip take =
        let parts = can-parts f served x e in
        let can = can-make g served x (omega (arith, parts.0, low x.class)) parts.1 in
        let mine : tries_of (x ∷ rest) f served ≡ tries_of rest f served + (1 + tries_of rest (taken f x.class) (bit_or served x.bid.served)) =
        ap (λ (b : Bool). tries_of rest f served + cond b (1 + tries_of rest (taken f x.class) (bit_or served x.bid.served)) 0) e in
        let its : tries_of (x ∷ rest) g served ≡ tries_of rest g served + (1 + tries_of rest (taken g x.class) (bit_or served x.bid.served)) =
        ap (λ (b : Bool). tries_of rest g served + cond b (1 + tries_of rest (taken g x.class) (bit_or served x.bid.served)) 0) can in
        omega (arith, mine, its, skip, take)
