-- A listed bid, and a driver of its class that has no duty.
use Rattle.std.proofs.Common.{◌≡◌, ◌≢◌, ◌⊎◌, inl, inr, ℕ, zero, suc, ◌+◌, ◌*◌, ◌<◌, ◌≤◌, Bool, true, false, cond, eqb, List, [], ◌∷◌, length, get_or, set, refl, ap, sym, ◌∙◌, subst, arith, Some, slice_get, bit_or}
use Rattle.std.proofs.lemmas.Bool.Decides.{nat_tests}
use Rattle.duty_plan.specs.Sums.{total_below}
use Rattle.duty_plan.proofs.Sums.{total-same}
use Rattle.price_master.specs.declared.bidding.Bid.{Bid}
use Rattle.price_master.specs.declared.alike.ClassBid.{ClassBid}
use Rattle.price_master.specs.Pools.{are_apart}
use Rattle.price_master.specs.Bids.{AreFixed, IsIn}
use Rattle.price_master.specs.Classes.{AreClassBids, AreClasses, CanTake, can_take, free_of, is_home, taken, tries_of}
use Rattle.price_master.specs.Sensible.{AreAllSensible}
use Rattle.price_master.proofs.Free.{flag-on, free-less, free-taken, same-tests}
use Rattle.price_master.proofs.Taking.{can-make, count_in, kinds, take-more}
use Rattle.price_master.proofs.Tries.{tries-less}
use Rattle.price_master.proofs.Turns.{total-first}
use Rattle.price_master.proofs.Placed.{fixed-more}

-- the driver is of the bid's class and has no duty
pub record IsFreeFor (bids : List (List Bid)) (classes places : List ℕ) (driver : ℕ) (one : ClassBid) : Type 0 where
  pub inside : driver < length bids
  pub room : length bids ≤ length places
  pub free : is_home places driver ≡ true
  pub class : get_or classes driver 0 ≡ one.class
  pub away : one.bid.place ≢ 4294967295

-- a listed bid has a place of a duty
pub listed-away : (bids : List (List Bid)) (classes : List ℕ) (list : List ClassBid) (k : ℕ) (one : ClassBid) → AreAllSensible bids → AreClassBids bids classes list →
    slice_get list k ≡ Some one → one.bid.place ≢ 4294967295
listed-away bids classes list k one sensible a at far = on (a.each k one at)
  where
    on : (of_one : List Bid) × (slice_get bids one.class ≡ Some of_one) × (0 < one.bid.saving) × IsIn of_one one.bid → ⊥
    on (of_one, there, some, (n, is)) =
        let empty = (sensible one.class of_one there).empty n one.bid is far in
        let nothing : one.bid.saving ≡ 0 = ap (λ (b : Bid). b.saving) empty in
        absurd (omega (arith, nothing, some))

-- a listed bid saves little enough
pub listed-small : (bids : List (List Bid)) (classes : List ℕ) (list : List ClassBid) → AreAllSensible bids → AreClassBids bids classes list →
    (k : ℕ) (one : ClassBid) → slice_get list k ≡ Some one → one.bid.saving ≤ 1099511627776
listed-small bids classes list sensible a k one at = on (a.each k one at)
  where
    on : (of_one : List Bid) × (slice_get bids one.class ≡ Some of_one) × (0 < one.bid.saving) × IsIn of_one one.bid → one.bid.saving ≤ 1099511627776
    on (of_one, there, some, (n, is)) = (sensible one.class of_one there).small n one.bid is

times-small : (a s : ℕ) → s ≤ 1099511627776 → a * s ≤ a * 1099511627776
times-small zero s l = omega arith
times-small (suc a) s l = omega (arith, times-small a s l)

pub top-small : (a s : ℕ) → a ≤ 16 → s ≤ 1099511627776 → a * s ≤ 17592186044416
top-small a s few l = omega (arith, times-small a s l, few)

home-place : (places : List ℕ) (driver : ℕ) → is_home places driver ≡ true → get_or places driver 0 ≡ 4294967295
home-place places driver e = by_test (same-tests (get_or places driver 0) 4294967295)
  where
    by_test : ((eqb (get_or places driver 0) 4294967295 ≡ true) × (get_or places driver 0 ≡ 4294967295)) ⊎
        ((eqb (get_or places driver 0) 4294967295 ≡ false) × (get_or places driver 0 ≢ 4294967295)) → get_or places driver 0 ≡ 4294967295
    by_test (inl g) = g.1
    by_test (inr g) = let no = g.0 in cc

pub fixed-taken : (bids : List (List Bid)) (classes places next : List ℕ) (list : List ClassBid) (served saving both sum k driver : ℕ) (one : ClassBid) →
    AreAllSensible bids → AreClasses bids classes → AreClassBids bids classes list → AreFixed bids places (length bids) served saving →
    slice_get list k ≡ Some one → IsFreeFor bids classes places driver one → are_apart served one.bid.served ≡ true →
    next ≡ set places driver one.bid.place → both ≡ bit_or served one.bid.served → sum ≡ saving + one.bid.saving → AreFixed bids next (length bids) both sum
fixed-taken bids classes places next list served saving both sum k driver one sensible like a f at free apart e g h =
    subst (λ (p : List ℕ). AreFixed bids p (length bids) both sum) (sym e)
    (subst (λ (s : ℕ). AreFixed bids (set places driver one.bid.place) (length bids) s sum) (sym g)
    (subst (λ (s : ℕ). AreFixed bids (set places driver one.bid.place) (length bids) (bit_or served one.bid.served) s) (sym h) (on (a.each k one at))))
  where
    on : (of_one : List Bid) × (slice_get bids one.class ≡ Some of_one) × (0 < one.bid.saving) × IsIn of_one one.bid →
        AreFixed bids (set places driver one.bid.place) (length bids) (bit_or served one.bid.served) (saving + one.bid.saving)
    on (of_one, there, some, (n, is)) =
        let mine : slice_get bids driver ≡ Some of_one = sym (like driver free.inside).same ∙ (ap (slice_get bids) free.class ∙ there) in
        let inside = free.inside in
        fixed-more bids places (length bids) driver n served saving of_one one.bid sensible f free.inside (omega (arith, inside, free.room)) (home-place places driver free.free)
        mine is apart

-- its class has a free driver
pub free-can : (bids : List (List Bid)) (classes places : List ℕ) (served driver : ℕ) (one : ClassBid) → IsFreeFor bids classes places driver one →
    are_apart served one.bid.served ≡ true → can_take (free_of classes places (length bids)) served one ≡ true
free-can bids classes places served driver one free apart =
    let inside = free.inside in
    let less = free-less (λ d. cond (eqb (get_or classes d 0) one.class) 1 0) places driver one.bid.place (length bids) inside (omega (arith, inside, free.room)) free.free free.away in
    let yes : eqb (get_or classes driver 0) one.class ≡ true = ap (λ (k : ℕ). eqb k one.class) free.class ∙ grind (arith, nat_tests) in
    let some : 1 ≤ free_of classes places (length bids) one.class = omega (arith, less, flag-on (eqb (get_or classes driver 0) one.class) yes) in
    can-make (free_of classes places (length bids)) served one some apart

left-free : (bids : List (List Bid)) (classes places : List ℕ) (driver : ℕ) (one : ClassBid) → IsFreeFor bids classes places driver one → (c : ℕ) →
    free_of classes (set places driver one.bid.place) (length bids) c ≡ taken (free_of classes places (length bids)) one.class c
left-free bids classes places driver one free c =
    let inside = free.inside in
    free-taken classes places one.class driver one.bid.place (length bids) inside (omega (arith, inside, free.room)) free.free free.away free.class c

pub next-can : (bids : List (List Bid)) (classes places next : List ℕ) (rest : List ClassBid) (served both driver more : ℕ) (one : ClassBid) →
    IsFreeFor bids classes places driver one → next ≡ set places driver one.bid.place → both ≡ bit_or served one.bid.served →
    CanTake rest (taken (free_of classes places (length bids)) one.class) (bit_or served one.bid.served) more →
    CanTake rest (free_of classes next (length bids)) both more
next-can bids classes places next rest served both driver more one free e g can =
    subst (λ (p : List ℕ). CanTake rest (free_of classes p (length bids)) both more) (sym e)
    (subst (λ (s : ℕ). CanTake rest (free_of classes (set places driver one.bid.place) (length bids)) s more) (sym g)
    (take-more rest (taken (free_of classes places (length bids)) one.class) (free_of classes (set places driver one.bid.place) (length bids))
    (bit_or served one.bid.served) more (λ c. omega (arith, left-free bids classes places driver one free c)) can))

pub next-tries : (bids : List (List Bid)) (classes places next : List ℕ) (rest : List ClassBid) (served both driver : ℕ) (one : ClassBid) →
    IsFreeFor bids classes places driver one → next ≡ set places driver one.bid.place → both ≡ bit_or served one.bid.served →
    tries_of rest (free_of classes next (length bids)) both ≤ tries_of rest (taken (free_of classes places (length bids)) one.class) (bit_or served one.bid.served)
next-tries bids classes places next rest served both driver one free e g =
    subst (λ (p : List ℕ). tries_of rest (free_of classes p (length bids)) both ≤ tries_of rest (taken (free_of classes places (length bids)) one.class) (bit_or served one.bid.served)) (sym e)
    (subst (λ (s : ℕ). tries_of rest (free_of classes (set places driver one.bid.place) (length bids)) s ≤
    tries_of rest (taken (free_of classes places (length bids)) one.class) (bit_or served one.bid.served)) (sym g)
    (tries-less rest (free_of classes (set places driver one.bid.place) (length bids)) (taken (free_of classes places (length bids)) one.class)
    (bit_or served one.bid.served) (λ c. omega (arith, left-free bids classes places driver one free c))))

-- ---- before any bid is taken

-- where no driver has a duty all of a class are free
kinds-count : (bids rest : List (List Bid)) (classes : List ℕ) (d c : ℕ) →
    total_below (λ i. cond (eqb (get_or classes (d + i) 0) c) 1 0) (length rest) ≡ count_in c (kinds classes d rest)
kinds-count bids [] classes d c = refl
kinds-count bids (mine ∷ rest) classes d c =
    let first = total-first (λ i. cond (eqb (get_or classes (d + i) 0) c) 1 0) (length rest) in
    let here : get_or classes (d + 0) 0 ≡ get_or classes d 0 = ap (λ (k : ℕ). get_or classes k 0) (omega arith) in
    let now : cond {A = ℕ} (eqb (get_or classes (d + 0) 0) c) 1 0 ≡ cond (eqb (get_or classes d 0) c) 1 0 = ap (λ (k : ℕ). cond (eqb k c) 1 0) here in
    let later : total_below (λ i. cond (eqb (get_or classes (d + suc i) 0) c) 1 0) (length rest) ≡
    total_below (λ i. cond (eqb (get_or classes (d + 1 + i) 0) c) 1 0) (length rest) =
    total-same _ _ (length rest) (λ i l. ap (λ (k : ℕ). cond (eqb (get_or classes k 0) c) 1 0) (omega arith)) in
    let split : count_in c (kinds classes d (mine ∷ rest)) ≡ cond (eqb (get_or classes d 0) c) 1 0 + count_in c (kinds classes (d + 1) rest) = refl in
    omega (arith, first, now, later, kinds-count bids rest classes (d + 1) c, split)

pub all-free : (bids : List (List Bid)) (classes places : List ℕ) (c : ℕ) → ((d : ℕ) → d < length bids → get_or places d 0 ≡ 4294967295) →
    free_of classes places (length bids) c ≡ count_in c (kinds classes 0 bids)
all-free bids classes places c homes =
    total-same _ _ (length bids) (λ d l. by_home d (homes d l)) ∙ kinds-count bids bids classes 0 c
  where
    by_home : (d : ℕ) → get_or places d 0 ≡ 4294967295 →
        cond (is_home places d) (cond (eqb (get_or classes d 0) c) 1 0) 0 ≡ cond {A = ℕ} (eqb (get_or classes (0 + d) 0) c) 1 0
    by_home d e =
        let yes : is_home places d ≡ true = ap (λ (x : ℕ). eqb x 4294967295) e ∙ grind (arith, nat_tests) in
        let same : get_or classes d 0 ≡ get_or classes (0 + d) 0 = ap (λ (k : ℕ). get_or classes k 0) (omega arith) in
        ap (λ (b : Bool). cond b (cond (eqb (get_or classes d 0) c) 1 0) 0) yes ∙ ap (λ (k : ℕ). cond (eqb k c) 1 0) same
