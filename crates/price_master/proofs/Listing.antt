-- The bids of all classes in one list, by falling savings.
use Rattle.std.proofs.Common.{◌≡◌, ◌≢◌, ◌⊎◌, inl, inr, ℕ, ◌+◌, ◌<◌, ◌≤◌, Bool, true, false, cond, eqb, nat_lt, List, length, take, get_or, refl, ap, sym, ◌∙◌, subst, arith, Some, slice_get}
use Rattle.std.specs.List.{insert}
use Rattle.std.proofs.lemmas.Bool.Decides.{nat_tests}
use Rattle.std.proofs.lemmas.List.Sums.{sum_by-insert, sum_by_more, sum_by-take-le}
use Rattle.std.proofs.lemmas.Option.{slice_get_within, get_or_from_slice_get}
use Rattle.price_master.specs.declared.bidding.Bid.{Bid}
use Rattle.price_master.specs.declared.alike.ClassBid.{ClassBid}
use Rattle.price_master.specs.Bids.{IsIn}
use Rattle.price_master.specs.Classes.{AddsBids, AreClassBids, AreClasses, AreFalling, IsListed, sum_class, sum_saving}
use Rattle.price_master.proofs.Inserting.{inserted-at, inserted-back, inserted-old}
use Rattle.price_master.proofs.Lookups.{same-or-not}
use Rattle.price_master.proofs.Classed.{class-own}
use Rattle.price_master.proofs.Falling.{falling-insert}

-- ---- the bids of one class, one after another

pub record AddsSoFar (class n : ℕ) (bids : List Bid) (old new : List ClassBid) : Type 0 where
  pub falling : AreFalling new
  pub each : (k : ℕ) (one : ClassBid) → slice_get new k ≡ Some one →
      ((j : ℕ) × (slice_get old j ≡ Some one)) ⊎ ((one.class ≡ class) × (0 < one.bid.saving) × IsIn bids one.bid)
  pub stays : (k : ℕ) (one : ClassBid) → slice_get old k ≡ Some one → (j : ℕ) × (slice_get new j ≡ Some one)
  pub all : (k : ℕ) (bid : Bid) → k < n → slice_get bids k ≡ Some bid → 0 < bid.saving → IsListed new class bid
  pub few : (f : ℕ → ℕ) → sum_class f class new ≤ sum_class f class old + sum_saving f (take n bids)
  pub others : (f : ℕ → ℕ) (other : ℕ) → (other ≡ class → ⊥) → sum_class f other new ≤ sum_class f other old

saving-more : (f : ℕ → ℕ) (bids : List Bid) (n : ℕ) (bid : Bid) → slice_get bids n ≡ Some bid →
    sum_saving f (take (n + 1) bids) ≡ sum_saving f (take n bids) + cond (nat_lt 0 bid.saving) (f bid.served) 0
saving-more f bids n bid at =
    sum_by_more (λ (b : Bid). cond (nat_lt 0 b.saving) (f b.served) 0) bids n bid (slice_get_within bids n bid at) ∙
    ap (λ (b : Bid). sum_saving f (take n bids) + cond (nat_lt 0 b.saving) (f b.served) 0) (get_or_from_slice_get bids n bid bid at)

-- a bid that saves nothing
pub adds-skip : (class n : ℕ) (bids : List Bid) (old new : List ClassBid) (bid : Bid) → AddsSoFar class n bids old new → slice_get bids n ≡ Some bid →
    bid.saving ≤ 0 → AddsSoFar class (n + 1) bids old new
adds-skip class n bids old new bid a at none = record {
  falling = a.falling;
  each = a.each;
  stays = a.stays;
  all = λ k other l is some. by_place k other l is some (same-or-not k n);
  few = λ f. omega (arith, a.few f, saving-more f bids n bid at);
  others = a.others;
}
  where
    by_place : (k : ℕ) (other : Bid) → k < n + 1 → slice_get bids k ≡ Some other → 0 < other.saving → (k ≡ n) ⊎ (k ≢ n) → IsListed new class other
    by_place k other l is some (inr d) = a.all k other (omega arith) is some
    by_place k other l is some (inl e) =
        let now : slice_get bids n ≡ Some other = ap (slice_get bids) (sym e) ∙ is in
        let same : bid ≡ other = cc in
        let its : bid.saving ≡ other.saving = ap (λ (b : Bid). b.saving) same in
        absurd (omega (arith, some, none, its))

abbrev pub of_class : ℕ → Bid → ClassBid
of_class class bid = record { class = class; bid = bid }

-- a bid that saves
pub adds-one : (class n p : ℕ) (bids : List Bid) (old new more : List ClassBid) (bid : Bid) → AddsSoFar class n bids old new → slice_get bids n ≡ Some bid →
    0 < bid.saving → p ≤ length new → ((k : ℕ) (one : ClassBid) → k < p → slice_get new k ≡ Some one → bid.saving ≤ one.bid.saving) →
    ((one : ClassBid) → slice_get new p ≡ Some one → one.bid.saving ≤ bid.saving) → more ≡ insert new p (of_class class bid) →
    AddsSoFar class (n + 1) bids old more
adds-one class n p bids old new more bid a at saves room before here is =
    subst (λ (l : List ClassBid). AddsSoFar class (n + 1) bids old l) (sym is) (record {
      falling = falling-insert new p x room a.falling before here;
      each = λ k one there. each one (inserted-back new p x k one room there);
      stays = λ k one there. let now = a.stays k one there in inserted-old new p x now.0 one room now.1;
      all = λ k other l there some. by_place k other l there some (same-or-not k n);
      few = λ f. few f;
      others = λ f other d. others f other d;
    })
  where
    x : ClassBid
    x = of_class class bid

    each : (one : ClassBid) → (x ≡ one) ⊎ ((j : ℕ) × (slice_get new j ≡ Some one)) →
        ((j : ℕ) × (slice_get old j ≡ Some one)) ⊎ ((one.class ≡ class) × (0 < one.bid.saving) × IsIn bids one.bid)
    each one (inr g) = a.each g.0 one g.1
    each one (inl e) =
        subst (λ (y : ClassBid). ((j : ℕ) × (slice_get old j ≡ Some y)) ⊎ ((y.class ≡ class) × (0 < y.bid.saving) × IsIn bids y.bid)) e (inr (refl, saves, (n, at)))

    by_place : (k : ℕ) (other : Bid) → k < n + 1 → slice_get bids k ≡ Some other → 0 < other.saving → (k ≡ n) ⊎ (k ≢ n) → IsListed (insert new p x) class other
    by_place k other l there some (inr d) =
        let now = a.all k other (omega arith) there some in inserted-old new p x now.0 (of_class class other) room now.1
    by_place k other l there some (inl e) =
        let now : slice_get bids n ≡ Some other = ap (slice_get bids) (sym e) ∙ there in
        let same : bid ≡ other = cc in
        (p, inserted-at new p x room ∙ ap (λ (b : Bid). Some (of_class class b)) same)

    few : (f : ℕ → ℕ) → sum_class f class (insert new p x) ≤ sum_class f class old + sum_saving f (take (n + 1) bids)
    few f =
        let yes : eqb class class ≡ true = grind (arith, nat_tests) in
        let mine : cond (eqb class class) (f bid.served) 0 ≡ f bid.served = ap (λ (b : Bool). cond b (f bid.served) 0) yes in
        let some : nat_lt 0 bid.saving ≡ true = grind (arith, nat_tests) in
        let its : cond (nat_lt 0 bid.saving) (f bid.served) 0 ≡ f bid.served = ap (λ (b : Bool). cond b (f bid.served) 0) some in
        omega (arith, sum_by-insert (λ (y : ClassBid). cond (eqb y.class class) (f y.bid.served) 0) new p x, a.few f, mine, its, saving-more f bids n bid at)

    others : (f : ℕ → ℕ) (other : ℕ) → (other ≡ class → ⊥) → sum_class f other (insert new p x) ≤ sum_class f other old
    others f other d =
        let differs : class ≢ other = λ z. d (sym z) in
        let no : eqb class other ≡ false = grind (arith, nat_tests) in
        let none : cond (eqb class other) (f bid.served) 0 ≡ 0 = ap (λ (b : Bool). cond b (f bid.served) 0) no in
        omega (arith, sum_by-insert (λ (y : ClassBid). cond (eqb y.class other) (f y.bid.served) 0) new p x, a.others f other d, none)

pub adds-done : (class n : ℕ) (bids : List Bid) (old new : List ClassBid) → AddsSoFar class n bids old new → length bids ≤ n → AddsBids class bids old new
adds-done class n bids old new a l = record {
  falling = a.falling;
  each = a.each;
  stays = a.stays;
  all = λ k bid at some. a.all k bid (omega (arith, slice_get_within bids k bid at)) at some;
  few = λ f. omega (arith, a.few f, sum_by-take-le (λ (b : Bid). cond (nat_lt 0 b.saving) (f b.served) 0) bids n);
  others = a.others;
}

-- ---- one class after another

pub record AreListedTo (bids : List (List Bid)) (classes : List ℕ) (n : ℕ) (list : List ClassBid) : Type 0 where
  pub falling : AreFalling list
  pub each : (k : ℕ) (one : ClassBid) → slice_get list k ≡ Some one →
      (of_one : List Bid) × (slice_get bids one.class ≡ Some of_one) × (0 < one.bid.saving) × IsIn of_one one.bid
  pub all : (d number : ℕ) (of_driver : List Bid) (bid : Bid) → d < n → get_or classes d 0 ≡ d → slice_get bids d ≡ Some of_driver →
      slice_get of_driver number ≡ Some bid → 0 < bid.saving → IsListed list d bid
  pub few : (f : ℕ → ℕ) (d : ℕ) (of_driver : List Bid) → slice_get bids d ≡ Some of_driver → sum_class f d list ≤ sum_saving f of_driver
  pub none : (f : ℕ → ℕ) (d : ℕ) → n ≤ d → sum_class f d list ≡ 0

pub listed-skip : (bids : List (List Bid)) (classes : List ℕ) (n : ℕ) (list : List ClassBid) → AreListedTo bids classes n list → get_or classes n 0 ≢ n →
    AreListedTo bids classes (n + 1) list
listed-skip bids classes n list a other = record {
  falling = a.falling;
  each = a.each;
  all = λ d number of_driver bid l own at is some. by_place d number of_driver bid l own at is some (same-or-not d n);
  few = a.few;
  none = λ f d l. a.none f d (omega arith);
}
  where
    by_place : (d number : ℕ) (of_driver : List Bid) (bid : Bid) → d < n + 1 → get_or classes d 0 ≡ d → slice_get bids d ≡ Some of_driver →
        slice_get of_driver number ≡ Some bid → 0 < bid.saving → (d ≡ n) ⊎ (d ≢ n) → IsListed list d bid
    by_place d number of_driver bid l own at is some (inr e) = a.all d number of_driver bid (omega arith) own at is some
    by_place d number of_driver bid l own at is some (inl e) = absurd (other (ap (λ (k : ℕ). get_or classes k 0) (sym e) ∙ (own ∙ e)))

pub listed-more : (bids : List (List Bid)) (classes : List ℕ) (n : ℕ) (list more : List ClassBid) (mine : List Bid) → AreListedTo bids classes n list →
    slice_get bids n ≡ Some mine → AddsBids n mine list more → AreListedTo bids classes (n + 1) more
listed-more bids classes n list more mine a there adds = record {
  falling = adds.falling;
  each = λ k one at. each one (adds.each k one at);
  all = λ d number of_driver bid l own at is some. by_place d number of_driver bid l own at is some (same-or-not d n);
  few = λ f d of_driver at. few f d of_driver at (same-or-not d n);
  none = λ f d l. omega (arith, adds.others f d (λ e. absurd (omega arith)), a.none f d (omega arith));
}
  where
    each : (one : ClassBid) → ((j : ℕ) × (slice_get list j ≡ Some one)) ⊎ ((one.class ≡ n) × (0 < one.bid.saving) × IsIn mine one.bid) →
        (of_one : List Bid) × (slice_get bids one.class ≡ Some of_one) × (0 < one.bid.saving) × IsIn of_one one.bid
    each one (inl g) = a.each g.0 one g.1
    each one (inr g) = (mine, ap (slice_get bids) g.0 ∙ there, g.1, g.2)

    by_place : (d number : ℕ) (of_driver : List Bid) (bid : Bid) → d < n + 1 → get_or classes d 0 ≡ d → slice_get bids d ≡ Some of_driver →
        slice_get of_driver number ≡ Some bid → 0 < bid.saving → (d ≡ n) ⊎ (d ≢ n) → IsListed more d bid
    by_place d number of_driver bid l own at is some (inr e) =
        let old = a.all d number of_driver bid (omega arith) own at is some in adds.stays old.0 (of_class d bid) old.1
    by_place d number of_driver bid l own at is some (inl e) =
        let now : slice_get bids n ≡ Some of_driver = ap (slice_get bids) (sym e) ∙ at in
        let same : mine ≡ of_driver = cc in
        let its : slice_get mine number ≡ Some bid = ap (λ (xs : List Bid). slice_get xs number) same ∙ is in
        subst (λ (k : ℕ). IsListed more k bid) (sym e) (adds.all number bid its some)

    few : (f : ℕ → ℕ) (d : ℕ) (of_driver : List Bid) → slice_get bids d ≡ Some of_driver → (d ≡ n) ⊎ (d ≢ n) → sum_class f d more ≤ sum_saving f of_driver
    few f d of_driver at (inr e) = omega (arith, adds.others f d e, a.few f d of_driver at)
    few f d of_driver at (inl e) =
        let now : slice_get bids n ≡ Some of_driver = ap (slice_get bids) (sym e) ∙ at in
        let same : mine ≡ of_driver = cc in
        let its : sum_saving f mine ≡ sum_saving f of_driver = ap (sum_saving f) same in
        let here : sum_class f n more ≤ sum_saving f of_driver = omega (arith, adds.few f, a.none f n (omega arith), its) in
        subst (λ (k : ℕ). sum_class f k more ≤ sum_saving f of_driver) (sym e) here

pub listed-done : (bids : List (List Bid)) (classes : List ℕ) (n : ℕ) (list : List ClassBid) → AreClasses bids classes → AreListedTo bids classes n list →
    length bids ≤ n → AreClassBids bids classes list
listed-done bids classes n list a listed l = record {
  falling = listed.falling;
  each = listed.each;
  all = λ d number of_driver bid at is some. all d number of_driver bid at is some (slice_get_within bids d of_driver at);
  few = λ f d of_driver at. listed.few f (get_or classes d 0) of_driver ((a d (slice_get_within bids d of_driver at)).same ∙ at);
}
  where
    all : (d number : ℕ) (of_driver : List Bid) (bid : Bid) → slice_get bids d ≡ Some of_driver → slice_get of_driver number ≡ Some bid → 0 < bid.saving →
        d < length bids → IsListed list (get_or classes d 0) bid
    all d number of_driver bid at is some inside =
        let mine = a d inside in
        let low = mine.low in
        listed.all (get_or classes d 0) number of_driver bid (omega (arith, low, inside, l)) (class-own bids classes d a inside) (mine.same ∙ at) is some
