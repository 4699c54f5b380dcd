-- Listed bids that can be taken: what they save at most, and that each choice of bids for the drivers is among them.
use Rattle.std.proofs.Common.{◌≡◌, ◌≢◌, ◌⊎◌, inl, inr, ℕ, zero, suc, ◌+◌, ◌-◌, ◌<◌, ◌≤◌, Bool, true, false, cond, eqb, List, [], ◌∷◌, length, drop, get_or, set, refl, ap, sym, ◌∙◌, subst, arith, Some, slice_get, bit_or}
use Rattle.std.proofs.lemmas.Bool.Decides.{nat_tests}
use Rattle.price_master.specs.declared.bidding.Bid.{Bid}
use Rattle.price_master.specs.declared.alike.ClassBid.{ClassBid}
use Rattle.price_master.specs.Pools.{are_apart}
use Rattle.price_master.specs.Bids.{CanSave}
use Rattle.price_master.specs.Classes.{AreClassBids, CanTake, can_take, free_of, is_home, sum_free, taken}
use Rattle.price_master.specs.Sensible.{AreAllSensible}
use Rattle.price_master.proofs.Free.{flag-off, flag-on, free-less, free-some, free-taken, same-tests, taken-more}
use Rattle.price_master.proofs.Lookups.{begins, length-set_lem}
use Rattle.price_master.proofs.Orders.{apart-fewer, apart-second, apart-self, apart-turn, or-swap}

-- ---- one bid

pub can-parts : (free : ℕ → ℕ) (served : ℕ) (one : ClassBid) → can_take free served one ≡ true → (1 ≤ free one.class) × (are_apart served one.bid.served ≡ true)
can-parts free served one can = by_test (same-tests (free one.class) 0) (are_apart served one.bid.served) can
  where
    by_test : ((eqb (free one.class) 0 ≡ true) × (free one.class ≡ 0)) ⊎ ((eqb (free one.class) 0 ≡ false) × (free one.class ≢ 0)) → (b : Bool) →
        cond (eqb (free one.class) 0) false b ≡ true → (1 ≤ free one.class) × (b ≡ true)
    by_test (inl e) b c = let none : cond (eqb (free one.class) 0) false b ≡ false = ap (λ (t : Bool). cond t false b) e.0 in cc
    by_test (inr e) b c = (omega (arith, e.1), sym (ap (λ (t : Bool). cond t false b) e.0) ∙ c)

pub can-make : (free : ℕ → ℕ) (served : ℕ) (one : ClassBid) → 1 ≤ free one.class → are_apart served one.bid.served ≡ true → can_take free served one ≡ true
can-make free served one some apart = by_test (same-tests (free one.class) 0)
  where
    by_test : ((eqb (free one.class) 0 ≡ true) × (free one.class ≡ 0)) ⊎ ((eqb (free one.class) 0 ≡ false) × (free one.class ≢ 0)) → can_take free served one ≡ true
    by_test (inl e) = absurd (omega (arith, e.1, some))
    by_test (inr e) = ap (λ (t : Bool). cond t false (are_apart served one.bid.served)) e.0 ∙ apart

-- ---- more that is free, and fewer orders that are served

pub take-more : (list : List ClassBid) (f g : ℕ → ℕ) (served saving : ℕ) → ((c : ℕ) → f c ≤ g c) → CanTake list f served saving → CanTake list g served saving
take-more [] f g served saving low can = can
take-more (one ∷ rest) f g served saving low (inl next) = inl (take-more rest f g served saving low next)
take-more (one ∷ rest) f g served saving low (inr (more, can, e, next)) =
    let parts = can-parts f served one can in
    inr (
      more,
      can-make g served one (omega (arith, parts.0, low one.class)) parts.1,
      e,
      take-more rest (taken f one.class) (taken g one.class) (bit_or served one.bid.served) more (taken-more f g one.class low) next,
    )

take-fewer : (list : List ClassBid) (free : ℕ → ℕ) (served b saving : ℕ) → CanTake list free (bit_or served b) saving → CanTake list free served saving
take-fewer [] free served b saving can = can
take-fewer (one ∷ rest) free served b saving (inl next) = inl (take-fewer rest free served b saving next)
take-fewer (one ∷ rest) free served b saving (inr (more, can, e, next)) =
    let parts = can-parts free (bit_or served b) one can in
    inr (
      more,
      can-make free served one parts.0 (apart-fewer served b one.bid.served parts.1),
      e,
      take-fewer rest (taken free one.class) (bit_or served one.bid.served) b more
          (subst (λ (s : ℕ). CanTake rest (taken free one.class) s more) (or-swap served b one.bid.served) next),
    )

pub take-none : (list : List ClassBid) (free : ℕ → ℕ) (served saving : ℕ) → saving ≡ 0 → CanTake list free served saving
take-none [] free served saving e = e
take-none (one ∷ rest) free served saving e = inl (take-none rest free served saving e)

-- ---- what can be saved at most

nought : (let z : ℕ = 0 in z ≢ 4294967295)
nought e = absurd (omega (arith, e))

pub take-hope : (classes : List ℕ) (n : ℕ) (most : ℕ → ℕ) (list : List ClassBid) (free : ℕ → ℕ) (places : List ℕ) (served saving : ℕ) → n ≤ length places →
    ((c : ℕ) → free c ≤ free_of classes places n c) →
    ((k : ℕ) (one : ClassBid) → slice_get list k ≡ Some one → are_apart served one.bid.served ≡ true → one.bid.saving ≤ most one.class) →
    CanTake list free served saving → saving ≤ sum_free (λ driver. most (get_or classes driver 0)) places n
take-hope classes n most [] free places served saving room few low can = omega (arith, can)
take-hope classes n most (one ∷ rest) free places served saving room few low (inl next) =
    take-hope classes n most rest free places served saving room few (λ k x at apart. low (suc k) x at apart) next
take-hope classes n most (one ∷ rest) free places served saving room few low (inr (more, can, e, next)) =
    let parts = can-parts free served one can in
    let some : 1 ≤ free_of classes places n one.class = omega (arith, parts.0, few one.class) in
    let found = free-some (λ d. cond (eqb (get_or classes d 0) one.class) 1 0) places n some in
    on parts.1 found.0 found.1 found.2 (by_test found.0 found.3 (same-tests (get_or classes found.0 0) one.class))
    (λ left roomy low_rest. take-hope classes n most rest (taken free one.class) left (bit_or served one.bid.served) more roomy
    low_rest (λ k x at apart. low (suc k) x at (apart-fewer served one.bid.served x.bid.served apart)) next)
  where
    by_test : (d : ℕ) → 1 ≤ cond (eqb (get_or classes d 0) one.class) 1 0 →
        ((eqb (get_or classes d 0) one.class ≡ true) × (get_or classes d 0 ≡ one.class)) ⊎ ((eqb (get_or classes d 0) one.class ≡ false) × (get_or classes d 0 ≢ one.class)) →
        get_or classes d 0 ≡ one.class
    by_test d some (inl e) = e.1
    by_test d some (inr e) = absurd (omega (arith, some, flag-off (eqb (get_or classes d 0) one.class) e.0))

    on : are_apart served one.bid.served ≡ true → (d : ℕ) → d < n → is_home places d ≡ true → get_or classes d 0 ≡ one.class →
        ((left : List ℕ) → n ≤ length left → ((c : ℕ) → taken free one.class c ≤ free_of classes left n c) → more ≤ sum_free (λ driver. most (get_or classes driver 0)) left n) →
        saving ≤ sum_free (λ driver. most (get_or classes driver 0)) places n
    on apart d l home is later =
        let inside : d < length places = omega (arith, l, room) in
        let less = free-less (λ k. most (get_or classes k 0)) places d 0 n l inside home nought in
        let low_rest : (c : ℕ) → taken free one.class c ≤ free_of classes (set places d 0) n c =
        λ c. omega (arith, taken-more free (free_of classes places n) one.class few c, free-taken classes places one.class d 0 n l inside home nought is c) in
        let rest_hope = later (set places d 0) (omega (arith, length-set_lem places d 0, room)) low_rest in
        let here : one.bid.saving ≤ most one.class = low 0 one refl apart in
        let same : most (get_or classes d 0) ≡ most one.class = ap most is in
        omega (arith, less, rest_hope, here, same, e)

-- ---- one bid more is taken

taken-swap : (free : ℕ → ℕ) (a b c : ℕ) → taken (taken free a) b c ≤ taken (taken free b) a c
taken-swap free a b c = by_test (eqb c a) (eqb c b)
  where
    by_test : (s t : Bool) → (let z : ℕ = cond t (cond s (free c - 1) (free c) - 1) (cond s (free c - 1) (free c)) in z ≤ cond s (cond t (free c - 1) (free c) - 1) (cond t (free c - 1) (free c)))
    by_test true true = omega arith
    by_test true false = omega arith
    by_test false true = omega arith
    by_test false false = omega arith

taken-left : (free : ℕ → ℕ) (a b : ℕ) → 1 ≤ free a → 1 ≤ taken free a b → 1 ≤ taken free b a
taken-left free a b some more = by_test (same-tests b a) (same-tests a b)
  where
    by_test : ((eqb b a ≡ true) × (b ≡ a)) ⊎ ((eqb b a ≡ false) × (b ≢ a)) → ((eqb a b ≡ true) × (a ≡ b)) ⊎ ((eqb a b ≡ false) × (a ≢ b)) → 1 ≤ taken free b a
    by_test s (inr e) =
        let its : taken free b a ≡ free a = ap (λ (t : Bool). cond t (free a - 1) (free a)) e.0 in omega (arith, its, some)
    by_test (inr d) (inl e) = absurd (d.1 (sym e.1))
    by_test (inl d) (inl e) =
        let its : taken free b a ≡ free a - 1 = ap (λ (t : Bool). cond t (free a - 1) (free a)) e.0 in
        let old : taken free a b ≡ free b - 1 = ap (λ (t : Bool). cond t (free b - 1) (free b)) d.0 in
        let same : free b ≡ free a = ap free d.1 in
        omega (arith, its, old, same, more)

pub take-one : (list : List ClassBid) (j : ℕ) (free : ℕ → ℕ) (served saving : ℕ) (one : ClassBid) → slice_get list j ≡ Some one → 1 ≤ free one.class →
    are_apart served one.bid.served ≡ true → one.bid.served ≢ 0 → CanTake list (taken free one.class) (bit_or served one.bid.served) saving →
    CanTake list free served (one.bid.saving + saving)
take-one [] j free served saving one at some apart serves can = cc
take-one (x ∷ rest) zero free served saving one at some apart serves can = by_kind can
  where
    same : x ≡ one
    same = cc

    by_kind : CanTake (x ∷ rest) (taken free one.class) (bit_or served one.bid.served) saving → CanTake (x ∷ rest) free served (one.bid.saving + saving)
    by_kind (inl next) =
        let P : ClassBid → Type 0 = λ y. CanTake (y ∷ rest) free served (one.bid.saving + saving) in
        subst P (sym same) (inr (saving, can-make free served one some apart, refl, next))
    by_kind (inr (more, c, e, next)) =
        let parts = can-parts (taken free one.class) (bit_or served one.bid.served) x c in
        let both : are_apart (bit_or served one.bid.served) one.bid.served ≡ true = ap (λ (y : ClassBid). are_apart (bit_or served one.bid.served) y.bid.served) (sym same) ∙ parts.1 in
        absurd (serves (apart-self one.bid.served (apart-second served one.bid.served one.bid.served both)))
take-one (x ∷ rest) (suc j) free served saving one at some apart serves (inl next) = inl (take-one rest j free served saving one at some apart serves next)
take-one (x ∷ rest) (suc j) free served saving one at some apart serves (inr (more, c, e, next)) =
    let parts = can-parts (taken free one.class) (bit_or served one.bid.served) x c in
    let its : are_apart served x.bid.served ≡ true = apart-fewer served one.bid.served x.bid.served parts.1 in
    let left : 1 ≤ free x.class = omega (arith, parts.0, fewer x.class) in
    let moved : CanTake rest (taken (taken free x.class) one.class) (bit_or (bit_or served x.bid.served) one.bid.served) more =
    take-more rest (taken (taken free one.class) x.class) (taken (taken free x.class) one.class) (bit_or (bit_or served x.bid.served) one.bid.served) more
    (taken-swap free one.class x.class)
    (subst (λ (s : ℕ). CanTake rest (taken (taken free one.class) x.class) s more) (or-swap served one.bid.served x.bid.served) next) in
    inr (
      one.bid.saving + more,
      can-make free served x left its,
      omega (arith, e),
      take-one rest j (taken free x.class) (bit_or served x.bid.served) more one at (taken-left free one.class x.class some parts.0)
          (apart-turn served one.bid.served x.bid.served apart parts.1) serves moved,
    )
  where
    fewer : (c : ℕ) → taken free one.class c ≤ free c
    fewer c = by_test (eqb c one.class)
      where
        by_test : (b : Bool) → cond b (free c - 1) (free c) ≤ free c
        by_test true = omega arith
        by_test false = omega arith

-- ---- each choice of bids for the drivers

-- the classes of the drivers from d on
abbrev pub kinds : List ℕ → ℕ → List (List Bid) → List ℕ
kinds classes d [] = []
kinds classes d (mine ∷ rest) = get_or classes d 0 ∷ kinds classes (d + 1) rest

abbrev pub count_in : ℕ → List ℕ → ℕ
count_in c [] = 0
count_in c (d ∷ ds) = cond (eqb d c) 1 0 + count_in c ds

pub saves-take : (bids : List (List Bid)) (classes : List ℕ) (list : List ClassBid) → AreClassBids bids classes list → AreAllSensible bids →
    (rest : List (List Bid)) (d : ℕ) → rest ≡ drop d bids → (free : ℕ → ℕ) → ((c : ℕ) → count_in c (kinds classes d rest) ≤ free c) →
    (served saving : ℕ) → CanSave rest served saving → CanTake list free served saving
saves-take bids classes list a sensible [] d e free few served saving can = take-none list free served saving can
saves-take bids classes list a sensible (mine ∷ rest) d e free few served saving (k, bid, more, is, apart, sum, next) =
    let parts = begins bids d mine rest e in
    by_saving bid.saving refl parts.0
    (λ f low. saves-take bids classes list a sensible rest (d + 1) parts.1 f low (bit_or served bid.served) more next)
  where
    class : ℕ
    class = get_or classes d 0

    first : (c : ℕ) → count_in c (kinds classes d (mine ∷ rest)) ≡ cond (eqb class c) 1 0 + count_in c (kinds classes (d + 1) rest)
    first c = refl

    by_saving : (t : ℕ) → bid.saving ≡ t → slice_get bids d ≡ Some mine →
        ((f : ℕ → ℕ) → ((c : ℕ) → count_in c (kinds classes (d + 1) rest) ≤ f c) → CanTake list f (bit_or served bid.served) more) → CanTake list free served saving
    by_saving zero none there later =
        let same : saving ≡ more = omega (arith, sum, none) in
        subst (λ (s : ℕ). CanTake list free served s) (sym same) (take-fewer list free served bid.served more (later free (λ c. omega (arith, few c, first c))))
    by_saving (suc t) some there later =
        let listed = a.all d k mine bid there is (omega (arith, some)) in
        let serves : bid.served ≢ 0 = λ z. absurd (omega (arith, some, (sensible d mine there).serving k bid is z)) in
        subst (λ (s : ℕ). CanTake list free served s) (sym sum)
        (take-one list listed.0 free served more (record { class = class; bid = bid }) listed.1 (omega (arith, few class, mine_one)) apart serves (later (taken free class) low))
      where
        mine_one : 1 ≤ count_in class (kinds classes d (mine ∷ rest))
        mine_one = let yes : eqb class class ≡ true = grind (arith, nat_tests) in omega (arith, first class, flag-on (eqb class class) yes)

        low : (c : ℕ) → count_in c (kinds classes (d + 1) rest) ≤ taken free class c
        low c = by_test (same-tests c class)
          where
            by_test : ((eqb c class ≡ true) × (c ≡ class)) ⊎ ((eqb c class ≡ false) × (c ≢ class)) → count_in c (kinds classes (d + 1) rest) ≤ taken free class c
            by_test (inl s) =
                let its : taken free class c ≡ free c - 1 = ap (λ (b : Bool). cond b (free c - 1) (free c)) s.0 in
                let yes : eqb class c ≡ true = ap (eqb class) s.1 ∙ grind (arith, nat_tests) in
                omega (arith, few c, first c, its, flag-on (eqb class c) yes)
            by_test (inr s) =
                let its : taken free class c ≡ free c = ap (λ (b : Bool). cond b (free c - 1) (free c)) s.0 in
                omega (arith, few c, first c, its)
