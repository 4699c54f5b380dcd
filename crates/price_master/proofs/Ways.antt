-- Ways to give drivers a listed bid each or none.
use Rattle.std.proofs.Common.{◌≡◌, ◌≢◌, ◌⊎◌, inl, inr, ℕ, ◌+◌, ◌≤◌, Bool, true, false, cond, eqb, List, [], ◌∷◌, refl, ap, sym, ◌∙◌, subst, arith, bit_or}
use Rattle.std.proofs.lemmas.Bool.Decides.{nat_tests}
use Rattle.std.proofs.lemmas.List.Sums.{sum_by-cons, sum_by-le-sum_by}
use Rattle.price_master.specs.declared.alike.ClassBid.{ClassBid}
use Rattle.price_master.specs.Pools.{are_apart}
use Rattle.price_master.specs.Classes.{sum_class}
use Rattle.price_master.proofs.Free.{flag-off, same-tests}
use Rattle.price_master.proofs.Orders.{apart-fewer, apart-turn, or-swap}
use Rattle.price_master.proofs.Taking.{count_in}
use Rattle.price_master.proofs.Turns.{cond-le}

-- ---- sums over a class

class-add : (f g h : ℕ → ℕ) (class : ℕ) (list : List ClassBid) → ((o : ℕ) → f o + g o ≤ h o) → sum_class f class list + sum_class g class list ≤ sum_class h class list
class-add f g h class [] low = omega arith
class-add f g h class (one ∷ rest) low =
    omega (
      arith,
      sum_by-cons (λ (x : ClassBid). cond (eqb x.class class) (f x.bid.served) 0) one rest,
      sum_by-cons (λ (x : ClassBid). cond (eqb x.class class) (g x.bid.served) 0) one rest,
      sum_by-cons (λ (x : ClassBid). cond (eqb x.class class) (h x.bid.served) 0) one rest,
      class-add f g h class rest low,
      by_test (eqb one.class class),
    )
  where
    by_test : (b : Bool) → cond b (f one.bid.served) 0 + cond b (g one.bid.served) 0 ≤ cond b (h one.bid.served) 0
    by_test true = low one.bid.served
    by_test false = omega arith

class-le : (f h : ℕ → ℕ) (class : ℕ) (list : List ClassBid) → ((o : ℕ) → f o ≤ h o) → sum_class f class list ≤ sum_class h class list
class-le f h class list low = sum_by-le-sum_by (λ (x : ClassBid). cond (eqb x.class class) (f x.bid.served) 0) (λ (x : ClassBid). cond (eqb x.class class) (h x.bid.served) 0) list
    (λ x. cond-le (eqb x.class class) (f x.bid.served) (h x.bid.served) (low x.bid.served))

-- ---- ways to give drivers of these classes a bid each or none

abbrev pub ways_in : List ClassBid → List ℕ → ℕ → ℕ
ways_in list [] served = 1
ways_in list (d ∷ ds) served = ways_in list ds served + sum_class (λ o. cond (are_apart served o) (ways_in list ds (bit_or served o)) 0) d list

-- the ways that go on with one bid
abbrev pub ways_on : List ClassBid → List ℕ → ℕ → ℕ → ℕ
ways_on list ds served o = cond (are_apart served o) (ways_in list ds (bit_or served o)) 0

-- the classes without the first driver of one class
abbrev pub less_in : ℕ → List ℕ → List ℕ
less_in c [] = []
less_in c (d ∷ ds) = cond (eqb d c) ds (d ∷ less_in c ds)

-- the ways that give the bid to the first driver of its class
abbrev pub ways_first : ClassBid → List ClassBid → List ℕ → ℕ → ℕ
ways_first x rest ds served = cond (eqb (count_in x.class ds) 0) 0 (ways_on rest (less_in x.class ds) served x.bid.served)

pub on-yes : (list : List ClassBid) (ds : List ℕ) (served o : ℕ) → are_apart served o ≡ true → ways_on list ds served o ≡ ways_in list ds (bit_or served o)
on-yes list ds served o e = ap (λ (b : Bool). cond b (ways_in list ds (bit_or served o)) 0) e

on-no : (list : List ClassBid) (ds : List ℕ) (served o : ℕ) → are_apart served o ≡ false → ways_on list ds served o ≡ 0
on-no list ds served o e = ap (λ (b : Bool). cond b (ways_in list ds (bit_or served o)) 0) e

-- one bid more in the list
pub ways-more : (x : ClassBid) (rest : List ClassBid) (ds : List ℕ) (served : ℕ) → ways_in rest ds served + ways_first x rest ds served ≤ ways_in (x ∷ rest) ds served
ways-more x rest [] served =
    let none : ways_first x rest [] served ≡ 0 = refl in
    let one : ways_in rest [] served ≡ 1 = refl in
    let its : ways_in (x ∷ rest) [] served ≡ 1 = refl in
    omega (arith, none, one, its)
ways-more x rest (d ∷ ds) served = by_class (λ s. ways-more x rest ds s) (same-tests d x.class)
  where
    Hyp : Type 0
    Hyp = (s : ℕ) → ways_in rest ds s + ways_first x rest ds s ≤ ways_in (x ∷ rest) ds s

    small : ways_in rest (d ∷ ds) served ≡ ways_in rest ds served + sum_class (ways_on rest ds served) d rest
    small = refl

    whole : ways_in (x ∷ rest) (d ∷ ds) served ≡ ways_in (x ∷ rest) ds served + sum_class (ways_on (x ∷ rest) ds served) d (x ∷ rest)
    whole = refl

    parts : sum_class (ways_on (x ∷ rest) ds served) d (x ∷ rest) ≡
        cond (eqb x.class d) (ways_on (x ∷ rest) ds served x.bid.served) 0 + sum_class (ways_on (x ∷ rest) ds served) d rest
    parts = sum_by-cons (λ (y : ClassBid). cond (eqb y.class d) (ways_on (x ∷ rest) ds served y.bid.served) 0) x rest

    on-low : Hyp → (o : ℕ) → ways_on rest ds served o ≤ ways_on (x ∷ rest) ds served o
    on-low hyp o = cond-le (are_apart served o) (ways_in rest ds (bit_or served o)) (ways_in (x ∷ rest) ds (bit_or served o)) (omega (arith, hyp (bit_or served o)))

    by_class : Hyp → ((eqb d x.class ≡ true) × (d ≡ x.class)) ⊎ ((eqb d x.class ≡ false) × (d ≢ x.class)) →
        ways_in rest (d ∷ ds) served + ways_first x rest (d ∷ ds) served ≤ ways_in (x ∷ rest) (d ∷ ds) served
    by_class hyp (inl e) =
        let less : less_in x.class (d ∷ ds) ≡ ds = ap (λ (b : Bool). cond b ds (d ∷ less_in x.class ds)) e.0 in
        let yes : eqb x.class d ≡ true = ap (λ (y : ℕ). eqb y d) (sym e.1) ∙ grind (arith, nat_tests) in
        let mine : cond (eqb x.class d) (ways_on (x ∷ rest) ds served x.bid.served) 0 ≡ ways_on (x ∷ rest) ds served x.bid.served =
        ap (λ (b : Bool). cond b (ways_on (x ∷ rest) ds served x.bid.served) 0) yes in
        let first : ways_first x rest (d ∷ ds) served ≤ ways_on rest ds served x.bid.served =
        subst (λ (l : List ℕ). cond (eqb (count_in x.class (d ∷ ds)) 0) 0 (ways_on rest l served x.bid.served) ≤ ways_on rest ds served x.bid.served) (sym less)
        (at-most-whole (eqb (count_in x.class (d ∷ ds)) 0) (ways_on rest ds served x.bid.served)) in
        omega (arith, small, whole, parts, mine, first, on-low hyp x.bid.served, class-le (ways_on rest ds served) (ways_on (x ∷ rest) ds served) d rest (on-low hyp), hyp served)
      where
        at-most-whole : (b : Bool) (n : ℕ) → cond b 0 n ≤ n
        at-most-whole true n = omega arith
        at-most-whole false n = omega arith
    by_class hyp (inr e) =
        let less : less_in x.class (d ∷ ds) ≡ d ∷ less_in x.class ds = ap (λ (b : Bool). cond b ds (d ∷ less_in x.class ds)) e.0 in
        let count : count_in x.class (d ∷ ds) ≡ count_in x.class ds = omega (arith, flag-off (eqb d x.class) e.0) in
        let first : ways_first x rest (d ∷ ds) served ≡ cond (eqb (count_in x.class ds) 0) 0 (ways_on rest (d ∷ less_in x.class ds) served x.bid.served) =
        ap (λ (n : ℕ). cond (eqb n 0) 0 (ways_on rest (less_in x.class (d ∷ ds)) served x.bid.served)) count ∙
        ap (λ (l : List ℕ). cond (eqb (count_in x.class ds) 0) 0 (ways_on rest l served x.bid.served)) less in
        by_count (eqb (count_in x.class ds) 0) refl (are_apart served x.bid.served) refl first
      where
        more : List ℕ
        more = less_in x.class ds

        both : ℕ
        both = bit_or served x.bid.served

        by_count : (t : Bool) → eqb (count_in x.class ds) 0 ≡ t → (u : Bool) → are_apart served x.bid.served ≡ u →
            ways_first x rest (d ∷ ds) served ≡ cond (eqb (count_in x.class ds) 0) 0 (ways_on rest (d ∷ more) served x.bid.served) →
            ways_in rest (d ∷ ds) served + ways_first x rest (d ∷ ds) served ≤ ways_in (x ∷ rest) (d ∷ ds) served
        by_count true t u a first =
            let none : cond (eqb (count_in x.class ds) 0) 0 (ways_on rest (d ∷ more) served x.bid.served) ≡ 0 =
            ap (λ (b : Bool). cond b 0 (ways_on rest (d ∷ more) served x.bid.served)) t in
            omega (arith, first, none, small, whole, parts, class-le (ways_on rest ds served) (ways_on (x ∷ rest) ds served) d rest (on-low hyp), hyp served)
        by_count false t false a first =
            let none : cond (eqb (count_in x.class ds) 0) 0 (ways_on rest (d ∷ more) served x.bid.served) ≡ 0 =
            ap (λ (b : Bool). cond b 0 (ways_on rest (d ∷ more) served x.bid.served)) t ∙ on-no rest (d ∷ more) served x.bid.served a in
            omega (arith, first, none, small, whole, parts, class-le (ways_on rest ds served) (ways_on (x ∷ rest) ds served) d rest (on-low hyp), hyp served)
        by_count false t true a first =
            let its : cond (eqb (count_in x.class ds) 0) 0 (ways_on rest (d ∷ more) served x.bid.served) ≡ ways_in rest (d ∷ more) both =
            ap (λ (b : Bool). cond b 0 (ways_on rest (d ∷ more) served x.bid.served)) t ∙ on-yes rest (d ∷ more) served x.bid.served a in
            let split : ways_in rest (d ∷ more) both ≡ ways_in rest more both + sum_class (ways_on rest more both) d rest = refl in
            omega (
              arith,
              first,
              its,
              split,
              small,
              whole,
              parts,
              first-of served a,
              hyp served,
              class-add (ways_on rest ds served) (ways_on rest more both) (ways_on (x ∷ rest) ds served) d rest (λ o. term o (are_apart served o) refl (are_apart both o) refl),
            )
          where
            first-of : (s : ℕ) → are_apart s x.bid.served ≡ true → ways_first x rest ds s ≡ ways_in rest more (bit_or s x.bid.served)
            first-of s apart = ap (λ (b : Bool). cond b 0 (ways_on rest more s x.bid.served)) t ∙ on-yes rest more s x.bid.served apart

            term : (o : ℕ) (u : Bool) → are_apart served o ≡ u → (v : Bool) → are_apart both o ≡ v →
                ways_on rest ds served o + ways_on rest more both o ≤ ways_on (x ∷ rest) ds served o
            term o u e false f = omega (arith, on-no rest more both o f, on-low hyp o)
            term o false e true f = let never : are_apart served o ≡ true = apart-fewer served x.bid.served o f in cc
            term o true e true f =
                let turn : are_apart (bit_or served o) x.bid.served ≡ true = apart-turn served x.bid.served o a f in
                let same : ways_in rest more (bit_or both o) ≡ ways_in rest more (bit_or (bit_or served o) x.bid.served) =
                ap (ways_in rest more) (or-swap served x.bid.served o) in
                omega (
                  arith,
                  on-yes rest ds served o e,
                  on-yes rest more both o f,
                  on-yes (x ∷ rest) ds served o e,
                  hyp (bit_or served o),
                  first-of (bit_or served o) turn,
                  same,
                )
