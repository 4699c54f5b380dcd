-- From a node to its child: what is decided stays so, and the Lagrangian value doesn't fall.
use Rattle.std.proofs.Common.{◌≡◌, ◌&&◌, ◌||◌, not, ℕ, zero, suc, ◌≤◌, ◌<◌, Bool, true, false, List, [], ◌∷◌, length, refl, ap, sym, ◌∙◌, arith, eqb, ℤ, pos, negsuc, ◌≤ℤ◌, Some, slice_get}
use Rattle.std.proofs.lemmas.Int.{ints}
use Rattle.duty_plan.specs.declared.plans.Case.{Case}
use Rattle.duty_plan.specs.declared.deciding.Pairs.{Pairs}
use Rattle.duty_plan.specs.declared.nodes.Decision.{Decision}
use Rattle.duty_plan.specs.declared.nodes.Decision.TheVariants.{Root, Forced as forces, Barred as bars}
use Rattle.duty_plan.specs.declared.deciding.Pair.{Pair}
use Rattle.duty_plan.specs.declared.deciding.Pair.TheVariants.{Free, Forced, Barred}
use Rattle.duty_plan.specs.PartialDuties.{PartialDuty}
use Rattle.duty_plan.specs.Values.{all_below, or_zero, sum_of, is_barred, pair_at, IsInside, ArePairsOf, decided_by, forced_by, barred_by, is_pair}
use Rattle.price_master.specs.Laws.{DecidesFree}
use Rattle.price_master.proofs.Duality.{and_parts}
use Rattle.price_master.proofs.Decisions.{is-forced, is-barred, is-free, is-pair, path-forced, path-barred}

-- what is Forced or Barred at a node stays so at its child
pub stays-forced : (case : Case) (path : List Decision) (decision : Decision) (node child : Pairs) (k q : ℕ) → k < length case.week.drivers →
    q < length case.week.orders → ArePairsOf case.week path node → ArePairsOf case.week (decision ∷ path) child → pair_at node k q ≡ Forced →
    pair_at child k q ≡ Forced
stays-forced case path decision node child k q lk lq pn pc h =
    let f : forced_by k q path ≡ true = is-forced _ _ (sym (pn.each k q lk lq) ∙ h) in
    path-forced case.week (decision ∷ path) child k q lk lq pc (later decision f)
  where
    later : (decision : Decision) → forced_by k q path ≡ true → forced_by k q (decision ∷ path) ≡ true
    later Root f = f
    later (forces d o) f = or-right (is_pair k q d o) _ f
      where
        or-right : (a b : Bool) → b ≡ true → (a || b) ≡ true
        or-right true b e = refl
        or-right false b e = e
    later (bars d o) f = f

pub stays-barred : (case : Case) (path : List Decision) (decision : Decision) (node child : Pairs) (k q : ℕ) → k < length case.week.drivers →
    q < length case.week.orders → DecidesFree path decision → ArePairsOf case.week path node → ArePairsOf case.week (decision ∷ path) child →
    pair_at node k q ≡ Barred → pair_at child k q ≡ Barred
stays-barred case path decision node child k q lk lq free pn pc h =
    let t = is-barred _ _ (sym (pn.each k q lk lq) ∙ h) in
    path-barred case.week (decision ∷ path) child k q lk lq pc (unforced decision free t.0 t.1) (later decision t.1)
  where
    or-right : (a b : Bool) → b ≡ true → (a || b) ≡ true
    or-right true b e = refl
    or-right false b e = e

    later : (decision : Decision) → barred_by k q path ≡ true → barred_by k q (decision ∷ path) ≡ true
    later Root f = f
    later (forces d o) f = or-right (not (eqb k d) && eqb q o) _ f
    later (bars d o) f = or-right (is_pair k q d o) _ f

    not-that : (d o : ℕ) (b : Bool) → is_pair k q d o ≡ b → decided_by path d o ≡ Free → barred_by k q path ≡ true → b ≡ false
    not-that d o false e fr g = refl
    not-that d o true e fr g =
        let same = is-pair k q d o e in
        let none = is-free _ _ fr in
        let there : barred_by k q path ≡ barred_by d o path =
        ap (λ (x : ℕ). barred_by x q path) same.0 ∙ ap (λ (x : ℕ). barred_by d x path) same.1 in
        let clash : barred_by d o path ≡ false = none.1 in cc

    unforced : (decision : Decision) → DecidesFree path decision → forced_by k q path ≡ false → barred_by k q path ≡ true →
        forced_by k q (decision ∷ path) ≡ false
    unforced Root fr f g = absurd fr
    unforced (forces d o) fr f g = rw (not-that d o (is_pair k q d o) refl fr g, f) refl
    unforced (bars d o) fr f g = f

-- a duty inside the child is inside the node
pub stays-inside : (case : Case) (path : List Decision) (decision : Decision) (node child : Pairs) (k : ℕ) (partial : PartialDuty) →
    k < length case.week.drivers → DecidesFree path decision → ArePairsOf case.week path node → ArePairsOf case.week (decision ∷ path) child →
    IsInside case.week child k partial → IsInside case.week node k partial
stays-inside case path decision node child k partial lk free pn pc i = record {
  forced = λ q l h. i.forced q l (stays-forced case path decision node child k q lk l pn pc h);
  barred = λ q l h. i.barred q l (stays-barred case path decision node child k q lk l free pn pc h);
}

pub all-more : (f g : ℕ → Bool) (n : ℕ) → ((k : ℕ) → k < n → f k ≡ true → g k ≡ true) → all_below f n ≡ true → all_below g n ≡ true
all-more f g zero h a = refl
all-more f g (suc n) h a =
    let parts = and_parts (f n) (all_below f n) a in
    rw (h n (omega arith) parts.0, all-more f g n (λ k l e. h k (omega arith) e) parts.1) refl

pub barred-is : (p : Pair) → is_barred p ≡ true → p ≡ Barred
barred-is Free h = cc
barred-is Forced h = cc
barred-is Barred h = refl

pub sum-grows : (n : ℕ) (xs ys : List ℤ) → length xs ≡ length ys →
    ((k : ℕ) (x y : ℤ) → slice_get xs k ≡ Some x → slice_get ys k ≡ Some y → x ≤ℤ y) → sum_of xs ≤ℤ sum_of ys
sum-grows n [] [] same h = omega (arith, ints)
sum-grows n [] (y ∷ ys) same h = absurd (omega arith)
sum-grows n (x ∷ xs) [] same h = absurd (omega arith)
sum-grows n (x ∷ xs) (y ∷ ys) same h =
    let here : x ≤ℤ y = h 0 x y refl refl in
    let more : sum_of xs ≤ℤ sum_of ys = sum-grows n xs ys (omega arith) (λ k a b e f. h (suc k) a b e f) in
    omega (arith, ints)

pub or_zero-mono : (y z : ℤ) → y ≤ℤ z → or_zero y ≤ or_zero z
or_zero-mono (pos m) (pos n) h = omega (arith, ints)
or_zero-mono (pos m) (negsuc n) h = omega (arith, ints)
or_zero-mono (negsuc m) z h = omega arith
