-- What the seat with the parts of all seats knows at the end of a round.
use Rattle.std.proofs.Common.{◌≡◌, ℕ, zero, suc, ◌+◌, ◌<◌, ◌≤◌, Bool, true, false, cond, List, [], ◌∷◌, ◌++◌, All, length, get_or, set, sym, ap, refl, ◌∙◌, subst, arith, get_or-set_other}
use mathlib.Core.Logic.{dite}
use mathlib.Core.Option.{some, some-injective, some-ne-none}
use native.Mathlib.Decide.{dec_le, ℕ_discrete}
use lib.ListN.{get_elem?}
use Rattle.std.specs.Prelude.{Option, Some}
use Rattle.atomic_table.specs.Table.{State, Seen, Final}
use Rattle.label_arena.specs.declared.views.View.{View}
use Rattle.label_arena.specs.Counting.{times, once_below, total}
use Rattle.label_arena.specs.Rule.{seat_parts, Fits, IsHome, IsRoundState}
use Rattle.label_arena.proofs.Counts.{total_at, once_is_one}
use Rattle.label_arena.proofs.Claiming.{parts_of_seat}

module _ {V : Type 0} (g f : V → ℕ) where
  none_of : (vs : List V) → total g vs ≡ 0 → ((j : ℕ) (u : V) → get_elem? vs j ≡ some u → g u ≡ 0 → f u ≡ 0) → total f vs ≡ 0
  none_of [] none each = refl
  none_of (x ∷ xs) none each = let here = each 0 x refl (omega arith) in let rest = none_of xs (omega arith) (λ j u at. each (suc j) u at) in omega arith

  -- where one has all of g, and f is 0 of each that has nothing of g, that one has all of f
  alone : (vs : List V) (id : ℕ) (v : V) → get_elem? vs id ≡ some v → total g vs ≤ g v → ((j : ℕ) (u : V) → get_elem? vs j ≡ some u → g u ≡ 0 → f u ≡ 0) → total f vs ≡ f v
  alone [] id v at whole each = absurd (some-ne-none v (sym at))
  alone (x ∷ xs) zero v at whole each =
      let same : g x ≡ g v = ap g (some-injective x v at) in
      let is : f x ≡ f v = ap f (some-injective x v at) in
      let rest = none_of xs (omega arith) (λ j u at'. each (suc j) u at') in omega arith
  alone (x ∷ xs) (suc id) v at whole each =
      let low : g v ≤ total g xs = total_at g xs id v at in
      let here = each 0 x refl (omega arith) in
      let rest = alone xs id v at (omega arith) (λ j u at'. each (suc j) u at') in omega arith

at_within : {X : Type 0} (xs : List X) (n : ℕ) (y : X) → get_elem? xs n ≡ some y → n < length xs
at_within [] n y at = absurd (some-ne-none y (sym at))
at_within (x ∷ xs) zero y at = omega arith
at_within (x ∷ xs) (suc n) y at = let rest = at_within xs n y at in omega arith

-- a view without a seat's parts has drawn nothing
draws_none : (slots : ℕ) (v : View) → Fits slots v → seat_parts v ≡ 0 → v.drawn ≡ []
draws_none slots v fit none = by_rest v.is_rest refl none
  where
    by_rest : (b : Bool) → v.is_rest ≡ b → cond b 0 v.parts ≡ 0 → v.drawn ≡ []
    by_rest true is none = fit.idle is
    by_rest false is none = fit.spent none

module _ (T : Type 0) (seats : ℕ) where
  pub drew_all : (s : State (Option (List T)) View) → IsRoundState seats s → (id : ℕ) (v : View) → get_elem? s.views id ≡ some v → v.is_rest ≡ false → v.parts ≡ seats
      → (x : ℕ) → times x v.drawn ≡ once_below x (get_or s.words 0 0)
  drew_all s k id v at seat all x =
      let seated = k.seated in
      let sum = alone seat_parts (λ u. times x u.drawn) s.views id v at (omega (arith, parts_of_seat v seat))
      (λ j u at' none. ap (times x) (draws_none (length s.homes) u (k.each_view j u at') none)) in
      let each = k.each_once x in omega arith

  all_home : (s : State (Option (List T)) View) → IsRoundState seats s → (id : ℕ) (v : View) → get_elem? s.views id ≡ some v → v.is_rest ≡ false → v.parts ≡ seats
      → v.has_returned ≡ true → (n : ℕ) → n < length s.homes → IsHome s n
  all_home s k id v at seat all back n lt =
      let c : ℕ = get_or s.words 0 0 in
      let drew = drew_all s k id v at seat all n in dite (dec_le c n)
      (λ past. k.untaken n past lt)
      (λ below. k.returned id v at back n (let one : once_below n c ≡ 1 = once_is_one n c (omega arith) in omega arith) lt)

  -- what lies in the slots, and how often each number was drawn
  pub ended : (id : ℕ) (v : View) (ws : List ℕ) (xs : List (Option (List T))) → v.is_rest ≡ false → v.parts ≡ seats → v.has_returned ≡ true
      → Final (Seen (IsRoundState {T = T} seats) id v) ws xs
      → ((k : ℕ) (y : Option (List T)) → get_elem? xs k ≡ some y → y ≡ Some []) × ((n : ℕ) × ((x : ℕ) → times x v.drawn ≡ once_below x n))
  ended id v ws xs seat all back final =
      let s = final.0 in
      let k = final.1.0 in
      let at = final.1.1 in (
        (λ n y is. some-injective _ _ (sym is ∙ final.4 n (Some []) (all_home s k id v at seat all back n (rw final.3 (at_within xs n y is))))),
        (get_or s.words 0 0, drew_all s k id v at seat all),
      )

all_onto : {X : Type 0} (P : X → Type 0) (y : X) (ys : List X) → P y → All P ys → All P (y ∷ ys)
all_onto P y ys here rest zero d lt = here
all_onto P y ys here rest (suc k) d lt = rest k d (omega arith)

pub all_front : {X : Type 0} (P : X → Type 0) (xs : List X) (x : X) → All P (xs ++ x ∷ []) → All P xs × P x
all_front P [] x all = ((λ k d lt. absurd (omega arith)), all 0 x (omega arith))
all_front P (y ∷ ys) x all = let rest = all_front P ys x (λ k d lt. all (suc k) d (omega arith)) in (all_onto P y ys (all 0 y (omega arith)) rest.0, rest.1)

set_false : (xs : List Bool) (i : ℕ) → get_or (set xs i false) i false ≡ false
set_false [] i = refl
set_false (x ∷ xs) zero = refl
set_false (x ∷ xs) (suc i) = set_false xs i

pub none_left : {X : Type 0} (f : X → ℕ) (xs : List X) → length xs ≡ 0 → total f xs ≡ 0
none_left f [] none = refl
none_left f (x ∷ xs) none = absurd (omega arith)

pub falls : (xs : List Bool) (i k : ℕ) → (k < i → get_or xs k false ≡ false) → k < i + 1 → get_or (set xs i false) k false ≡ false
falls xs i k before lt = dite (ℕ_discrete k i)
    (λ e. subst (λ (z : ℕ). get_or (set xs i false) z false ≡ false) (sym e) (set_false xs i))
    (λ ne. get_or-set_other xs i k false false ne ∙ before (omega arith))
