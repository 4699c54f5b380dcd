-- Short lists without repeats, for the week of one driver that the tests plan.
use Rattle.std.proofs.Common.{◌≡◌, ℕ, zero, suc, Bool, false, [], ◌∷◌, All, arith, rules, Some, slice_get, subst}
use Rattle.std.specs.List.{IsDistinct}

pub distinct-one : {K : Type 0} (e : K → K → Bool) (x : K) → IsDistinct e (x ∷ [])
unfolding IsDistinct
distinct-one e x = search rules

pub distinct-two : {K : Type 0} (e : K → K → Bool) (x y : K) → e x y ≡ false → IsDistinct e (x ∷ y ∷ [])
unfolding IsDistinct
distinct-two e x y h = search rules

pub all-one : {X : Type 0} (P : X → Type 0) (x : X) → P x → All P (x ∷ [])
all-one P x p zero d lt = p
all-one P x p (suc k) d lt = absurd (omega (arith, lt))

pub all-two : {X : Type 0} (P : X → Type 0) (x y : X) → P x → P y → All P (x ∷ y ∷ [])
all-two P x y p q zero d lt = p
all-two P x y p q (suc zero) d lt = q
all-two P x y p q (suc (suc k)) d lt = absurd (omega (arith, lt))

pub each-one : {X : Type 0} (P : X → Type 0) (x : X) → P x → (n : ℕ) (y : X) → slice_get (x ∷ []) n ≡ Some y → P y
each-one P x p zero y e = let same : x ≡ y = cc in subst P same p
each-one P x p (suc n) y e = cc

pub each-two : {X : Type 0} (P : X → Type 0) (x z : X) → P x → P z → (n : ℕ) (y : X) → slice_get (x ∷ z ∷ []) n ≡ Some y → P y
each-two P x z p q zero y e = let same : x ≡ y = cc in subst P same p
each-two P x z p q (suc n) y e = each-one P z q n y e
