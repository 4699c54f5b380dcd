-- The classes of twins, filled from the first driver on.
use Rattle.std.proofs.Common.{◌≡◌, ◌⊎◌, inl, inr, ℕ, ◌<◌, ◌≤◌, List, [], ◌∷◌, ◌++◌, length, refl, sym, ap, subst, ◌∙◌, arith, length-append}
use Rattle.std.specs.Prelude.{slice_index}
use Rattle.std.proofs.lemmas.Bool.{cases_eq}
use Rattle.std.proofs.Math.ListN.{get_or-append}
use Rattle.std.proofs.Math.Seq.{get_or-append_seam}
use Rattle.duty_plan.specs.declared.plans.Case.{Case}
use Rattle.duty_plan.specs.declared.deciding.Pairs.{Pairs}
use Rattle.duty_plan.specs.SharedRounds.{AreClasses}
use Rattle.pricing_pool.specs.Classes.{IsClassOf}

-- each driver below the length has his class
pub record AreSorted (case : Case) (pairs : Pairs) (classes : List ℕ) : Type 0 where
  pub each : (k : ℕ) → k < length classes → IsClassOf case pairs classes k (slice_index classes k)

pub none_sorted : (case : Case) (pairs : Pairs) → AreSorted case pairs []
none_sorted case pairs = record { each = λ k l. absurd (omega arith) }

pub class_itself : (case : Case) (pairs : Pairs) (classes : List ℕ) (driver : ℕ) → IsClassOf case pairs classes driver driver
class_itself case pairs classes driver = record {
  earlier = omega arith;
  own = λ l. absurd (omega arith);
  twin = record { capacity = refl; fee = refl; past = refl; open_off = refl; row = λ o lo. refl };
}

module _ (case : Case) (pairs : Pairs) where
  -- a class among more
  later : (classes : List ℕ) (more k class : ℕ) → k ≤ length classes → IsClassOf case pairs classes k class →
      IsClassOf case pairs (classes ++ more ∷ []) k class
  later classes more k class l is = record {
    earlier = is.earlier;
    own = λ below. get_or-append classes (more ∷ []) 0 class (omega arith) ∙ is.own below;
    twin = is.twin;
  }

  within : (classes : List ℕ) (class k : ℕ) → k < length (classes ++ class ∷ []) → (k ≡ length classes → ⊥) → k < length classes
  within classes class k l other = let long = length-append classes (class ∷ []) in omega arith

  pushed : (classes : List ℕ) (class : ℕ) → AreSorted case pairs classes → IsClassOf case pairs classes (length classes) class →
      (k : ℕ) → k < length (classes ++ class ∷ []) → IsClassOf case pairs (classes ++ class ∷ []) k (slice_index (classes ++ class ∷ []) k)
  pushed classes class sorted is k l = elim (cases_eq k (length classes)) [
    | inl last ↦
        subst (λ (i : ℕ). IsClassOf case pairs (classes ++ class ∷ []) i (slice_index (classes ++ class ∷ []) i)) (sym last)
        (subst (IsClassOf case pairs (classes ++ class ∷ []) (length classes)) (sym (get_or-append_seam classes class [] 0))
        (later classes class (length classes) class (omega arith) is))
    | inr before ↦
        let below = within classes class k l before in
        subst (IsClassOf case pairs (classes ++ class ∷ []) k) (sym (get_or-append classes (class ∷ []) 0 k below))
        (later classes class k (slice_index classes k) (omega arith) (sorted.each k below))
  ]

  stands : (classes : List ℕ) → AreSorted case pairs classes → (k : ℕ) → k < length classes →
      (slice_index classes k ≡ k) ⊎ (slice_index classes k ≡ k → ⊥) → slice_index classes (slice_index classes k) ≡ slice_index classes k
  stands classes sorted k l (inl own) = ap (slice_index classes) own
  stands classes sorted k l (inr other) = let is = sorted.each k l in is.own (let e = is.earlier in omega arith)

-- one driver more
pub sorted_push : (case : Case) (pairs : Pairs) (classes : List ℕ) (class driver : ℕ) → AreSorted case pairs classes →
    driver ≡ length classes → IsClassOf case pairs classes driver class → AreSorted case pairs (classes ++ class ∷ [])
sorted_push case pairs classes class driver sorted last is = record {
  each = pushed case pairs classes class sorted (subst (λ (k : ℕ). IsClassOf case pairs classes k class) last is);
}

-- the classes of all drivers
pub all_sorted : (case : Case) (pairs : Pairs) (classes : List ℕ) → length classes ≡ length case.week.drivers →
    AreSorted case pairs classes → AreClasses case pairs (slice_index classes)
all_sorted case pairs classes count sorted = record {
  below = λ k l. let e = (sorted.each k (omega arith)).earlier in omega arith;
  own = λ k l. stands case pairs classes sorted k (omega arith) (cases_eq (slice_index classes k) k);
  twin = λ k l. (sorted.each k (omega arith)).twin;
}
