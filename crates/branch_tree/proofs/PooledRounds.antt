-- The duties of a round enter the pool one after another.
use Rattle.std.proofs.Common.{◌≡◌, ◌≢◌, ◌⊎◌, inl, inr, ℕ, ◌+◌, ◌<◌, List, ap, sym, subst, ◌∙◌, arith, ℤ, Some, slice_get}
use Rattle.std.specs.Prelude.{Result, Ok, Err, OnOk, OnErr}
use Rattle.duty_plan.specs.declared.duties.Duty.{Duty}
use Rattle.duty_plan.specs.declared.pricing.Priced.{Priced}
use Rattle.duty_plan.specs.declared.pricing.Priced.TheVariants.{Least}
use Rattle.price_master.specs.declared.pooling.Pooled.{Pooled}
use Rattle.price_master.specs.Pools.{AddsTo, IsPooled}
use Rattle.price_master.proofs.Adding.{others-pooled}
use Rattle.price_master.proofs.Lookups.{same-or-not}

-- what another driver has stays, whether memory wanted or not
pub others-after : {T E : Type 0} (r : Result T E) (driver other : ℕ) (entry : Pooled) (duty : Duty) (old new : List (List Pooled)) → other ≢ driver →
    OnOk r (AddsTo driver entry old new) → OnErr r (new ≡ old) → IsPooled old other duty → IsPooled new other duty
others-after (Ok x) driver other entry duty old new d a s p = others-pooled driver other entry duty old new d a p
others-after (Err e) driver other entry duty old new d a s p = subst (λ (x : List (List Pooled)). IsPooled x other duty) (sym s) p

-- the duties of the first n drivers' answers are in the pool
abbrev pub ArePooledSoFar : List (List Pooled) → List Priced → ℕ → Type 0
ArePooledSoFar pool answers n = (driver : ℕ) (value : ℤ) (duty : Duty) → driver < n → slice_get answers driver ≡ Some (Least value duty) → IsPooled pool driver duty

pub pooled-more : (old new : List (List Pooled)) (answers : List Priced) (n : ℕ) (answer : Priced) → ArePooledSoFar old answers n → slice_get answers n ≡ Some answer →
    ((value : ℤ) (duty : Duty) → answer ≡ Least value duty → IsPooled new n duty) →
    ((other : ℕ) (duty : Duty) → other ≢ n → IsPooled old other duty → IsPooled new other duty) → ArePooledSoFar new answers (n + 1)
pooled-more old new answers n answer before there here others driver value duty l h = by_driver (same-or-not driver n)
  where
    by_driver : (driver ≡ n) ⊎ (driver ≢ n) → IsPooled new driver duty
    by_driver (inr d) = others driver duty d (before driver value duty (omega arith) h)
    by_driver (inl e) =
        let at : slice_get answers n ≡ Some (Least value duty) = ap (slice_get answers) (sym e) ∙ h in
        let is : answer ≡ Least value duty = cc in
        subst (λ (k : ℕ). IsPooled new k duty) (sym e) (here value duty is)
