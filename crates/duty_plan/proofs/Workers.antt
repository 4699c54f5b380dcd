-- What each driver has of the workers of a round.
use Rattle.std.proofs.Common.{◌≡◌, ◌≢◌, ◌⊎◌, inl, inr, ℕ, zero, suc, ◌+◌, ◌<◌, ◌++◌, Bool, true, false, cond, eqb, List, [], ◌∷◌, refl, subst, arith, Some, slice_get}
use Rattle.std.proofs.lemmas.Bool.{cases_eq}
use Rattle.std.proofs.lemmas.Bool.Decides.{nat_tests}
use Rattle.std.proofs.lemmas.List.{append-nil}
use Rattle.duty_plan.specs.Duties.{EachOf, times}
use Rattle.duty_plan.specs.Sums.{total_below}
use Rattle.duty_plan.specs.SharedRounds.{Worker, times_drawn}
use Rattle.duty_plan.proofs.Sums.{times-append, total-add, total-same, total-zero, total-one}

-- what the workers of a driver have, one after another
abbrev pub gathered : {X : Type 0} → (Worker → List X) → List Worker → ℕ → List X
gathered f [] driver = []
gathered f (worker ∷ rest) driver = cond (eqb driver worker.driver) (f worker) [] ++ gathered f rest driver

-- no worker priced the driver
abbrev pub IsApart : List Worker → ℕ → Type 0
IsApart workers driver = (n : ℕ) (worker : Worker) → slice_get workers n ≡ Some worker → worker.driver ≢ driver

pub gathered-none_step : {X : Type 0} (f : Worker → List X) (worker : Worker) (rest : List Worker) (driver : ℕ) (b : Bool) →
    eqb driver worker.driver ≡ b → worker.driver ≢ driver → gathered f rest driver ≡ [] → gathered f (worker ∷ rest) driver ≡ []
gathered-none_step f worker rest driver true e other more = let same : worker.driver ≡ driver = grind (arith, nat_tests) in absurd (other same)
gathered-none_step f worker rest driver false e other more = rw e more

pub gathered-none : {X : Type 0} (f : Worker → List X) (workers : List Worker) (driver : ℕ) → IsApart workers driver → gathered f workers driver ≡ []
gathered-none f [] driver apart = refl
gathered-none f (worker ∷ rest) driver apart =
    gathered-none_step f worker rest driver (eqb driver worker.driver) refl (apart 0 worker refl)
    (gathered-none f rest driver (λ n w h. apart (suc n) w h))

pub gathered-here : {X : Type 0} (f : Worker → List X) (worker : Worker) (rest : List Worker) (b : Bool) → eqb worker.driver worker.driver ≡ b →
    gathered f rest worker.driver ≡ [] → gathered f (worker ∷ rest) worker.driver ≡ f worker
gathered-here f worker rest true e none = rw (e, none) (append-nil (f worker))
gathered-here f worker rest false e none = let bad : worker.driver ≢ worker.driver = grind (arith, nat_tests) in absurd (bad refl)

pub gathered-later : {X : Type 0} (f : Worker → List X) (worker : Worker) (rest : List Worker) (driver : ℕ) (xs : List X) (b : Bool) →
    eqb driver worker.driver ≡ b → driver ≢ worker.driver → gathered f rest driver ≡ xs → gathered f (worker ∷ rest) driver ≡ xs
gathered-later f worker rest driver xs true e other more = let same : driver ≡ worker.driver = grind (arith, nat_tests) in absurd (other same)
gathered-later f worker rest driver xs false e other more = rw e more

abbrev pub EachOne : List Worker → Type 0
EachOne workers =
    (n k : ℕ) (a b : Worker) → k < n → slice_get workers n ≡ Some a → slice_get workers k ≡ Some b → a.driver ≢ b.driver

pub gathered-at : {X : Type 0} (f : Worker → List X) (workers : List Worker) → EachOne workers → (n : ℕ) (worker : Worker) →
    slice_get workers n ≡ Some worker → gathered f workers worker.driver ≡ f worker
gathered-at f [] one n worker h = cc
gathered-at f (first ∷ rest) one zero worker h =
    let same : first ≡ worker = cc in
    subst (λ (w : Worker). gathered f (first ∷ rest) w.driver ≡ f w) same
    (gathered-here f first rest (eqb first.driver first.driver) refl
    (gathered-none f rest first.driver (λ k w i. one (suc k) 0 w first (omega arith) i refl)))
gathered-at f (first ∷ rest) one (suc n) worker h =
    gathered-later f first rest worker.driver (f worker) (eqb worker.driver first.driver) refl (one (suc n) 0 worker first (omega arith) h refl)
    (gathered-at f rest (λ i k a b l p q. one (suc i) (suc k) a b (omega arith) p q) n worker h)

pub times-if : (x : ℕ) (b : Bool) (xs ys : List ℕ) → times x (cond b xs [] ++ ys) ≡ cond b (times x xs) 0 + times x ys
times-if x true xs ys = times-append x xs ys
times-if x false xs ys = omega arith

pub gathered-times : (x d : ℕ) (workers : List Worker) → EachOf (λ n worker. worker.driver < d) workers →
    total_below (λ driver. times x (gathered (λ w. w.drawn) workers driver)) d ≡ times_drawn x workers
gathered-times x d [] known = total-zero (λ o. 0) d (λ o l. refl)
gathered-times x d (worker ∷ rest) known =
    let split : total_below (λ driver. times x (gathered (λ w. w.drawn) (worker ∷ rest) driver)) d
    ≡ total_below (λ driver. cond (eqb driver worker.driver) (times x worker.drawn) 0 + times x (gathered (λ w. w.drawn) rest driver)) d =
    total-same (λ driver. times x (gathered (λ w. w.drawn) (worker ∷ rest) driver))
    (λ driver. cond (eqb driver worker.driver) (times x worker.drawn) 0 + times x (gathered (λ w. w.drawn) rest driver)) d
    (λ driver l. times-if x (eqb driver worker.driver) worker.drawn (gathered (λ w. w.drawn) rest driver)) in
    let here : total_below (λ driver. cond (eqb driver worker.driver) (times x worker.drawn) 0) d ≡ times x worker.drawn =
    total-one (λ o. times x worker.drawn) worker.driver d (known 0 worker refl) in
    let more = gathered-times x d rest (λ n w h. known (suc n) w h) in
    omega (arith, total-add (λ driver. cond (eqb driver worker.driver) (times x worker.drawn) 0) (λ driver. times x (gathered (λ w. w.drawn) rest driver)) d)

-- a driver was priced by a worker, or by none
pub find-worker : (workers : List Worker) (driver : ℕ) →
    ((n : ℕ) × (worker : Worker) × (slice_get workers n ≡ Some worker) × (worker.driver ≡ driver)) ⊎ IsApart workers driver
find-worker [] driver = inr (λ n worker h. cc)
find-worker (first ∷ rest) driver = step (cases_eq first.driver driver) (find-worker rest driver)
  where
    step : (first.driver ≡ driver) ⊎ (first.driver ≢ driver) →
        ((n : ℕ) × (worker : Worker) × (slice_get rest n ≡ Some worker) × (worker.driver ≡ driver)) ⊎ IsApart rest driver →
        ((n : ℕ) × (worker : Worker) × (slice_get (first ∷ rest) n ≡ Some worker) × (worker.driver ≡ driver)) ⊎ IsApart (first ∷ rest) driver
    step (inl same) more = inl (0, first, refl, same)
    step (inr other) (inl found) = inl (suc found.0, found.1, found.2, found.3)
    step (inr other) (inr none) = inr apart
      where
        apart : (n : ℕ) (worker : Worker) → slice_get (first ∷ rest) n ≡ Some worker → worker.driver ≢ driver
        apart zero worker h = let same : first ≡ worker = cc in subst (λ (w : Worker). w.driver ≢ driver) same other
        apart (suc n) worker h = none n worker h
