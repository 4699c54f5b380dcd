-- A round of seats that share the chunks: the answers are right.
use Rattle.std.proofs.Common.{◌≡◌, ◌≢◌, ◌⊎◌, inl, inr, ℕ, zero, suc, ◌<◌, List, [], ◌∷◌, length, refl, sym, subst, ◌∙◌, arith, Option, Some, None, slice_get}
use Rattle.std.proofs.lemmas.Bool.{cases_eq}
use Rattle.duty_plan.specs.declared.plans.Case.{Case}
use Rattle.duty_plan.specs.declared.deciding.Pairs.{Pairs}
use Rattle.duty_plan.specs.declared.pricing.Prices.{Prices}
use Rattle.duty_plan.specs.declared.pricing.Priced.{Priced}
use Rattle.duty_plan.specs.Sums.{total_below}
use Rattle.duty_plan.specs.LabelLists.{Entry}
use Rattle.duty_plan.specs.Rounds.{IsRound}
use Rattle.duty_plan.specs.SharedRounds.{AreClasses, IsFound, IsSeatOf}
use Rattle.duty_plan.proofs.Lists.{slice_get-lt}
use Rattle.duty_plan.proofs.SharedRounds.{SharedRound, shared_is_round}
use Rattle.label_arena.specs.Counting.{once_below}
use Rattle.duty_plan.specs.Duties.{times}
use Rattle.pricing_pool.specs.Pricing.{IsPricedFrom}

get-some : {X : Type 0} (xs : List X) (k : ℕ) → k < length xs → slice_get xs k ≡ None → ⊥
get-some [] k l h = absurd (omega arith)
get-some (x ∷ xs) zero l h = cc
get-some (x ∷ xs) (suc k) l h = get-some xs k (omega arith) h

pub some-same : {X : Type 0} (a b : X) → Some a ≡ Some b → a ≡ b
some-same a b h = cc

module _ (m : ℕ) (case : Case) (pairs : Pairs) (prices : Prices) (rep : ℕ → ℕ) (drawn : ℕ → List ℕ) (answers : List Priced) where
  -- each answer is that of the one who stands for the driver, whose own answer was found from what his seat drew
  pub record AreFound : Type 0 where
    pub drivers : length answers ≡ length case.week.drivers
    pub same : (driver : ℕ) (answer : Priced) → slice_get answers driver ≡ Some answer → slice_get answers (rep driver) ≡ Some answer
    pub priced : (driver : ℕ) (answer : Priced) → rep driver ≡ driver → slice_get answers driver ≡ Some answer →
        IsPricedFrom m case pairs prices driver (drawn driver) answer
    pub idle : (driver : ℕ) → driver < length case.week.drivers → rep driver ≢ driver → drawn driver ≡ []

  module _ (found : AreFound) where
    -- what was stored for a driver who stands for himself
    abbrev stored : (driver : ℕ) → (rep driver ≡ driver) ⊎ (rep driver ≢ driver) → (answer : Option Priced) → slice_get answers driver ≡ answer → List Entry
    stored driver (inl own) (Some answer) is = (found.priced driver answer own is).entries
    stored driver (inl own) None is = []
    stored driver (inr other) answer is = []

    seat-of : (driver : ℕ) (by : (rep driver ≡ driver) ⊎ (rep driver ≢ driver)) (answer : Option Priced) (is : slice_get answers driver ≡ answer) →
        rep driver ≡ driver → driver < length answers → IsSeatOf m case driver pairs prices (drawn driver) (stored driver by answer is)
    seat-of driver (inl own) (Some answer) is same l = (found.priced driver answer own is).seat
    seat-of driver (inl own) None is same l = absurd (get-some answers driver l is)
    seat-of driver (inr other) answer is same l = absurd (other same)

    found-of : (driver : ℕ) (by : (rep driver ≡ driver) ⊎ (rep driver ≢ driver)) (answer : Option Priced) (is : slice_get answers driver ≡ answer) →
        rep driver ≡ driver → (other : Priced) → slice_get answers driver ≡ Some other → IsFound m case pairs prices driver (drawn driver) (stored driver by answer is) other
    found-of driver (inl own) (Some answer) is same other at =
        subst (λ (a : Priced). IsFound m case pairs prices driver (drawn driver) (found.priced driver answer own is).entries a)
        (some-same answer other (sym is ∙ at)) (found.priced driver answer own is).found
    found-of driver (inl own) None is same other at = absurd (get-some answers driver (slice_get-lt answers driver other at) is)
    found-of driver (inr apart) answer is same other at = absurd (apart same)

    abbrev entries : ℕ → List Entry
    entries driver = stored driver (cases_eq (rep driver) driver) (slice_get answers driver) refl

    module _ (classes : AreClasses case pairs rep) (counter : ℕ)
        (once : (x : ℕ) → total_below (λ driver. times x (drawn driver)) (length case.week.drivers) ≡ once_below x counter) where
      abbrev round : SharedRound m case pairs prices
      round = record {
        rep = rep;
        drawn = drawn;
        entries = entries;
        counter = counter;
        classes = classes;
        seat = λ driver l own. let many = found.drivers in
            seat-of driver (cases_eq (rep driver) driver) (slice_get answers driver) refl own (omega arith);
        idle = found.idle;
        once = once;
      }

      pub shared-round : IsRound m case pairs prices answers
      shared-round = shared_is_round m case pairs prices round answers (record {
        drivers = found.drivers;
        found = λ driver answer at.
            let l = slice_get-lt answers driver answer at in
            let many = found.drivers in
            let own = classes.own driver (omega arith) in
            found-of (rep driver) (cases_eq (rep (rep driver)) (rep driver)) (slice_get answers (rep driver)) refl own answer (found.same driver answer at);
      })
