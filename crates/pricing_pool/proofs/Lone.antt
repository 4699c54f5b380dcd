-- A round of one seat.
use Rattle.std.proofs.Common.{◌≡◌, ◌⊎◌, inl, inr, ℕ, ◌<◌, List, [], ◌∷◌, length, refl, sym, ap, subst, ◌∙◌, arith}
use Rattle.label_arena.specs.Counting.{times as times_of_seat, once_below, total}
use Rattle.label_arena.specs.Views.{SeatView}
use Rattle.duty_plan.specs.declared.plans.Case.{Case}
use Rattle.duty_plan.specs.declared.deciding.Pairs.{Pairs}
use Rattle.duty_plan.specs.declared.pricing.Prices.{Prices}
use Rattle.duty_plan.specs.declared.pricing.Priced.{Priced}
use Rattle.duty_plan.specs.declared.pricing.Priced.TheVariants.{Least, NoDuty, Spent}
use Rattle.duty_plan.specs.LabelLists.{Entry, IsLabelList, MayStore}
use Rattle.duty_plan.specs.Rounds.{IsAnswer}
use Rattle.duty_plan.specs.SharedRounds.{AreJoined, IsSeatOf, Worker}
use Rattle.duty_plan.proofs.LabelLists.{only-first}
use Rattle.duty_plan.proofs.JoinedRounds.{joined_licence}
use Rattle.pricing_pool.specs.Pricing.{IsPricedFrom}
use Rattle.pricing_pool.proofs.Counting.{times-same}

module _ (m : ℕ) (case : Case) (pairs : Pairs) (prices : Prices) (driver : ℕ) (known : driver < length case.week.drivers) where
  abbrev worker : List ℕ → List Entry → Worker
  worker drawn entries = record { driver = driver; drawn = drawn; entries = entries }

  -- the one worker, who drew each number below the counter once
  joined : (drawn : List ℕ) (entries : List Entry) → IsSeatOf m case driver pairs prices drawn entries → (counter : ℕ) →
      ((x : ℕ) → times_of_seat x drawn ≡ once_below x counter) →
      AreJoined m case pairs prices (λ k. k) counter (worker drawn entries ∷ [])
  joined drawn entries seat counter once = record {
    classes = record {
      below = λ k lk. lk;
      own = λ k lk. refl;
      twin = λ k lk. record { capacity = refl; fee = refl; past = refl; open_off = refl; row = λ o lo. refl };
    };
    known = λ n w h. subst (λ (x : Worker). x.driver < length case.week.drivers) (only-first (worker drawn entries) w n h).1 known;
    own = λ n w h. refl;
    one = λ n k a b lk h i. let none = (only-first (worker drawn entries) a n h).0 in absurd (omega arith);
    seats = λ n w h. subst (λ (x : Worker). IsSeatOf m case x.driver pairs prices x.drawn x.entries) (only-first (worker drawn entries) w n h).1 seat;
    once = λ x. omega (arith, times-same x drawn, once x);
  }

  stores : (entries : List Entry) (stored : ℕ) → (entries ≡ []) ⊎ IsLabelList case driver pairs prices entries → length entries ≡ stored →
      MayStore case driver pairs prices stored
  stores entries stored (inl none) long = inl (sym long ∙ ap (λ (es : List Entry). length es) none)
  stores entries stored (inr list) long = inr (entries, list, long)

  -- its answer is right
  pub lone-answer : (seat : SeatView) (answer : Priced) → IsPricedFrom m case pairs prices driver seat.drawn answer → (counter : ℕ) →
      ((x : ℕ) → total (λ s. times_of_seat x s.drawn) (seat ∷ []) ≡ once_below x counter) → IsAnswer m case pairs prices driver answer
  lone-answer seat (Least value duty) priced counter once = priced.found
  lone-answer seat NoDuty priced counter once = priced.found
  lone-answer seat (Spent stored) priced counter once = (
    joined_licence m case pairs prices (λ k. k) counter (worker seat.drawn priced.entries ∷ [])
        (joined seat.drawn priced.entries priced.seat counter (λ x. omega (arith, once x)))
        0 (worker seat.drawn priced.entries) refl priced.found.0,
    stores priced.entries stored priced.seat.list priced.found.1,
  )
