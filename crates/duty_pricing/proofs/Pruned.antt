-- What the walks and the outlook say of a label's completions.
use Rattle.std.proofs.Common.{◌≡◌, ℕ, Bool, true, false, ◌++◌, Option, Some, None, sym, subst, arith}
use Rattle.std.specs.Prelude.{ℤ}
use Rattle.std.proofs.lemmas.Int.{ints}
use Rattle.duty_plan.specs.declared.plans.Case.{Case}
use Rattle.duty_plan.specs.declared.deciding.Pairs.{Pairs}
use Rattle.duty_plan.specs.declared.pricing.Prices.{Prices}
use Rattle.duty_plan.specs.declared.labels.Label.{Label}
use Rattle.duty_plan.specs.PartialDuties.{PartialDuty}
use Rattle.duty_plan.specs.Values.{IsInside, reduced_cost}
use Rattle.duty_plan.specs.Labels.{IsLabelOf}
use Rattle.duty_label.specs.declared.walks.Walks.{Walks}
use Rattle.duty_label.specs.Pruning.{AreWalksOf, IsHopeless as IsPruned, IsWayHome, Knows}
use Rattle.duty_label.proofs.Prunes.{prunes_soundly, keeps_hopeful, keeps_on_time}
use Rattle.duty_outlook.specs.Laws.{HasNoBelow}
use Rattle.dominance.specs.Completions.{IsCompletion}
use Rattle.duty_label.specs.Pruning.{Knows}
use Rattle.duty_pricing.specs.Exhausting.{IsHopeless}
use Rattle.duty_pricing.specs.Storing.{IsHopeful, IsOnTime}

as-low : (known : Option ℤ) (value : ℤ) → Knows known value → Knows known value
as-low None value h = h
as-low (Some known) value h = h

way-home : (case : Case) (driver : ℕ) (pairs : Pairs) (partial more : PartialDuty) → IsCompletion case driver partial more →
    IsInside case.week pairs driver (more ++ partial) → IsWayHome case driver pairs partial more
way-home case driver pairs partial more done inside = record { lawful = done.lawful; home = done.home; inside = inside }

module _ (case : Case) (driver : ℕ) (pairs : Pairs) (prices : Prices) (partial : PartialDuty) where
  pub outlook-hopeless : (known : Option ℤ) (value : ℤ) → known ≡ Some value → HasNoBelow case driver pairs prices partial value →
      IsHopeless case driver pairs prices known partial
  outlook-hopeless known value is below more done inside =
      subst (λ (o : Option ℤ). Knows o (reduced_cost case driver prices (more ++ partial))) (sym is)
      (below more (way-home case driver pairs partial more done inside))

  module _ (walks : Walks) (known : Option ℤ) (label : Label) (is : IsLabelOf case driver prices label partial) where
    pub walks-hopeless : AreWalksOf case.week walks → IsPruned case.week walks driver pairs prices label known →
        IsHopeless case driver pairs prices known partial
    walks-hopeless w pruned more done inside =
        as-low known (reduced_cost case driver prices (more ++ partial))
        (prunes_soundly case driver walks pairs prices known label partial more w is pruned (way-home case driver pairs partial more done inside))

    module _ (test : Bool) (free : test ≡ false) (told : IsPruned case.week walks driver pairs prices label known → test ≡ true) where
      clash : (b : Bool) → b ≡ true → b ≡ false → ⊥
      clash b t f = cc

      kept : IsPruned case.week walks driver pairs prices label known → ⊥
      kept pruned = clash test (told pruned) free

      pub walks-on-time : IsOnTime case driver pairs partial
      walks-on-time = keeps_on_time case driver walks pairs prices known label partial is kept

      pub walks-hopeful : IsHopeful case driver pairs prices known partial
      walks-hopeful = by_known known kept
        where
          by_known : (o : Option ℤ) → (IsPruned case.week walks driver pairs prices label o → ⊥) → IsHopeful case driver pairs prices o partial
          by_known None k low = low
          by_known (Some value) k low =
              let below = keeps_hopeful case driver walks pairs prices value label partial is k in omega (arith, ints, low, below)
