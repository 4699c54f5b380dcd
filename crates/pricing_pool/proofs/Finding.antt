-- What price_driver found is what the answer says.
use Rattle.std.proofs.Common.{ℕ, List, sym, subst, ◌∙◌}
use Rattle.duty_plan.specs.declared.duties.Step.{Step}
use Rattle.duty_plan.specs.declared.plans.Case.{Case}
use Rattle.duty_plan.specs.declared.deciding.Pairs.{Pairs}
use Rattle.duty_plan.specs.declared.pricing.Prices.{Prices}
use Rattle.duty_plan.specs.Values.{IsLeast}
use Rattle.duty_plan.specs.SharedRounds.{IsSeatOf}
use Rattle.duty_pricing.specs.declared.pricing.Found.{Found}
use Rattle.duty_pricing.specs.declared.pricing.Found.TheVariants.{Least, NoDuty, Spent}
use Rattle.duty_pricing.specs.declared.scratch.Scratch.{Scratch}
use Rattle.duty_pricing.specs.Finding.{IsFoundFor, entries_in}
use Rattle.duty_pricing.proofs.Entries.{length-entries}
use Rattle.pricing_pool.specs.Pricing.{IsPricedFrom, answer_for}

module _ (m : ℕ) (case : Case) (pairs : Pairs) (prices : Prices) (driver : ℕ) (drawn : List ℕ) (scratch : Scratch)
    (seat : IsSeatOf m case driver pairs prices drawn (entries_in scratch)) where
  pub priced-from : (found : Found) → IsFoundFor m case driver pairs prices drawn scratch found →
      IsPricedFrom m case pairs prices driver drawn (answer_for found scratch.labels.steps)
  priced-from (Least value) h = record {
    entries = entries_in scratch;
    seat = seat;
    found = subst (λ (xs : List Step). IsLeast case driver pairs prices value (record { steps = xs })) (sym h.steps) h.least;
  }
  priced-from NoDuty h = record { entries = entries_in scratch; seat = seat; found = h }
  priced-from (Spent stored) h = record {
    entries = entries_in scratch;
    seat = seat;
    found = (h.0, length-entries scratch.labels.slots ∙ sym h.1);
  }
