-- What the pricing of one driver of a round came to.
use Rattle.std.specs.Prelude.{ℕ, List, ◌≤◌}
use Rattle.duty_plan.specs.declared.plans.Case.{Case}
use Rattle.duty_plan.specs.declared.deciding.Pairs.{Pairs}
use Rattle.duty_plan.specs.declared.pricing.Prices.{Prices}
use Rattle.duty_plan.specs.declared.pricing.Priced.{Priced}
use Rattle.duty_plan.specs.declared.pricing.Priced.TheVariants.{Least, NoDuty, Spent}
use Rattle.duty_plan.specs.declared.duties.Step.{Step}
use Rattle.duty_pricing.specs.declared.pricing.Found.{Found}
use Rattle.duty_pricing.specs.declared.pricing.Found.TheVariants as found
use Rattle.duty_plan.specs.Duties.{IsCase}
use Rattle.duty_plan.specs.Values.{IsPairs, IsPrices}
use Rattle.duty_plan.specs.LabelLists.{Entry}
use Rattle.duty_plan.specs.SharedRounds.{IsSeatOf, IsFound}
use Rattle.pricing_pool.specs.declared.pricing.Asked.{Asked}

-- a valid case with pairs and prices of its week, and a round of at most 2,048 chunks
pub record IsAsked (asked : Asked) : Type 0 where
  pub is_case : IsCase asked.case.now
  pub are_pairs : IsPairs asked.case.now.week asked.pairs.now
  pub are_prices : IsPrices asked.case.now.week asked.prices.now
  pub few : asked.round.now.chunks ≤ 2048

-- the driver was priced with m chunks: of the numbers that its seat drew and of what it stored the answer was found
pub record IsPricedFrom (m : ℕ) (case : Case) (pairs : Pairs) (prices : Prices) (driver : ℕ) (drawn : List ℕ) (answer : Priced) : Type 0 where
  pub entries : List Entry
  pub seat : IsSeatOf m case driver pairs prices drawn entries
  pub found : IsFound m case pairs prices driver drawn entries answer

-- so for what is asked
abbrev pub IsPriced : Asked → ℕ → List ℕ → Priced → Type 0
IsPriced asked driver drawn answer =
    IsPricedFrom asked.round.now.chunks asked.case.now asked.pairs.now asked.prices.now driver drawn answer

-- the answer for what was found: with the steps of a duty where it is a least value
abbrev pub answer_for : Found → List Step → Priced
answer_for (found.Least value) steps = Least value (record { steps = steps })
answer_for found.NoDuty steps = NoDuty
answer_for (found.Spent stored) steps = Spent stored
