-- What a driver's least duty is asked for.
use Rattle.std.specs.Prelude.{◌≡◌, ◌<◌, ◌≤◌, length, ℤ, Some}
use Rattle.duty_plan.specs.Duties.{IsCase}
use Rattle.duty_plan.specs.Values.{IsPairs, IsPrices}
use Rattle.duty_plan.specs.Labels.{forced_orders}
use Rattle.duty_label.specs.Pruning.{AreWalksOf}
use Rattle.duty_outlook.specs.Laws.{IsOutlookOf}
use Rattle.duty_beam.specs.Finding.{IsDutyOf}
use Rattle.duty_pricing.specs.declared.asking.Asked.{Asked}

-- a driver of a valid case, at pairs and prices of the week, the walks of the week, the driver's outlook, a round of at most 2,048
-- chunks, and the duty that was found, where one was; the forced orders are those of the pairs
pub record IsAsked (asked : Asked) : Type 0 where
  pub is_case : IsCase asked.case.now
  pub in_week : asked.driver < length asked.case.now.week.drivers
  pub are_pairs : IsPairs asked.case.now.week asked.pairs.now
  pub are_prices : IsPrices asked.case.now.week asked.prices.now
  pub walks : AreWalksOf asked.case.now.week asked.walks.now
  pub outlook : IsOutlookOf asked.case.now asked.driver asked.pairs.now asked.prices.now asked.outlook.now
  pub found : (value : ℤ) → asked.found ≡ Some value →
      IsDutyOf asked.case.now asked.driver asked.pairs.now asked.prices.now asked.steps.now value
  pub few : asked.round.now.chunks ≤ 2048
  pub is_forced : asked.forced ≡ forced_orders asked.case.now.week asked.pairs.now asked.driver
