-- What a good duty is asked for.
use Rattle.std.specs.Prelude.{◌<◌, length}
use Rattle.duty_plan.specs.Duties.{IsCase}
use Rattle.duty_plan.specs.Values.{IsPairs, IsPrices}
use Rattle.duty_beam.specs.declared.asking.Asked.{Asked}

-- a driver of a valid case, at pairs and prices of the week
pub record IsAsked (asked : Asked) : Type 0 where
  pub is_case : IsCase asked.case.now
  pub is_driver : asked.driver < length asked.case.now.week.drivers
  pub are_pairs : IsPairs asked.case.now.week asked.pairs.now
  pub are_prices : IsPrices asked.case.now.week asked.prices.now
