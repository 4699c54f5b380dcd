-- What was filled and found is what is asked for.
use Rattle.duty_pricing.proofs.Beginning.{found-beforehand}
use Rattle.duty_pricing.proofs.scratch.price_driver.Goals as goal

pub price-requires-clause-asked : goal.price-requires-clause-asked
price-requires-clause-asked c = record {
  is_case = c.requires.case;
  in_week = c.requires.driver;
  are_pairs = c.requires.pairs;
  are_prices = c.requires.prices;
  walks = c.fill.ensures.bounds;
  outlook = c.fill-2.ensures;
  found = found-beforehand c.args.case.now c.args.driver c.args.pairs.now c.args.prices.now c.find-found.result _ _ c.find-found.ensures.some c.steps.ensures;
  few = c.requires.few;
  is_forced = c.forced-forced.ensures;
}
