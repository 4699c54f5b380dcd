use Rattle.std.proofs.Common.{Result, Ok, Err, IfOk}
use Rattle.minute_line.specs.declared.many.Memory.{Memory}
use Rattle.week_book.specs.declared.weeks.Week.{Week}
use Rattle.duty_plan.specs.declared.pricing.Prices.{Prices}
use Rattle.duty_plan.specs.Trees.{AreStartPrices}
use Rattle.duty_plan.specs.Values.{IsPrices}
use Rattle.price_master.proofs.Whole.{start-prices}
use Rattle.pool_tests.proofs.cases.prices_of.Goals as goal

at-start : (week : Week) (found : Result Prices Memory) → IfOk found (AreStartPrices week) → IfOk found (IsPrices week)
at-start week (Ok prices) h = start-prices week prices h
at-start week (Err want) h = tt

pub returns : goal.returns
returns c = at-start c.args.week.now c.start_prices.result c.start_prices.ensures
