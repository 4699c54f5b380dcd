use Rattle.duty_label.proofs.Values.{no-price}
use Rattle.duty_label.proofs.prices.price_of_act.Goals as goal

pub returns-in-None-clause-price : goal.returns-in-None-clause-price
returns-in-None-clause-price c = rw c.in-Serve.is (no-price c.args.prices.now c.in-Serve.order c.in-None.ensures)
