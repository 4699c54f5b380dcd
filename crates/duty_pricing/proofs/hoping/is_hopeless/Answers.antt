-- By the walks.
use Rattle.duty_pricing.proofs.Pruned.{walks-hopeful, walks-hopeless, walks-on-time}
use Rattle.duty_pricing.proofs.hoping.is_hopeless.Goals as goal

pub returns : goal.returns
returns c = record {
  pruned = λ e partial h.
      walks-hopeless c.args.asked.now.case.now c.args.asked.now.driver c.args.asked.now.pairs.now c.args.asked.now.prices.now partial
      c.args.asked.now.walks.now c.args.known c.args.label.now h.label_of c.requires.asked.walks (c.hopeless.ensures.0 e);
  on_time = λ f partial h.
      walks-on-time c.args.asked.now.case.now c.args.asked.now.driver c.args.asked.now.pairs.now c.args.asked.now.prices.now partial
      c.args.asked.now.walks.now c.args.known c.args.label.now h.label_of c.hopeless.result f c.hopeless.ensures.1;
  hopeful = λ f partial h.
      walks-hopeful c.args.asked.now.case.now c.args.asked.now.driver c.args.asked.now.pairs.now c.args.asked.now.prices.now partial
      c.args.asked.now.walks.now c.args.known c.args.label.now h.label_of c.hopeless.result f c.hopeless.ensures.1;
}
