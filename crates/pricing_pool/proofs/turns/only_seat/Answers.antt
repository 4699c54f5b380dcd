use Rattle.std.proofs.Common.{sym, ◌∙◌}
use Rattle.pricing_pool.proofs.Elements.{last-alone}
use Rattle.pricing_pool.proofs.turns.only_seat.Goals as goal

pub returns : goal.returns
returns c = last-alone c.pop.new.self.items c.in-Some.seat c.args.seats (sym c.into_vec-row.ensures ∙ c.in-Some.ensures.items) c.requires
