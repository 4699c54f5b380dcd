-- Settled, or extended.
use Rattle.std.proofs.Common.{refl}
use Rattle.duty_pricing.proofs.Searching.{grows-same}
use Rattle.duty_pricing.proofs.Visiting.{may-begin, done-settled, done-extended}
use Rattle.duty_pricing.proofs.stores.LabelStore.visit.Goals as goal

pub returns-then-is_settled-clause-grows : goal.returns-then-is_settled-clause-grows
returns-then-is_settled-clause-grows c = grows-same c.args.from.now.clock.at c.args.self.now c.args.self.now refl refl

pub returns-then-is_settled-clause-done : goal.returns-then-is_settled-clause-done
returns-then-is_settled-clause-done c = λ _. done-settled c.args.asked.now c.args.from.now.clock.at c.args.self.now c.args.number c.args.from.now c.requires.asked c.requires.search c.requires.from (c.is_settled.ensures.settled c.if-is_settled.true)

pub extend-requires-clause-from : goal.extend-requires-clause-from
extend-requires-clause-from c = may-begin c.args.asked.now c.args.from.now.clock.at c.args.self.now c.args.number c.args.from.now c.requires.asked c.requires.search c.requires.from (c.is_settled.ensures.free c.if-is_settled.false)

pub returns-clause-done : goal.returns-clause-done
returns-clause-done c = λ e. done-extended c.args.asked.now c.args.number c.args.from.now c.args.self.now c.extend.new.self c.extend.ensures.on (c.extend.ensures.tried e)
