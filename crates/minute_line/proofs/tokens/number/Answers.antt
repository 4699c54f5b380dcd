use Rattle.std.proofs.Common.{◌∙◌, ap, arith}
use Rattle.minute_line.specs.declared.tokens.Token.{Token}
use Rattle.minute_line.proofs.Walks.{value_at-get, value_at-past}
use Rattle.minute_line.proofs.tokens.number.Goals as goal

pub returns-in-Some : goal.returns-in-Some
returns-in-Some c = ap (λ (t : Token). t.value) c.in-Some.ensures.lookup.1 ∙ value_at-get c.args.tokens.now c.args.place _ (grind arith)

pub returns-in-None : goal.returns-in-None
returns-in-None c = value_at-past c.args.tokens.now c.args.place (grind arith)
