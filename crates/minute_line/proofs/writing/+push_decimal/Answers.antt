use Rattle.std.proofs.Common.{◌∙◌, sym, ap, ◌++◌, List, ℕ, arith, append_assoc}
use Rattle.std.proofs.lemmas.Fmt.{decimal_digit, decimal_step}
use Rattle.minute_line.proofs.writing.+push_decimal.Goals as goal

pub returns-then-number-lt10-clause-ok : goal.returns-then-number-lt10-clause-ok
returns-then-number-lt10-clause-ok t c = c.in_ok-push.ensures.ok ∙ ap (λ (d : List ℕ). c.args.text.now ++ d) (sym (decimal_digit c.args.number c.if-number-lt10.true))

pub returns-clause-ok : goal.returns-clause-ok
returns-clause-ok t c = c.in_ok-push-2.ensures.ok ∙ rw (c.in_ok-push_decimal.ensures.ok, decimal_step c.args.number c.if-number-lt10.false (omega arith)) (append_assoc c.args.text.now _ _)
