use Rattle.std.proofs.Common.{arith, sym, ◌∙◌}
use Rattle.minute_line.specs.declared.marks.Kind.TheVariants.{Plain}
use Rattle.hours_rules.proofs.Stints.{block-off, block-duty, off_mark, duty_mark}
use Rattle.hours_rules.proofs.Blocks.{stands-off_block}
use Rattle.hours_rules.proofs.Faults.{block-stands}
use Rattle.hours_rules.proofs.Within.{within-ended}
use Rattle.hours_rules.proofs.judging.pass.Goals as goal

pub returns-then-is_off : goal.returns-then-is_off
returns-then-is_off c = λ past reached d s.
    rw (block-off c.args.stint.now.mark c.args.stint.now.minutes c.args.stint.now.kind reached (off_mark _ (sym c.is_off.ensures ∙ c.if-is_off.true)), c.add_off.ensures)
    (stands-off_block c.args.clock.now past c.args.stint.now.minutes Plain reached.minutes s)

pub tick-requires-clause-within : goal.tick-requires-clause-within
tick-requires-clause-within c = rw c.end_run.ensures (within-ended 80000 100000 _ _ (omega arith) c.requires.within)

pub returns : goal.returns
returns c = λ past reached d s.
    rw (block-duty c.args.stint.now.mark c.args.stint.now.minutes c.args.stint.now.kind reached (duty_mark _ (sym c.is_off.ensures ∙ c.if-is_off.false)), d, c.tick.ensures, c.end_run.ensures)
    (block-stands c.args.clock.now past c.args.stint.now.minutes c.args.stint.now.mark c.args.declared reached.minutes (duty_mark _ (sym c.is_off.ensures ∙ c.if-is_off.false)) (omega arith) s)
