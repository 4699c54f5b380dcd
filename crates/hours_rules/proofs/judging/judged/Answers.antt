use Rattle.std.proofs.Common.{◌∙◌, sym}
use Rattle.minute_line.specs.declared.marks.Kind.TheVariants.{Plain}
use Rattle.hours_rules.proofs.Stints.{block-off, off_mark}
use Rattle.hours_rules.proofs.Blocks.{stands-off_block}
use Rattle.hours_rules.proofs.Faults.{fault-off}
use Rattle.hours_rules.proofs.judging.judged.Goals as goal

pub returns-then-is_off : goal.returns-then-is_off
returns-then-is_off c = λ from past reached d s l none.
    rw (block-off c.args.stint.now.mark c.args.stint.now.minutes c.args.stint.now.kind reached (off_mark _ (sym c.is_off.ensures ∙ c.if-is_off.true)), c.add_off.ensures) (
      stands-off_block c.args.clock.now past c.args.stint.now.minutes Plain reached.minutes s,
      fault-off from past c.args.stint.now.minutes Plain reached.minutes ∙ none,
    )
