use Rattle.std.proofs.Common.{◌≡◌, ◌∙◌, arith, refl, take, fold}
use Rattle.std.proofs.lemmas.List.{take_all}
use Rattle.std.proofs.lemmas.List.Sums.{fold_more}
use Rattle.minute_line.specs.declared.marks.Kind.TheVariants.{Plain}
use Rattle.minute_line.specs.Minutes.{add_stint, nothing}
use Rattle.hours_rules.specs.Stints.{before_history}
use Rattle.hours_rules.proofs.Histories.{is_history, carried}
use Rattle.hours_rules.proofs.Chains.{starts-off}
use Rattle.hours_rules.proofs.DebtSizes.{no_weekly-history}
use Rattle.hours_rules.proofs.Starts.{within-read, stands-monday}
use Rattle.hours_rules.proofs.Within.{within-rested}
use Rattle.hours_rules.proofs.Blocks.{stands-off_block}
use Rattle.hours_rules.proofs.judging.start.Goals as goal

pub pass-clock-requires-clause-within : goal.pass-clock-requires-clause-within
pass-clock-requires-clause-within c =
    let h = is_history c.args.history.now in
    within-read 80000 20160 c.loop-stint.clock (before_history c.args.history.now) c.as_slice-stint-items.result.now c.loop-stint.stint-index
    c.loop-stint.invariant.stands (rw c.as_slice-stint-items.ensures h.stints) (omega arith) (omega arith) (omega arith) (carried c.args.history.now)

pub loop-stint-preserved : goal.loop-stint-preserved
loop-stint-preserved c =
    let step = fold_more add_stint nothing c.as_slice-stint-items.result.now c.loop-stint.stint-index _ c.loop-stint-test.true in record {
      stands = rw step (c.pass-clock.ensures (before_history c.args.history.now) (fold add_stint nothing (take c.loop-stint.stint-index c.as_slice-stint-items.result.now)) c.loop-stint.invariant.declared c.loop-stint.invariant.stands);
      declared = rw step (c.declared_after-declared.ensures _);
    }

pub add_off-sunday-requires-clause-within : goal.add_off-sunday-requires-clause-within
add_off-sunday-requires-clause-within c =
    let h = is_history c.args.history.now in
    within-read 100000 20160 c.loop-stint.clock (before_history c.args.history.now) c.as_slice-stint-items.result.now c.loop-stint.stint-index
    c.loop-stint.invariant.stands (rw c.as_slice-stint-items.ensures h.stints) (omega arith) (omega arith) (omega arith) (carried c.args.history.now)

pub to_monday-requires : goal.to_monday-requires
to_monday-requires c = let h = is_history c.args.history.now in record {
  within = rw c.add_off-sunday.ensures
      (within-rested 20160 c.args.history.now.open_off 80000 _ (omega arith)
      (within-read 20160 20160 c.loop-stint.clock (before_history c.args.history.now) c.as_slice-stint-items.result.now c.loop-stint.stint-index
      c.loop-stint.invariant.stands (rw c.as_slice-stint-items.ensures h.stints) (omega arith) (omega arith) (omega arith) (carried c.args.history.now)));
}

pub returns-clause-line : goal.returns-clause-line
returns-clause-line c =
    let all : take c.loop-stint.stint-index c.as_slice-stint-items.result.now ≡ c.args.history.now.stints.stints =
    take_all c.loop-stint.stint-index c.as_slice-stint-items.result.now c.loop-stint-test.false ∙ c.as_slice-stint-items.ensures in
    let s = rw all at c.loop-stint.invariant.stands in
    rw (c.to_monday.ensures, c.add_off-sunday.ensures)
    (stands-monday _ (before_history c.args.history.now) _ refl (no_weekly-history c.args.history.now)
    (stands-off_block c.loop-stint.clock (before_history c.args.history.now) c.args.history.now.open_off Plain _ s))

pub returns-clause-clock : goal.returns-clause-clock
returns-clause-clock c = starts-off c.to_monday.result c.args.history.now (returns-clause-line c)

pub sum_of_weeks-requires : goal.sum_of_weeks-requires
sum_of_weeks-requires c = let h = is_history c.args.history.now in omega arith
