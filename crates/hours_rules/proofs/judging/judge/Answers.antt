use Rattle.std.proofs.Common.{arith, sym, ap, take, fold, ◌+◌}
use Rattle.std.proofs.lemmas.List.Sums.{fold_more}
use Rattle.minute_line.specs.Minutes.{add_stint, nothing}
use Rattle.hours_rules.specs.Verdicts.{past_of, verdict_of}
use Rattle.hours_rules.proofs.Histories.{is_history, carried}
use Rattle.hours_rules.proofs.Starts.{within-read, length-past_of, fault-found_early, fault-none}
use Rattle.hours_rules.proofs.judging.judge.Goals as goal

pub judged-requires-clause-within : goal.judged-requires-clause-within
judged-requires-clause-within c =
    let h = is_history c.args.history.now in
    within-read 80000 10080 c.loop-stint.clock (past_of c.args.history.now) c.as_slice-stint-items.result.now c.loop-stint.stint-index
    c.loop-stint.invariant.stands (rw c.as_slice-stint-items.ensures c.requires)
    (omega (arith, length-past_of c.args.history.now h)) (omega arith) (omega arith) (carried c.args.history.now)

pub returns-in-Err : goal.returns-in-Err
returns-in-Err c =
    let step = fold_more add_stint nothing c.as_slice-stint-items.result.now c.loop-stint.stint-index _ c.loop-stint-test.true in
    let bad = c.in-Err.ensures 0 (past_of c.args.history.now) (fold add_stint nothing (take c.loop-stint.stint-index c.as_slice-stint-items.result.now))
    c.loop-stint.invariant.declared c.loop-stint.invariant.stands (omega arith) c.loop-stint.invariant.none in
    sym (ap verdict_of (fault-found_early (past_of c.args.history.now) c.args.line.now c.in-Err.broken c.as_slice-stint-items.result.now (c.loop-stint.stint-index + 1)
    c.as_slice-stint-items.ensures (rw step bad)))

pub returns : goal.returns
returns c =
    sym (ap verdict_of (fault-none (past_of c.args.history.now) c.args.line.now c.as_slice-stint-items.result.now c.loop-stint.stint-index
    c.as_slice-stint-items.ensures c.loop-stint-test.false c.loop-stint.invariant.none))
