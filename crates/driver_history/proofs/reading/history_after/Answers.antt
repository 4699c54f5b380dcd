use Rattle.std.proofs.Common.{◌∙◌, ap, arith, sym}
use Rattle.minute_line.specs.Minutes.{total_of}
use Rattle.driver_history.specs.Keeping.{held}
use Rattle.driver_history.proofs.RowBounds.{few_minutes, kept-rows}
use Rattle.driver_history.proofs.RowShapes.{total-stints}
use Rattle.driver_history.proofs.reading.history_after.Goals as goal

pub carry_all-requires : goal.carry_all-requires
carry_all-requires c =
    let start = ap held c.after.ensures in
    let few = few_minutes c.args.rest.now c.args.activities.now c.requires.activities (sym c.in-None.ensures) in
    let all = ap total_of (c.deref.ensures.value ∙ c.in_ok-past.ensures) ∙ total-stints c.args.activities.now in
    omega (arith, start, few, all)

pub into_history-requires-clause-kept : goal.into_history-requires-clause-kept
into_history-requires-clause-kept c =
    rw (c.in_ok-left.ensures, c.after.ensures, c.length.ensures, c.deref.ensures.value, c.in_ok-past.ensures)
    (kept-rows c.args.rest.now c.args.activities.now c.requires.rest c.requires.activities (sym c.in-None.ensures))
