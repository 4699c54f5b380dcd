use Rattle.std.proofs.Common.{ap, arith}
use Rattle.minute_line.specs.Minutes.{total_of}
use Rattle.driver_history.specs.Keeping.{seen, held}
use Rattle.driver_history.proofs.Carry.{kept_small}
use Rattle.driver_history.proofs.moves.left_after.Goals as goal

pub rest-monday-requires : goal.rest-monday-requires
rest-monday-requires c =
    let past = kept_small (seen c.in_ok-past.past) _ c.as_slice.result.now c.in_ok-past.ensures in
    let start = ap held c.after.ensures in
    let all = ap total_of c.as_slice.ensures in
    omega (arith, past, start, all, c.args.history.now.total, c.args.history.now.run)

pub carry_all-requires-2 : goal.carry_all-requires-2
carry_all-requires-2 c =
    let past = kept_small (seen c.in_ok-past.past) _ c.as_slice.result.now c.in_ok-past.ensures in
    let start = ap held c.after.ensures in
    let all = ap total_of c.as_slice.ensures in
    let monday = ap held c.rest-monday.ensures in
    omega (arith, past, start, all, monday, c.args.history.now.total, c.args.history.now.run)

pub rest-requires : goal.rest-requires
rest-requires c =
    let past = kept_small (seen c.in_ok-past.past) _ c.as_slice.result.now c.in_ok-past.ensures in
    let start = ap held c.after.ensures in
    let all = ap total_of c.as_slice.ensures in
    let monday = ap held c.rest-monday.ensures in
    let week = kept_small (seen c.in_ok-week.week) _ c.args.line.now c.in_ok-week.ensures in
    omega (arith, past, start, all, monday, week, c.args.history.now.total, c.args.history.now.run)
