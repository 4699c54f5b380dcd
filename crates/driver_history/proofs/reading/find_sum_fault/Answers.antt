use Rattle.std.proofs.Common.{arith}
use Rattle.driver_history.proofs.RowBounds.{most_minutes, trailing_most}
use Rattle.driver_history.proofs.reading.find_sum_fault.Goals as goal

pub minutes-sum-requires : goal.minutes-sum-requires
minutes-sum-requires c = omega (arith, most_minutes c.args.activities.now c.requires.activities.within, c.requires.activities.few)

pub overflow_sub-before : goal.overflow_sub-before
overflow_sub-before c = omega (arith, c.trailing.ensures, c.minutes-sum.ensures, trailing_most c.args.activities.now)
