use Rattle.std.proofs.Common.{ap, sym, arith}
use Rattle.week_book.specs.Pasts.{PastWorkingTime}
use Rattle.driver_history.proofs.Sixteen.{up_to-at}
use Rattle.driver_history.proofs.rests.Worked.sixteen_weeks.Goals as goal

pub overflow_cast-weeks : goal.overflow_cast-weeks
overflow_cast-weeks c =
    let same = ap (λ (t : PastWorkingTime). t.weeks) c.self.view_is in
    let most = rw (sym same) at (up_to-at 10080 c.args.self.now.weeks c.loop-place.place c.requires.weeks) in
    omega (arith, most)
