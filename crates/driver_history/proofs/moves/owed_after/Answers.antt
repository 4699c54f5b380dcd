use Rattle.std.proofs.Common.{ap, sym, arith}
use Rattle.minute_line.specs.Minutes.{total_of}
use Rattle.driver_history.specs.declared.owing.Owing.{Owing}
use Rattle.driver_history.proofs.OwedClocks.{short-fold}
use Rattle.driver_history.proofs.moves.owed_after.Goals as goal

pub on_monday-requires : goal.on_monday-requires
on_monday-requires c =
    let all = ap total_of c.as_slice.ensures in
    let total = c.args.history.now.total in
    let run = c.args.history.now.run in
    let off = ap (λ (o : Owing). o.off) c.from_start.ensures in
    let at = ap (λ (o : Owing). o.at) c.from_start.ensures in
    rw c.carry_all-past.ensures (short-fold c.as_slice.result.now c.from_start.result c.args.history.now.open_off (record { off = omega arith; at = omega arith }))

pub carry_all-week-requires : goal.carry_all-week-requires
carry_all-week-requires c =
    let all = ap total_of c.as_slice.ensures in
    let total = c.args.history.now.total in
    let run = c.args.history.now.run in
    let off = ap (λ (o : Owing). o.off) c.from_start.ensures in
    let at = ap (λ (o : Owing). o.at) c.from_start.ensures in
    let past = rw (sym c.carry_all-past.ensures) at
    (short-fold c.as_slice.result.now c.from_start.result 1000000 (record { off = omega arith; at = omega arith })) in
    let few = past.off in
    rw c.on_monday.ensures (record { off = omega arith; at = omega arith })
