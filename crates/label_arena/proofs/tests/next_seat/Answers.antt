use Rattle.std.proofs.Common.{All, ap, subst}
use Rattle.label_arena.specs.Views.{IsNew}
use Rattle.label_arena.proofs.Ends.{all_front}
use Rattle.label_arena.proofs.tests.next_seat.Goals as goal

pub returns-clause-seat : goal.returns-clause-seat
returns-clause-seat c =
    let front = all_front (IsNew c.args.round.now.name) _ c.in-Some.seat (subst (All (IsNew c.args.round.now.name)) c.in-Some.ensures.items c.requires.new) in
    (ap (λ s. s.name) front.1, ap (λ s. s.drawn) front.1, ap (λ s. s.held) front.1)

pub returns-clause-new : goal.returns-clause-new
returns-clause-new c =
    (all_front (IsNew c.args.round.now.name) _ c.in-Some.seat (subst (All (IsNew c.args.round.now.name)) c.in-Some.ensures.items c.requires.new)).0
