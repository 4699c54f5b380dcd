use Rattle.std.proofs.Common.{rules, ◌∙◌, ◌≡◌, [], ap, subst, ℕ, ltb, cond}
use Rattle.label_arena.specs.Counting.{times}
use Rattle.label_arena.specs.Holding.{numbers, held_of}
use Rattle.label_arena.proofs.Seating.{all_have_empty}
use Rattle.label_arena.proofs.Returning.{returns_home}
use Rattle.label_arena.proofs.closing.bring_home.Goals as goal

pub load-requires : goal.load-requires
load-requires g c =
    let kept = c.seat.invariant in
    let name : c.seat.inside.token.table_id ≡ c.args.table.now.shared.table_id = ap (λ s. s.name) c.seat.view_is ∙ c.requires.seat.0 in
    let none_held : held_of c.seat.inside.token.me.1 ≡ [] = ap (λ s. s.held) c.seat.view_is ∙ c.requires.seat.1 in (
      name,
      search rules,
      returns_home _ _ _ _ _ (all_have_empty _ _ kept.empty none_held) kept.seat
          (subst (λ z. (n : ℕ) → times n (numbers c.seat.inside.token.me.1) ≡ cond (ltb n z.slots) (times n c.seat.inside.token.me.0.drawn) 0) name kept.own),
    )
