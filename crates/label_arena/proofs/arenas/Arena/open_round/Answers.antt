use Rattle.std.proofs.Common.{◌∙◌, ap, arith}
use Rattle.std.proofs.lemmas.List.Elements.{All-push}
use Rattle.label_arena.specs.Views.{IsNew}
use Rattle.label_arena.proofs.Seating.{starts}
use Rattle.label_arena.proofs.arenas.Arena.open_round.Goals as goal

pub new-requires : goal.new-requires
new-requires g c = starts _ _ _ c.self.invariant.0 c.self.invariant.1

pub splitting-preserved : goal.splitting-preserved
splitting-preserved g c =
    let inv = c.splitting.invariant in
    let rest = c.in_ok-split_seat.ensures.rest in
    let parts = ap (λ m. m.0.parts) rest.1 in
    let push = c.push_reserved.ensures in record {
      same = rest.0 ∙ inv.same;
      one_word = inv.one_word;
      slots = inv.slots;
      key = inv.key;
      parts = omega (arith, parts, push.len);
      is_rest = ap (λ m. m.0.is_rest) rest.1;
      short = omega (arith, push.len);
      room = omega (arith, push.capacity);
      new = rw push.items (All-push (IsNew c.in-Ok.table.shared.table_id) _ _ inv.new c.in_ok-split_seat.ensures.seat);
    }
