use Rattle.std.proofs.Common.{rules, ◌≡◌, ◌-◌, ◌<◌, ◌∷◌, length, get_or, sym, ap, subst, ◌∙◌, arith}
use Rattle.std.specs.Prelude.{Some}
use Rattle.atomic_table.specs.Table.{rest}
use Rattle.label_arena.specs.Counting.{times, without}
use Rattle.label_arena.specs.Holding.{held_of}
use Rattle.label_arena.proofs.Giving.{in_order, reaches, gives}
use Rattle.label_arena.proofs.seats.Seat.give.Goals as goal

pub taken_after-after-requires : goal.taken_after-after-requires
taken_after-after-requires g c =
    let held : 0 < times c.args.number (held_of c.self.inside.token.me.1) = subst (λ s. 0 < times c.args.number s.held) (sym c.self.view_is) c.requires.holds in
    subst (λ l. 0 < times c.args.number l) (sym c.deref.ensures.value) (in_order _ _ _ _ _ _ c.self.invariant held)

pub exchange-requires : goal.exchange-requires
exchange-requires g c =
    let after = c.taken_after-after.result in
    let order = c.deref.ensures.value in
    let place : after < length c.self.inside.order.items = subst (λ l. after < length l) order c.taken_after-after.ensures.place in
    let found : get_or c.self.inside.order.items (length c.self.inside.order.items - 1 - after) 0 ≡ c.args.number =
    subst (λ l. get_or l (length l - 1 - after) 0 ≡ c.args.number) order c.taken_after-after.ensures.found in (
      search rules,
      reaches _ _ _ _ _ _ _ _ c.self.invariant place found c.turn.ensures.row,
    )

pub invariant_of-self : goal.invariant_of-self
invariant_of-self g c =
    let after = c.taken_after-after.result in
    let order = c.deref.ensures.value in
    let held : 0 < times c.args.number (held_of c.self.inside.token.me.1) = subst (λ s. 0 < times c.args.number s.held) (sym c.self.view_is) c.requires.holds in
    let place : after < length c.self.inside.order.items = subst (λ l. after < length l) order c.taken_after-after.ensures.place in
    let found : get_or c.self.inside.order.items (length c.self.inside.order.items - 1 - after) 0 ≡ c.args.number =
    subst (λ l. get_or l (length l - 1 - after) 0 ≡ c.args.number) order c.taken_after-after.ensures.found in
    let swapped = c.exchange.ensures in
    let name : c.turn-2.new.token.table_id ≡ c.self.inside.token.table_id = c.turn-2.ensures.table ∙ (swapped.0 ∙ c.turn.ensures.table) in
    let long = c.self.inside.order.ok in
    rw name (gives _ c.self.inside.token.me _ _ _ c.self.inside.order.items _ _ after (c.len.result - after) c.args.number c.self.invariant place found held c.turn.ensures.row
    (swapped.3 ∙ ap (λ y. (c.turn.new.token.me.0, (c.args.number, Some y) ∷ rest c.turn.new.token.me.1)) c.clear.ensures)
    (omega (arith, c.len.ensures)) c.turn-2.ensures.row).0

pub returns-clause-held : goal.returns-clause-held
returns-clause-held g c =
    let after = c.taken_after-after.result in
    let order = c.deref.ensures.value in
    let held : 0 < times c.args.number (held_of c.self.inside.token.me.1) = subst (λ s. 0 < times c.args.number s.held) (sym c.self.view_is) c.requires.holds in
    let place : after < length c.self.inside.order.items = subst (λ l. after < length l) order c.taken_after-after.ensures.place in
    let found : get_or c.self.inside.order.items (length c.self.inside.order.items - 1 - after) 0 ≡ c.args.number =
    subst (λ l. get_or l (length l - 1 - after) 0 ≡ c.args.number) order c.taken_after-after.ensures.found in
    let swapped = c.exchange.ensures in
    let long = c.self.inside.order.ok in
    (gives _ c.self.inside.token.me _ _ _ c.self.inside.order.items _ _ after (c.len.result - after) c.args.number c.self.invariant place found held c.turn.ensures.row
    (swapped.3 ∙ ap (λ y. (c.turn.new.token.me.0, (c.args.number, Some y) ∷ rest c.turn.new.token.me.1)) c.clear.ensures)
    (omega (arith, c.len.ensures)) c.turn-2.ensures.row).1 ∙ ap (λ s. without c.args.number s.held) c.self.view_is
