use Rattle.std.proofs.Common.{All, ◌≡◌, ◌+◌, ◌∙◌, [], ◌∷◌, ◌++◌, length, sym, ap, subst, arith, length-append, get_or-set_other}
use Rattle.std.proofs.lemmas.List.Elements.{All-push}
use Rattle.std.specs.Prelude.{Some, false}
use Rattle.std.specs.Mem.Slots.{slots_filled}
use Rattle.label_arena.specs.Views.{IsReady}
use Rattle.label_arena.specs.Counting.{times, total}
use Rattle.label_arena.proofs.Counts.{times-append, total_snoc}
use Rattle.label_arena.proofs.Joining.{joins}
use Rattle.label_arena.proofs.Ends.{ended, all_front, falls, none_left}
use Rattle.label_arena.proofs.rounds.Round.close.Goals as goal

pub joining-init : goal.joining-init
joining-init g c =
    let token = c.bring_home-all.ensures.token in
    let home = c.bring_home-all.ensures.home in
    let whole : c.args.seats ≡ c.pop.new.self.items ++ c.in-Some.first ∷ [] = sym c.into_vec-left.ensures ∙ c.in-Some.ensures.items in
    let each : All (IsReady c.self.inside.table.shared.table_id) c.args.seats = subst (λ z. All (IsReady z) c.args.seats) (sym (ap (λ r. r.name) c.self.view_is)) c.requires.each in
    let front = all_front (IsReady c.self.inside.table.shared.table_id) c.pop.new.self.items c.in-Some.first (subst (All (IsReady c.self.inside.table.shared.table_id)) whole each) in
    let long = ap length whole ∙ length-append c.pop.new.self.items (c.in-Some.first ∷ []) in
    let seats = ap (λ r. r.seats) c.self.view_is in
    let round = c.self.invariant in record {
      same = token.0;
      one_word = round.0;
      slots = round.1;
      chunks = ap (λ r. r.chunks) c.self.view_is;
      back = home.0;
      seat = home.1;
      parts = omega (arith, long, seats, token.1, round.2, c.requires.count);
      drawn = λ x. (let sum = ap (total (λ s. times x s.drawn)) whole ∙ total_snoc (λ s. times x s.drawn) c.pop.new.self.items c.in-Some.first in
          let drew = ap (times x) token.2 in omega arith);
      ready = front.0;
    }

pub bring_home-token-requires-clause-seat : goal.bring_home-token-requires-clause-seat
bring_home-token-requires-clause-seat g c =
    (all_front (IsReady c.self.inside.table.shared.table_id) c.pop-in-joining.new.self.items c.in-Some-pop.seat
    (subst (All (IsReady c.self.inside.table.shared.table_id)) c.in-Some-pop.ensures.items c.joining.invariant.ready)).1

pub join_seat-requires : goal.join_seat-requires
join_seat-requires g c =
    let inv = c.joining.invariant in
    let token = c.bring_home-token.ensures.token in
    let home = c.bring_home-token.ensures.home in
    let one_word = inv.one_word in
    (inv.same, token.0, home.2, omega arith, joins _ _ _ _ _ _ inv.back home.0 inv.seat home.1)

pub joining-preserved : goal.joining-preserved
joining-preserved g c =
    let inv = c.joining.invariant in
    let token = c.bring_home-token.ensures.token in
    let did = c.join_seat.ensures in
    let items = c.in-Some-pop.ensures.items in
    let fewer : length c.joining.left.items ≡ length c.pop-in-joining.new.self.items + 1 = ap length items ∙ length-append c.pop-in-joining.new.self.items (c.in-Some-pop.seat ∷ []) in
    let front = all_front (IsReady c.self.inside.table.shared.table_id) c.pop-in-joining.new.self.items c.in-Some-pop.seat
    (subst (All (IsReady c.self.inside.table.shared.table_id)) items inv.ready) in
    let parts = ap (λ m. m.0.parts) did.2 in record {
      same = did.0 ∙ inv.same;
      one_word = inv.one_word;
      slots = inv.slots;
      chunks = inv.chunks;
      back = ap (λ m. m.0.has_returned) did.2;
      seat = ap (λ m. m.0.is_rest) did.2;
      parts = omega (arith, parts, token.1, inv.parts);
      drawn = λ x. (let all = inv.drawn x in
          let sum = ap (total (λ s. times x s.drawn)) items ∙ total_snoc (λ s. times x s.drawn) c.pop-in-joining.new.self.items c.in-Some-pop.seat in
          let drew = ap (times x) token.2 in
          let now = ap (λ m. times x m.0.drawn) did.2 ∙ times-append x c.joining.all.me.0.drawn c.bring_home-token.result.me.0.drawn in omega arith);
      ready = front.0;
    }

pub taking-init : goal.taking-init
taking-init g c =
    let inv = c.joining.invariant in
    let closed = c.close_with-closed.ensures in
    let none = c.in_default-pop.ensures.cases in
    let long = c.joining.left.ok in
    let row = c.in_ok-row.ensures in
    let end = ended _ _ _ _ _ _ inv.seat (omega (arith, inv.parts, none, long)) inv.back closed.values.2 in record {
      words = closed.counts.1 ∙ inv.slots;
      chunks = inv.chunks;
      long = ap length row.items;
      room = omega (arith, row.exact);
      empty = λ k d lt. absurd (let bare : length c.in_ok-row.row.items ≡ 0 = ap length row.items in omega arith);
      full = λ k le lt. closed.values.1 k le (omega (arith, closed.counts, inv.slots));
      gone = λ k lt. absurd (omega arith);
      values = end.0;
    }

pub taking-preserved : goal.taking-preserved
taking-preserved g c =
    let inv = c.taking.invariant in
    let take = c.take.ensures in
    let push = c.push_reserved.ensures in record {
      words = take.others.2 ∙ inv.words;
      chunks = inv.chunks;
      long = ap length push.items ∙ (length-append c.taking.row.items (c.take.result ∷ []) ∙ omega (arith, inv.long));
      room = omega (arith, push.capacity, inv.room);
      empty = rw push.items (All-push (λ y. y ≡ Some []) _ _ inv.empty (inv.values _ _ take.value));
      full = λ k le lt. rw take.others.1 (get_or-set_other (slots_filled c.taking.closed.slots) c.taking.i k false false (λ e. omega arith) ∙ inv.full k (omega arith) lt);
      gone = λ k lt. rw take.others.1 (falls (slots_filled c.taking.closed.slots) c.taking.i k (inv.gone k) lt);
      values = λ k y at. inv.values k y (rw (← take.others.0) at);
    }

pub returns-clause-drawn : goal.returns-clause-drawn
returns-clause-drawn g c =
    let inv = c.joining.invariant in
    let closed = c.close_with-closed.ensures in
    let none = c.in_default-pop.ensures.cases in
    let long = c.joining.left.ok in
    let end = ended _ _ _ _ _ _ inv.seat (omega (arith, inv.parts, none, long)) inv.back closed.values.2 in
    (end.1.0, λ x. (let all = inv.drawn x in let rest = none_left (λ s. times x s.drawn) c.joining.left.items (omega (arith, none, long)) in let drew = end.1.1 x in omega arith))
