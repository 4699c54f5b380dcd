-- A join keeps the rule of the table.
use Rattle.std.proofs.Common.{◌≡◌, ℕ, ◌+◌, ⊎_elim, true, false, [], length, set, sym, ap, refl, ◌∙◌, subst, arith}
use mathlib.Core.Logic.{dite}
use mathlib.Core.Option.{some}
use native.Mathlib.Decide.{dec_le}
use lib.ListN.{get_elem?}
use Rattle.atomic_table.specs.Table.{Joins}
use Rattle.atomic_table.proofs.Lists.{at_set, set_else}
use Rattle.label_arena.specs.declared.views.View.{View}
use Rattle.label_arena.specs.Counting.{times, beyond}
use Rattle.label_arena.specs.Rule.{seat_parts, Fits, IsRoundState, joined, spent_view}
use Rattle.label_arena.proofs.Counts.{total_set, times-append, beyond-append}
use Rattle.label_arena.proofs.Claiming.{parts_of_seat}

module _ (T : Type 0) (seats : ℕ) where
  pub joins : (id : ℕ) (v : View) (other : ℕ) (w : View) → v.has_returned ≡ true → w.has_returned ≡ true → v.is_rest ≡ false → w.is_rest ≡ false
      → Joins (IsRoundState {T = T} seats) id v other w (joined v w) spent_view
  joins id v other w back back' seat seat' s k at apart at' =
      let m : ℕ = length s.homes in
      let b : View = joined v w in
      let there : get_elem? s.views other ≡ some w = sym (set_else s.views id other b apart) ∙ at' in
      let fit_v = k.each_view id v at in
      let fit_w = k.each_view other w there in record {
        one_word = k.one_word;
        few = k.few;
        whole = (let f = λ (u : View). u.parts in let whole = k.whole in let one = total_set f s.views id v b at in
            let two = total_set f (set s.views id b) other w spent_view at' in omega arith);
        seated = (let seated = k.seated in let one = total_set seat_parts s.views id v b at in
            let two = total_set seat_parts (set s.views id b) other w spent_view at' in omega (arith, parts_of_seat v seat, parts_of_seat w seat'));
        each_once = λ x. (let all = k.each_once x in let f = λ (u : View). times x u.drawn in let one = total_set f s.views id v b at in
            let two = total_set f (set s.views id b) other w spent_view at' in omega (arith, times-append x v.drawn w.drawn));
        past = (let past = k.past in let f = λ (u : View). beyond m u.drawn in let one = total_set f s.views id v b at in
            let two = total_set f (set s.views id b) other w spent_view at' in omega (arith, beyond-append m v.drawn w.drawn));
        each_view = λ j u here. ⊎_elim
            (λ p. subst (Fits m) p.1 record { past = omega arith; spent = λ _. refl; idle = λ _. refl })
            (λ p. ⊎_elim
            (λ q. subst (Fits m) q.1 record {
              past = (let one = fit_v.past in let two = fit_w.past in omega (arith, beyond-append m v.drawn w.drawn));
              spent = λ none_left. (let one : v.drawn ≡ [] = fit_v.spent (omega arith) in let two : w.drawn ≡ [] = fit_w.spent (omega arith) in rw (one, two) refl);
              idle = λ rest. absurd (cc);
            })
            (λ q. k.each_view j u q.1)
            (at_set s.views id j b u p.1))
            (at_set (set s.views id b) other j spent_view u here);
        untaken = k.untaken;
        returned = λ j u here back'' n pos lt. ⊎_elim
            (λ p. absurd (let gone : times n u.drawn ≡ 0 = ap (λ (z : View). times n z.drawn) (sym p.1) in omega arith))
            (λ p. ⊎_elim
            (λ q. (let sum : times n u.drawn ≡ times n v.drawn + times n w.drawn = ap (λ (z : View). times n z.drawn) (sym q.1) ∙ times-append n v.drawn w.drawn in
            dite (dec_le 1 (times n v.drawn)) (λ yes. k.returned id v at back n yes lt) (λ no. k.returned other w there back' n (omega arith) lt)))
            (λ q. k.returned j u q.1 back'' n pos lt)
            (at_set s.views id j b u p.1))
            (at_set (set s.views id b) other j spent_view u here);
      }
