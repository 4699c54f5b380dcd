-- A split keeps the rule of the table.
use Rattle.std.proofs.Common.{◌≡◌, ℕ, ◌+◌, ◌<◌, ◌≤◌, ⊎_elim, Bool, true, false, cond, List, [], length, set, sym, ap, refl, subst, arith}
use mathlib.Core.Option.{some}
use lib.ListN.{get_elem?}
use Rattle.atomic_table.specs.Table.{Splits}
use Rattle.atomic_table.proofs.Lists.{at_set, at_snoc}
use Rattle.label_arena.specs.declared.views.View.{View}
use Rattle.label_arena.specs.Counting.{times, beyond, total}
use Rattle.label_arena.specs.Rule.{seat_parts, Fits, IsRoundState, rest_after, new_seat}
use Rattle.label_arena.proofs.Counts.{total_set, total_at, total_le, total_both, total_snoc}

-- the parts that no seat has
abbrev rest_parts : View → ℕ
rest_parts v = cond v.is_rest v.parts 0

split_parts : (v : View) → seat_parts v + rest_parts v ≤ v.parts
split_parts v = both v.is_rest
  where
    both : (b : Bool) → cond b 0 v.parts + cond b v.parts 0 ≤ v.parts
    both true = omega arith
    both false = omega arith

-- the seats have what the rest has not
pub seats_have_less : (views : List View) (id : ℕ) (v : View) → get_elem? views id ≡ some v → v.is_rest ≡ true → total seat_parts views + v.parts ≤ total (λ u. u.parts) views
seats_have_less views id v at rest =
    let is : rest_parts v ≡ v.parts = ap (λ (b : Bool). cond b v.parts 0) rest in
    let one = total_at rest_parts views id v at in
    let both = total_both seat_parts rest_parts views in
    let all = total_le (λ u. seat_parts u + rest_parts u) (λ u. u.parts) views (λ i u _. split_parts u) in omega arith

module _ (T : Type 0) (seats : ℕ) where
  pub splits : (id : ℕ) (v : View) → 0 < v.parts → 4294967296 < v.parts + seats → v.is_rest ≡ true → Splits (IsRoundState {T = T} seats) id v (rest_after v) (new_seat v)
  splits id v part room rest s k at =
      let m : ℕ = length s.homes in
      let l : View = rest_after v in
      let drawn : v.drawn ≡ [] = (k.each_view id v at).idle rest in
      let none_drawn : (x : ℕ) → times x v.drawn ≡ 0 = λ x. ap (times x) drawn in
      let none_beyond : beyond m v.drawn ≡ 0 = ap (beyond m) drawn in record {
        one_word = k.one_word;
        few = k.few;
        whole = (let whole = k.whole in let sum = total_set (λ (u : View). u.parts) s.views id v l at in
            let more = total_snoc (λ (u : View). u.parts) (set s.views id l) (new_seat v) in omega arith);
        seated = (let whole = k.whole in let less = seats_have_less s.views id v at rest in
            let bare : seat_parts v ≡ 0 = ap (λ (b : Bool). cond b 0 v.parts) rest in
            let sum = total_set seat_parts s.views id v l at in let more = total_snoc seat_parts (set s.views id l) (new_seat v) in omega arith);
        each_once = λ x. (let all = k.each_once x in let none = none_drawn x in let sum = total_set (λ (u : View). times x u.drawn) s.views id v l at in
            let more = total_snoc (λ (u : View). times x u.drawn) (set s.views id l) (new_seat v) in omega arith);
        past = (let past = k.past in let sum = total_set (λ (u : View). beyond m u.drawn) s.views id v l at in
            let more = total_snoc (λ (u : View). beyond m u.drawn) (set s.views id l) (new_seat v) in omega arith);
        each_view = λ j u here. ⊎_elim
            (λ there. ⊎_elim
            (λ p. subst (Fits m) p.1 record { past = omega arith; spent = λ _. refl; idle = λ _. refl })
            (λ p. k.each_view j u p.1)
            (at_set s.views id j l u there))
            (λ new. subst (Fits m) new record { past = omega arith; spent = λ _. refl; idle = λ _. refl })
            (at_snoc (set s.views id l) (new_seat v) u j here);
        untaken = k.untaken;
        returned = λ j u here back n pos lt. ⊎_elim
            (λ there. ⊎_elim
            (λ p. absurd (let gone : times n u.drawn ≡ 0 = ap (λ (z : View). times n z.drawn) (sym p.1) in omega arith))
            (λ p. k.returned j u p.1 back n pos lt)
            (at_set s.views id j l u there))
            (λ new. absurd (let gone : times n u.drawn ≡ 0 = ap (λ (z : View). times n z.drawn) (sym new) in omega arith))
            (at_snoc (set s.views id l) (new_seat v) u j here);
      }
