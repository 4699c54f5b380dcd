-- A claim keeps the rule of the table.
use Rattle.std.proofs.Common.{◌≡◌, ◌≢◌, ℕ, ◌+◌, ◌%◌, ◌<◌, ◌≤◌, ⊎_elim, Bool, false, cond, List, [], ◌∷◌, ◌++◌, length, set, get_or, ap, refl, ◌∙◌, subst, arith, length-set, get_or-set_same, lt_of_not-le, le_refl}
use mathlib.Core.Logic.{dite}
use mathlib.Core.Option as maybe
use mathlib.Core.Option.{none, some}
use native.Mathlib.Decide.{dec_le}
use lib.ListN.{get_elem?}
use Rattle.std.specs.Prelude.{Option, Some}
use Rattle.atomic_table.specs.Table.{State, step, keeps, takes, stepped, Allows}
use Rattle.atomic_table.proofs.Lists.{at_set, set_else}
use Rattle.label_arena.specs.declared.views.View.{View}
use Rattle.label_arena.specs.Counting.{times, beyond, top, total}
use Rattle.label_arena.specs.Rule.{seat_view, seat_parts, Fits, IsRoundState, Seated, draws}
use Rattle.label_arena.proofs.Counts.{total_set, total_at, total_le, times_snoc, beyond_snoc, once_suc, once_pos, top_le, past_suc, at_most_one}

pub parts_of_seat : (v : View) → v.is_rest ≡ false → seat_parts v ≡ v.parts
parts_of_seat v seat = ap (λ (b : Bool). cond b 0 v.parts) seat

module _ (T : Type 0) (seats : ℕ) where
  abbrev St : Type 0
  St = State (Option (List T)) View

  abbrev count : St → ℕ
  count s = get_or s.words 0 0

  count_small : (s : St) (k : IsRoundState seats s) → count s ≤ length s.homes + 4294967296
  count_small s k =
      let over : total (λ v. beyond (length s.homes) v.drawn) s.views ≤ total (λ v. v.parts) s.views = total_le _ _ s.views (λ i v at. (k.each_view i v at).past) in
      let past = k.past in let whole = k.whole in omega arith

  pub drawn_below : (s : St) (k : IsRoundState seats s) (id : ℕ) (v : View) → get_elem? s.views id ≡ some v → (x : ℕ) → 0 < times x v.drawn → x < count s
  drawn_below s k id v at x pos =
      let one : times x v.drawn ≤ total (λ u. times x u.drawn) s.views = total_at (λ u. times x u.drawn) s.views id v at in
      let all = k.each_once x in once_pos x (count s) (omega arith)

  -- the counter goes up, its number joins what the seat drew, and only that number's slot may change
  drawn : (s : St) (k : IsRoundState seats s) (id : ℕ) (v : View) (homes' : List (maybe.Option (Option (List T)))) → get_elem? s.views id ≡ some v
      → 0 < v.parts → beyond (length s.homes) v.drawn ≡ 0 → v.is_rest ≡ false → length homes' ≡ length s.homes
      → ((n : ℕ) → n ≢ count s → get_elem? homes' n ≡ get_elem? s.homes n)
      → IsRoundState seats record { words = set s.words 0 (count s + 1); homes = homes'; views = set s.views id (seat_view v.parts (v.drawn ++ count s ∷ []) false) }
  drawn s k id v homes' at part none_past seat same others =
      let c : ℕ = count s in
      let w : View = seat_view v.parts (v.drawn ++ c ∷ []) false in
      let one_word = k.one_word in
      let word : get_or (set s.words 0 (c + 1)) 0 0 ≡ c + 1 = get_or-set_same s.words 0 (c + 1) 0 (omega arith) in
      let m : ℕ = length s.homes in record {
        one_word = length-set s.words 0 (c + 1) ∙ k.one_word;
        few = rw same k.few;
        whole = (let sum = total_set (λ (u : View). u.parts) s.views id v w at in let whole = k.whole in omega arith);
        seated = (let sum = total_set seat_parts s.views id v w at in let seated = k.seated in omega (arith, parts_of_seat v seat));
        each_once = λ x. (let sum = total_set (λ (u : View). times x u.drawn) s.views id v w at in let all = k.each_once x in
            rw word (omega (arith, times_snoc x c v.drawn, once_suc x c)));
        past = (let sum = total_set (λ (u : View). beyond m u.drawn) s.views id v w at in let past = k.past in
            rw (same, word) (omega (arith, beyond_snoc m c v.drawn, past_suc c m)));
        each_view = λ j u here. rw same (⊎_elim
            (λ p. subst (Fits m) p.1 record {
              past = omega (arith, beyond_snoc m c v.drawn, at_most_one c m);
              spent = λ none_left. absurd (omega arith);
              idle = λ rest. absurd (cc);
            })
            (λ p. k.each_view j u p.1)
            (at_set s.views id j w u here));
        untaken = λ n le lt. (let le' : c + 1 ≤ n = rw (← word) le in others n (λ e. omega arith) ∙ k.untaken n (omega arith) (rw (← same) lt));
        returned = λ j u here back n pos lt. ⊎_elim
            (λ p. absurd (cc))
            (λ p. (let low = drawn_below s k j u p.1 n pos in others n (λ e. omega arith) ∙ k.returned j u p.1 back n pos (rw (← same) lt)))
            (at_set s.views id j w u here);
      }

  pub claims : (slots id : ℕ) (me : Seated T) → 0 < me.0.parts → beyond slots me.0.drawn ≡ 0 → me.0.is_rest ≡ false
      → Allows (IsRoundState seats) slots id me 0 (λ n. (n + 1) % 18446744073709551616) (draws (step slots 0 1 0 none) me)
  claims slots id me part none_past seat s k wide at small =
      let c : ℕ = count s in
      let w : View = seat_view me.0.parts (me.0.drawn ++ c ∷ []) false in
      let few = k.few in
      let low = count_small s k in
      let next : c + 1 ≡ (c + 1) % 18446744073709551616 = omega arith in
      let rise : top me.0.drawn ≤ c = top_le c me.0.drawn (drawn_below s k id me.0 at) in
      let past : beyond (length s.homes) me.0.drawn ≡ 0 = rw wide none_past in
      dite (dec_le (length s.homes) c)
      (λ full. (
        w,
        keeps,
        tt,
        subst (λ (z : ℕ). IsRoundState seats (stepped s 0 z id me.1 w keeps)) next (drawn s k id me.0 s.homes at part past seat refl (λ n other. refl)),
        (refl, rise, (λ lt. absurd (omega arith)), λ ge. refl),
      ))
      (λ room. let lt : c < length s.homes = lt_of_not-le room in (
        w,
        takes c (Some []),
        k.untaken c (le_refl c) lt,
        subst (λ (z : ℕ). IsRoundState seats (stepped s 0 z id me.1 w (takes c (Some [])))) next
            (drawn s k id me.0 (set s.homes c none) at part past seat (length-set s.homes c none) (λ n other. set_else s.homes c n none other)),
        (refl, rise, (λ below. refl), λ ge. absurd (omega arith)),
      ))
