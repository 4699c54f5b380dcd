-- The step by which a seat's slots pass back keeps the rule of the table.
use Rattle.std.proofs.Common.{◌≡◌, ℕ, ◌<◌, ⊎_elim, true, false, ltb, cond, List, [], ◌∷◌, length, set, get_or, sym, refl, ◌∙◌, subst, arith, length-set, get_or-set_same}
use mathlib.Core.Logic.{dite}
use mathlib.Core.Option as maybe
use mathlib.Core.Option.{some}
use native.Mathlib.Decide.{ℕ_discrete}
use lib.ListN.{get_elem?}
use Rattle.std.specs.Prelude.{Option, Some}
use Rattle.std.proofs.lemmas.Bool.Decides.{nat_tests}
use Rattle.atomic_table.specs.Table.{homes_after, Valid, carried_after, Allows}
use Rattle.atomic_table.proofs.Lists.{at_set, set_here, set_else}
use Rattle.label_arena.specs.declared.views.View.{View}
use Rattle.label_arena.specs.Counting.{times, beyond}
use Rattle.label_arena.specs.Rule.{seat_view, seat_parts, Fits, IsRoundState, Seated, brings_home, give_all}
use Rattle.label_arena.specs.Holding.{numbers, AllHaveEmpty}
use Rattle.label_arena.proofs.Counts.{total_set, times_snoc}
use Rattle.label_arena.proofs.Claiming.{parts_of_seat}

module _ (T : Type 0) (seats : ℕ) where
  abbrev Homes : Type 0
  Homes = List (maybe.Option (Option (List T)))

  abbrev Slots : Type 0
  Slots = List (ℕ × Option (List T))

  abbrev Home : Homes → ℕ → Type 0
  Home hs n = get_elem? hs n ≡ some (some (Some []))

  length-after : (hs : Homes) (xs : Slots) → length (homes_after hs xs (give_all xs)) ≡ length hs
  length-after hs [] = refl
  length-after hs (x ∷ xs) = length-after (set hs x.0 (some x.1)) xs ∙ length-set hs x.0 (some x.1)

  put_home : (hs : Homes) (k n : ℕ) → n < length hs → Home hs n → Home (set hs k (some (Some []))) n
  put_home hs k n lt home = dite (ℕ_discrete n k)
      (λ e. subst (λ (z : ℕ). Home (set hs z (some (Some []))) n) e (set_here hs n (some (Some [])) lt))
      (λ ne. set_else hs k n (some (Some [])) ne ∙ home)

  stays_home : (hs : Homes) (xs : Slots) (n : ℕ) → AllHaveEmpty xs → n < length hs → Home hs n → Home (homes_after hs xs (give_all xs)) n
  stays_home hs [] n empty lt home = home
  stays_home hs (x ∷ xs) n empty lt home = stays_home (set hs x.0 (some x.1)) xs n empty.1 (omega (arith, length-set hs x.0 (some x.1)))
      (subst (λ y. Home (set hs x.0 (some y)) n) (sym empty.0) (put_home hs x.0 n lt home))

  comes_home : (hs : Homes) (xs : Slots) (n : ℕ) → AllHaveEmpty xs → n < length hs → 0 < times n (numbers xs) → Home (homes_after hs xs (give_all xs)) n
  comes_home hs [] n empty lt pos = absurd (omega arith)
  comes_home hs (x ∷ xs) n empty lt pos = let wide = length-set hs x.0 (some x.1) in let sum = times_snoc n x.0 (numbers xs) in dite (ℕ_discrete x.0 n)
      (λ e. stays_home (set hs x.0 (some x.1)) xs n empty.1 (omega arith)
      (subst (λ y. Home (set hs x.0 (some y)) n) (sym empty.0) (subst (λ (z : ℕ). Home (set hs z (some (Some []))) n) (sym e) (set_here hs n (some (Some [])) lt))))
      (λ ne. let later : 0 < times n (numbers xs) = grind (arith, nat_tests) in comes_home (set hs x.0 (some x.1)) xs n empty.1 (omega arith) later)

  give_all-valid : (hs : Homes) (xs : Slots) → Valid hs xs (give_all xs)
  give_all-valid hs [] = tt
  give_all-valid hs (x ∷ xs) = (tt, give_all-valid (set hs x.0 (some x.1)) xs)

  give_all-rest : (xs : Slots) → carried_after xs (give_all xs) ≡ []
  give_all-rest [] = refl
  give_all-rest (x ∷ xs) = give_all-rest xs

  pub returns_home : (slots id : ℕ) (me : Seated T) → AllHaveEmpty me.1 → me.0.is_rest ≡ false
      → ((n : ℕ) → times n (numbers me.1) ≡ cond (ltb n slots) (times n me.0.drawn) 0)
      → Allows (IsRoundState seats) slots id me 0 (λ n. n) (λ n m. brings_home me m)
  returns_home slots id me empty seat own s k wide at small =
      let w : View = seat_view me.0.parts me.0.drawn true in
      let m : ℕ = length s.homes in
      let hs = homes_after s.homes me.1 (give_all me.1) in
      let same : length hs ≡ m = length-after s.homes me.1 in
      let one_word = k.one_word in
      let c : ℕ = get_or s.words 0 0 in
      let word : get_or (set s.words 0 c) 0 0 ≡ c = get_or-set_same s.words 0 c 0 (omega arith) in (
        w,
        give_all me.1,
        give_all-valid s.homes me.1,
        record {
          one_word = length-set s.words 0 c ∙ k.one_word;
          few = rw same k.few;
          whole = (let whole = k.whole in let sum = total_set (λ (u : View). u.parts) s.views id me.0 w at in omega arith);
          seated = (let seated = k.seated in let sum = total_set seat_parts s.views id me.0 w at in omega (arith, parts_of_seat me.0 seat));
          each_once = λ x. (let all = k.each_once x in let sum = total_set (λ (u : View). times x u.drawn) s.views id me.0 w at in rw word (omega arith));
          past = (let past = k.past in let sum = total_set (λ (u : View). beyond m u.drawn) s.views id me.0 w at in rw (same, word) (omega arith));
          each_view = λ j u here. rw same (⊎_elim
              (λ p. subst (Fits m) p.1 (let fit = k.each_view id me.0 at in record { past = fit.past; spent = fit.spent; idle = λ rest. absurd (cc) }))
              (λ p. k.each_view j u p.1)
              (at_set s.views id j w u here));
          untaken = λ n le lt. (let lt' : n < m = rw (← same) lt in stays_home s.homes me.1 n empty lt' (k.untaken n (rw (← word) le) lt'));
          returned = λ j u here back n pos lt. (let lt' : n < m = rw (← same) lt in ⊎_elim
              (λ p. let drew : 0 < times n me.0.drawn = subst (λ (z : View). 0 < times n z.drawn) (sym p.1) pos in
              let has = own n in let below : n < slots = omega arith in
              let mine : 0 < times n (numbers me.1) = grind (arith, nat_tests) in comes_home s.homes me.1 n empty lt' mine)
              (λ p. stays_home s.homes me.1 n empty lt' (k.returned j u p.1 back n pos lt'))
              (at_set s.views id j w u here));
        },
        (refl, give_all-rest me.1),
      )
