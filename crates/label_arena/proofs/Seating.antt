-- What a seat keeps after a claim, and what a table begins with.
use mathlib.Core.Option as maybe
use mathlib.Core.Option.{some-injective, some-ne-none}
use lib.ListN.{get_elem?}
use Rattle.atomic_table.specs.Table.{opening}
use Rattle.label_arena.specs.declared.views.View.{View}
use Rattle.std.proofs.Common.{All, map, zero, suc, false, ◌≡◌, ℕ, ◌+◌, ◌<◌, ◌≤◌, eqb, cond, List, [], ◌∷◌, ◌++◌, length, sym, ap, subst, ◌∙◌, refl, arith, length-append}
use Rattle.std.specs.Prelude.{Option, None, Some}
use Rattle.std.proofs.lemmas.Bool.Decides.{nat_tests}
use Rattle.label_arena.specs.Counting.{times, top}
use Rattle.label_arena.specs.Rule.{Seated, seat_view, rest_view, Fits, IsRoundState}
use Rattle.label_arena.specs.Holding.{numbers, held_of, AreEmptied, AllHaveEmpty, HoldsSeat}
use Rattle.label_arena.proofs.Counts.{times_snoc, top_snoc, none_from_top}

most_once : (x n : ℕ) (xs : List ℕ) → times x xs ≤ 1 → top xs ≤ n → times x (xs ++ n ∷ []) ≤ 1
most_once x n xs before rise = let sum = times_snoc x n xs in let new = none_from_top n xs rise in grind (arith, nat_tests)

module _ (T : Type 0) where
  more_drawn : (me me' : Seated T) (n : ℕ) → me'.0 ≡ seat_view me.0.parts (me.0.drawn ++ n ∷ []) false → (x : ℕ) → times x me'.0.drawn ≡ times x me.0.drawn + cond (eqb x n) 1 0
  more_drawn me me' n is x = ap (λ v. times x v.drawn) is ∙ times_snoc x n me.0.drawn

  pub seat_full : (me me' : Seated T) (order : List ℕ) (slots room n : ℕ) → HoldsSeat me order slots room → me'.0 ≡ seat_view me.0.parts (me.0.drawn ++ n ∷ []) false
      → top me.0.drawn ≤ n → slots ≤ n → me'.1 ≡ me.1 → HoldsSeat me' order slots room
  seat_full me me' order slots room n h is rise high same = let more = top_snoc n me.0.drawn in let short = h.short in record {
    one_part = ap (λ v. v.parts) is ∙ h.one_part;
    away = ap (λ v. v.has_returned) is;
    seat = ap (λ v. v.is_rest) is;
    in_order = h.in_order ∙ ap numbers (sym same);
    roomy = h.roomy;
    short = subst (λ (v : View). length order ≤ top v.drawn) (sym is) (omega arith);
    once = λ x. subst (λ (v : View). times x v.drawn ≤ 1) (sym is) (most_once x n me.0.drawn (h.once x) rise);
    own = λ x. ap (λ xs. times x (numbers xs)) same ∙ (let own = h.own x in let more = more_drawn me me' n is x in grind (arith, nat_tests));
    empty = subst AreEmptied (sym same) h.empty;
  }

  pub seat_claimed : (me me' : Seated T) (order order' : List ℕ) (slots room room' n : ℕ) → HoldsSeat me order slots room → me'.0 ≡ seat_view me.0.parts (me.0.drawn ++ n ∷ []) false
      → top me.0.drawn ≤ n → n < slots → room ≤ room' → me'.1 ≡ (n, None) ∷ me.1 → order' ≡ order ++ n ∷ [] → HoldsSeat me' order' slots room'
  seat_claimed me me' order order' slots room room' n h is rise below wider now ordered =
      let more = top_snoc n me.0.drawn in let short = h.short in let roomy = h.roomy in record {
        one_part = ap (λ v. v.parts) is ∙ h.one_part;
        away = ap (λ v. v.has_returned) is;
        seat = ap (λ v. v.is_rest) is;
        in_order = ordered ∙ (ap (λ (l : List ℕ). l ++ n ∷ []) h.in_order ∙ ap numbers (sym now));
        roomy = omega arith;
        short = subst (λ (v : View). length order' ≤ top v.drawn) (sym is) (let long : length order' ≡ length order + 1 = ap length ordered ∙ length-append order (n ∷ []) in omega arith);
        once = λ x. subst (λ (v : View). times x v.drawn ≤ 1) (sym is) (most_once x n me.0.drawn (h.once x) rise);
        own = λ x. ap (λ xs. times x (numbers xs)) now ∙ (let own = h.own x in let more = more_drawn me me' n is x in let one = times_snoc x n (numbers me.1) in grind (arith, nat_tests));
        empty = subst AreEmptied (sym now) (tt, h.empty);
      }

  -- what was taken out of a slot with an empty chunk
  pub found_empty : (n : ℕ) (xs ys zs : List (ℕ × Option (List T))) (out : Option (List T)) (chunk : List T) → xs ≡ (n, out) ∷ ys → xs ≡ (n, Some []) ∷ zs → out ≡ Some chunk → chunk ≡ []
  found_empty n xs ys zs out chunk one two is = let same : out ≡ Some [] = sym (ap first one) ∙ ap first two in cc
    where
      first : List (ℕ × Option (List T)) → Option (List T)
      first [] = None
      first (x ∷ rest) = x.1

  pub all_have_empty : (xs : List (ℕ × Option (List T))) → AreEmptied xs → held_of xs ≡ [] → AllHaveEmpty xs
  all_have_empty [] empty none = tt
  all_have_empty ((n, None) ∷ xs) empty none = absurd (cc)
  all_have_empty ((n, Some c) ∷ xs) empty none = (ap Some empty.0, all_have_empty xs empty.1 none)

  abbrev at_home : Option (List T) → maybe.Option (Option (List T))
  at_home y = maybe.some y

  homes_at : (xs : List (Option (List T))) (n : ℕ) → All (λ c. c ≡ Some []) xs → n < length xs → get_elem? (map at_home xs) n ≡ maybe.some (maybe.some (Some []))
  homes_at [] n all lt = absurd (omega arith)
  homes_at (x ∷ xs) zero all lt = ap (λ (y : Option (List T)). maybe.some (maybe.some y)) (all 0 x (omega arith))
  homes_at (x ∷ xs) (suc n) all lt = homes_at xs n (λ k d below. all (suc k) d (omega arith)) (omega arith)

  length-homes : (xs : List (Option (List T))) → length (map at_home xs) ≡ length xs
  length-homes [] = refl
  length-homes (x ∷ xs) = ap suc (length-homes xs)

  pub starts : (seats : ℕ) (xs : List (Option (List T))) → All (λ c. c ≡ Some []) xs → length xs < 4294967296 → IsRoundState seats (opening (0 ∷ []) xs (rest_view 4294967296))
  starts seats xs all few = let wide = length-homes xs in record {
    one_word = refl;
    few = rw wide few;
    whole = omega arith;
    seated = omega arith;
    each_once = λ x. grind (arith, nat_tests);
    past = omega arith;
    each_view = λ id v at. first_view id v at;
    untaken = λ n le lt. homes_at xs n all (rw (← wide) lt);
    returned = λ id v at back n pos lt. absurd (let gone = first_drawn n id v at in omega arith);
  }
    where
      first_view : (id : ℕ) (v : View) → get_elem? (rest_view 4294967296 ∷ []) id ≡ maybe.some v → Fits (length (map at_home xs)) v
      first_view zero v at = subst (Fits (length (map at_home xs))) (some-injective _ _ at) record { past = omega arith; spent = λ _. refl; idle = λ _. refl }
      first_view (suc id) v at = absurd (some-ne-none v (sym at))

      first_drawn : (n id : ℕ) (v : View) → get_elem? (rest_view 4294967296 ∷ []) id ≡ maybe.some v → times n v.drawn ≡ 0
      first_drawn n zero v at = ap (λ (u : View). times n u.drawn) (sym (some-injective _ _ at))
      first_drawn n (suc id) v at = absurd (some-ne-none v (sym at))
