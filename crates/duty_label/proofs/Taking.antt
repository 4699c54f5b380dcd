-- Each number of a table is what some walk takes.
use Rattle.std.proofs.Common.{◌≡◌, ◌⊎◌, inl, inr, ℕ, zero, suc, ◌+◌, ◌<◌, ◌≤◌, true, false, ◌&&◌, ◌==◌, List, [], ◌∷◌, ◌++◌, length, get_or, find, is_some, Option, Some, slice_get, refl, ap, sym, subst, ◌∙◌, arith}
use Rattle.std.specs.List.{AllByRecursion, IsDistinct}
use Rattle.std.proofs.lemmas.Bool.{cases_eq}
use Rattle.std.proofs.lemmas.Bool.Decides.{nat_tests}
use Rattle.std.proofs.lemmas.Option.{slice_get-get_or}
use Rattle.std.proofs.lemmas.Map.Keys.{IsDistinct-head, IsDistinct-tail}
use Rattle.week_book.specs.declared.weeks.Leg.{Leg as Road}
use Rattle.week_book.specs.declared.weeks.Week.{Week}
use Rattle.week_book.specs.Weeks.{IsWeek, road, same_ends}
use Rattle.duty_label.specs.Tables.{AreLowered, HasZeros, IsNoted, IsNowhere, cell}
use Rattle.duty_label.specs.Walks.{AreLegs, AreTaken, IsWalk, end_of, total_of_legs}

-- legs after others
end-append : (from : ℕ) (more before : List ℕ) → end_of from (more ++ before) ≡ end_of (end_of from before) more
end-append from [] before = refl
end-append from (to ∷ more) before = refl

legs-append : (week : Week) (from : ℕ) (more before : List ℕ) → AreLegs week (end_of from before) more → AreLegs week from before →
    AreLegs week from (more ++ before)
legs-append week from [] before m b = b
legs-append week from (to ∷ more) before m b =
    (subst (λ (at : ℕ). is_some (road week at to) ≡ true) (sym (end-append from more before)) m.0, legs-append week from more before m.1 b)

total-append : (takes : Option Road → ℕ) (week : Week) (from : ℕ) (more before : List ℕ) →
    total_of_legs takes week from (more ++ before) ≡ total_of_legs takes week from before + total_of_legs takes week (end_of from before) more
total-append takes week from [] before = omega arith
total-append takes week from (to ∷ more) before =
    omega (arith, total-append takes week from more before, ap (λ (at : ℕ). takes (road week at to)) (end-append from more before))

module _ (takes : Option Road → ℕ) (week : Week) where
  -- a walk after another
  joined : (from over to first second : ℕ) → IsWalk takes week from over first → IsWalk takes week over to second →
      IsWalk takes week from to (first + second)
  joined from over to first second a b = record {
    places = b.places ++ a.places;
    legs = legs-append week from b.places a.places (subst (λ (at : ℕ). AreLegs week at b.places) (sym a.ends) b.legs) a.legs;
    ends = end-append from b.places a.places ∙ (ap (λ (at : ℕ). end_of at b.places) a.ends ∙ b.ends);
    taken = (let later = ap (λ (at : ℕ). total_of_legs takes week at b.places) a.ends in
        omega (arith, total-append takes week from b.places a.places, later, a.taken, b.taken));
  }

  same-walk : (from to old new : ℕ) → new ≡ old → (18446744073709551615 ≤ old) ⊎ IsWalk takes week from to old →
      (18446744073709551615 ≤ new) ⊎ IsWalk takes week from to new
  same-walk from to old new e h = subst (λ (n : ℕ). (18446744073709551615 ≤ n) ⊎ IsWalk takes week from to n) (sym e) h

  over-place : (from over to first second new : ℕ) → new ≡ first + second → (18446744073709551615 ≤ first) ⊎ IsWalk takes week from over first →
      (18446744073709551615 ≤ second) ⊎ IsWalk takes week over to second → (18446744073709551615 ≤ new) ⊎ IsWalk takes week from to new
  over-place from over to first second new e (inl large) b = inl (omega (arith, large, e))
  over-place from over to first second new e (inr a) (inl large) = inl (omega (arith, large, e))
  over-place from over to first second new e (inr a) (inr b) =
      inr (subst (λ (n : ℕ). IsWalk takes week from to n) (sym e) (joined from over to first second a b))

  -- the walks over a place more
  pub taken-lowered : (over : ℕ) (old new : List (List ℕ)) → over < 64 → AreLowered over old new → AreTaken takes week (cell old) →
      AreTaken takes week (cell new)
  taken-lowered over old new o lowered taken from to f t = elim (lowered from to f t).either [
    | inl same ↦ same-walk from to (cell old from to) (cell new from to) same (taken from to f t)
    | inr sum ↦
        over-place from over to (cell old from over) (cell old over to) (cell new from to) sum (taken from over f o) (taken over to o t)
  ]

  -- no walk but those of no leg
  pub taken-cleared : (rows : List (List ℕ)) → HasZeros rows → IsNowhere rows → AreTaken takes week (cell rows)
  taken-cleared rows zeros nowhere from to f t = elim (cases_eq from to) [
    | inl same ↦ inr (record {
      places = [];
      legs = tt;
      ends = same;
      taken = sym (ap (cell rows from) (sym same) ∙ zeros from f);
    })
    | inr other ↦ inl (nowhere from to f t other)
  ]

  -- the walk of one leg
  pub taken-noted : (leg : Road) (old new : List (List ℕ)) → road week leg.from leg.to ≡ Some leg →
      IsNoted leg.from leg.to (takes (Some leg)) old new → AreTaken takes week (cell old) → AreTaken takes week (cell new)
  taken-noted leg old new found noted taken a b f t = elim (cases_eq a leg.from) [
    | inr other ↦ same-walk a b (cell old a b) (cell new a b) (noted.rows a b other) (taken a b f t)
    | inl from ↦ elim (cases_eq b leg.to) [
      | inr other ↦
          same-walk a b (cell old a b) (cell new a b)
          (ap (λ (x : ℕ). cell new x b) from ∙ (noted.columns b other ∙ ap (λ (x : ℕ). cell old x b) (sym from))) (taken a b f t)
      | inl to ↦ elim noted.noted [
        | inl stayed ↦
            same-walk a b (cell old a b) (cell new a b)
            (ap (λ (x : ℕ). cell new x b) from ∙ (ap (cell new leg.from) to ∙ (stayed ∙ (ap (cell old leg.from) (sym to) ∙ ap (λ (x : ℕ). cell old x b) (sym from)))))
            (taken a b f t)
        | inr lowered ↦
            let number : cell new a b ≡ takes (Some leg) = ap (λ (x : ℕ). cell new x b) from ∙ (ap (cell new leg.from) to ∙ lowered) in
            let here : road week a leg.to ≡ Some leg = ap (λ (x : ℕ). road week x leg.to) from ∙ found in
            inr (record {
              places = leg.to ∷ [];
              legs = (ap (λ (r : Option Road). is_some r) here, tt);
              ends = sym to;
              taken = (let total = ap takes here in omega (arith, total, number));
            })
      ]
    ]
  ]

-- of distinct roads each is the one that is found
each-of : {X : Type 0} (P : X → Type 0) (xs : List X) (k : ℕ) (x : X) → AllByRecursion P xs → slice_get xs k ≡ Some x → P x
each-of P [] k x all h = cc
each-of P (y ∷ xs) zero x all h = let same : y ≡ x = cc in subst P same all.0
each-of P (y ∷ xs) (suc k) x all h = each-of P xs k x all.1 h

found-leg : (legs : List Road) (k : ℕ) (leg : Road) → IsDistinct same_ends legs → slice_get legs k ≡ Some leg →
    find (λ other. (other.from == leg.from) && (other.to == leg.to)) legs ≡ Some leg
found-leg [] k leg d h = cc
found-leg (x ∷ legs) zero leg d h =
    let same : x ≡ leg = cc in
    let test : ((leg.from == leg.from) && (leg.to == leg.to)) ≡ true = grind (arith, nat_tests) in
    subst (λ (y : Road). find (λ other. (other.from == leg.from) && (other.to == leg.to)) (y ∷ legs) ≡ Some leg) (sym same) (rw test refl)
found-leg (x ∷ legs) (suc k) leg d h =
    let test : ((x.from == leg.from) && (x.to == leg.to)) ≡ false
    = each-of (λ (y : Road). same_ends x y ≡ false) legs k leg (IsDistinct-head same_ends x legs d) h in
    rw test (found-leg legs k leg (IsDistinct-tail same_ends x legs d) h)

pub leg-road : (week : Week) (k : ℕ) (leg : Road) → IsWeek week → slice_get week.legs k ≡ Some leg → road week leg.from leg.to ≡ Some leg
leg-road week k leg w h = found-leg week.legs k leg w.ends h

-- one leg more is noted
pub taken-more : (takes : Option Road → ℕ) (week : Week) (old new : List (List ℕ)) (legs : List Road) (i number : ℕ) (d : Road) → legs ≡ week.legs →
    IsWeek week → i < length legs → number ≡ takes (Some (get_or legs i d)) → IsNoted (get_or legs i d).from (get_or legs i d).to number old new →
    AreTaken takes week (cell old) → AreTaken takes week (cell new)
taken-more takes week old new legs i number d same w within e noted =
    let leg = get_or legs i d in
    taken-noted takes week leg old new
    (leg-road week i leg w (subst (λ (list : List Road). slice_get list i ≡ Some leg) same (slice_get-get_or legs i d within)))
    (subst (λ (n : ℕ). IsNoted leg.from leg.to n old new) e noted)
