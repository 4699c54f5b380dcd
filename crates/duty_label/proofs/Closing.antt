-- A table that was closed over all places has lower bounds.
use Rattle.std.proofs.Common.{All, ◌≡◌, ◌⊎◌, inl, inr, ℕ, ◌+◌, ◌<◌, ◌≤◌, Bool, true, false, ◌&&◌, ◌==◌, List, [], ◌∷◌, length, get_or, find, is_some, Option, Some, None, refl, ap, sym, subst, ◌∙◌, arith}
use Rattle.std.specs.List.{AllWithin}
use Rattle.std.proofs.lemmas.Bool.{cases_eq, cases_lt}
use Rattle.std.proofs.lemmas.Option.{slice_get-get_or, get_or_from_slice_get}
use Rattle.std.proofs.lemmas.Bool.Decides.{nat_tests}
use Rattle.std.proofs.lemmas.List.{get_or_past}
use Rattle.week_book.specs.declared.weeks.Leg.{Leg as Road}
use Rattle.week_book.specs.declared.weeks.Week.{Week}
use Rattle.week_book.specs.Weeks.{IsLeg, IsWeek, road}
use Rattle.duty_plan.proofs.WeekLimits.{all-find}
use Rattle.duty_label.specs.Tables.{HasZeros, IsBelow, IsBelowLegs, IsClosedOver, IsLesser, AreLowered, cell}
use Rattle.duty_label.specs.Walks.{AreLowerBounds}
use Rattle.duty_label.proofs.Reaching.{bounds_legs}

both : (a b : Bool) → (a && b) ≡ true → (a ≡ true) × (b ≡ true)
both true b h = (refl, h)
both false b h = cc

-- a road that is found joins the two places
pub ends-found : (by to : ℕ) (legs : List Road) (leg : Road) → find (λ leg. (leg.from == by) && (leg.to == to)) legs ≡ Some leg →
    (leg.from ≡ by) × (leg.to ≡ to)
ends-found by to [] leg e = cc
ends-found by to (x ∷ legs) leg e = by_test ((x.from == by) && (x.to == to)) refl (λ f. ends-found by to legs leg f)
  where
    by_test : (b : Bool) → ((x.from == by) && (x.to == to)) ≡ b →
        (find (λ leg. (leg.from == by) && (leg.to == to)) legs ≡ Some leg → (leg.from ≡ by) × (leg.to ≡ to)) → (leg.from ≡ by) × (leg.to ≡ to)
    by_test true h rest =
        let found : find (λ leg. (leg.from == by) && (leg.to == to)) (x ∷ legs) ≡ Some x = rw h refl in
        let same : x ≡ leg = cc in
        let parts = both (x.from == by) (x.to == to) h in
        let one : x.from ≡ by = grind (arith, nat_tests) in
        let two : x.to ≡ to = grind (arith, nat_tests) in
        (ap (λ (y : Road). y.from) (sym same) ∙ one, ap (λ (y : Road). y.to) (sym same) ∙ two)
    by_test false h rest =
        let later : find (λ leg. (leg.from == by) && (leg.to == to)) (x ∷ legs) ≡ find (λ leg. (leg.from == by) && (leg.to == to)) legs = rw h refl in
        rest (sym later ∙ e)

-- past the table each number is 0
past : (rows : List (List ℕ)) (from to : ℕ) → length rows ≤ from → cell rows from to ≡ 0
past rows from to l = ap (λ (row : List ℕ). get_or row to 0) (get_or_past rows from [] l)

here : (rows : List (List ℕ)) (from : ℕ) → length rows ≡ 64 → HasZeros rows → (from < 64) ⊎ (64 ≤ from) → cell rows from from ≡ 0
here rows from s z (inl low) = z from low
here rows from s z (inr high) = past rows from from (omega arith)

-- a leg that is found undercuts nothing
undercuts : (takes : Option Road → ℕ) (week : Week) (rows : List (List ℕ)) (from by to : ℕ) (leg : Road) → IsWeek week → length rows ≡ 64 →
    IsClosedOver 64 rows → IsBelowLegs (λ leg. takes (Some leg)) week rows → road week by to ≡ Some leg → (from < 64) ⊎ (64 ≤ from) →
    cell rows from to ≤ cell rows from by + takes (Some leg)
undercuts takes week rows from by to leg w s c b e (inr high) = omega (arith, past rows from to (omega arith))
undercuts takes week rows from by to leg w s c b e (inl low) =
    let ends = ends-found by to week.legs leg e in
    let is_leg : IsLeg (length week.places) leg = all-find (IsLeg (length week.places)) _ week.legs leg w.legs e in
    let takes_leg : cell rows leg.from leg.to ≤ takes (Some leg) = all-find (λ leg. cell rows leg.from leg.to ≤ takes (Some leg)) _ week.legs leg b e in
    let same : cell rows leg.from leg.to ≡ cell rows by to = ap (λ (x : ℕ). cell rows x leg.to) ends.0 ∙ ap (cell rows by) ends.1 in
    let places : length week.places ≤ 64 = w.places.1 in
    omega (arith, c from by to low (omega (arith, ends.0, is_leg.from)) (omega (arith, ends.1, is_leg.to)), same, takes_leg)

closed : (takes : Option Road → ℕ) (week : Week) (rows : List (List ℕ)) (from by to : ℕ) (found : Option Road) → IsWeek week → length rows ≡ 64 →
    IsClosedOver 64 rows → IsBelowLegs (λ leg. takes (Some leg)) week rows → road week by to ≡ found → is_some found ≡ true →
    cell rows from to ≤ cell rows from by + takes (road week by to)
closed takes week rows from by to None w s c b e h = cc
closed takes week rows from by to (Some leg) w s c b e h =
    let taken : takes (road week by to) ≡ takes (Some leg) = ap takes e in
    omega (arith, undercuts takes week rows from by to leg w s c b e (cases_lt from 64), taken)

pub are-bounds : (takes : Option Road → ℕ) (week : Week) (rows : List (List ℕ)) → IsWeek week → length rows ≡ 64 → HasZeros rows →
    IsClosedOver 64 rows → IsBelowLegs (λ leg. takes (Some leg)) week rows → AreLowerBounds takes week (cell rows)
are-bounds takes week rows w s z c b =
    bounds_legs takes week (cell rows) (record {
      here = λ from. here rows from s z (cases_lt from 64);
      leg = λ from by to h. closed takes week rows from by to (road week by to) w s c b refl h;
    })

-- ---- one place more

-- what was closed over some places is closed over one more, once the walks over it are noted
pub closes-more : (over : ℕ) (old new : List (List ℕ)) → over < 64 → HasZeros old → IsClosedOver over old → AreLowered over old new →
    IsClosedOver (over + 1) new
closes-more over old new o z c a from by to f b t =
    by_place (cases_lt by over)
  where
    whole : IsLesser (cell old from to) (cell old from over) (cell old over to) (cell new from to)
    whole = a from to f t

    -- over an earlier place
    earlier : by < over → cell new from to ≤ cell new from by + cell new by to
    earlier l = by_cases (a from by f (omega arith)).either (a by to (omega arith) t).either
      where
        by_cases : ((cell new from by ≡ cell old from by) ⊎ (cell new from by ≡ cell old from over + cell old over by)) →
            ((cell new by to ≡ cell old by to) ⊎ (cell new by to ≡ cell old by over + cell old over to)) →
            cell new from to ≤ cell new from by + cell new by to
        by_cases (inl x) (inl y) = omega (arith, whole.below, c from by to f l t, x, y)
        by_cases (inr x) (inl y) = omega (arith, whole.over, c over by to o l t, x, y)
        by_cases (inl x) (inr y) = omega (arith, whole.over, c from by over f l o, x, y)
        by_cases (inr x) (inr y) = omega (arith, whole.over, x, y)

    -- over the place itself
    itself : by ≡ over → cell new from to ≤ cell new from by + cell new by to
    itself e = subst (λ (x : ℕ). cell new from to ≤ cell new from x + cell new x to) (sym e)
        (by_cases (a from over f o).either (a over to o t).either)
      where
        by_cases : ((cell new from over ≡ cell old from over) ⊎ (cell new from over ≡ cell old from over + cell old over over)) →
            ((cell new over to ≡ cell old over to) ⊎ (cell new over to ≡ cell old over over + cell old over to)) →
            cell new from to ≤ cell new from over + cell new over to
        by_cases (inl x) (inl y) = omega (arith, whole.over, x, y)
        by_cases (inr x) (inl y) = omega (arith, whole.over, x, y)
        by_cases (inl x) (inr y) = omega (arith, whole.over, x, y)
        by_cases (inr x) (inr y) = omega (arith, whole.over, x, y)

    by_place : (by < over) ⊎ (over ≤ by) → cell new from to ≤ cell new from by + cell new by to
    by_place (inl l) = earlier l
    by_place (inr l) = itself (omega arith)

-- what no leg takes less than is still so once the numbers have fallen
pub legs-below : (takes : Road → ℕ) (week : Week) (old new : List (List ℕ)) → IsWeek week → IsBelow old new → IsBelowLegs takes week old → IsBelowLegs takes week new
legs-below takes week old new w below b k d low =
    let leg = get_or week.legs k d in
    let is_leg = w.legs k d low in
    let places : length week.places ≤ 64 = w.places.1 in
    omega (arith, below leg.from leg.to (omega (arith, is_leg.from, places)) (omega (arith, is_leg.to, places)), b k d low)

-- inside a list any default gives the same element
at-any : (legs : List Road) (k : ℕ) (d e : Road) → k < length legs → get_or legs k d ≡ get_or legs k e
at-any legs k d e within = get_or_from_slice_get legs k (get_or legs k e) d (slice_get-get_or legs k e within)

-- one leg more is noted
pub noted-more : (takes : Road → ℕ) (week : Week) (old new : List (List ℕ)) (legs : List Road) (i : ℕ) (d : Road) → legs ≡ week.legs → IsWeek week →
    IsBelow old new → i < length legs → AllWithin (λ leg. cell old leg.from leg.to ≤ takes leg) legs 0 i →
    cell new (get_or legs i d).from (get_or legs i d).to ≤ takes (get_or legs i d) → AllWithin (λ leg. cell new leg.from leg.to ≤ takes leg) legs 0 (i + 1)
noted-more takes week old new legs i d same w below l a q k e low high = elim (cases_eq k i) [
  | inl here ↦
      subst (λ (leg : Road). cell new leg.from leg.to ≤ takes leg) (at-any legs i d e l ∙ ap (λ (n : ℕ). get_or legs n e) (sym here)) q
  | inr other ↦
      let all : All (IsLeg (length week.places)) legs = subst (λ (list : List Road). All (IsLeg (length week.places)) list) (sym same) w.legs in
      let is_leg = all k e (omega arith) in
      let places : length week.places ≤ 64 = w.places.1 in
      omega (
        arith,
        below (get_or legs k e).from (get_or legs k e).to (omega (arith, is_leg.from, places)) (omega (arith, is_leg.to, places)),
        a k e low (omega arith),
      )
]
