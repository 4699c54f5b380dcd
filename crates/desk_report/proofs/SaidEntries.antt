-- A name tells its place, order or driver, and the acts of a lawful duty name places and orders of the week.
use Rattle.std.proofs.Common.{◌≡◌, ℕ, ◌<◌, ◌^◌, ◌==◌, ◌&&◌, Bool, true, false, List, [], ◌∷◌, length, zero, suc, get_or, slice_get, map, Option, Some, None, unwrap_or, is_some, find, refl, ap, sym, ◌∙◌, arith}
use Rattle.std.specs.List.{IsDistinct, AllByRecursion}
use Rattle.std.specs.Str.{bytes_eq}
use Rattle.std.proofs.lemmas.Bool.{eqb-true}
use Rattle.std.proofs.lemmas.Option.{slice_get_within}
use Rattle.std.proofs.lemmas.Slice.Eq.{bytes_eq-Decides}
use Rattle.week_book.specs.declared.weeks.Leg.{Leg as Road}
use Rattle.week_book.specs.declared.weeks.Driver.{Driver}
use Rattle.week_book.specs.declared.weeks.Order.{Order}
use Rattle.week_book.specs.declared.weeks.Week.{Week}
use Rattle.week_book.specs.Weeks.{road, order_of, IsWeek, IsLeg}
use Rattle.duty_plan.specs.declared.duties.Act.{Act}
use Rattle.duty_plan.specs.declared.duties.Act.TheVariants.{Leg, Serve, Load}
use Rattle.duty_plan.specs.Acts.{can_be_done, is_at}
use Rattle.duty_plan.specs.PartialDuties.{PartialDuty, place_after, KeepsOfficeThrough}
use Rattle.duty_plan.proofs.WeekLimits.{all-find}
use Rattle.desk_report.specs.Reports.{name_or_none as driver_or_none, driver_name}
use Rattle.desk_report.specs.Steps.{name_or_none as order_or_none, place_name, order_name, StaysInWeek}

-- a name stands in one place
apart : (names : List (List ℕ)) (j : ℕ) (name : List ℕ) → AllByRecursion (λ other. bytes_eq name other ≡ false) names → j < length names
    → name ≡ get_or names j [] → ⊥
apart [] j name all l e = omega (arith, l)
apart (first ∷ names) zero name all l e = let both = (bytes_eq-Decides name first).1 e in cc (both, all.0)
apart (first ∷ names) (suc j) name all l e = apart names j name all.1 (omega (arith, l)) e

pub one-place : (names : List (List ℕ)) (i j : ℕ) → IsDistinct bytes_eq names → i < length names → j < length names
    → get_or names i [] ≡ get_or names j [] → i ≡ j
unfolding IsDistinct
one-place [] i j d p q e = absurd (omega (arith, p))
one-place (name ∷ names) zero zero d p q e = refl
one-place (name ∷ names) zero (suc j) d p q e = absurd (apart names j name d.0 (omega (arith, q)) e)
one-place (name ∷ names) (suc i) zero d p q e = absurd (apart names i name d.0 (omega (arith, p)) (sym e))
one-place (name ∷ names) (suc i) (suc j) d p q e = ap suc (one-place names i j d.1 (omega (arith, p)) (omega (arith, q)) e)

pub place-at : (names : List (List ℕ)) (i : ℕ) → unwrap_or (slice_get names i) [] ≡ get_or names i []
place-at [] i = refl
place-at (name ∷ names) zero = refl
place-at (name ∷ names) (suc i) = place-at names i

pub order-at : (orders : List Order) (i : ℕ) → order_or_none (slice_get orders i) ≡ get_or (map (λ order. order.name) orders) i []
order-at [] i = refl
order-at (order ∷ orders) zero = refl
order-at (order ∷ orders) (suc i) = order-at orders i

pub driver-at : (drivers : List Driver) (i : ℕ) → driver_or_none (slice_get drivers i) ≡ get_or (map (λ driver. driver.name) drivers) i []
driver-at [] i = refl
driver-at (driver ∷ drivers) zero = refl
driver-at (driver ∷ drivers) (suc i) = driver-at drivers i

map-length : {X : Type 0} (f : X → List ℕ) (xs : List X) → length (map f xs) ≡ length xs
map-length f [] = refl
map-length f (x ∷ xs) = ap suc (map-length f xs)

pub same-place : (week : Week) (i j : ℕ) → IsWeek week → i < length week.places → j < length week.places → place_name week i ≡ place_name week j → i ≡ j
same-place week i j w p q e = one-place week.places i j w.place_names.distinct p q (sym (place-at week.places i) ∙ e ∙ place-at week.places j)

pub same-order : (week : Week) (i j : ℕ) → IsWeek week → i < length week.orders → j < length week.orders → order_name week i ≡ order_name week j → i ≡ j
same-order week i j w p q e =
    one-place (map (λ order. order.name) week.orders) i j w.order_names.distinct
    (omega (arith, p, map-length (λ order. order.name) week.orders)) (omega (arith, q, map-length (λ order. order.name) week.orders))
    (sym (order-at week.orders i) ∙ e ∙ order-at week.orders j)

pub same-driver : (week : Week) (i j : ℕ) → IsWeek week → i < length week.drivers → j < length week.drivers → driver_name week i ≡ driver_name week j → i ≡ j
same-driver week i j w p q e =
    one-place (map (λ driver. driver.name) week.drivers) i j w.driver_names.distinct
    (omega (arith, p, map-length (λ driver. driver.name) week.drivers)) (omega (arith, q, map-length (λ driver. driver.name) week.drivers))
    (sym (driver-at week.drivers i) ∙ e ∙ driver-at week.drivers j)

and-right : (a b : Bool) → (a && b) ≡ true → b ≡ true
and-right true b e = e
and-right false b e = cc e

-- an act that names a place or an order of the week
abbrev pub IsKnown : Week → Act → Type 0
IsKnown week (Leg to) = to < length week.places
IsKnown week (Serve order) = order < length week.orders
IsKnown week Load = Unit {0}

found-passes : {X : Type 0} (p : X → Bool) (xs : List X) (x : X) → find p xs ≡ Some x → p x ≡ true
found-passes p [] x e = cc e
found-passes p (y ∷ ys) x e = by_test (p y) refl e (found-passes p ys x)
  where
    by_test : (b : Bool) → p y ≡ b → find p (y ∷ ys) ≡ Some x → (find p ys ≡ Some x → p x ≡ true) → p x ≡ true
    by_test true h f more = let found : find p (y ∷ ys) ≡ Some y = rw h refl in let same : y ≡ x = cc in rw (sym same) h
    by_test false h f more = let later : find p (y ∷ ys) ≡ find p ys = rw h refl in more (sym later ∙ f)

known-road : (week : Week) (from to : ℕ) (found : Option Road) → IsWeek week → road week from to ≡ found → is_some found ≡ true → to < length week.places
known-road week from to None w e h = cc h
known-road week from to (Some leg) w e h =
    let there : IsLeg (length week.places) leg = all-find (IsLeg (length week.places)) _ week.legs leg w.legs e in
    let same : leg.to ≡ to = eqb-true leg.to to (and-right (leg.from == from) (leg.to == to) (found-passes _ week.legs leg e)) in
    omega (arith, there.to, same)

known-order : (week : Week) (order place : ℕ) (found : Option Order) → order_of week order ≡ found → is_at found place ≡ true → order < length week.orders
known-order week order place None e h = cc h
known-order week order place (Some o) e h = slice_get_within week.orders order o e

known-act : (week : Week) (place : ℕ) (act : Act) → IsWeek week → can_be_done week place act ≡ true → IsKnown week act
known-act week place (Leg to) w h = known-road week place to (road week place to) w refl h
known-act week place (Serve order) w h = known-order week order place (order_of week order) refl h
known-act week place Load w h = tt

-- the minutes and the acts of a partial duty, such as lines tell
abbrev pub AreTellable : Week → PartialDuty → Type 0
AreTellable week [] = Unit {0}
AreTellable week (step ∷ before) =
    ((step.stay.ready < 2 ^ 64) × (step.stay.off < 2 ^ 64) × IsKnown week step.act) × AreTellable week before

pub office-tellable : (week : Week) (open_off capacity : ℕ) (partial : PartialDuty) → IsWeek week → KeepsOfficeThrough week open_off capacity partial
    → StaysInWeek week partial → AreTellable week partial
office-tellable week open_off capacity [] w k s = tt
office-tellable week open_off capacity (step ∷ before) w k s =
    (((omega (arith, s.0.0, s.0.1)), (omega (arith, s.0.0, s.0.1)), known-act week (place_after before) step.act w k.0.road), office-tellable week open_off capacity before w k.1 s.1)
