-- The week of a text without faults is a checked one.
use Rattle.std.proofs.Common.{◌≡◌, ℕ, ◌≤◌, Bool, true, false, ◌||◌, ◌==◌, nat_le, Option, Some, None, Result, Ok, IfOk, List, [], ◌∷◌, length, map, filter_map, All, refl, subst, inl, inr, ◌⊎◌, arith}
use Rattle.std.proofs.lemmas.Bool.{false≢true, leb-true, eqb-true, and_parts}
use Rattle.std.proofs.lemmas.List.Elements.{All-weaker, All-map}
use Rattle.std.specs.List.{IsDistinct, cons_option, list_any, list_all}
use Rattle.std.specs.Option.{is_some}
use Rattle.std.specs.Str.{bytes_eq}
use Rattle.week_book.specs.declared.rows.Row.{Row}
use Rattle.week_book.specs.declared.rows.Row.TheVariants as row
use Rattle.week_book.specs.declared.weeks.Order.{Order}
use Rattle.week_book.specs.declared.weeks.Driver.{Driver}
use Rattle.week_book.specs.declared.weeks.Week.{Week}
use Rattle.week_book.specs.declared.errors.What.TheVariants.{Places, Legs, Drivers, Orders}
use Rattle.week_book.specs.declared.errors.WeekError.{WeekError}
use Rattle.week_book.specs.Names.{is_name}
use Rattle.week_book.specs.Ranges.{is_within, is_grid, keeps_ranges}
use Rattle.week_book.specs.Numbers.{place_in, driver_in, leg_in, order_in, place_names, drivers_of, driver_names}
use Rattle.week_book.specs.Checking.{is_of, fault_of, week_made}
use Rattle.week_book.specs.Weeks.{IsLeg, IsDriver, IsOrder, AreNames, same_ends, IsWeek}
use Rattle.week_book.proofs.Apart.{apart}
use Rattle.week_book.proofs.Items.{all_items, distinct_items, distinct_names, distinct_parts}
use Rattle.week_book.proofs.Faultless.{IsFaultless, faultless, limited, passed, is_place, kept}
use Rattle.week_book.proofs.Sound.{IsNamedDriver, IsNamedOrder, sound, within_is, leg_is, driver_is, order_is, place_is}
use Rattle.week_book.proofs.ItemKeys.{place_key, driver_key, order_key, Ends, leg_ends, leg_links}

is_leg : (places : List (List ℕ)) (r : Row) → is_some (leg_in places r) ≡ is_of Legs r
is_leg places (row.Leg n from to minutes cents) = refl
is_leg places _ = refl

is_driver : (r : Row) → is_some (driver_in r) ≡ is_of Drivers r
is_driver (row.Driver n name capacity fee) = refl
is_driver _ = refl

is_order : (places : List (List ℕ)) (r : Row) → is_some (order_in places r) ≡ is_of Orders r
is_order places (row.Order n name place opens closes service kg price) = refl
is_order places _ = refl

grid_is : (grid : ℕ) → is_grid grid ≡ true → (grid ≡ 15) ⊎ ((grid ≡ 30) ⊎ (grid ≡ 60))
grid_is grid fits = by_test (grid == 15) (grid == 30) (grid == 60) (eqb-true grid 15) (eqb-true grid 30) (eqb-true grid 60) fits
  where
    by_test : {A B C : Type 0} (a b c : Bool) → (a ≡ true → A) → (b ≡ true → B) → (c ≡ true → C) → (a || (b || c)) ≡ true → A ⊎ (B ⊎ C)
    by_test true b c f g h fits = inl (f refl)
    by_test false true c f g h fits = inr (inl (g refl))
    by_test false false c f g h fits = inr (inr (h fits))

some_place : (rows : List Row) → list_any (is_of Places) rows ≡ true → 1 ≤ length (place_names rows)
some_place [] there = absurd (false≢true there)
some_place (r ∷ rs) there =
    some_case (place_in r) (is_of Places r) (list_any (is_of Places) rs) (place_names rs) (is_place r) there (some_place rs)
  where
    some_case : (o : Option (List ℕ)) (here later : Bool) (xs : List (List ℕ)) → is_some o ≡ here → (here || later) ≡ true
        → (later ≡ true → 1 ≤ length xs) → 1 ≤ length (cons_option o xs)
    some_case (Some x) here later xs is there more = omega arith
    some_case None true later xs is there more = absurd (false≢true is)
    some_case None false later xs is there more = more there

-- the names of items that each have a name, where no two have the same
are_names : {X : Type 0} (name : X → List ℕ) (items : List X) → All (λ x. is_name (name x) ≡ true) items
    → IsDistinct (λ x y. bytes_eq (name x) (name y)) items → AreNames (map name items)
are_names name items formed distinct = record {
  formed = All-map (λ (n : List ℕ). is_name n ≡ true) name items formed;
  distinct = distinct_parts name bytes_eq items distinct;
}

-- the week of rows without faults is a checked one
made_is : (rows others : List Row) → IsFaultless rows → list_all keeps_ranges rows ≡ true → list_all keeps_ranges others ≡ true
    → IfOk (week_made rows others) IsWeek
made_is rows [] none fits first = tt
made_is rows (row.Week n monday load night grid ∷ rs) none fits first =
    let places = place_names rows in
    let legs = filter_map (leg_in places) rows in
    let orders = filter_map (order_in places) rows in
    let names = driver_names rows in
    let all = sound places names rows fits none.names in
    let far = apart rows none.doubles in
    let here = and_parts (keeps_ranges (row.Week n monday load night grid)) (list_all keeps_ranges rs) first in
    let in_load = and_parts (is_within 1 240 load) _ here.0 in
    let in_night = and_parts (nat_le night 1000000) _ in_load.1 in
    let in_grid = and_parts (is_grid grid) true in_night.1 in
    let drivers = all_items _ driver_in IsNamedDriver (driver_is places names) rows all in
    let order_list = all_items _ (order_in places) (IsNamedOrder (length places)) (order_is places names) rows all in
    record {
      load = within_is 1 240 load in_load.0;
      night = leb-true night 1000000 in_night.0;
      grid = grid_is grid in_grid.0;
      places = (some_place rows (passed _ _ none.depot), limited Places place_in is_place rows none.places);
      few = (
        limited Legs (leg_in places) (is_leg places) rows none.legs,
        limited Drivers driver_in is_driver rows none.drivers,
        limited Orders (order_in places) (is_order places) rows none.orders,
      );
      legs = all_items _ (leg_in places) (IsLeg (length places)) (leg_is places names) rows all;
      drivers = All-weaker IsNamedDriver IsDriver (λ d both. both.0) (drivers_of rows) drivers;
      orders = All-weaker (IsNamedOrder (length places)) (IsOrder (length places)) (λ o both. both.0) orders order_list;
      place_names = record {
        formed = all_items _ place_in (λ (name : List ℕ). is_name name ≡ true) (place_is places names) rows all;
        distinct = distinct_names _ place_in 1 (λ name. name) place_key rows all far;
      };
      driver_names = are_names (λ (d : Driver). d.name) (drivers_of rows)
          (All-weaker IsNamedDriver _ (λ d both. both.1) (drivers_of rows) drivers)
          (distinct_names _ driver_in 3 (λ (d : Driver). d.name) driver_key rows all far);
      order_names = are_names (λ (o : Order). o.name) orders
          (All-weaker (IsNamedOrder (length places)) _ (λ o both. both.1) orders order_list)
          (distinct_names _ (order_in places) 6 (λ (o : Order). o.name) (order_key places) rows all far);
      ends = distinct_items _ (leg_in places) (Ends places) same_ends (leg_ends places names) (leg_links places) rows all far;
    }
made_is rows (_ ∷ rs) none fits first = tt

-- a week that was made of rows without faults
pub made_checked : (week : Week) (rows : List Row) → fault_of rows ≡ None → week_made rows rows ≡ Ok week → IsWeek week
made_checked week rows none made =
    let clean = faultless rows none in
    let fits = kept [] rows clean.ranges in
    subst (λ (r : Result Week WeekError). IfOk r IsWeek) made (made_is rows rows clean fits fits)
