-- What the items of rows keep, where each row is in its ranges and its names are known.
use Rattle.std.proofs.Common.{◌≡◌, ◌≢◌, ◌∙◌, ℕ, ◌≤◌, true, not, nat_le, nat_abs, ℤ, pos, negsuc, int_le, Option, Some, None, List, [], ◌∷◌, length, unwrap_or, refl, sym, ap}
use Rattle.std.proofs.lemmas.Bool.{false≢true, leb-true, and_parts}
use Rattle.std.specs.List.{AllByRecursion, list_all}
use Rattle.std.specs.Option.{IfSome, is_some}
use Rattle.std.specs.Str.{bytes_eq}
use Rattle.week_book.specs.declared.rows.Row.{Row}
use Rattle.week_book.specs.declared.rows.Row.TheVariants as row
use Rattle.week_book.specs.declared.weeks.Order.{Order}
use Rattle.week_book.specs.declared.weeks.Driver.{Driver}
use Rattle.week_book.specs.declared.errors.WeekError.TheVariants.{Unknown}
use Rattle.week_book.specs.Names.{is_among, is_name, number_of}
use Rattle.week_book.specs.Faults.{first_of}
use Rattle.week_book.specs.Ranges.{is_within, is_week_minute, is_close_of, is_other_name, keeps_ranges}
use Rattle.week_book.specs.Numbers.{numbered, place_in, driver_in, leg_in, order_in, unknown_name, unknown_driver, unknown_end, unknown_place, unknown_of}
use Rattle.week_book.specs.Weeks.{IsLeg, IsDriver, IsOrder}
use Rattle.week_book.proofs.Maps.{number_among, number_in, number_same}
use Rattle.week_book.proofs.Faultless.{neither, passed}

-- a row in its ranges, whose names are known
pub record IsSound (places drivers : List (List ℕ)) (r : Row) : Type 0 where
  pub fits : keeps_ranges r ≡ true
  pub known : unknown_of places drivers r ≡ None

pub sound : (places drivers : List (List ℕ)) (rows : List Row) → list_all keeps_ranges rows ≡ true
    → first_of (unknown_of places drivers) rows ≡ None → AllByRecursion (IsSound places drivers) rows
sound places drivers [] fits none = tt
sound places drivers (r ∷ rs) fits none =
    let here = and_parts (keeps_ranges r) _ fits in
    let known = neither (unknown_of places drivers r) _ none in
    (record { fits = here.0; known = known.0 }, sound places drivers rs here.1 known.1)

pub within_is : (first last n : ℕ) → is_within first last n ≡ true → (first ≤ n) × (n ≤ last)
within_is first last n fits =
    let parts = and_parts (nat_le first n) (nat_le n last) fits in (leb-true first n parts.0, leb-true n last parts.1)

-- a window that is open in the week
window_is : (opens closes : ℤ) → is_week_minute opens ≡ true → is_close_of opens closes ≡ true
    → (nat_abs opens ≤ nat_abs closes) × (nat_abs closes ≤ 10079)
window_is (pos a) (pos b) open_fits close_fits =
    let parts = and_parts (is_week_minute (pos b)) (int_le (pos a) (pos b)) close_fits in
    (leb-true a b parts.1, leb-true b 10079 (and_parts (int_le (pos 0) (pos b)) (int_le (pos b) (pos 10079)) parts.0).1)
window_is (pos a) (negsuc b) open_fits close_fits = absurd (false≢true close_fits)
window_is (negsuc a) closes open_fits close_fits = absurd (false≢true open_fits)

-- a name that is known has its number
pub known_number : (names : List (List ℕ)) (n field : ℕ) (name : List ℕ) → unknown_name names n field name ≡ None
    → number_of names name ≡ Some (numbered names name)
known_number names n field name none =
    by_number (number_of names name) refl (number_among 0 names name ∙ passed (is_among names name) (Unknown n field) none)
  where
    by_number : (o : Option ℕ) → number_of names name ≡ o → is_some (number_of names name) ≡ true → number_of names name ≡ Some (numbered names name)
    by_number None e some = let h = rw e at some in absurd (false≢true h)
    by_number (Some k) e some = e ∙ ap (λ (o : Option ℕ). Some (unwrap_or o 0)) (sym e)

-- the parts of a row in which no name is unknown
pub known_parts : (places drivers : List (List ℕ)) (r : Row) → unknown_of places drivers r ≡ None
    → (unknown_end places r ≡ None) × (unknown_place places r ≡ None)
known_parts places drivers r none =
    let rest = neither (unknown_driver drivers r) _ none in
    let ends = neither (unknown_end places r) _ rest.1 in
    (ends.0, (neither (unknown_place places r) None ends.1).0)

apart_numbers : (names : List (List ℕ)) (p q : List ℕ) (a b : ℕ) → number_of names p ≡ Some a → number_of names q ≡ Some b
    → not (bytes_eq p q) ≡ true → a ≢ b
apart_numbers names p q a b is_a is_b other same =
    let alike : bytes_eq p q ≡ true = number_same names p q a is_a (is_b ∙ ap Some (sym same)) in
    false≢true (ap not (sym alike) ∙ other)

pub leg_is : (places drivers : List (List ℕ)) (r : Row) → IsSound places drivers r → IfSome (leg_in places r) (IsLeg (length places))
leg_is places drivers (row.Leg n from to minutes cents) good =
    let known = known_parts places drivers (row.Leg n from to minutes cents) good.known in
    let names = neither (unknown_name places n 2 from) (unknown_name places n 3 to) known.0 in
    let known_from = known_number places n 2 from names.0 in
    let known_to = known_number places n 3 to names.1 in
    let first = and_parts (is_name from) _ good.fits in
    let second = and_parts (is_other_name from to) _ first.1 in
    let third = and_parts (is_within 1 270 minutes) _ second.1 in
    let fourth = and_parts (nat_le cents 1000000) true third.1 in
    record {
      from = number_in places from _ known_from;
      to = number_in places to _ known_to;
      apart = apart_numbers places from to _ _ known_from known_to (and_parts (is_name to) _ second.0).1;
      minutes = within_is 1 270 minutes third.0;
      cents = leb-true cents 1000000 fourth.0;
    }
leg_is places drivers _ good = tt

-- a driver in its ranges, with a name
abbrev pub IsNamedDriver : Driver → Type 0
IsNamedDriver d = IsDriver d × (is_name d.name ≡ true)

pub driver_is : (places drivers : List (List ℕ)) (r : Row) → IsSound places drivers r → IfSome (driver_in r) IsNamedDriver
driver_is places drivers (row.Driver n name capacity fee) good =
    let first = and_parts (is_name name) _ good.fits in
    let second = and_parts (is_within 1 100000 capacity) _ first.1 in
    let third = and_parts (nat_le fee 10000000) true second.1 in
    (record { capacity = within_is 1 100000 capacity second.0; fee = leb-true fee 10000000 third.0 }, first.0)
driver_is places drivers _ good = tt

-- an order in its ranges, with a name
abbrev pub IsNamedOrder : ℕ → Order → Type 0
IsNamedOrder places o = IsOrder places o × (is_name o.name ≡ true)

pub order_is : (places drivers : List (List ℕ)) (r : Row) → IsSound places drivers r
    → IfSome (order_in places r) (IsNamedOrder (length places))
order_is places drivers (row.Order n name place opens closes service kg price) good =
    let parts = known_parts places drivers (row.Order n name place opens closes service kg price) good.known in
    let known = known_number places n 3 place parts.1 in
    let first = and_parts (is_name name) _ good.fits in
    let second = and_parts (is_name place) _ first.1 in
    let third = and_parts (is_week_minute opens) _ second.1 in
    let fourth = and_parts (is_close_of opens closes) _ third.1 in
    let fifth = and_parts (is_within 1 360 service) _ fourth.1 in
    let sixth = and_parts (nat_le kg 100000) _ fifth.1 in
    let seventh = and_parts (nat_le price 100000000) true sixth.1 in (
      record {
        place = number_in places place _ known;
        window = window_is opens closes third.0 fourth.0;
        service = within_is 1 360 service fifth.0;
        kg = leb-true kg 100000 sixth.0;
        price = leb-true price 100000000 seventh.0;
      },
      first.0,
    )
order_is places drivers _ good = tt

pub place_is : (places drivers : List (List ℕ)) (r : Row) → IsSound places drivers r → IfSome (place_in r) (λ name. is_name name ≡ true)
place_is places drivers (row.Place n name) good = (and_parts (is_name name) true good.fits).0
place_is places drivers _ good = tt
