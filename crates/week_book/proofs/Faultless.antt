-- What holds of rows in which no fault was found.
use Rattle.std.proofs.Common.{◌≡◌, ℕ, ◌+◌, ◌≤◌, Bool, true, false, not, ◌&&◌, ◌||◌, cond, if◌then◌else◌, nat_le, Option, Some, None, Result, Ok, Err, OnOk, List, [], ◌∷◌, ◌++◌, length, count_by, filter_map, refl, sym, arith}
use Rattle.std.proofs.lemmas.Bool.{false≢true, leb-true, and_parts, and_from}
use Rattle.std.proofs.lemmas.List.Recursion.{is_count_by}
use Rattle.std.specs.List.{list_all, cons_option}
use Rattle.std.specs.Option.{is_some, option_or, option_map_or}
use Rattle.week_book.specs.declared.rows.Row.{Row}
use Rattle.week_book.specs.declared.rows.Row.TheVariants as row
use Rattle.week_book.specs.declared.errors.What.{What}
use Rattle.week_book.specs.declared.errors.What.TheVariants.{Places, Legs, Drivers, Orders}
use Rattle.week_book.specs.declared.errors.WeekError.{WeekError}
use Rattle.week_book.specs.Faults.{row_number, first_fault}
use Rattle.week_book.specs.Ranges.{did_names, has_begun, is_did_span, fields_in_range, first_outside, range_of, range_fault, keeps_ranges}
use Rattle.week_book.specs.Names.{is_name}
use Rattle.week_book.specs.Pasts.{is_off_word}
use Rattle.week_book.specs.Keys.{double_fault}
use Rattle.week_book.specs.Numbers.{place_in, place_names, driver_names, unknown_fault}
use Rattle.week_book.specs.Driven.{driven, did_fault}
use Rattle.week_book.specs.Checking.{is_of, limit_of, too_many, count_fault, counts_fault, depot_fault, fault_of}

-- neither of two
pub neither : {A : Type 0} (a b : Option A) → option_or a b ≡ None → (a ≡ None) × (b ≡ None)
neither None b none = (refl, none)
neither (Some a) b none = absurd cc

-- no fault of a week text
pub record IsFaultless (rows : List Row) : Type 0 where
  pub places : count_fault Places rows ≡ None
  pub legs : count_fault Legs rows ≡ None
  pub drivers : count_fault Drivers rows ≡ None
  pub orders : count_fault Orders rows ≡ None
  pub depot : depot_fault rows ≡ None
  pub ranges : range_fault rows ≡ None
  pub doubles : double_fault rows ≡ None
  pub names : unknown_fault (place_names rows) (driver_names rows) rows ≡ None

pub faultless : (rows : List Row) → fault_of rows ≡ None → IsFaultless rows
faultless rows none =
    let all = neither (counts_fault rows) _ none in
    let places = neither (count_fault Places rows) _ all.0 in
    let legs = neither (count_fault Legs rows) _ places.1 in
    let drivers = neither (count_fault Drivers rows) _ legs.1 in
    let orders = neither (count_fault Orders rows) _ drivers.1 in
    let depot = neither (depot_fault rows) _ all.1 in
    let ranges = neither (range_fault rows) _ depot.1 in
    let doubles = neither (double_fault rows) _ ranges.1 in
    let names = neither (unknown_fault (place_names rows) (driver_names rows) rows) _ doubles.1 in
    record {
      places = places.0;
      legs = legs.0;
      drivers = drivers.0;
      orders = orders.0;
      depot = depot.0;
      ranges = ranges.0;
      doubles = doubles.0;
      names = names.0;
    }

-- a test that finds no fault is passed
pub passed : (test : Bool) (e : WeekError) → (if test then None else Some e) ≡ None → test ≡ true
passed true e none = refl
passed false e none = absurd cc

-- a number that is not too many is in the limit
pub few : (what : What) (n : ℕ) → too_many what n ≡ None → nat_le n (limit_of what) ≡ true
few what n none = passed (nat_le n (limit_of what)) _ none

counted_case : {B : Type 0} (o : Option B) (p : Bool) (xs : List B) → is_some o ≡ p
    → length (cons_option o xs) ≡ cond p (1 + length xs) (length xs)
counted_case None true xs same = absurd (false≢true same)
counted_case None false xs same = refl
counted_case (Some b) true xs same = omega arith
counted_case (Some b) false xs same = absurd (false≢true (sym same))

-- as many items as rows of the kind
counted : {B : Type 0} (h : Row → Option B) (p : Row → Bool) → ((r : Row) → is_some (h r) ≡ p r) → (rows : List Row)
    → length (filter_map h rows) ≡ count_by p rows
counted h p same rows =
    is_count_by (λ (rs : List Row). length (filter_map h rs)) p refl (λ r rs. counted_case (h r) (p r) (filter_map h rs) (same r)) rows

-- so many items are in the limit where so many rows are
pub limited : {B : Type 0} (what : What) (h : Row → Option B) → ((r : Row) → is_some (h r) ≡ is_of what r) → (rows : List Row)
    → count_fault what rows ≡ None → length (filter_map h rows) ≤ limit_of what
limited what h same rows none =
    let size = counted h (is_of what) same rows in
    let most : count_by (is_of what) rows ≤ limit_of what = leb-true _ _ (few what _ none) in
    omega (arith, size, most)

-- a place row adds a place
pub is_place : (r : Row) → is_some (place_in r) ≡ is_of Places r
is_place (row.Place n name) = refl
is_place _ = refl

-- at most 64 places
pub few_places : (rows : List Row) → fault_of rows ≡ None → length (place_names rows) ≤ 64
few_places rows none = limited Places place_in is_place rows (faultless rows none).places

outside_case : (is_in : Bool) (e : WeekError) (o : Option WeekError) → (if is_in then o else Some e) ≡ None → (is_in ≡ true) × (o ≡ None)
outside_case true e o none = (refl, none)
outside_case false e o none = absurd cc

-- each field in its range
pub none_outside : (n field : ℕ) (fields : List Bool) → first_outside n field fields ≡ None → list_all (λ is_in. is_in) fields ≡ true
none_outside n field [] none = refl
none_outside n field (is_in ∷ others) none =
    let here = outside_case is_in _ (first_outside n (field + 1) others) none in
    rw (here.0, none_outside n (field + 1) others here.1) refl

span_case : (short lasts off begun : Bool) → (short && (lasts || (off && not begun))) ≡ true → (short && (lasts || (off && true))) ≡ true
span_case true true off begun fits = refl
span_case true false true begun fits = refl
span_case true false false begun fits = fits
span_case false lasts off begun fits = fits

-- a row in its ranges after others is so as the first, too
kept_row : (begun : Bool) (r : Row) → list_all (λ is_in. is_in) (fields_in_range begun r) ≡ true → keeps_ranges r ≡ true
kept_row begun (row.Did n driver mark minutes) fits =
    let parts = and_parts (is_name driver) (is_did_span begun mark minutes && true) fits in
    let span = and_parts (is_did_span begun mark minutes) true parts.1 in
    and_from _ _ parts.0 (and_from _ _ (span_case (nat_le minutes 10080) (nat_le 1 minutes) (is_off_word mark) begun span.0) refl)
kept_row begun _ fits = fits

-- rows without a range fault keep their ranges
pub kept : (before rows : List Row) → first_fault range_of before rows ≡ None → list_all keeps_ranges rows ≡ true
kept before [] none = refl
kept before (r ∷ rs) none =
    let here = neither (range_of before r) _ none in
    let begun = has_begun (did_names before) r in
    and_from _ _ (kept_row begun r (none_outside (row_number r) 2 (fields_in_range begun r) here.0)) (kept (before ++ r ∷ []) rs here.1)

-- the first fault is what the text is refused by
pub refused : {A : Type 0} (fault : Option WeekError) (made : Result A WeekError) (e : WeekError) → fault ≡ Some e
    → option_map_or Err fault made ≡ Err e
refused fault made e is = rw is refl

pub on_ok : {T E : Type 0} (r : Result T E) (P : Type 0) → P → OnOk r P
on_ok (Ok x) P p = p
on_ok (Err e) P p = tt

-- a check text without faults
pub did_faultless : (rows : List Row) → did_fault rows ≡ None → (range_fault rows ≡ None) × (double_fault rows ≡ None)
did_faultless rows none =
    let ranges = neither (range_fault rows) _ (neither (too_many Drivers (length (driven rows))) _ none).1 in
    (ranges.0, (neither (double_fault rows) _ ranges.1).0)
