-- The tests of dates say what the facts of minute_line say.
use Rattle.std.proofs.Common.{◌≡◌, ◌≤◌, ℕ, true, List, length, arith, slice_index, pos, ◌==◌}
use Rattle.std.proofs.lemmas.Bool.{and_parts, and_from, eqb-true}
use Rattle.std.proofs.lemmas.Bool.Decides.{nat_tests}
use Rattle.std.specs.Int.{is_in_range, IsInRange}
use Rattle.jiff_core.proofs.SignedLemmas.{signed_arith}
use Rattle.jiff_core.specs.Calendar.{IsYear, days_in_month}
use Rattle.minute_line.specs.DateText.{IsDigitAt, HasDateForm, IsDateText, IsClockText, IsStampText, IsMondayText, two_at, four_at}
use Rattle.desk_csv.specs.DateTests.{is_digit_at, has_date_form, is_date_text, is_clock_text, is_stamp_text, is_day_text}

digit_fact : (t : List ℕ) (i : ℕ) → is_digit_at t i ≡ true → IsDigitAt t i
digit_fact t i h = grind (arith, nat_tests)

range_fact : (low high n : ℕ) → is_in_range low high n ≡ true → IsInRange low high n
range_fact low high n h = (grind (arith, nat_tests), grind (arith, nat_tests))

byte_fact : (t : List ℕ) (i b : ℕ) → (slice_index t i == b) ≡ true → slice_index t i ≡ b
byte_fact t i b h = grind (arith, nat_tests)

clock_test : (t : List ℕ) → IsClockText t → is_clock_text t ≡ true
unfolding IsClockText is_clock_text
clock_test t h = grind (arith, nat_tests)

clock_fact : (t : List ℕ) → is_clock_text t ≡ true → IsClockText t
unfolding IsClockText is_clock_text
clock_fact t h =
    let all = and_parts _ _ h in
    let front = and_parts _ _ all.0 in
    let marks = and_parts _ _ front.0 in
    let hour = and_parts _ _ front.1 in
    let hours = and_parts _ _ hour.0 in
    let minute = and_parts _ _ all.1 in
    let minutes = and_parts _ _ minute.0 in
    let low = hour.1 in
    let late = minute.1 in (
      (byte_fact t 10 84 marks.0, byte_fact t 13 58 marks.1),
      (digit_fact t 11 hours.0, digit_fact t 12 hours.1, grind (arith, nat_tests)),
      (digit_fact t 14 minutes.0, digit_fact t 15 minutes.1, grind (arith, nat_tests)),
    )

form_fact : (t : List ℕ) → has_date_form t ≡ true → HasDateForm t
form_fact t h =
    let e = and_parts _ _ h in
    let d = and_parts _ _ e.0 in
    let c = and_parts _ _ d.0 in
    let b = and_parts _ _ c.0 in
    let year = and_parts _ _ b.0 in
    let century = and_parts _ _ year.0 in
    let first = and_parts _ _ century.0 in
    let month = and_parts _ _ c.1 in
    let day = and_parts _ _ e.1 in (
      (digit_fact t 0 first.0, digit_fact t 1 first.1, digit_fact t 2 century.1, digit_fact t 3 year.1),
      byte_fact t 4 45 b.1,
      (digit_fact t 5 month.0, digit_fact t 6 month.1),
      byte_fact t 7 45 d.1,
      (digit_fact t 8 day.0, digit_fact t 9 day.1),
    )

date_test : (low high : ℕ) (t : List ℕ) → IsDateText low high t → is_date_text low high t ≡ true
unfolding IsDateText is_date_text
date_test low high t h = grind (arith, nat_tests)

year_fact : (n : ℕ) → n ≤ 9999 → IsYear (pos n)
year_fact n h = (omega (arith, signed_arith), omega (arith, signed_arith))

date_fact : (low high : ℕ) (t : List ℕ) → high ≤ 9999 → is_date_text low high t ≡ true → IsDateText low high t
unfolding IsDateText is_date_text
date_fact low high t small h =
    let day = and_parts _ _ h in
    let month = and_parts _ _ day.0 in
    let year = and_parts _ _ month.0 in
    let within : IsInRange low high (four_at t 0) = range_fact low high (four_at t 0) year.1 in (
      form_fact t year.0,
      within,
      (
        year_fact (four_at t 0) (omega (arith, within)),
        range_fact 1 12 (two_at t 5) month.1,
        range_fact 1 (days_in_month (pos (four_at t 0)) (two_at t 5)) (two_at t 8) day.1,
      ),
    )

-- a stamp passes its test
pub stamp_test : (t : List ℕ) → IsStampText t → is_stamp_text t ≡ true
stamp_test t h =
    let long : (length t == 16) ≡ true = grind (arith, nat_tests, h.0) in
    and_from _ _ (and_from _ _ long (date_test 1999 2100 t h.1)) (clock_test t h.2)

-- what passes the test is a stamp
pub stamp_fact : (t : List ℕ) → is_stamp_text t ≡ true → IsStampText t
stamp_fact t h =
    let all = and_parts _ _ h in
    let front = and_parts _ _ all.0 in
    (eqb-true (length t) 16 front.0, date_fact 1999 2100 t (omega arith) front.1, clock_fact t all.1)

-- a date that passes its test
pub day_fact : (t : List ℕ) → is_day_text t ≡ true → (length t ≡ 10) × IsDateText 2000 2099 t
day_fact t h =
    let all = and_parts _ _ h in
    (eqb-true (length t) 10 all.0, date_fact 2000 2099 t (omega arith) all.1)

-- a Monday's date passes its test
pub day_test : (t : List ℕ) → IsMondayText t → is_day_text t ≡ true
day_test t h =
    let long : (length t == 10) ≡ true = grind (arith, nat_tests, h.0) in
    and_from _ _ long (date_test 2000 2099 t h.1)
