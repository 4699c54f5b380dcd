-- Which fields are dates of the calendar of jiff, as tests.
use Rattle.std.specs.Prelude.{refl, Option, Some, None, ◌≡◌, ℕ, Bool, true, false, ◌&&◌, ◌==◌, nat_le, int_le, ℤ, pos, List, length, slice_index}
use Rattle.std.specs.Int.{is_in_range}
use Rattle.std.specs.Int.Signed.{le_z_yes}
use Rattle.std.proofs.lemmas.Float.{T_from_true}
use Rattle.std.proofs.lemmas.Bool.{eqb-true}
use Rattle.jiff_core.specs.Calendar.{days_in_month, weekday_number}
use Rattle.minute_line.specs.DateText.{two_at, four_at}
use Rattle.minute_line.specs.declared.dates.Monday.{Monday}

-- the byte at i is an ASCII digit
abbrev pub is_digit_at : List ℕ → ℕ → Bool
is_digit_at t i = is_in_range 48 57 (slice_index t i)

-- the first ten bytes have the form YYYY-MM-DD
abbrev pub has_date_form : List ℕ → Bool
has_date_form t =
    (is_digit_at t 0 && is_digit_at t 1 && is_digit_at t 2 && is_digit_at t 3)
    && (slice_index t 4 == 45)
    && (is_digit_at t 5 && is_digit_at t 6)
    && (slice_index t 7 == 45)
    && (is_digit_at t 8 && is_digit_at t 9)

-- the text begins with a date that the calendar has, of the years low to high
unfoldable pub is_date_text : ℕ → ℕ → List ℕ → Bool
is_date_text low high t =
    has_date_form t
    && is_in_range low high (four_at t 0)
    && is_in_range 1 12 (two_at t 5)
    && is_in_range 1 (days_in_month (pos (four_at t 0)) (two_at t 5)) (two_at t 8)

-- the bytes from 10 have the form THH:MM, hour 00 to 23, minute 00 to 59
unfoldable pub is_clock_text : List ℕ → Bool
is_clock_text t =
    ((slice_index t 10 == 84) && (slice_index t 13 == 58))
    && (is_digit_at t 11 && is_digit_at t 12 && nat_le (two_at t 11) 23)
    && (is_digit_at t 14 && is_digit_at t 15 && nat_le (two_at t 14) 59)

-- the text is a date of the years 2000 to 2099
abbrev pub is_day_text : List ℕ → Bool
is_day_text t = (length t == 10) && is_date_text 2000 2099 t

-- the text is a stamp of the years 1999 to 2100
abbrev pub is_stamp_text : List ℕ → Bool
is_stamp_text t = (length t == 16) && is_date_text 1999 2100 t && is_clock_text t

-- a value that rests on a test that holds
unfoldable pub where_true : {A : Type 0} → (b : Bool) → (b ≡ true → Option A) → Option A
where_true true make = make refl
where_true false make = None

-- the Monday with that day number, if a week may begin on it
unfoldable pub monday_of : ℤ → Option Monday
monday_of day =
    where_true (int_le (pos 10957) day) (λ low.
    where_true (int_le day (pos 47485)) (λ high.
    where_true (weekday_number day == 0) (λ zero.
    Some (record {
      day = day;
      day_in = (le_z_yes (T_from_true _ low), le_z_yes (T_from_true _ high));
      is_monday = eqb-true _ _ zero;
    }))))
