-- A day number has one date, and a date has one text.
use Rattle.std.proofs.Common.{◌≡◌, refl, sym, ap, ◌∙◌, arith, ℕ, suc, ◌+◌, ◌<◌, ◌≤◌, inl, inr, List, length, drop, slice_index, pos, ℤ, drop-cons}
use Rattle.std.proofs.Math.ListN.{drop_of_length-le}
use Rattle.std.proofs.lemmas.Bool.{cases_order}
use Rattle.jiff_core.specs.Calendar.{IsCivilDate, days_from_civil}
use Rattle.jiff_core.proofs.SignedLemmas.{signed_arith}
use Rattle.jiff_core.proofs.CalendarLemmas.{day_count-lt_year, day_count-lt_month, days_from_civil-day_count}
use Rattle.jiff_core.proofs.DateLemmas.{days_from_civil-day}
use Rattle.minute_line.specs.DateText.{IsDateText, IsClockText, IsStampText, IsDigitAt, two_at, four_at, HasDateForm, text_day, clock_minutes, stamp_minutes}
use Rattle.minute_line.specs.DateWriting.{IsDayText}

not_earlier_year : (y m d y₂ m₂ d₂ : ℕ) → IsCivilDate (pos y) m d → IsCivilDate (pos y₂) m₂ d₂ → days_from_civil (pos y) m d ≡ days_from_civil (pos y₂) m₂ d₂ → y₂ ≤ y
not_earlier_year y m d y₂ m₂ d₂ one two same =
    elim (cases_order y y₂) [
      | inl equal ↦ omega arith
      | inr (inl lt) ↦ absurd (omega (arith, signed_arith, same, days_from_civil-day_count (pos y) m d, days_from_civil-day_count (pos y₂) m₂ d₂, day_count-lt_year (pos y) m d (pos y₂) m₂ d₂ one two.2.0 (omega (arith, signed_arith))))
      | inr (inr gt) ↦ omega arith
    ]

not_earlier_month : (y m d m₂ d₂ : ℕ) → IsCivilDate (pos y) m d → IsCivilDate (pos y) m₂ d₂ → days_from_civil (pos y) m d ≡ days_from_civil (pos y) m₂ d₂ → m₂ ≤ m
not_earlier_month y m d m₂ d₂ one two same =
    elim (cases_order m m₂) [
      | inl equal ↦ omega arith
      | inr (inl lt) ↦ absurd (omega (arith, signed_arith, same, days_from_civil-day_count (pos y) m d, days_from_civil-day_count (pos y) m₂ d₂, day_count-lt_month (pos y) m d m₂ d₂ one two.2.0 lt))
      | inr (inr gt) ↦ omega arith
    ]

-- two dates with one day number are one date
pub one_date : (y m d y₂ m₂ d₂ : ℕ) → IsCivilDate (pos y) m d → IsCivilDate (pos y₂) m₂ d₂ → days_from_civil (pos y) m d ≡ days_from_civil (pos y₂) m₂ d₂ → (y ≡ y₂) × (m ≡ m₂) × (d ≡ d₂)
one_date y m d y₂ m₂ d₂ one two same =
    let year : y ≡ y₂ = omega (arith, not_earlier_year y m d y₂ m₂ d₂ one two same, not_earlier_year y₂ m₂ d₂ y m d two one (sym same)) in
    let two' : IsCivilDate (pos y) m₂ d₂ = rw year two in
    let same' : days_from_civil (pos y) m d ≡ days_from_civil (pos y) m₂ d₂ = same ∙ ap (λ (k : ℕ). days_from_civil (pos k) m₂ d₂) (sym year) in
    let month : m ≡ m₂ = omega (arith, not_earlier_month y m d m₂ d₂ one two' same', not_earlier_month y m₂ d₂ m d two' one (sym same')) in
    let same'' : days_from_civil (pos y) m d ≡ days_from_civil (pos y) m d₂ = same' ∙ ap (λ (k : ℕ). days_from_civil (pos y) k d₂) (sym month) in
    (year, month, omega (arith, signed_arith, same'', days_from_civil-day (pos y) m d d₂ one.2.0 two'.2.0))

-- two digits have one number
two_digits : (s t : List ℕ) (i : ℕ) → IsDigitAt s i → IsDigitAt s (i + 1) → IsDigitAt t i → IsDigitAt t (i + 1) → two_at s i ≡ two_at t i → (slice_index s i ≡ slice_index t i) × (slice_index s (i + 1) ≡ slice_index t (i + 1))
two_digits s t i a b c d same = (omega (arith, a, b, c, d, same), omega (arith, a, b, c, d, same))

-- one more byte from the end on is the same
one_more : (s t : List ℕ) (j : ℕ) → j < length s → j < length t → slice_index s j ≡ slice_index t j → drop (suc j) s ≡ drop (suc j) t → drop j s ≡ drop j t
one_more s t j a b same rest = rw (drop-cons s j 0, drop-cons t j 0, same, rest) refl

-- the bytes from a place on are the same
abbrev SameFrom : List ℕ → List ℕ → ℕ → Type 0
SameFrom s t j = drop j s ≡ drop j t

-- the date of a text of a day
parts : (low high : ℕ) (s t : List ℕ) → IsDateText low high s → IsDateText low high t → text_day s ≡ text_day t → (four_at s 0 ≡ four_at t 0) × (two_at s 5 ≡ two_at t 5) × (two_at s 8 ≡ two_at t 8)
unfolding IsDateText
parts low high s t a b same = one_date (four_at s 0) (two_at s 5) (two_at s 8) (four_at t 0) (two_at t 5) (two_at t 8) a.2 b.2 same

-- a year has four digits
century : (s t : List ℕ) → HasDateForm s → HasDateForm t → four_at s 0 ≡ four_at t 0 → (two_at s 0 ≡ two_at t 0) × (two_at s 2 ≡ two_at t 2)
century s t a b same = (omega (arith, a.0, b.0, same), omega (arith, a.0, b.0, same))

-- texts that begin with the date of one day are the same where they are the same after it
date_bytes_same : (low high : ℕ) (s t : List ℕ) → IsDateText low high s → IsDateText low high t → 10 ≤ length s → 10 ≤ length t
    → text_day s ≡ text_day t → SameFrom s t 10 → s ≡ t
unfolding IsDateText
date_bytes_same low high s t a b long_s long_t same end =
    let f = a.0 in
    let g = b.0 in
    let date = parts low high s t a b same in
    let year = century s t f g date.0 in
    let y01 = two_digits s t 0 f.0.0 f.0.1 g.0.0 g.0.1 year.0 in
    let y23 = two_digits s t 2 f.0.2 f.0.3 g.0.2 g.0.3 year.1 in
    let m = two_digits s t 5 f.2.0 f.2.1 g.2.0 g.2.1 date.1 in
    let d = two_digits s t 8 f.4.0 f.4.1 g.4.0 g.4.1 date.2 in
    let at : (j : ℕ) → j < 10 → (j < length s) × (j < length t) = λ j lt. (omega (arith, long_s, lt), omega (arith, long_t, lt)) in
    let more : (j : ℕ) → j < 10 → slice_index s j ≡ slice_index t j → SameFrom s t (suc j) → SameFrom s t j = λ j lt same rest. one_more s t j (at j lt).0 (at j lt).1 same rest in
    more 0 (omega arith) y01.0 (more 1 (omega arith) y01.1 (more 2 (omega arith) y23.0 (more 3 (omega arith) y23.1 (more 4 (omega arith) (f.1 ∙ sym g.1)
    (more 5 (omega arith) m.0 (more 6 (omega arith) m.1 (more 7 (omega arith) (f.3 ∙ sym g.3) (more 8 (omega arith) d.0 (more 9 (omega arith) d.1 end)))))))))

-- texts of n bytes are the same from their end on
same_end : (n : ℕ) (s t : List ℕ) → length s ≡ n → length t ≡ n → SameFrom s t n
same_end n s t a b = drop_of_length-le s {i = n} (omega (arith, a)) ∙ sym (drop_of_length-le t {i = n} (omega (arith, b)))

-- a day has one text
pub one_text : (day : ℤ) (s t : List ℕ) → IsDayText day s → IsDayText day t → s ≡ t
one_text day s t a b =
    date_bytes_same 2000 2100 s t a.1 b.1 (omega (arith, a.0)) (omega (arith, b.0)) (a.2 ∙ sym b.2) (same_end 10 s t a.0 b.0)

-- a time of day is less than a day
in_day : (t : List ℕ) → IsClockText t → clock_minutes t < 1440
unfolding IsClockText
in_day t h = omega (arith, h.1.2, h.2.2)

-- two stamps of one minute have one day and one time of day
one_minute : (day : ℤ) (s t : List ℕ) → IsClockText s → IsClockText t → stamp_minutes day s ≡ stamp_minutes day t
    → (text_day s ≡ text_day t) × (clock_minutes s ≡ clock_minutes t)
one_minute day s t a b same =
    (omega (arith, signed_arith, in_day s a, in_day t b, same), omega (arith, signed_arith, in_day s a, in_day t b, same))

-- a minute has one stamp
pub one_stamp : (day : ℤ) (s t : List ℕ) → IsStampText s → IsStampText t → stamp_minutes day s ≡ stamp_minutes day t → s ≡ t
unfolding IsClockText
one_stamp day s t a b same =
    let f = a.2 in
    let g = b.2 in
    let one = one_minute day s t f g same in
    let hour : two_at s 11 ≡ two_at t 11 = omega (arith, f.2.2, g.2.2, one.1) in
    let minute : two_at s 14 ≡ two_at t 14 = omega (arith, f.2.2, g.2.2, one.1) in
    let h = two_digits s t 11 f.1.0 f.1.1 g.1.0 g.1.1 hour in
    let m = two_digits s t 14 f.2.0 f.2.1 g.2.0 g.2.1 minute in
    let at : (j : ℕ) → j < 16 → (j < length s) × (j < length t) = λ j lt. (omega (arith, a.0, lt), omega (arith, b.0, lt)) in
    let more : (j : ℕ) → j < 16 → slice_index s j ≡ slice_index t j → SameFrom s t (suc j) → SameFrom s t j = λ j lt same rest. one_more s t j (at j lt).0 (at j lt).1 same rest in
    let clock : SameFrom s t 10 =
    more 10 (omega arith) (f.0.0 ∙ sym g.0.0) (more 11 (omega arith) h.0 (more 12 (omega arith) h.1 (more 13 (omega arith) (f.0.1 ∙ sym g.0.1)
    (more 14 (omega arith) m.0 (more 15 (omega arith) m.1 (same_end 16 s t a.0 b.0)))))) in
    date_bytes_same 1999 2100 s t a.1 b.1 (omega (arith, a.0)) (omega (arith, b.0)) one.0 clock
