-- Days and stamps as text.
use Rattle.std.specs.Prelude.{◌≡◌, ℕ, ◌+◌, ◌/◌, ◌%◌, List, [], ◌∷◌, ◌++◌, length, get_or, Some, slice_get, ℤ, pos, ◌+ℤ◌}
use Rattle.minute_line.specs.DateText.{IsDateText, text_day}

-- the text is the date YYYY-MM-DD of the day with this number, of the years 2000 to 2100
abbrev pub IsDayText : ℤ → List ℕ → Type 0
IsDayText day t = (length t ≡ 10) × IsDateText 2000 2100 t × (text_day t ≡ day)

-- the texts of the seven days that begin with the day of this number
abbrev pub AreDaysOf : ℤ → List (List ℕ) → Type 0
AreDaysOf day texts = (length texts ≡ 7) × ((k : ℕ) (text : List ℕ) → slice_get texts k ≡ Some text → IsDayText (day +ℤ pos k) text)

-- the two digits of a number below 100
abbrev pub two_digits : ℕ → List ℕ
two_digits n = (48 + n / 10) ∷ (48 + n % 10) ∷ []

-- the time of day of a week minute, THH:MM
abbrev pub clock_text : ℕ → List ℕ
clock_text minute = 84 ∷ two_digits (minute / 60 % 24) ++ 58 ∷ two_digits (minute % 60)

-- the stamp of a week minute, by the texts of the week's days
abbrev pub stamp_text : List (List ℕ) → ℕ → List ℕ
stamp_text days minute = get_or days (minute / 1440) [] ++ clock_text minute
