-- Names and stamps have no space and no line feed.
use Rattle.std.proofs.Common.{◌≡◌, ℕ, ◌/◌, ◌<◌, ◌==◌, true, ◌&&◌, ◌||◌, not, nat_le, List, [], ◌∷◌, ◌++◌, length, zero, suc, map, get_or, slice_get, Some, All, refl, arith, ℤ}
use Rattle.std.specs.List.{list_all}
use Rattle.std.proofs.lemmas.List.Elements.{All-head, All-tail}
use Rattle.minute_line.specs.DateText.{IsDateText, HasDateForm}
use Rattle.minute_line.specs.DateWriting.{IsDayText, AreDaysOf, clock_text, stamp_text}
use Rattle.minute_line.proofs.Held.{and_is, le_is}
use Rattle.week_book.specs.declared.weeks.Week.{Week}
use Rattle.week_book.specs.Names.{is_name, is_name_byte}
use Rattle.week_book.specs.Weeks.{IsWeek}
use Rattle.desk_report.specs.Reports.{driver_name}
use Rattle.desk_report.specs.Steps.{place_name, order_name}
use Rattle.desk_report.proofs.SaidEntries.{place-at, order-at, driver-at}
use Rattle.desk_report.proofs.TextLines.{AllOver, over-more}

-- the bytes of names
pub name-over : (name : List ℕ) → list_all is_name_byte name ≡ true → AllOver 32 name
name-over [] h = tt
name-over (byte ∷ name) h =
    let two = and_is (is_name_byte byte) (list_all is_name_byte name) h in
    let range = and_is (nat_le 33 byte && nat_le byte 126) (not ((byte == 44) || (byte == 34))) two.0 in
    let low = and_is (nat_le 33 byte) (nat_le byte 126) range.0 in
    (omega (arith, le_is 33 byte low.0), name-over name two.1)

one-name-over : (name : List ℕ) → is_name name ≡ true → AllOver 32 name
one-name-over name h = name-over name (and_is _ (list_all is_name_byte name) h).1

pub names-over : (names : List (List ℕ)) (n : ℕ) → All (λ name. is_name name ≡ true) names → AllOver 32 (get_or names n [])
names-over [] n all = tt
names-over (name ∷ names) zero all = one-name-over name (All-head (λ name. is_name name ≡ true) name names all)
names-over (name ∷ names) (suc n) all = names-over names n (All-tail (λ name. is_name name ≡ true) name names all)

pub place-over : (week : Week) (n : ℕ) → IsWeek week → AllOver 32 (place_name week n)
place-over week n w = rw (place-at week.places n) (names-over week.places n w.place_names.formed)

pub order-over : (week : Week) (n : ℕ) → IsWeek week → AllOver 32 (order_name week n)
order-over week n w = rw (order-at week.orders n) (names-over (map (λ order. order.name) week.orders) n w.order_names.formed)

pub driver-over : (week : Week) (n : ℕ) → IsWeek week → AllOver 32 (driver_name week n)
driver-over week n w = rw (driver-at week.drivers n) (names-over (map (λ driver. driver.name) week.drivers) n w.driver_names.formed)

-- the bytes of stamps
abbrev IsPlainDay : List ℕ → Type 0
IsPlainDay text = AllOver 32 text × (get_or text 0 84 < 100)

day-plain : (t : List ℕ) → length t ≡ 10 → HasDateForm t → IsPlainDay t
day-plain (a ∷ b ∷ c ∷ d ∷ e ∷ f ∷ g ∷ h ∷ i ∷ j ∷ []) l form = (
  (omega (arith, form.0.0), (omega (arith, form.0.1), (omega (arith, form.0.2), (omega (arith, form.0.3), (omega (arith, form.1), (omega (arith, form.2.0), (omega (arith, form.2.1), (omega (arith, form.3), (omega (arith, form.4.0), (omega (arith, form.4.1), tt)))))))))),
  omega (arith, form.0.0),
)
day-plain _ l form = absurd (omega (arith, l))

day-text-plain : (day : ℤ) (t : List ℕ) → IsDayText day t → IsPlainDay t
unfolding IsDateText
day-text-plain day t is = day-plain t is.0 is.1.0

days-plain : (days : List (List ℕ)) (n : ℕ) → ((k : ℕ) (text : List ℕ) → slice_get days k ≡ Some text → IsPlainDay text) → IsPlainDay (get_or days n [])
days-plain [] n each = (tt, omega arith)
days-plain (day ∷ days) zero each = each 0 day refl
days-plain (day ∷ days) (suc n) each = days-plain days n (λ k text there. each (suc k) text there)

clock-over : (minute : ℕ) → AllOver 32 (clock_text minute)
clock-over minute = (omega arith, (omega arith, (omega arith, (omega arith, (omega arith, (omega arith, tt))))))

-- a stamp begins below the letter d
abbrev pub IsStamp : List ℕ → Type 0
IsStamp text = (get_or text 0 100 < 100) × AllOver 32 text

stamp-of : (text : List ℕ) (minute : ℕ) → IsPlainDay text → IsStamp (text ++ clock_text minute)
stamp-of [] minute p = (omega arith, clock-over minute)
stamp-of (byte ∷ text) minute p = (p.1, over-more 32 (byte ∷ text) (clock_text minute) p.0 (clock-over minute))

pub stamp-over : (day : ℤ) (days : List (List ℕ)) (minute : ℕ) → AreDaysOf day days → IsStamp (stamp_text days minute)
stamp-over day days minute are = stamp-of _ minute (days-plain days (minute / 1440) (λ k text there. day-text-plain _ text (are.1 k text there)))
