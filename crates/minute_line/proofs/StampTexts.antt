-- A date and a time of day are a stamp.
use Rattle.std.proofs.Common.{◌≡◌, refl, arith, ℕ, zero, suc, ◌/◌, ◌%◌, ◌<◌, List, [], ◌∷◌, ◌++◌, length, get_or, Some, slice_get, ℤ, pos, ◌+ℤ◌}
use Rattle.jiff_core.proofs.SignedLemmas.{signed_arith}
use Rattle.minute_line.specs.DateText.{IsDateText, IsClockText, IsStampText, two_at, stamp_minutes}
use Rattle.minute_line.specs.DateWriting.{IsDayText, AreDaysOf, clock_text, stamp_text}

-- the date of a day, and a time of day
pub with_clock : (day : ℤ) (date : List ℕ) (minute : ℕ) → IsDayText (day +ℤ pos (minute / 1440)) date
    → IsStampText (date ++ clock_text minute) × (stamp_minutes day (date ++ clock_text minute) ≡ pos minute)
unfolding IsDateText IsClockText
with_clock day (a ∷ b ∷ c ∷ d ∷ e ∷ f ∷ g ∷ h ∷ i ∷ j ∷ []) minute is =
    let text : List ℕ = (a ∷ b ∷ c ∷ d ∷ e ∷ f ∷ g ∷ h ∷ i ∷ j ∷ []) ++ clock_text minute in
    let hour : two_at text 11 ≡ minute / 60 % 24 = omega arith in
    let minutes : two_at text 14 ≡ minute % 60 = omega arith in
    let clock : IsClockText text =
    ((refl, refl), ((omega arith, omega arith), (omega arith, omega arith), omega arith), ((omega arith, omega arith), (omega arith, omega arith), omega arith)) in (
      (refl, (is.1.0, (omega (arith, is.1.1.0), is.1.1.1), is.1.2), clock),
      omega (arith, signed_arith, is.2, hour, minutes),
    )
with_clock day [] minute is = absurd (omega (arith, is.0))
with_clock day (a ∷ []) minute is = absurd (omega (arith, is.0))
with_clock day (a ∷ b ∷ []) minute is = absurd (omega (arith, is.0))
with_clock day (a ∷ b ∷ c ∷ []) minute is = absurd (omega (arith, is.0))
with_clock day (a ∷ b ∷ c ∷ d ∷ []) minute is = absurd (omega (arith, is.0))
with_clock day (a ∷ b ∷ c ∷ d ∷ e ∷ []) minute is = absurd (omega (arith, is.0))
with_clock day (a ∷ b ∷ c ∷ d ∷ e ∷ f ∷ []) minute is = absurd (omega (arith, is.0))
with_clock day (a ∷ b ∷ c ∷ d ∷ e ∷ f ∷ g ∷ []) minute is = absurd (omega (arith, is.0))
with_clock day (a ∷ b ∷ c ∷ d ∷ e ∷ f ∷ g ∷ h ∷ []) minute is = absurd (omega (arith, is.0))
with_clock day (a ∷ b ∷ c ∷ d ∷ e ∷ f ∷ g ∷ h ∷ i ∷ []) minute is = absurd (omega (arith, is.0))
with_clock day (a ∷ b ∷ c ∷ d ∷ e ∷ f ∷ g ∷ h ∷ i ∷ j ∷ k ∷ more) minute is = absurd (omega (arith, is.0))

-- a number below the length of a list is that of an element
there : (xs : List (List ℕ)) (k : ℕ) → k < length xs → slice_get xs k ≡ Some (get_or xs k [])
there [] k below = absurd (omega arith)
there (x ∷ xs) zero below = refl
there (x ∷ xs) (suc k) below = there xs k (omega arith)

-- the stamp of a week minute is a stamp of that minute
pub stamp_is_minute : (day : ℤ) (days : List (List ℕ)) (minute : ℕ) → AreDaysOf day days → minute < 10080
    → IsStampText (stamp_text days minute) × (stamp_minutes day (stamp_text days minute) ≡ pos minute)
stamp_is_minute day days minute are below =
    with_clock day (get_or days (minute / 1440) []) minute
    (are.1 (minute / 1440) (get_or days (minute / 1440) []) (there days (minute / 1440) (omega (arith, are.0))))

-- seven texts, each of its day
pub seven_days : (day : ℤ) (a b c d e f g : List ℕ) → IsDayText (day +ℤ pos 0) a → IsDayText (day +ℤ pos 1) b → IsDayText (day +ℤ pos 2) c
    → IsDayText (day +ℤ pos 3) d → IsDayText (day +ℤ pos 4) e → IsDayText (day +ℤ pos 5) f → IsDayText (day +ℤ pos 6) g
    → AreDaysOf day (a ∷ b ∷ c ∷ d ∷ e ∷ f ∷ g ∷ [])
seven_days day a b c d e f g ha hb hc hd he hf hg = (refl, each)
  where
    each : (k : ℕ) (text : List ℕ) → slice_get (a ∷ b ∷ c ∷ d ∷ e ∷ f ∷ g ∷ []) k ≡ Some text → IsDayText (day +ℤ pos k) text
    each zero text h = let is : a ≡ text = cc in rw (← is) ha
    each (suc zero) text h = let is : b ≡ text = cc in rw (← is) hb
    each (suc (suc zero)) text h = let is : c ≡ text = cc in rw (← is) hc
    each (suc (suc (suc zero))) text h = let is : d ≡ text = cc in rw (← is) hd
    each (suc (suc (suc (suc zero)))) text h = let is : e ≡ text = cc in rw (← is) he
    each (suc (suc (suc (suc (suc zero))))) text h = let is : f ≡ text = cc in rw (← is) hf
    each (suc (suc (suc (suc (suc (suc zero)))))) text h = let is : g ≡ text = cc in rw (← is) hg
    each (suc (suc (suc (suc (suc (suc (suc k))))))) text h = cc
