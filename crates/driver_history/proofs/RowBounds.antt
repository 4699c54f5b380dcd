-- Past rows carried on: their minutes and their bounds.
use Rattle.std.proofs.Common.{◌≡◌, ℕ, ◌*◌, ◌≤◌, Bool, true, false, ◌&&◌, List, [], ◌∷◌, length, map, refl, fold, arith, sym, ap, suc, ◌-◌, ◌∙◌, Option, Some, None, slice_get}
use Rattle.std.proofs.lemmas.Bool.Decides.{nat_tests}
use Rattle.std.proofs.lemmas.List.Sums.{sum_by-cons}
use Rattle.minute_line.specs.Marks.{is_off}
use Rattle.week_book.specs.Pasts.{Activity, Rested, is_off_word}
use Rattle.driver_history.specs.declared.errors.HistoryError.{HistoryError}
use Rattle.driver_history.specs.declared.errors.HistoryError.TheVariants.{LateWeekly, TwoOffs}
use Rattle.std.specs.Option.{option_or, option_map, option_map_or}
use Rattle.driver_history.specs.Carrying.{SinceWeeklyRestFields, no_line, carry, end_off}
use Rattle.driver_history.specs.Keeping.{KeepsHistoryBounds}
use Rattle.driver_history.specs.Finding.{each_within, ArePast, IsRestInRange}
use Rattle.driver_history.specs.Reading.{stint_said, late_weekly, second_off, minutes_said, off_in, trailing_off, minutes_before, sum_fault, past_fault}
use Rattle.driver_history.proofs.Carry.{all_total, open-add_duty, open-end_off}
use Rattle.driver_history.proofs.Pasts.{uncut-fold, past-fold}
use Rattle.driver_history.proofs.RowShapes.{stint-says, total-stints, lasts-read, cuts-late}

pub most_minutes : (ss : List Activity) → each_within 2000000 ss ≡ true → minutes_said ss ≤ 2000000 * length ss
most_minutes [] h = omega arith
most_minutes (s ∷ ss) h =
    let here : s.minutes ≤ 2000000 = grind (arith, nat_tests) in
    let more : minutes_said ss ≤ 2000000 * length ss = most_minutes ss (grind arith) in
    omega (arith, sum_by-cons (λ (x : Activity). x.minutes) s ss)

off_most : (s : Activity) → off_in s ≤ s.minutes
off_most s = grind arith

-- the last of two rows or more is the last of those after the first
trailing-cons : (s t : Activity) (ss : List Activity) → trailing_off (s ∷ t ∷ ss) ≡ trailing_off (t ∷ ss)
trailing-cons s t ss =
    let fewer : length (s ∷ t ∷ ss) - 1 ≡ suc (length ss) = omega arith in
    let last : length (t ∷ ss) - 1 ≡ length ss = omega arith in
    ap (λ n. option_map_or off_in (slice_get (s ∷ t ∷ ss) n) 0) fewer ∙ sym (ap (λ n. option_map_or off_in (slice_get (t ∷ ss) n) 0) last)

pub trailing_most : (ss : List Activity) → trailing_off ss ≤ minutes_said ss
trailing_most [] = omega arith
trailing_most (s ∷ []) = omega (arith, off_most s, sum_by-cons (λ (x : Activity). x.minutes) s [])
trailing_most (s ∷ t ∷ ss) = omega (arith, trailing-cons s t ss, trailing_most (t ∷ ss), sum_by-cons (λ (x : Activity). x.minutes) s (t ∷ ss))

trailing_small : (ss : List Activity) → each_within 2000000 ss ≡ true → trailing_off ss ≤ 2000000
trailing_small [] h = omega arith
trailing_small (s ∷ []) h =
    let here : s.minutes ≤ 2000000 = grind (arith, nat_tests) in omega (arith, off_most s)
trailing_small (s ∷ t ∷ ss) h =
    let more : trailing_off (t ∷ ss) ≤ 2000000 = trailing_small (t ∷ ss) (grind arith) in omega (arith, trailing-cons s t ss, more)

open-carry : (c : SinceWeeklyRestFields) (s : Activity) → is_off_word s.word ≡ false → (carry c (stint_said s)).open_off ≡ 0
open-carry c s f =
    let e : is_off (stint_said s).mark ≡ false = (stint-says s.word s.minutes).off ∙ f in
    rw e (open-add_duty (end_off c) (stint_said s).mark (stint_said s).minutes ∙ open-end_off c)

open-last : (after : Bool) (c : SinceWeeklyRestFields) (s : Activity) → second_off after (s ∷ []) ≡ None → (after ≡ false → c.open_off ≡ 0) →
    (carry c (stint_said s)).open_off ≡ off_in s
open-last after c s h i = by_word (is_off_word s.word) refl
  where
    by_word : (b : Bool) → is_off_word s.word ≡ b → (carry c (stint_said s)).open_off ≡ off_in s
    by_word false e = open-carry c s e ∙ rw e refl
    by_word true e =
        let off : is_off (stint_said s).mark ≡ true = (stint-says s.word s.minutes).off ∙ e in
        let none : after ≡ false = before after refl e in
        let zero_open = i none in
        rw (off, e, (stint-says s.word s.minutes).minutes) (omega arith)
      where
        before : (b : Bool) → after ≡ b → is_off_word s.word ≡ true → after ≡ false
        before false g o = g
        before true g o = let bad : Some s.row ≡ None = rw (g, o) at h in cc

-- the open run is the trailing off row
open-read : (after : Bool) (ss : List Activity) (c : SinceWeeklyRestFields) → second_off after ss ≡ None → (after ≡ false → c.open_off ≡ 0) → 1 ≤ length ss →
    (fold carry c (map stint_said ss)).open_off ≡ trailing_off ss
open-read after [] c h i l = absurd (omega arith)
open-read after (s ∷ []) c h i l = open-last after c s h i
open-read after (s ∷ t ∷ ss) c h i l =
    open-read (is_off_word s.word) (t ∷ ss) (carry c (stint_said s)) (later (after && is_off_word s.word) refl) (λ (e : is_off_word s.word ≡ false). open-carry c s e) (omega arith)
    ∙ sym (trailing-cons s t ss)
  where
    later : (b : Bool) → (after && is_off_word s.word) ≡ b → second_off (is_off_word s.word) (t ∷ ss) ≡ None
    later false e = rw e at h
    later true e = let bad : Some s.row ≡ None = rw e at h in cc

pub open-rows : (weekly : ℕ) (ss : List Activity) → second_off false ss ≡ None → (fold carry (no_line weekly) (map stint_said ss)).open_off ≡ trailing_off ss
open-rows weekly [] h = refl
open-rows weekly (s ∷ ss) h = open-read false (s ∷ ss) (no_line weekly) h (λ e. refl) (omega arith)

-- past rows that make a history
pub record Reads (rested : Rested) (ss : List Activity) : Type 0 where
  pub late : late_weekly ss ≡ None
  pub offs : second_off false ss ≡ None
  pub before : minutes_before ss ≤ 20160

no_late : (o : Option ℕ) (later : Option HistoryError) → option_or (option_map LateWeekly o) later ≡ None → (o ≡ None) × (later ≡ None)
no_late None later h = (refl, h)
no_late (Some row) later h = cc

no_offs : (o : Option ℕ) (later : Option HistoryError) → option_or (option_map TwoOffs o) later ≡ None → (o ≡ None) × (later ≡ None)
no_offs None later h = (refl, h)
no_offs (Some row) later h = cc

no_long : (rested : Rested) (ss : List Activity) → sum_fault rested ss ≡ None → minutes_before ss ≤ 20160
no_long rested ss h = grind (arith, nat_tests)

pub reads : (rested : Rested) (ss : List Activity) → past_fault rested ss ≡ None → Reads rested ss
reads rested ss h =
    let a = no_late (late_weekly ss) _ h in
    let b = no_offs (second_off false ss) _ a.1 in
    record { late = a.0; offs = b.0; before = no_long rested ss b.1 }

pub few_minutes : (rested : Rested) (ss : List Activity) → ArePast ss → past_fault rested ss ≡ None → minutes_said ss ≤ 2020160
few_minutes rested ss p h =
    let r = reads rested ss h in let b = r.before in omega (arith, trailing_small ss p.within, trailing_most ss)

-- what past rows leave is what a history may hold
pub kept-rows : (rested : Rested) (ss : List Activity) → IsRestInRange rested → ArePast ss → past_fault rested ss ≡ None →
    KeepsHistoryBounds (fold carry (no_line rested.minutes) (map stint_said ss))
kept-rows rested ss i p h =
    let r = reads rested ss h in
    let c : SinceWeeklyRestFields = fold carry (no_line rested.minutes) (map stint_said ss) in
    let u = uncut-fold (map stint_said ss) (no_line rested.minutes) false (λ e. e) (cuts-late ss r.late) in
    let prev = u.prev in let whole = u.whole in let before = r.before in let off = open-rows rested.minutes ss r.offs in
    record {
      rest = rw prev i.minutes.0;
      short = rw prev i.minutes.1;
      shape = past-fold (map stint_said ss) (no_line rested.minutes) (lasts-read ss p.lasts) refl;
      total = omega (arith, all_total (fold carry (no_line rested.minutes) (map stint_said ss)), total-stints ss, trailing_most ss);
    }
