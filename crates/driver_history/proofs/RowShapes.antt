-- The stints that rows say: their minutes, their marks, and the shape of their line.
use Rattle.std.proofs.Common.{◌≡◌, ℕ, Bool, true, false, cond, not, ◌&&◌, ◌||◌, leb, List, [], ◌∷◌, length, map, refl, arith, suc, ◌∙◌, Some, None, nat_eq, le-leb}
use Rattle.std.proofs.lemmas.Bool.Decides.{nat_tests}
use Rattle.std.proofs.lemmas.List.Sums.{sum_by-cons}
use Rattle.minute_line.specs.declared.marks.Stint.{Stint}
use Rattle.minute_line.specs.Marks.{is_off, is_weekly}
use Rattle.minute_line.specs.Minutes.{total_of}
use Rattle.minute_line.specs.Stints.{is_line, each_follows, has_own_kind}
use Rattle.week_book.specs.declared.rows.Word.{Word}
use Rattle.week_book.specs.declared.rows.Word.TheVariants.{Drive, Work, Ready, Off, Daily, Weekly}
use Rattle.week_book.specs.Pasts.{Activity, is_off_word, zero_first}
use Rattle.week_book.specs.Pasts.{each_lasts as each_has_minutes}
use Rattle.driver_history.specs.Reading.{stint_by, stint_said, is_weekly_word, late_weekly, second_off, minutes_said}
use Rattle.driver_history.proofs.Watching.{each_lasts}
use Rattle.driver_history.proofs.Pasts.{cuts_none}

-- what the stint of a word is
pub record StintSays (w : Word) (n : ℕ) : Type 0 where
  pub minutes : (stint_by w n).minutes ≡ n
  pub off : is_off (stint_by w n).mark ≡ is_off_word w
  pub weekly : (is_off (stint_by w n).mark && is_weekly (stint_by w n).kind) ≡ is_weekly_word w
  pub own_kind : has_own_kind (stint_by w n) ≡ true

pub stint-says : (w : Word) (n : ℕ) → StintSays w n
stint-says Drive n = record { minutes = refl; off = refl; weekly = refl; own_kind = refl }
stint-says Work n = record { minutes = refl; off = refl; weekly = refl; own_kind = refl }
stint-says Ready n = record { minutes = refl; off = refl; weekly = refl; own_kind = refl }
stint-says Off n = record { minutes = refl; off = refl; weekly = refl; own_kind = refl }
stint-says Daily n = record { minutes = refl; off = refl; weekly = refl; own_kind = refl }
stint-says Weekly n = record { minutes = refl; off = refl; weekly = refl; own_kind = refl }

pub total-stints : (ss : List Activity) → total_of (map stint_said ss) ≡ minutes_said ss
total-stints [] = refl
total-stints (s ∷ ss) =
    omega (
      arith,
      sum_by-cons (λ (x : Stint). x.minutes) (stint_said s) (map stint_said ss),
      sum_by-cons (λ (x : Activity). x.minutes) s ss,
      (stint-says s.word s.minutes).minutes,
      total-stints ss,
    )

pub lasts-read : (ss : List Activity) → each_has_minutes ss ≡ true → each_lasts (map stint_said ss) ≡ true
lasts-read [] h = refl
lasts-read (s ∷ ss) h =
    rw ((stint-says s.word s.minutes).off, (stint-says s.word s.minutes).minutes, lasts-read ss (grind arith)) (grind (arith, nat_tests))

-- where no weekly rest but the last row is there, none ends
pub cuts-late : (ss : List Activity) → late_weekly ss ≡ None → cuts_none false (map stint_said ss) ≡ true
cuts-late [] h = refl
cuts-late (s ∷ []) h = rw ((stint-says s.word s.minutes).off) (grind arith)
cuts-late (s ∷ t ∷ ss) h = by_word (cuts-late (t ∷ ss)) (is_weekly_word s.word) refl
  where
    by_word : (late_weekly (t ∷ ss) ≡ None → cuts_none false (map stint_said (t ∷ ss)) ≡ true) → (b : Bool) → is_weekly_word s.word ≡ b →
        cuts_none false (map stint_said (s ∷ t ∷ ss)) ≡ true
    by_word go false e =
        let more : late_weekly (t ∷ ss) ≡ None = rw e at h in
        let next : (is_off (stint_said s).mark && is_weekly (stint_said s).kind) ≡ false = (stint-says s.word s.minutes).weekly ∙ e in
        let rest : cuts_none false (map stint_said (t ∷ ss)) ≡ true = go more in
        rw next (grind arith)
    by_word go true e =
        let some : leb 1 (suc (length ss)) ≡ true = le-leb _ _ (omega arith) in
        let bad : Some s.row ≡ None = rw (e, some) at h in cc

-- the shape of a line of did rows
follows-read : (after : Bool) (ss : List Activity) → each_has_minutes ss ≡ true → second_off after ss ≡ None → each_follows after (map stint_said ss) ≡ true
follows-read after [] l h = refl
follows-read after (s ∷ ss) l h = by_offs (follows-read (is_off_word s.word) ss (grind arith)) (after && is_off_word s.word) refl
  where
    by_offs : (second_off (is_off_word s.word) ss ≡ None → each_follows (is_off_word s.word) (map stint_said ss) ≡ true) → (b : Bool) →
        (after && is_off_word s.word) ≡ b → each_follows after (map stint_said (s ∷ ss)) ≡ true
    by_offs go true e = let bad : Some s.row ≡ None = rw e at h in cc
    by_offs go false e =
        let more : second_off (is_off_word s.word) ss ≡ None = rw e at h in
        let rest : each_follows (is_off_word s.word) (map stint_said ss) ≡ true = go more in
        let some : leb 1 s.minutes ≡ true = grind (arith, nat_tests) in
        let it = stint-says s.word s.minutes in rw (it.own_kind, it.off, it.minutes, some, e, rest) refl

pub line-read : (ss : List Activity) → zero_first ss ≡ true → second_off false ss ≡ None → is_line (map stint_said ss) ≡ true
line-read [] z h = refl
line-read (s ∷ ss) z h =
    let rest : each_follows (is_off_word s.word) (map stint_said ss) ≡ true = follows-read (is_off_word s.word) ss (grind arith) h in
    let it = stint-says s.word s.minutes in
    rw (it.own_kind, it.off, it.minutes, rest) (first (is_off_word s.word) s.minutes (grind arith))
  where
    first : (off : Bool) (n : ℕ) → cond off true (leb 1 n) ≡ true → (((off && nat_eq n 0) || (leb 1 n && (true && not (false && off)))) && true) ≡ true
    first off n g = grind (arith, nat_tests)
