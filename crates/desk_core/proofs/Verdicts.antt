-- The lines of a check, one after the other.
use Rattle.std.proofs.Common.{◌≡◌, ◌∙◌, refl, sym, ap, ℕ, zero, suc, List, [], ◌∷◌, ◌++◌, length, slice_get, Some, Ok, append_assoc, codes}
use Rattle.std.specs.List.{concat}
use Rattle.std.proofs.lemmas.List.{append-nil}
use Rattle.minute_line.specs.Writing.{with_words, with_line}
use Rattle.hours_rules.specs.declared.rules.Verdict.{Verdict}
use Rattle.hours_rules.specs.declared.rules.Verdict.TheVariants.{Lawful, Broken as Breaks}
use Rattle.week_book.specs.declared.rows.Row.{Row}
use Rattle.desk_core.specs.Planning.{past_or_refusal}
use Rattle.desk_core.specs.Checking.{broken_words, line_or_refusal, verdict_line, driver_said, drivers_said}
use Rattle.desk_core.specs.Laws.{IsVerdictOn, AreVerdicts}
use Rattle.desk_core.proofs.Gathering.{then_ok}

words_after : (text more : List ℕ) (words : List (List ℕ)) → with_words (text ++ more) words ≡ text ++ with_words more words
words_after text more [] = refl
words_after text more (word ∷ words) = rw (append_assoc text more (32 ∷ word)) (words_after text (more ++ 32 ∷ word) words)

line_after : (text first : List ℕ) (words : List (List ℕ)) → with_line text first words ≡ text ++ with_line [] first words
line_after text first words = rw (words_after text first words) (append_assoc text (with_words first words) (10 ∷ []))

verdict_after : (text name : List ℕ) (verdict : Verdict) → verdict_line text name verdict ≡ text ++ verdict_line [] name verdict
verdict_after text name Lawful = line_after text name (codes "lawful" ∷ [])
verdict_after text name (Breaks broken) = line_after text name (broken_words broken)

-- the line of one driver, after a text
one_line : (rows : List Row) (text name longer : List ℕ) → driver_said rows text name ≡ Ok longer
    → (line : List ℕ) × (longer ≡ text ++ line) × IsVerdictOn rows name line
one_line rows text name longer h =
    let before = then_ok (past_or_refusal rows name) _ longer h in
    let driven = then_ok (line_or_refusal rows name) _ longer before.2 in
    let told = driven.2 in
    (verdict_line [] name _, sym (cc told) ∙ verdict_after text name _, record { past = before.0; before = before.1; stints = driven.0; driven = driven.1; told = refl })

-- the lines that come after a text
record Follow (rows : List Row) (names : List (List ℕ)) (text all : List ℕ) : Type 0 where
  pub lines : List (List ℕ)
  pub told : all ≡ text ++ concat lines
  pub each : length lines ≡ length names
  pub verdicts : (k : ℕ) (name line : List ℕ) → slice_get names k ≡ Some name → slice_get lines k ≡ Some line → IsVerdictOn rows name line

follow_step : (rows : List Row) (name : List ℕ) (names : List (List ℕ)) (text longer all line : List ℕ) → longer ≡ text ++ line → IsVerdictOn rows name line
    → Follow rows names longer all → Follow rows (name ∷ names) text all
follow_step rows name names text longer all line is verdict rest = record {
  lines = line ∷ rest.lines;
  told = rest.told ∙ rw is (append_assoc text line (concat rest.lines));
  each = ap suc rest.each;
  verdicts = verdicts;
}
  where
    verdicts : (k : ℕ) (other that : List ℕ) → slice_get (name ∷ names) k ≡ Some other → slice_get (line ∷ rest.lines) k ≡ Some that → IsVerdictOn rows other that
    verdicts zero other that h i = let same : name ≡ other = cc in let told : line ≡ that = cc in rw (← same, ← told) verdict
    verdicts (suc k) other that h i = rest.verdicts k other that h i

follow : (rows : List Row) (names : List (List ℕ)) (text all : List ℕ) → drivers_said rows text names ≡ Ok all → Follow rows names text all
follow rows [] text all h =
    let same : text ≡ all = cc in record { lines = []; told = sym same ∙ sym (append-nil text); each = refl; verdicts = λ k name line there that. cc }
follow rows (name ∷ names) text all h =
    let first = then_ok (driver_said rows text name) _ all h in
    let line = one_line rows text name first.0 first.1 in
    follow_step rows name names text first.0 all line.0 line.1 line.2 (follow rows names first.0 all first.2)

pub lines_are_verdicts : (rows : List Row) (names : List (List ℕ)) (text : List ℕ) → drivers_said rows [] names ≡ Ok text → AreVerdicts rows names text
lines_are_verdicts rows names text h =
    let f = follow rows names [] text h in record { lines = f.lines; told = f.told; each = f.each; verdicts = f.verdicts }
