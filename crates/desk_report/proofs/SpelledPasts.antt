-- The text of a history has no line feed, and says the history.
use Rattle.std.proofs.Common.{◌≡◌, ℕ, ◌<◌, ◌≤◌, true, nat_le, List, [], ◌∷◌, ◌++◌, length, suc, map, Option, Some, None, slice_get, refl, ap, sym, ◌∙◌, arith}
use Rattle.std.specs.Fmt.{decimal}
use Rattle.std.specs.List.{flat_map}
use Rattle.minute_line.specs.declared.lines.TheConstants.{WEEK_MINUTES}
use Rattle.minute_line.specs.declared.lines.History.{History}
use Rattle.minute_line.specs.declared.marks.Kind.{Kind}
use Rattle.minute_line.specs.declared.marks.Kind.TheVariants.{Plain, Daily, Weekly}
use Rattle.minute_line.specs.declared.marks.Mark.{Mark}
use Rattle.minute_line.specs.declared.marks.Mark.TheVariants.{Drive, Work, Ready, Off}
use Rattle.minute_line.specs.declared.marks.Stint.{Stint}
use Rattle.minute_line.specs.Histories.{Fields, fields_of}
use Rattle.minute_line.specs.Minutes.{total_of}
use Rattle.minute_line.specs.Spelling.{letter_of, stint_text, numbers_text, stints_text, spelling}
use Rattle.minute_line.specs.Stints.{all_up_to}
use Rattle.minute_line.specs.Tokens.{candidate_of, tokens_of}
use Rattle.minute_line.proofs.Held.{Holds, holds, is_history-fields_of, and_is, le_is}
use Rattle.minute_line.proofs.Runs.{read_again}
use Rattle.minute_line.proofs.Walks.{total_of-cons}
use Rattle.desk_report.specs.Reports.{text_or_none}
use Rattle.desk_report.proofs.TextLines.{AllOver, over-more, over-less, decimal-over}

digits-over : (n : ℕ) → n ≤ 1000000 → AllOver 31 (decimal n)
digits-over n l = over-less 31 32 (decimal n) (omega arith) (decimal-over n (omega (arith, l)))

more-numbers : (ns : List ℕ) → all_up_to WEEK_MINUTES ns ≡ true → AllOver 31 (flat_map (λ m. 44 ∷ decimal m) ns)
more-numbers [] h = tt
more-numbers (n ∷ ns) h =
    let two = and_is (nat_le n WEEK_MINUTES) (all_up_to WEEK_MINUTES ns) h in
    over-more 31 (44 ∷ decimal n) (flat_map (λ m. 44 ∷ decimal m) ns) (omega arith, digits-over n (omega (arith, le_is n WEEK_MINUTES two.0))) (more-numbers ns two.1)

numbers-over : (ns : List ℕ) → all_up_to WEEK_MINUTES ns ≡ true → AllOver 31 (numbers_text ns)
numbers-over [] h = tt
numbers-over (n ∷ ns) h =
    let two = and_is (nat_le n WEEK_MINUTES) (all_up_to WEEK_MINUTES ns) h in
    over-more 31 (decimal n) (flat_map (λ m. 44 ∷ decimal m) ns) (digits-over n (omega (arith, le_is n WEEK_MINUTES two.0))) (more-numbers ns two.1)

letter-over : (mark : Mark) (kind : Kind) → 31 < letter_of mark kind
letter-over Drive kind = omega arith
letter-over Work kind = omega arith
letter-over Ready kind = omega arith
letter-over Off Plain = omega arith
letter-over Off Daily = omega arith
letter-over Off Weekly = omega arith

stint-over : (s : Stint) → s.minutes ≤ 20160 → AllOver 31 (stint_text s)
stint-over s l = (letter-over s.mark s.kind, digits-over s.minutes (omega (arith, l)))

more-stints : (ss : List Stint) → total_of ss ≤ 20160 → AllOver 31 (flat_map (λ t. 44 ∷ stint_text t) ss)
more-stints [] h = tt
more-stints (s ∷ ss) h =
    let all = total_of-cons s ss in
    over-more 31 (44 ∷ stint_text s) (flat_map (λ t. 44 ∷ stint_text t) ss) (omega arith, stint-over s (omega (arith, all, h))) (more-stints ss (omega (arith, all, h)))

stints-over : (ss : List Stint) → total_of ss ≤ 20160 → AllOver 31 (stints_text ss)
stints-over [] h = (omega arith, tt)
stints-over (s ∷ ss) h =
    let all = total_of-cons s ss in
    over-more 31 (stint_text s) (flat_map (λ t. 44 ∷ stint_text t) ss) (stint-over s (omega (arith, all, h))) (more-stints ss (omega (arith, all, h)))

spaced : (a b : List ℕ) → AllOver 31 a → AllOver 31 b → AllOver 31 (a ++ 32 ∷ b)
spaced a b p q = over-more 31 a (32 ∷ b) p (omega arith, q)

fields-over : (f : Fields) → Holds f → AllOver 31 (spelling f)
fields-over f h =
    spaced _ _ (spaced (decimal f.prev_weekly) _ (digits-over f.prev_weekly h.rest.1)
    (spaced (decimal f.prev_drive) _ (digits-over f.prev_drive (omega (arith, h.drive)))
    (spaced (numbers_text f.work16) _ (numbers-over f.work16 h.weeks)
    (spaced (decimal f.open_off) (stints_text f.stints) (digits-over f.open_off (omega (arith, h.run))) (stints-over f.stints h.total)))))
    (spaced (decimal f.owed) (decimal f.due) (digits-over f.owed (omega (arith, h.debt))) (digits-over f.due (omega (arith, h.deadline))))

-- the text of a history that may be missing has no line feed
pub past-over : (past : Option History) → AllOver 31 (text_or_none past)
past-over None = tt
past-over (Some history) = fields-over (fields_of history) (holds (fields_of history) (is_history-fields_of history))

-- histories with one text have the same fields
one-history : (a b : History) → spelling (fields_of a) ≡ spelling (fields_of b) → fields_of a ≡ fields_of b
one-history a b e =
    sym (read_again (fields_of a) (is_history-fields_of a)) ∙ ap (λ (t : List ℕ). candidate_of (tokens_of t)) e ∙ read_again (fields_of b) (is_history-fields_of b)

-- histories whose texts are the same
pub one-past : (past before : List History) → length past ≡ length before
    → ((n : ℕ) → n < length past → text_or_none (slice_get past n) ≡ text_or_none (slice_get before n)) → map fields_of past ≡ map fields_of before
one-past [] [] l each = refl
one-past [] (b ∷ before) l each = absurd (omega (arith, l))
one-past (a ∷ past) [] l each = absurd (omega (arith, l))
one-past (a ∷ past) (b ∷ before) l each =
    ap (λ f. f ∷ map fields_of past) (one-history a b (each 0 (omega arith)))
    ∙ ap (λ fs. fields_of b ∷ fs) (one-past past before (omega (arith, l)) (λ n below. each (suc n) (omega (arith, below))))
