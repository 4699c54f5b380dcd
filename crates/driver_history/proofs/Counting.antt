-- The minutes of some marks in a week, by its line.
use Rattle.std.proofs.Common.{◌≡◌, ℕ, ◌+◌, ◌-◌, Bool, false, cond, inl, inr, List, [], ◌∷◌, length, fold, arith, suc, zero, ◌∙◌, sum_by}
use Rattle.std.proofs.lemmas.Bool.{cases_Bool}
use Rattle.std.proofs.lemmas.List.Sums.{sum_by-cons}
use Rattle.minute_line.specs.declared.marks.Mark.{Mark}
use Rattle.minute_line.specs.declared.marks.Mark.TheVariants.{Drive, Work, Ready, Off}
use Rattle.minute_line.specs.declared.marks.Kind.{Kind}
use Rattle.minute_line.specs.declared.marks.Kind.TheVariants.{Plain}
use Rattle.minute_line.specs.declared.marks.Stint.{Stint}
use Rattle.minute_line.specs.declared.lines.Line.{Line}
use Rattle.minute_line.specs.Minutes.{Minutes, Reached, stretch, add_block, add_stint, nothing, reached_by}
use Rattle.hours_rules.specs.Counts.{count}
use Rattle.hours_rules.specs.Verdicts.{week_minutes}

count-stretch : (test : Mark → Bool) (n : ℕ) (mark : Mark) (kind : Kind) (w : Minutes) →
    count test (stretch n mark kind w) ≡ count test w + cond (test mark) n 0
count-stretch test zero mark kind w = elim (cases_Bool (test mark)) [ inl t ↦ rw t (omega arith) | inr f ↦ rw f (omega arith) ]
count-stretch test (suc n) mark kind w =
    let more = count-stretch test n mark kind w in
    elim (cases_Bool (test mark)) [ inl t ↦ let m = rw t at more in rw t (omega arith) | inr f ↦ let m = rw f at more in rw f (omega arith) ]

count-block : (test : Mark → Bool) (m : Mark) (n : ℕ) (kind : Kind) (r : Reached) →
    count test (add_block m n kind r).minutes ≡ count test r.minutes + cond (test m) n 0
count-block test Off n kind r = count-stretch test n Off Plain r.minutes
count-block test Drive n kind r = count-stretch test n Drive r.declared r.minutes
count-block test Work n kind r = count-stretch test n Work r.declared r.minutes
count-block test Ready n kind r = count-stretch test n Ready r.declared r.minutes

count-fold : (test : Mark → Bool) (ss : List Stint) (r : Reached) →
    count test (fold add_stint r ss).minutes ≡ count test r.minutes + sum_by (λ (s : Stint). cond (test s.mark) s.minutes 0) ss
count-fold test [] r = omega arith
count-fold test (s ∷ ss) r =
    omega (arith, count-fold test ss (add_stint r s), count-block test s.mark s.minutes s.kind r, sum_by-cons (λ (x : Stint). cond (test x.mark) x.minutes 0) s ss)

pub count-week : (test : Mark → Bool) (line : Line) → test Off ≡ false →
    count test (week_minutes line) ≡ sum_by (λ (s : Stint). cond (test s.mark) s.minutes 0) line.stints
count-week test line f =
    let tail = count-stretch test (10080 - length (reached_by line.stints).minutes) Off Plain (reached_by line.stints).minutes in
    let none = rw f at tail in
    none ∙ (let all = count-fold test line.stints nothing in omega arith)
