-- Which off runs end a driving period.
use Rattle.std.proofs.Common.{◌≡◌, ℕ, ◌≤◌, ◌<◌, Bool, true, false, leb, [], ◌∷◌, ◌++◌, refl, ap, ◌∙◌, arith, zero, suc, le-leb}
use Rattle.std.proofs.lemmas.Bool.{lt-leb}
use Rattle.minute_line.specs.declared.marks.Mark.TheVariants.{Off}
use Rattle.minute_line.specs.declared.marks.Kind.{Kind}
use Rattle.minute_line.specs.declared.marks.Kind.TheVariants.{Plain}
use Rattle.minute_line.specs.Marks.{is_duty}
use Rattle.minute_line.specs.Minutes.{Minute, Minutes, stretch}
use Rattle.hours_rules.specs.Counts.{open_run, has_run, period_of, ends_break}
use Rattle.hours_rules.specs.Laws.{FortyFiveEnds, FifteenThenThirtyEnds, ThirtyThenFifteenGoesOn, AllOnDuty}
use Rattle.hours_rules.proofs.Spans.{open_run-period_of}

pub forty_five : FortyFiveEnds
forty_five m before d h = let t : leb 45 (open_run before) ≡ true = le-leb 45 (open_run before) h in rw (d, t) refl

open_run-stretch : (n : ℕ) (kind : Kind) (before : Minutes) → open_run before ≡ 0 → open_run (stretch n Off kind before) ≡ n
open_run-stretch zero kind before e = e
open_run-stretch (suc n) kind before e = omega (arith, open_run-stretch n kind before e)

open_run-between : (between rest : Minutes) → AllOnDuty between → open_run (between ++ rest) ≡ 0
open_run-between [] rest d = absurd d
open_run-between (m ∷ []) rest d = rw d refl
open_run-between (m ∷ (x ∷ more)) rest d = rw d.0 refl

-- Off minutes go into the period that they follow
period_of-off : (n : ℕ) (kind : Kind) (line : Minutes) → period_of (stretch n Off kind line) ≡ stretch n Off kind (period_of line)
period_of-off zero kind line = refl
period_of-off (suc n) kind line = ap (λ (x : Minutes). record { mark = Off; kind = kind } ∷ x) (period_of-off n kind line)

has_run-off : (k n : ℕ) (kind : Kind) (line : Minutes) → has_run k (stretch n Off kind line) ≡ has_run k line
has_run-off k zero kind line = refl
has_run-off k (suc n) kind line = has_run-off k n kind line

-- no break ends a period at a minute after a run below 30, or below 45 where there is no first part
no_break : (m : Minute) (line : Minutes) (n : ℕ) → open_run line ≡ n → n < 45 → (30 ≤ n → has_run 15 (period_of line) ≡ false) →
    ends_break (period_of line) m line ≡ false
no_break m line n e small h = by_test (is_duty m.mark) (has_run 15 (period_of line)) (leb 30 n) (lt-leb 45 n small) refl
  where
    by_test : (d part some : Bool) → leb 45 n ≡ false → leb 30 n ≡ some → ends_break (period_of line) m line ≡ false
    by_test d part some f g = grind (arith, h)

goes_on : (between line : Minutes) (n : ℕ) → AllOnDuty between → open_run line ≡ n → n < 45 →
    (30 ≤ n → has_run 15 (period_of line) ≡ false) → period_of (between ++ line) ≡ between ++ period_of line
goes_on [] line n d e small h = absurd d
goes_on (m ∷ []) line n d e small h = let t = no_break m line n e small h in rw t refl
goes_on (m ∷ (x ∷ more)) line n d e small h =
    let t = no_break m ((x ∷ more) ++ line) 0 (open_run-between (x ∷ more) line d.1) (omega arith) (λ g. absurd (omega arith)) in
    rw (t, goes_on (x ∷ more) line n d.1 e small h) refl

-- a run of at least 15 that on-duty minutes follow is a part of the period
has_part : (between line : Minutes) (n : ℕ) → AllOnDuty between → open_run line ≡ n → 15 ≤ n → has_run 15 (between ++ line) ≡ true
has_part [] line n d e h = absurd d
has_part (m ∷ []) line n d e h = let t : leb 15 n ≡ true = le-leb 15 n h in rw (d, e, t) refl
has_part (m ∷ (x ∷ more)) line n d e h =
    rw (d.0, open_run-between (x ∷ more) line d.1, has_part (x ∷ more) line n d.1 e h) refl

pub fifteen_thirty : FifteenThenThirtyEnds
fifteen_thirty before between first second m e low high none d long duty =
    let line = stretch first Off Plain before in
    let runs : open_run line ≡ first = open_run-stretch first Plain before e in
    let one : period_of (between ++ line) ≡ between ++ period_of line = goes_on between line first d runs high
    (λ g. rw (period_of-off first Plain before, has_run-off 15 first Plain (period_of before)) (none g)) in
    let part : has_run 15 (period_of (between ++ line)) ≡ true =
    rw one (has_part between (period_of line) first d (open_run-period_of line ∙ runs) low) in
    let all = stretch second Off Plain (between ++ line) in
    let last : open_run all ≡ second = open_run-stretch second Plain (between ++ line) (open_run-between between line d) in
    let still : has_run 15 (period_of all) ≡ true = rw (period_of-off second Plain (between ++ line), has_run-off 15 second Plain (period_of (between ++ line))) part in
    let t : leb 30 second ≡ true = le-leb 30 second long in
    let ends : ends_break (period_of all) m all ≡ true = grind (arith, last, still, t, duty) in rw ends refl

pub thirty_fifteen : ThirtyThenFifteenGoesOn
thirty_fifteen before between first second m e none low high d some short =
    let line = stretch first Off Plain before in
    let runs : open_run line ≡ first = open_run-stretch first Plain before e in
    let no_part : has_run 15 (period_of line) ≡ false = rw (period_of-off first Plain before, has_run-off 15 first Plain (period_of before)) none in
    let one : period_of (between ++ line) ≡ between ++ period_of line = goes_on between line first d runs high (λ g. no_part) in
    let all = stretch second Off Plain (between ++ line) in
    let last : open_run all ≡ second = open_run-stretch second Plain (between ++ line) (open_run-between between line d) in
    let t = no_break m all second last (omega arith) (λ g. absurd (omega arith)) in
    rw (t, period_of-off second Plain (between ++ line), one, period_of-off first Plain before) refl
