-- What the lines of a duty say: each line's word, name and minutes tell its entry, and no other.
use Rattle.std.proofs.Common.{◌≡◌, ℕ, ◌+◌, ◌<◌, ◌^◌, ◌==◌, List, [], ◌∷◌, ◌++◌, length, sum, if◌then◌else◌, refl, ap, sym, ◌∙◌, arith}
use Rattle.std.specs.Fmt.{decimal}
use Rattle.std.proofs.lemmas.Fmt.{decimal_injective}
use Rattle.minute_line.specs.declared.marks.Kind.{Kind}
use Rattle.minute_line.specs.declared.marks.Kind.TheVariants.{Plain, Daily, Weekly}
use Rattle.week_book.specs.declared.weeks.Week.{Week}
use Rattle.week_book.specs.Weeks.{IsWeek}
use Rattle.duty_plan.specs.declared.duties.Act.{Act}
use Rattle.duty_plan.specs.declared.duties.Act.TheVariants.{Leg, Serve, Load}
use Rattle.desk_report.specs.Steps.{kind_word, place_name, order_name}
use Rattle.desk_report.proofs.DutyEntries.{Entry, waits, rests, acts}
use Rattle.desk_report.proofs.SaidEntries.{same-place, same-order}

-- what a line says: the sum of its word's bytes, which no other word has, a name, and the digits of its minutes
pub record Said : Type 0 where
  pub word : ℕ
  pub name : List ℕ
  pub minutes : List ℕ

-- the sum of the bytes of an entry's word: ready, plain, daily, weekly, drive, serve, load
abbrev word_sum : Entry → ℕ
word_sum (waits n) = 533
word_sum (rests n kind) = sum (kind_word kind)
word_sum (acts (Leg to)) = 538
word_sum (acts (Serve order)) = 549
word_sum (acts Load) = 416

-- a line says the name and the minutes of an entry
abbrev SaysRest : Week → Said → Entry → Type 0
SaysRest week said (waits n) = (said.minutes ≡ decimal n) × (n < 2 ^ 64)
SaysRest week said (rests n kind) = (said.minutes ≡ decimal n) × (n < 2 ^ 64)
SaysRest week said (acts (Leg to)) = (said.name ≡ place_name week to) × (to < length week.places)
SaysRest week said (acts (Serve order)) = (said.name ≡ order_name week order) × (order < length week.orders)
SaysRest week said (acts Load) = Unit {0}

abbrev pub Tells : Week → Said → Entry → Type 0
Tells week said entry = (said.word ≡ word_sum entry) × SaysRest week said entry

-- a number for each sort of act, and of entry
abbrev act_sort : Act → ℕ
act_sort (Leg to) = 0
act_sort (Serve order) = 1
act_sort Load = 2

abbrev sort_of : Entry → ℕ
sort_of (waits n) = 0
sort_of (rests n kind) = 1
sort_of (acts act) = 2 + act_sort act

abbrev sort_by : ℕ → ℕ
sort_by word = if word == 533 then 0 else if word == 538 then 2 else if word == 549 then 3 else if word == 416 then 4 else 1

sort-said : (entry : Entry) → sort_by (word_sum entry) ≡ sort_of entry
sort-said (waits n) = refl
sort-said (rests n Plain) = refl
sort-said (rests n Daily) = refl
sort-said (rests n Weekly) = refl
sort-said (acts (Leg to)) = refl
sort-said (acts (Serve order)) = refl
sort-said (acts Load) = refl

one-kind : (kind other : Kind) → sum (kind_word kind) ≡ sum (kind_word other) → kind ≡ other
one-kind Plain Plain e = refl
one-kind Daily Daily e = refl
one-kind Weekly Weekly e = refl
one-kind _ _ e = absurd (omega (arith, e))

by-sort : (week : Week) (said : Said) (e f : Entry) → IsWeek week → sort_of e ≡ sort_of f → Tells week said e → Tells week said f → e ≡ f
by-sort week said (waits m) (waits n) w s p q = ap waits (decimal_injective m n p.1.1 q.1.1 (sym p.1.0 ∙ q.1.0))
by-sort week said (rests m kind) (rests n other) w s p q =
    ap (λ k. rests m k) (one-kind kind other (sym p.0 ∙ q.0)) ∙ ap (λ k. rests k other) (decimal_injective m n p.1.1 q.1.1 (sym p.1.0 ∙ q.1.0))
by-sort week said (acts (Leg to)) (acts (Leg other)) w s p q =
    ap (λ k. acts (Leg k)) (same-place week to other w p.1.1 q.1.1 (sym p.1.0 ∙ q.1.0))
by-sort week said (acts (Serve order)) (acts (Serve other)) w s p q =
    ap (λ k. acts (Serve k)) (same-order week order other w p.1.1 q.1.1 (sym p.1.0 ∙ q.1.0))
by-sort week said (acts Load) (acts Load) w s p q = refl
by-sort week said _ _ w s p q = absurd (omega (arith, s))

-- one line tells one entry
one-entry : (week : Week) (said : Said) (e f : Entry) → IsWeek week → Tells week said e → Tells week said f → e ≡ f
one-entry week said e f w p q = by-sort week said e f w (sym (sort-said e) ∙ ap sort_by (sym p.0 ∙ q.0) ∙ sort-said f) p q

-- lines tell entries, one each
abbrev pub TellAll : Week → List Said → List Entry → Type 0
TellAll week [] [] = Unit {0}
TellAll week [] (e ∷ es) = ⊥
TellAll week (said ∷ more) [] = ⊥
TellAll week (said ∷ more) (e ∷ es) = Tells week said e × TellAll week more es

pub tell-more : (week : Week) (lines more : List Said) (es fs : List Entry) → TellAll week lines es → TellAll week more fs → TellAll week (lines ++ more) (es ++ fs)
tell-more week [] more [] fs p q = q
tell-more week [] more (e ∷ es) fs p q = absurd p
tell-more week (said ∷ lines) more [] fs p q = absurd p
tell-more week (said ∷ lines) more (e ∷ es) fs p q = (p.0, tell-more week lines more es fs p.1 q)

-- the same lines tell the same entries
pub same-entries : (week : Week) (lines : List Said) (es fs : List Entry) → IsWeek week → TellAll week lines es → TellAll week lines fs → es ≡ fs
same-entries week [] [] [] w p q = refl
same-entries week [] [] (f ∷ fs) w p q = absurd q
same-entries week [] (e ∷ es) fs w p q = absurd p
same-entries week (said ∷ lines) [] fs w p q = absurd p
same-entries week (said ∷ lines) (e ∷ es) [] w p q = absurd q
same-entries week (said ∷ lines) (e ∷ es) (f ∷ fs) w p q =
    ap (λ d. d ∷ es) (one-entry week said e f w p.0 q.0) ∙ ap (λ ds. f ∷ ds) (same-entries week lines es fs w p.1 q.1)
