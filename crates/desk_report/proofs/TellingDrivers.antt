-- The lines of the drivers say the histories and the duties.
use Rattle.std.proofs.Common.{◌≡◌, ◌⊎◌, inl, inr, ℕ, ◌+◌, ◌<◌, ◌≤◌, ◌^◌, List, [], ◌∷◌, ◌++◌, length, zero, suc, map, drop, get_or, codes, Some, slice_get, refl, ap, sym, ◌∙◌, append_assoc, subst, arith, ℤ}
use Rattle.std.specs.Fmt.{decimal}
use Rattle.std.proofs.lemmas.List.{append_cancel_left}
use Rattle.minute_line.specs.declared.lines.History.{History}
use Rattle.minute_line.specs.DateWriting.{AreDaysOf}
use Rattle.week_book.specs.declared.weeks.Week.{Week}
use Rattle.week_book.specs.Weeks.{IsWeek}
use Rattle.duty_plan.specs.declared.duties.Duty.{Duty}
use Rattle.duty_plan.specs.declared.plans.Case.{Case}
use Rattle.duty_plan.specs.Duties.{IsCase, IsLawful, open_off_at, capacity_at, cost_after, partial_of}
use Rattle.duty_plan.proofs.Answering.{cost-small}
use Rattle.desk_report.specs.Lines.{Line, add_line, with_lines}
use Rattle.desk_report.specs.Reports.{driver_name, text_or_none, drivers_lines}
use Rattle.desk_report.specs.Steps.{duty_lines}
use Rattle.desk_report.proofs.DutyEntries.{entries, entries-say}
use Rattle.desk_report.proofs.GaplessWords.{name-over, driver-over}
use Rattle.desk_report.proofs.GrowingText.{then-lines}
use Rattle.desk_report.proofs.OneEntry.{TellAll, same-entries}
use Rattle.desk_report.proofs.OneReport.{lines-after}
use Rattle.desk_report.proofs.SaidEntries.{office-tellable}
use Rattle.desk_report.proofs.SpelledPasts.{past-over}
use Rattle.desk_report.proofs.TellingDuties.{same-duty}
use Rattle.desk_report.proofs.TellingLines.{line_said, lines-tell, duty-stamped}
use Rattle.desk_report.proofs.TextLines.{AllOver, over-less, words-less, decimal-over, one-line, lines-split, stamped-lines}
use Rattle.desk_report.proofs.WalkingSteps.{lawful-stays}

-- the lines of one text, and then more
pub lines-join : (lines more : List Line) → with_lines [] (lines ++ more) ≡ with_lines [] lines ++ with_lines [] more
lines-join lines more = then-lines [] lines more ∙ lines-after (with_lines [] lines) more

-- the lines of a driver before the others and what comes after them
driver-split : (cost past : Line) (lines more : List Line) (x : List ℕ)
    → with_lines [] ((cost ∷ past ∷ lines) ++ more) ++ x ≡ add_line [] cost ++ (add_line [] past ++ (with_lines [] lines ++ (with_lines [] more ++ x)))
driver-split cost past lines more x =
    lines-split cost (past ∷ (lines ++ more)) x
    ∙ ap (λ (t : List ℕ). add_line [] cost ++ t) (lines-split past (lines ++ more) x
    ∙ ap (λ (t : List ℕ). add_line [] past ++ t) (ap (λ (t : List ℕ). t ++ x) (lines-join lines more) ∙ append_assoc (with_lines [] lines) (with_lines [] more) x))

-- the lines of drivers begin with no stamp
drivers-head : (days : List (List ℕ)) (case : Case) (number : ℕ) (duties : List Duty) (x : List ℕ) → 100 ≤ get_or x 0 100
    → 100 ≤ get_or (with_lines [] (drivers_lines days case number duties) ++ x) 0 100
drivers-head days case number [] x l = l
drivers-head days case number (duty ∷ duties) x l =
    rw (driver-split (codes "driver" ∷ driver_name case.week number ∷ codes "cost" ∷ decimal (cost_after case number (partial_of duty)) ∷ [])
    (codes "past" ∷ driver_name case.week number ∷ text_or_none (slice_get case.past number) ∷ []) (duty_lines days case.week (partial_of duty))
    (drivers_lines days case (number + 1) duties) x) (omega arith)

-- duties of drivers, the first of which has that number, that are lawful for them
abbrev pub AreLawfulFrom : Case → ℕ → List Duty → Type 0
AreLawfulFrom case number [] = Unit {0}
AreLawfulFrom case number (duty ∷ duties) = IsLawful case number duty × AreLawfulFrom case (number + 1) duties

pub lawful-from : (case : Case) (number : ℕ) (duties : List Duty) → ((n : ℕ) (duty : Duty) → slice_get duties n ≡ Some duty → IsLawful case (number + n) duty)
    → AreLawfulFrom case number duties
lawful-from case number [] each = tt
lawful-from case number (duty ∷ duties) each =
    let here : number + 0 ≡ number = omega arith in (
      subst (λ k. IsLawful case k duty) here (each 0 duty refl),
      lawful-from case (number + 1) duties (λ n other there.
          let later : number + suc n ≡ number + 1 + n = omega arith in subst (λ k. IsLawful case k other) later (each (suc n) other there)),
    )

first-or-later : (number n : ℕ) → number ≤ n → (number ≡ n) ⊎ (number + 1 ≤ n)
first-or-later zero zero l = inl refl
first-or-later zero (suc n) l = inr (omega arith)
first-or-later (suc number) zero l = absurd (omega (arith, l))
first-or-later (suc number) (suc n) l = elim (first-or-later number n (omega (arith, l))) [
  | inl e ↦ inl (ap suc e)
  | inr h ↦ inr (omega (arith, h))
]

-- histories and duties of drivers from that number on, and what comes after their lines, are the same
pub record DriversSame (past before : List History) (number : ℕ) (one two : List Duty) (x y : List ℕ) : Type 0 where
  pub duties : one ≡ two
  pub pasts : (n : ℕ) → number ≤ n → n < number + length one → text_or_none (slice_get past n) ≡ text_or_none (slice_get before n)
  pub rest : x ≡ y

-- the first driver's and the later ones
abbrev of : Week → List History → Case
of week past = record { week = week; past = past }

-- a duty's lines say the duty, and what comes after them
duty-says : (day : ℤ) (days : List (List ℕ)) (week : Week) (past before : List History) (number : ℕ) (duty other : Duty) (x y : List ℕ) → AreDaysOf day days
    → IsWeek week → IsLawful (of week past) number duty → IsLawful (of week before) number other → 100 ≤ get_or x 0 100 → 100 ≤ get_or y 0 100
    → with_lines [] (duty_lines days week (partial_of duty)) ++ x ≡ with_lines [] (duty_lines days week (partial_of other)) ++ y → (duty ≡ other) × (x ≡ y)
duty-says day days week past before number duty other x y are w p q b c e =
    let one = partial_of duty in
    let two = partial_of other in
    let told = office-tellable week (open_off_at (of week past) number) (capacity_at (of week past) number) one w p.partial.office (lawful-stays (of week past) number duty w p) in
    let tells = office-tellable week (open_off_at (of week before) number) (capacity_at (of week before) number) two w q.partial.office (lawful-stays (of week before) number other w q) in
    let same = stamped-lines (duty_lines days week one) (duty_lines days week two) x y
    (duty-stamped day days week (open_off_at (of week past) number) (capacity_at (of week past) number) one are w p.partial.office told)
    (duty-stamped day days week (open_off_at (of week before) number) (capacity_at (of week before) number) two are w q.partial.office tells) b c e in
    let entry : TellAll week (map line_said (duty_lines days week two)) (entries one) =
    subst (λ (ls : List Line). TellAll week (map line_said ls) (entries one)) same.0 (lines-tell days week one told) in
    (same-duty duty other (entries-say one two (same-entries week (map line_said (duty_lines days week two)) (entries one) (entries two) w entry (lines-tell days week two tells))), same.1)

-- the line of a driver's cost says nothing that is needed, and the next one says the history
heads-say : (name past before : List ℕ) (cost other : ℕ) (x y : List ℕ) → AllOver 32 name → AllOver 31 past → AllOver 31 before → cost < 2 ^ 64 → other < 2 ^ 64
    → add_line [] (codes "driver" ∷ name ∷ codes "cost" ∷ decimal cost ∷ []) ++ (add_line [] (codes "past" ∷ name ∷ past ∷ []) ++ x)
    ≡ add_line [] (codes "driver" ∷ name ∷ codes "cost" ∷ decimal other ∷ []) ++ (add_line [] (codes "past" ∷ name ∷ before ∷ []) ++ y)
    → (past ≡ before) × (x ≡ y)
heads-say name past before cost other x y n p q k l e =
    let first = one-line (codes "driver") (codes "driver") (name ∷ codes "cost" ∷ decimal cost ∷ []) (name ∷ codes "cost" ∷ decimal other ∷ []) _ _
    (over-less 31 32 (codes "driver") (omega arith) (name-over (codes "driver") refl)) (over-less 31 32 (codes "driver") (omega arith) (name-over (codes "driver") refl))
    (words-less (name ∷ codes "cost" ∷ decimal cost ∷ []) (n, (name-over (codes "cost") refl, (decimal-over cost k, tt))))
    (words-less (name ∷ codes "cost" ∷ decimal other ∷ []) (n, (name-over (codes "cost") refl, (decimal-over other l, tt)))) e in
    let second = one-line (codes "past") (codes "past") (name ∷ past ∷ []) (name ∷ before ∷ []) x y
    (over-less 31 32 (codes "past") (omega arith) (name-over (codes "past") refl)) (over-less 31 32 (codes "past") (omega arith) (name-over (codes "past") refl))
    (over-less 31 32 name (omega arith) n, (p, tt)) (over-less 31 32 name (omega arith) n, (q, tt)) first.1 in
    let text : 32 ∷ past ≡ 32 ∷ before = append_cancel_left (codes "past" ++ 32 ∷ name) (32 ∷ past) (32 ∷ before) second.0 in
    (ap (drop 1) text, second.1)

pub drivers-say : (day : ℤ) (days : List (List ℕ)) (week : Week) (past before : List History) (number : ℕ) (one two : List Duty) (x y : List ℕ) → AreDaysOf day days
    → IsCase (of week past) → IsCase (of week before) → number + length one ≡ length week.drivers → number + length two ≡ length week.drivers
    → AreLawfulFrom (of week past) number one → AreLawfulFrom (of week before) number two → 100 ≤ get_or x 0 100 → 100 ≤ get_or y 0 100
    → with_lines [] (drivers_lines days (of week past) number one) ++ x ≡ with_lines [] (drivers_lines days (of week before) number two) ++ y
    → DriversSame past before number one two x y
drivers-say day days week past before number [] [] x y are v u k l p q b c e =
    record { duties = refl; pasts = λ n low high. absurd (omega (arith, low, high)); rest = e }
drivers-say day days week past before number [] (other ∷ two) x y are v u k l p q b c e = absurd (omega (arith, k, l))
drivers-say day days week past before number (duty ∷ one) [] x y are v u k l p q b c e = absurd (omega (arith, k, l))
drivers-say day days week past before number (duty ∷ one) (other ∷ two) x y are v u k l p q b c e =
    let name = driver_name week number in
    let cost = cost_after (of week past) number (partial_of duty) in
    let costs = cost_after (of week before) number (partial_of other) in
    let text = text_or_none (slice_get past number) in
    let texts = text_or_none (slice_get before number) in
    let heads = heads-say name text texts cost costs
    (with_lines [] (duty_lines days week (partial_of duty)) ++ (with_lines [] (drivers_lines days (of week past) (number + 1) one) ++ x))
    (with_lines [] (duty_lines days week (partial_of other)) ++ (with_lines [] (drivers_lines days (of week before) (number + 1) two) ++ y))
    (driver-over week number v.week) (past-over (slice_get past number)) (past-over (slice_get before number))
    (omega (arith, cost-small (of week past) number duty v p.0)) (omega (arith, cost-small (of week before) number other u q.0))
    (sym (driver-split (codes "driver" ∷ name ∷ codes "cost" ∷ decimal cost ∷ []) (codes "past" ∷ name ∷ text ∷ []) (duty_lines days week (partial_of duty)) (drivers_lines days (of week past) (number + 1) one) x)
    ∙ e ∙ driver-split (codes "driver" ∷ name ∷ codes "cost" ∷ decimal costs ∷ []) (codes "past" ∷ name ∷ texts ∷ []) (duty_lines days week (partial_of other)) (drivers_lines days (of week before) (number + 1) two) y) in
    let here = duty-says day days week past before number duty other _ _ are v.week p.0 q.0
    (drivers-head days (of week past) (number + 1) one x b) (drivers-head days (of week before) (number + 1) two y c) heads.1 in
    let more = drivers-say day days week past before (number + 1) one two x y are v u (omega (arith, k)) (omega (arith, l)) p.1 q.1 b c here.1 in record {
      duties = ap (λ d. d ∷ one) here.0 ∙ ap (λ ds. other ∷ ds) more.duties;
      pasts = λ n low high. elim (first-or-later number n low) [
        | inl same ↦ subst (λ j. text_or_none (slice_get past j) ≡ text_or_none (slice_get before j)) same heads.0
        | inr later ↦ more.pasts n later (omega (arith, high))
      ];
      rest = more.rest;
    }
