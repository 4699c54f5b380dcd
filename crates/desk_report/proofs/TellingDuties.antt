-- The rows of the duties of all drivers say the duties.
use Rattle.std.proofs.Common.{◌≡◌, ◌≢◌, ℕ, ◌+◌, ◌<◌, List, [], ◌∷◌, ◌++◌, length, zero, suc, map, drop, get_or, reverse, Some, slice_get, refl, ap, sym, ◌∙◌, append_assoc, subst, arith}
use Rattle.std.proofs.lemmas.List.{reverse-reverse}
use Rattle.minute_line.specs.declared.marks.Kind.{Kind}
use Rattle.minute_line.specs.declared.marks.Kind.TheVariants.{Plain, Daily, Weekly}
use Rattle.week_book.specs.declared.weeks.Week.{Week}
use Rattle.week_book.specs.Weeks.{IsWeek}
use Rattle.duty_plan.specs.declared.duties.Act.{Act}
use Rattle.duty_plan.specs.declared.duties.Act.TheVariants.{Leg, Serve, Load}
use Rattle.duty_plan.specs.declared.duties.Step.{Step}
use Rattle.duty_plan.specs.declared.duties.Duty.{Duty}
use Rattle.duty_plan.specs.declared.plans.Case.{Case}
use Rattle.duty_plan.specs.Acts.{minutes_of}
use Rattle.duty_plan.specs.PartialDuties.{PartialDuty, at_after, place_after}
use Rattle.duty_plan.specs.Duties.{EachOf, IsLawful, open_off_at, capacity_at, partial_of}
use Rattle.desk_report.specs.Exports.{ready_rows, off_rows, act_row, step_rows, duty_rows, duties_rows}
use Rattle.desk_report.specs.Reports.{driver_name}
use Rattle.desk_report.specs.Rows.{Fields}
use Rattle.desk_report.proofs.DutyEntries.{entries, entries-say}
use Rattle.desk_report.proofs.OneEntry.{TellAll, same-entries}
use Rattle.desk_report.proofs.SaidEntries.{AreTellable, office-tellable, same-driver}
use Rattle.desk_report.proofs.TellingRows.{row_said, rows-tell}
use Rattle.desk_report.proofs.WalkingSteps.{lawful-stays}

-- the row of a driver's duty, or none of any duty
abbrev pub IsRowOf : List ℕ → Fields → Type 0
IsRowOf driver row = (get_or (get_or row 0 []) 0 0 ≡ 100) × (get_or row 1 [] ≡ driver)

abbrev pub AreRowsOf : List ℕ → List Fields → Type 0
AreRowsOf driver [] = Unit {0}
AreRowsOf driver (row ∷ rows) = IsRowOf driver row × AreRowsOf driver rows

more-rows : (driver : List ℕ) (rows more : List Fields) → AreRowsOf driver rows → AreRowsOf driver more → AreRowsOf driver (rows ++ more)
more-rows driver [] more p q = q
more-rows driver (row ∷ rows) more p q = (p.0, more-rows driver rows more p.1 q)

step-rows-of : (days : List (List ℕ)) (week : Week) (driver : List ℕ) (at place : ℕ) (step : Step) → AreRowsOf driver (step_rows days week driver at place step)
step-rows-of days week driver at place step =
    more-rows driver (ready_rows days driver at step.stay.ready) _ (ready step.stay.ready)
    (more-rows driver (off_rows days driver (at + step.stay.ready) step.stay.off step.stay.kind) _ (off step.stay.off step.stay.kind)
    (act step.act, tt))
  where
    ready : (n : ℕ) → AreRowsOf driver (ready_rows days driver at n)
    ready zero = tt
    ready (suc n) = ((refl, refl), tt)

    off : (n : ℕ) (kind : Kind) → AreRowsOf driver (off_rows days driver (at + step.stay.ready) n kind)
    off zero Plain = tt
    off zero Daily = ((refl, refl), tt)
    off zero Weekly = ((refl, refl), tt)
    off (suc n) kind = ((refl, refl), tt)

    act : (act : Act) → IsRowOf driver (act_row days week driver (at + step.stay.ready + step.stay.off) (minutes_of week place act) act)
    act (Leg to) = (refl, refl)
    act (Serve order) = (refl, refl)
    act Load = (refl, refl)

pub duty-rows-of : (days : List (List ℕ)) (week : Week) (driver : List ℕ) (partial : PartialDuty) → AreRowsOf driver (duty_rows days week driver partial)
duty-rows-of days week driver [] = tt
duty-rows-of days week driver (step ∷ before) =
    more-rows driver (duty_rows days week driver before) _ (duty-rows-of days week driver before)
    (step-rows-of days week driver (at_after week before) (place_after before) step)

-- rows that begin with none of a driver's
abbrev pub BeginsElse : List ℕ → List Fields → Type 0
BeginsElse driver [] = Unit {0}
BeginsElse driver (row ∷ rows) = IsRowOf driver row → ⊥

-- a driver's rows end where others begin
one-block : (driver : List ℕ) (rows others x y : List Fields) → AreRowsOf driver rows → AreRowsOf driver others → BeginsElse driver x → BeginsElse driver y
    → rows ++ x ≡ others ++ y → (rows ≡ others) × (x ≡ y)
one-block driver [] [] x y p q b c e = (refl, e)
one-block driver [] (row ∷ others) [] y p q b c e = cc e
one-block driver [] (row ∷ others) (first ∷ x) y p q b c e =
    let same : first ≡ row = ap (λ rows. get_or rows 0 first) e in absurd (b (subst (IsRowOf driver) (sym same) q.0))
one-block driver (row ∷ rows) [] x [] p q b c e = cc e
one-block driver (row ∷ rows) [] x (first ∷ y) p q b c e =
    let same : row ≡ first = ap (λ rows. get_or rows 0 first) e in absurd (c (subst (IsRowOf driver) same p.0))
one-block driver (row ∷ rows) (other ∷ others) x y p q b c e =
    let more = one-block driver rows others x y p.1 q.1 b c (ap (drop 1) e) in
    let same : row ≡ other = ap (λ rows. get_or rows 0 row) e in
    (ap (λ r. r ∷ rows) same ∙ ap (λ rs. other ∷ rs) more.0, more.1)

head-else : (driver other : List ℕ) (rows more : List Fields) → AreRowsOf other rows → other ≢ driver → BeginsElse driver more → BeginsElse driver (rows ++ more)
head-else driver other [] more p n b = b
head-else driver other (row ∷ rows) more p n b = λ is. n (sym p.0.1 ∙ is.1)

-- no later driver's rows are those of a driver
later-else : (days : List (List ℕ)) (week : Week) (driver number : ℕ) (duties : List Duty) (tail : List Fields) → IsWeek week → driver < number
    → number + length duties ≡ length week.drivers → BeginsElse (driver_name week driver) tail
    → BeginsElse (driver_name week driver) (duties_rows days week number duties ++ tail)
later-else days week driver number [] tail w below all b = b
later-else days week driver number (duty ∷ duties) tail w below all b =
    rw (append_assoc (duty_rows days week (driver_name week number) (partial_of duty)) (duties_rows days week (number + 1) duties) tail)
    (head-else (driver_name week driver) (driver_name week number) (duty_rows days week (driver_name week number) (partial_of duty)) _
    (duty-rows-of days week (driver_name week number) (partial_of duty))
    (λ same. omega (arith, below, same-driver week number driver w (omega (arith, all)) (omega (arith, all, below)) same))
    (later-else days week driver (number + 1) duties tail w (omega (arith, below)) (omega (arith, all)) b))

-- duties whose lines can be told apart
abbrev pub AllTellable : Week → List Duty → Type 0
AllTellable week [] = Unit {0}
AllTellable week (duty ∷ duties) = AreTellable week (partial_of duty) × AllTellable week duties

all-tellable : (week : Week) (duties : List Duty) → ((n : ℕ) (duty : Duty) → slice_get duties n ≡ Some duty → AreTellable week (partial_of duty)) → AllTellable week duties
all-tellable week [] each = tt
all-tellable week (duty ∷ duties) each = (each 0 duty refl, all-tellable week duties (λ n other there. each (suc n) other there))

pub lawful-tellable : (case : Case) (duties : List Duty) → IsWeek case.week → EachOf (IsLawful case) duties → AllTellable case.week duties
lawful-tellable case duties w lawful =
    all-tellable case.week duties (λ n duty there.
    office-tellable case.week (open_off_at case n) (capacity_at case n) (partial_of duty) w (lawful n duty there).partial.office (lawful-stays case n duty w (lawful n duty there)))

pub same-duty : (a b : Duty) → partial_of a ≡ partial_of b → a ≡ b
same-duty a b e =
    let steps : a.steps ≡ b.steps = sym (reverse-reverse a.steps) ∙ ap reverse e ∙ reverse-reverse b.steps in ap (λ (s : List Step). record { steps = s }) steps

-- the rows of duties say the duties, and what comes after them
pub duties-say : (days dates : List (List ℕ)) (week : Week) (number : ℕ) (duties others : List Duty) (x y : List Fields) → IsWeek week
    → number + length duties ≡ length week.drivers → number + length others ≡ length week.drivers → AllTellable week duties → AllTellable week others
    → ((driver : List ℕ) → BeginsElse driver x) → ((driver : List ℕ) → BeginsElse driver y)
    → duties_rows days week number duties ++ x ≡ duties_rows dates week number others ++ y → (duties ≡ others) × (x ≡ y)
duties-say days dates week number [] [] x y w p q t u b c e = (refl, e)
duties-say days dates week number [] (other ∷ others) x y w p q t u b c e = absurd (omega (arith, p, q))
duties-say days dates week number (duty ∷ duties) [] x y w p q t u b c e = absurd (omega (arith, p, q))
duties-say days dates week number (duty ∷ duties) (other ∷ others) x y w p q t u b c e =
    let name = driver_name week number in
    let rows = duty_rows days week name (partial_of duty) in
    let lines = duty_rows dates week name (partial_of other) in
    let block = one-block name rows lines (duties_rows days week (number + 1) duties ++ x) (duties_rows dates week (number + 1) others ++ y)
    (duty-rows-of days week name (partial_of duty)) (duty-rows-of dates week name (partial_of other))
    (later-else days week number (number + 1) duties x w (omega arith) (omega (arith, p)) (b name))
    (later-else dates week number (number + 1) others y w (omega arith) (omega (arith, q)) (c name))
    (sym (append_assoc rows (duties_rows days week (number + 1) duties) x) ∙ e ∙ append_assoc lines (duties_rows dates week (number + 1) others) y) in
    let more = duties-say days dates week (number + 1) duties others x y w (omega (arith, p)) (omega (arith, q)) t.1 u.1 b c block.1 in
    let told : TellAll week (map row_said lines) (entries (partial_of duty)) =
    subst (λ (rs : List Fields). TellAll week (map row_said rs) (entries (partial_of duty))) block.0 (rows-tell days week name (partial_of duty) t.0) in
    let same = same-duty duty other (entries-say (partial_of duty) (partial_of other)
    (same-entries week (map row_said lines) (entries (partial_of duty)) (entries (partial_of other)) w told (rows-tell dates week name (partial_of other) u.0))) in
    (ap (λ d. d ∷ duties) same ∙ ap (λ ds. other ∷ ds) more.0, more.1)
