-- The rows of a duty tell its entries.
use Rattle.std.proofs.Common.{ℕ, ◌+◌, ◌<◌, ◌^◌, List, [], ◌∷◌, ◌++◌, zero, suc, map, sum, get_or, refl}
use Rattle.std.proofs.lemmas.List.{map-append}
use Rattle.minute_line.specs.declared.marks.Kind.{Kind}
use Rattle.minute_line.specs.declared.marks.Kind.TheVariants.{Plain, Daily, Weekly}
use Rattle.week_book.specs.declared.weeks.Week.{Week}
use Rattle.duty_plan.specs.declared.duties.Act.{Act}
use Rattle.duty_plan.specs.declared.duties.Act.TheVariants.{Leg, Serve, Load}
use Rattle.duty_plan.specs.Acts.{minutes_of}
use Rattle.duty_plan.specs.PartialDuties.{PartialDuty, at_after, place_after}
use Rattle.desk_report.specs.Exports.{ready_rows, off_rows, act_row, duty_rows}
use Rattle.desk_report.specs.Rows.{Fields}
use Rattle.desk_report.proofs.DutyEntries.{wait_entries, rest_entries, entries, acts}
use Rattle.desk_report.proofs.OneEntry.{Said, Tells, TellAll, tell-more}
use Rattle.desk_report.proofs.SaidEntries.{IsKnown, AreTellable}

-- what a row of a duty says
abbrev pub row_said : Fields → Said
row_said row = record { word = sum (get_or row 3 []); name = get_or row 4 []; minutes = get_or row 5 [] }

ready-tells : (days : List (List ℕ)) (week : Week) (driver : List ℕ) (at n : ℕ) → n < 2 ^ 64 → TellAll week (map row_said (ready_rows days driver at n)) (wait_entries n)
ready-tells days week driver at zero l = tt
ready-tells days week driver at (suc n) l = ((refl, (refl, l)), tt)

off-tells : (days : List (List ℕ)) (week : Week) (driver : List ℕ) (at n : ℕ) (kind : Kind) → n < 2 ^ 64
    → TellAll week (map row_said (off_rows days driver at n kind)) (rest_entries n kind)
off-tells days week driver at zero Plain l = tt
off-tells days week driver at zero Daily l = ((refl, (refl, l)), tt)
off-tells days week driver at zero Weekly l = ((refl, (refl, l)), tt)
off-tells days week driver at (suc n) kind l = ((refl, (refl, l)), tt)

act-tells : (days : List (List ℕ)) (week : Week) (driver : List ℕ) (at minutes : ℕ) (act : Act) → IsKnown week act
    → Tells week (row_said (act_row days week driver at minutes act)) (acts act)
act-tells days week driver at minutes (Leg to) k = (refl, (refl, k))
act-tells days week driver at minutes (Serve order) k = (refl, (refl, k))
act-tells days week driver at minutes Load k = (refl, tt)

-- the rows of a duty tell its entries
pub rows-tell : (days : List (List ℕ)) (week : Week) (driver : List ℕ) (partial : PartialDuty) → AreTellable week partial
    → TellAll week (map row_said (duty_rows days week driver partial)) (entries partial)
rows-tell days week driver [] t = tt
rows-tell days week driver (step ∷ before) t =
    let at = at_after week before in
    let ready = ready_rows days driver at step.stay.ready in
    let off = off_rows days driver (at + step.stay.ready) step.stay.off step.stay.kind in
    let act = act_row days week driver (at + step.stay.ready + step.stay.off) (minutes_of week (place_after before) step.act) step.act in
    rw (map-append row_said (duty_rows days week driver before) (ready ++ (off ++ act ∷ [])), map-append row_said ready (off ++ act ∷ []), map-append row_said off (act ∷ []))
    (tell-more week (map row_said (duty_rows days week driver before)) _ (entries before) _ (rows-tell days week driver before t.1)
    (tell-more week (map row_said ready) _ (wait_entries step.stay.ready) _ (ready-tells days week driver at step.stay.ready t.0.0)
    (tell-more week (map row_said off) _ (rest_entries step.stay.off step.stay.kind) _ (off-tells days week driver (at + step.stay.ready) step.stay.off step.stay.kind t.0.1)
    (act-tells days week driver (at + step.stay.ready + step.stay.off) (minutes_of week (place_after before) step.act) step.act t.0.2, tt))))
