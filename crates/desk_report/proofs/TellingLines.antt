-- The lines of a duty begin with stamps, and tell its entries.
use Rattle.std.proofs.Common.{ℕ, ◌+◌, ◌<◌, ◌^◌, ◌==◌, List, [], ◌∷◌, ◌++◌, zero, suc, map, sum, get_or, if◌then◌else◌, codes, refl, arith, ℤ}
use Rattle.std.specs.Fmt.{decimal}
use Rattle.std.proofs.lemmas.List.{map-append}
use Rattle.minute_line.specs.declared.marks.Kind.{Kind}
use Rattle.minute_line.specs.declared.marks.Kind.TheVariants.{Plain, Daily, Weekly}
use Rattle.minute_line.specs.DateWriting.{AreDaysOf, stamp_text}
use Rattle.week_book.specs.declared.weeks.Week.{Week}
use Rattle.week_book.specs.Weeks.{IsWeek}
use Rattle.duty_plan.specs.declared.duties.Act.{Act}
use Rattle.duty_plan.specs.declared.duties.Act.TheVariants.{Leg, Serve, Load}
use Rattle.duty_plan.specs.Acts.{minutes_of}
use Rattle.duty_plan.specs.PartialDuties.{PartialDuty, at_after, place_after, KeepsOfficeThrough}
use Rattle.duty_plan.proofs.WeekLimits.{small-act}
use Rattle.desk_report.specs.Lines.{Line}
use Rattle.desk_report.specs.Steps.{kind_word, ready_lines, off_lines, act_words, duty_lines}
use Rattle.desk_report.proofs.DutyEntries.{wait_entries, rest_entries, entries, acts}
use Rattle.desk_report.proofs.GaplessWords.{name-over, place-over, order-over, IsStamp, stamp-over}
use Rattle.desk_report.proofs.OneEntry.{Said, Tells, TellAll, tell-more}
use Rattle.desk_report.proofs.SaidEntries.{IsKnown, AreTellable}
use Rattle.desk_report.proofs.TextLines.{AllOver, decimal-over, IsStamped, AreStamped, stamped-more}

-- what a line of a duty says: an off run by its kind
abbrev pub line_said : Line → Said
line_said line = record {
  word = if sum (get_or line 1 []) == 315 then sum (get_or line 3 []) else sum (get_or line 1 []);
  name = get_or line 2 [];
  minutes = get_or line 2 [];
}

ready-tells : (days : List (List ℕ)) (week : Week) (at n : ℕ) → n < 2 ^ 64 → TellAll week (map line_said (ready_lines days at n)) (wait_entries n)
ready-tells days week at zero l = tt
ready-tells days week at (suc n) l = ((refl, (refl, l)), tt)

off-tells : (days : List (List ℕ)) (week : Week) (at n : ℕ) (kind : Kind) → n < 2 ^ 64 → TellAll week (map line_said (off_lines days at n kind)) (rest_entries n kind)
off-tells days week at zero Plain l = tt
off-tells days week at zero Daily l = ((refl, (refl, l)), tt)
off-tells days week at zero Weekly l = ((refl, (refl, l)), tt)
off-tells days week at (suc n) kind l = ((refl, (refl, l)), tt)

act-tells : (week : Week) (stamp : List ℕ) (minutes : ℕ) (act : Act) → IsKnown week act → Tells week (line_said (stamp ∷ act_words week minutes act)) (acts act)
act-tells week stamp minutes (Leg to) k = (refl, (refl, k))
act-tells week stamp minutes (Serve order) k = (refl, (refl, k))
act-tells week stamp minutes Load k = (refl, tt)

-- the lines of a duty tell its entries
pub lines-tell : (days : List (List ℕ)) (week : Week) (partial : PartialDuty) → AreTellable week partial
    → TellAll week (map line_said (duty_lines days week partial)) (entries partial)
lines-tell days week [] t = tt
lines-tell days week (step ∷ before) t =
    let at = at_after week before in
    let ready = ready_lines days at step.stay.ready in
    let off = off_lines days (at + step.stay.ready) step.stay.off step.stay.kind in
    let stamp = stamp_text days (at + step.stay.ready + step.stay.off) in
    let minutes = minutes_of week (place_after before) step.act in
    let act : Line = stamp ∷ act_words week minutes step.act in
    rw (map-append line_said (duty_lines days week before) (ready ++ (off ++ act ∷ [])), map-append line_said ready (off ++ act ∷ []), map-append line_said off (act ∷ []))
    (tell-more week (map line_said (duty_lines days week before)) _ (entries before) _ (lines-tell days week before t.1)
    (tell-more week (map line_said ready) _ (wait_entries step.stay.ready) _ (ready-tells days week at step.stay.ready t.0.0)
    (tell-more week (map line_said off) _ (rest_entries step.stay.off step.stay.kind) _ (off-tells days week (at + step.stay.ready) step.stay.off step.stay.kind t.0.1)
    (act-tells week stamp minutes step.act t.0.2, tt))))

ready-stamped : (days : List (List ℕ)) (at n : ℕ) → IsStamp (stamp_text days at) → n < 2 ^ 64 → AreStamped (ready_lines days at n)
ready-stamped days at zero s l = tt
ready-stamped days at (suc n) s l = ((s.0, (s.1, (name-over (codes "ready") refl, (decimal-over (suc n) l, tt)))), tt)

kind-over : (kind : Kind) → AllOver 32 (kind_word kind)
kind-over Plain = name-over (codes "plain") refl
kind-over Daily = name-over (codes "daily") refl
kind-over Weekly = name-over (codes "weekly") refl

off-stamped : (days : List (List ℕ)) (at n : ℕ) (kind : Kind) → IsStamp (stamp_text days at) → n < 2 ^ 64 → AreStamped (off_lines days at n kind)
off-stamped days at n kind s l = by_kind n kind (s.0, (s.1, (name-over (codes "off") refl, (decimal-over n l, (kind-over kind, tt)))))
  where
    by_kind : (n : ℕ) (kind : Kind) → IsStamped (stamp_text days at ∷ codes "off" ∷ decimal n ∷ kind_word kind ∷ []) → AreStamped (off_lines days at n kind)
    by_kind zero Plain line = tt
    by_kind zero Daily line = (line, tt)
    by_kind zero Weekly line = (line, tt)
    by_kind (suc n) kind line = (line, tt)

act-stamped : (week : Week) (stamp : List ℕ) (minutes : ℕ) (act : Act) → IsWeek week → IsStamp stamp → minutes < 2 ^ 64 → IsStamped (stamp ∷ act_words week minutes act)
act-stamped week stamp minutes (Leg to) w s l = (s.0, (s.1, (name-over (codes "drive") refl, (place-over week to w, (decimal-over minutes l, tt)))))
act-stamped week stamp minutes (Serve order) w s l = (s.0, (s.1, (name-over (codes "serve") refl, (order-over week order w, (decimal-over minutes l, tt)))))
act-stamped week stamp minutes Load w s l = (s.0, (s.1, (name-over (codes "load") refl, (decimal-over minutes l, tt))))

-- each line of a duty begins with a stamp
pub duty-stamped : (day : ℤ) (days : List (List ℕ)) (week : Week) (open_off capacity : ℕ) (partial : PartialDuty) → AreDaysOf day days → IsWeek week
    → KeepsOfficeThrough week open_off capacity partial → AreTellable week partial → AreStamped (duty_lines days week partial)
duty-stamped day days week open_off capacity [] are w k t = tt
duty-stamped day days week open_off capacity (step ∷ before) are w k t =
    let at = at_after week before in
    let few = (small-act week (place_after before) step.act w k.0.road).few in
    stamped-more (duty_lines days week before) _ (duty-stamped day days week open_off capacity before are w k.1 t.1)
    (stamped-more (ready_lines days at step.stay.ready) _ (ready-stamped days at step.stay.ready (stamp-over day days at are) t.0.0)
    (stamped-more (off_lines days (at + step.stay.ready) step.stay.off step.stay.kind) _
    (off-stamped days (at + step.stay.ready) step.stay.off step.stay.kind (stamp-over day days (at + step.stay.ready) are) t.0.1)
    (act-stamped week _ (minutes_of week (place_after before) step.act) step.act w (stamp-over day days (at + step.stay.ready + step.stay.off) are) (omega (arith, few)), tt)))
