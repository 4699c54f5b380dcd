-- Which refusals come of a text, and which of what is kept.
use Rattle.std.proofs.Common.{◌≡◌, ℕ, ◌⊎◌, inl, inr, refl, sym, ◌∙◌, subst, List, [], ◌∷◌, ◌++◌, Option, Some, None, Result, Ok, Err}
use Rattle.minute_line.specs.declared.dates.Monday.{Monday}
use Rattle.minute_line.specs.Histories.{Fields}
use Rattle.week_book.specs.declared.rows.Row.{Row}
use Rattle.week_book.specs.declared.weeks.Driver.{Driver}
use Rattle.week_book.specs.Checking.{week_of}
use Rattle.week_book.specs.Driven.{did_of}
use Rattle.driver_history.specs.Reading.{past_said as history_in, line_said as line_driven}
use Rattle.desk_csv.specs.Reading.{rows_of}
use Rattle.desk_csv.specs.declared.errors.Form.{Form}
use Rattle.desk_csv.specs.declared.errors.Form.TheVariants as form
use Rattle.desk_core.specs.declared.refusals.Refusal.{Refusal}
use Rattle.desk_core.specs.declared.refusals.Refusal.TheVariants.{Long, Csv, Week as Weekly, Past, Line, Published, NoDraft, Stale, Moved, Kept, Later, NoHistory, DraftsFull}
use Rattle.desk_core.specs.Answering.{IsKeptRefusal}
use Rattle.desk_core.specs.Causes.{IsWeekRefusal, IsHistoryRefusal, IsIssueRefusal}
use Rattle.desk_core.specs.Checking.{check_said, driver_said, drivers_said, line_or_refusal}
use Rattle.desk_core.specs.Drafting.{WeekText, pasts_read, text_said}
use Rattle.desk_core.specs.Planning.{past_or_refusal}
use Rattle.desk_core.specs.Refusing.{◌>>=◌, refuse, rows_said}
use Rattle.desk.specs.Saying.{status_of}

-- a refusal's status is 3 or 4
pub either : (r : Refusal) → (status_of r ≡ 3) ⊎ (status_of r ≡ 4)
either Long = inl refl
either (Csv e) = inl refl
either (Weekly e) = inl refl
either (Past name e) = inl refl
either (Line name e) = inl refl
either (Published monday receipt) = inr refl
either (NoDraft monday) = inr refl
either (Stale named now) = inr refl
either (Moved name) = inr refl
either (Kept name) = inr refl
either (Later name monday) = inr refl
either (NoHistory name) = inr refl
either (DraftsFull monday) = inr refl

-- what comes first is refused, or what comes next
then_err : {A B : Type 0} (r : Result A Refusal) (next : A → Result B Refusal) (refusal : Refusal) → (r >>= next) ≡ Err refusal
    → (r ≡ Err refusal) ⊎ ((x : A) × (r ≡ Ok x) × (next x ≡ Err refusal))
then_err (Ok x) next refusal h = inr (x, refl, h)
then_err (Err e) next refusal h = let same : e ≡ refusal = cc in inl (rw same refl)

-- an error that is a refusal of the text
refuse-three : {A E : Type 0} (because : E → Refusal) → ((e : E) → status_of (because e) ≡ 3) → (r : Result A E) (refusal : Refusal)
    → refuse because r ≡ Err refusal → status_of refusal ≡ 3
refuse-three because three (Ok x) refusal h = cc h
refuse-three because three (Err e) refusal h = let same : because e ≡ refusal = cc in subst (λ r. status_of r ≡ 3) same (three e)

rows-three : (f : Form) (text : List ℕ) (refusal : Refusal) → rows_said f text ≡ Err refusal → status_of refusal ≡ 3
rows-three f text refusal h = refuse-three Csv (λ e. refl) (rows_of f text) refusal h

past-three : (rows : List Row) (name : List ℕ) (refusal : Refusal) → past_or_refusal rows name ≡ Err refusal → status_of refusal ≡ 3
past-three rows name refusal h = refuse-three (Past name) (λ e. refl) (history_in name rows) refusal h

pasts-three : (rows : List Row) (before : List (Option Fields)) (drivers : List Driver) (refusal : Refusal)
    → pasts_read rows before drivers ≡ Err refusal → status_of refusal ≡ 3
pasts-three rows before [] refusal h = cc h
pasts-three rows before (driver ∷ drivers) refusal h = elim (then_err (past_or_refusal rows driver.name) _ refusal h) [
  | inl first ↦ past-three rows driver.name refusal first
  | inr next ↦ pasts-three rows (before ++ next.0 ∷ []) drivers refusal next.2
]

-- a week text is refused for what it says
pub text-three : (text : List ℕ) (refusal : Refusal) → text_said text ≡ Err refusal → status_of refusal ≡ 3
text-three text refusal h = elim (then_err (rows_said form.Plan text) _ refusal h) [
  | inl first ↦ rows-three form.Plan text refusal first
  | inr rows ↦ elim (then_err (refuse Weekly (week_of rows.0)) _ refusal rows.2) [
    | inl second ↦ refuse-three Weekly (λ e. refl) (week_of rows.0) refusal second
    | inr week ↦ elim (then_err (pasts_read rows.0 [] week.0.drivers) _ refusal week.2) [
      | inl third ↦ pasts-three rows.0 [] week.0.drivers refusal third
      | inr past ↦ cc past.2
    ]
  ]
]

driver-three : (rows : List Row) (text name : List ℕ) (refusal : Refusal) → driver_said rows text name ≡ Err refusal → status_of refusal ≡ 3
driver-three rows text name refusal h = elim (then_err (past_or_refusal rows name) _ refusal h) [
  | inl first ↦ past-three rows name refusal first
  | inr past ↦ elim (then_err (line_or_refusal rows name) _ refusal past.2) [
    | inl second ↦ refuse-three (Line name) (λ e. refl) (line_driven name rows) refusal second
    | inr line ↦ cc line.2
  ]
]

drivers-three : (rows : List Row) (text : List ℕ) (names : List (List ℕ)) (refusal : Refusal) → drivers_said rows text names ≡ Err refusal
    → status_of refusal ≡ 3
drivers-three rows text [] refusal h = cc h
drivers-three rows text (name ∷ names) refusal h = elim (then_err (driver_said rows text name) _ refusal h) [
  | inl first ↦ driver-three rows text name refusal first
  | inr next ↦ drivers-three rows next.0 names refusal next.2
]

-- a check text is refused for what it says
pub check-three : (text : List ℕ) (refusal : Refusal) → check_said text ≡ Err refusal → status_of refusal ≡ 3
check-three text refusal h = elim (then_err (rows_said form.Check text) _ refusal h) [
  | inl first ↦ rows-three form.Check text refusal first
  | inr rows ↦ elim (then_err (refuse Weekly (did_of rows.0)) _ refusal rows.2) [
    | inl second ↦ refuse-three Weekly (λ e. refl) (did_of rows.0) refusal second
    | inr names ↦ drivers-three rows.0 [] names.0 refusal names.2
  ]
]

week-four : (monday : Monday) (refusal : Refusal) → IsWeekRefusal monday refusal → status_of refusal ≡ 4
week-four monday (Published of receipt) h = refl
week-four monday (DraftsFull of) h = refl
week-four monday _ h = absurd h

history-four : (monday : Monday) (name : List ℕ) (past : Option Fields) (refusal : Refusal) → IsHistoryRefusal monday name past refusal
    → status_of refusal ≡ 4
history-four monday name (Some past) (Kept of) h = refl
history-four monday name None (Later of kept) h = refl
history-four monday name None (NoHistory of) h = refl
history-four monday name past _ h = absurd h

-- an accepted text is refused for what is kept
pub kept-four : (read : WeekText) (refusal : Refusal) → IsKeptRefusal read refusal → status_of refusal ≡ 4
kept-four read refusal (inl week) = week-four read.week.monday refusal week
kept-four read refusal (inr driver) = history-four read.week.monday driver.driver.name driver.past refusal driver.refused

-- a publication is refused for what is kept
pub issue-four : (monday : Monday) (revision : ℕ) (refusal : Refusal) → IsIssueRefusal monday revision refusal → status_of refusal ≡ 4
issue-four monday revision (Published of receipt) h = refl
issue-four monday revision (NoDraft of) h = refl
issue-four monday revision (Stale named now) h = refl
issue-four monday revision (Moved name) h = refl
issue-four monday revision _ h = absurd h
