-- A refusal has its cause, over every keeper.
use Rattle.std.proofs.Common.{◌≡◌, ℕ, sym, subst, List, Option, Some, None, Result, Ok, Err, IsErr, IsErrAnd}
use Rattle.minute_line.specs.declared.dates.Monday.{Monday}
use Rattle.minute_line.specs.Histories.{Fields}
use Rattle.week_book.specs.declared.weeks.Driver.{Driver}
use Rattle.week_book.specs.declared.errors.WeekError.{WeekError}
use Rattle.driver_history.specs.declared.errors.HistoryError.{HistoryError}
use Rattle.driver_history.specs.declared.errors.LineError.{LineError}
use Rattle.desk_csv.specs.declared.errors.CsvError.{CsvError}
use Rattle.desk_core.specs.declared.refusals.Refusal.{Refusal}
use Rattle.desk_core.specs.declared.refusals.Refusal.TheVariants as because
use Rattle.desk_core.specs.declared.refusals.Stop.{Stop}
use Rattle.desk_core.specs.declared.refusals.Stop.TheVariants.{Refused, Fault, Memory}
use Rattle.desk_core.specs.Causes.{HasCause, StopsFor, RefusedFor, IsWeekRefusal, IsHistoryRefusal, IsDriverRefusal, IsIssueRefusal, IsNoDraft}

-- what a `?` hands on is refused for what stopped
pub refused_on : {A : Type 0} (why : Refusal → Type 0) (answer : Result A Stop) (stop : Stop) → IsErr answer × IsErrAnd answer (λ e. e ≡ stop) → StopsFor why stop → RefusedFor why answer
refused_on why (Ok value) stop h stops = tt
refused_on why (Err e) stop h stops = subst (StopsFor why) (sym h.1) stops

-- what is refused for one reason is refused for what it implies
pub stops_more : (why more : Refusal → Type 0) (stop : Stop) → ((refusal : Refusal) → why refusal → more refusal) → StopsFor why stop → StopsFor more stop
stops_more why more (Refused refusal) implies stops = implies refusal stops
stops_more why more Fault implies stops = tt
stops_more why more Memory implies stops = tt

pub refused_more : {A : Type 0} (why more : Refusal → Type 0) (answer : Result A Stop) → ((refusal : Refusal) → why refusal → more refusal) → RefusedFor why answer → RefusedFor more answer
refused_more why more (Ok value) implies refused = tt
refused_more why more (Err stop) implies refused = stops_more why more stop implies refused

-- a reason that comes with no error inside is no want of memory
has_cause : (why : Refusal → Type 0) → ((error : CsvError) → why (because.Csv error) → ⊥) → ((error : WeekError) → why (because.Week error) → ⊥)
    → ((name : List ℕ) (error : HistoryError) → why (because.Past name error) → ⊥) → ((name : List ℕ) (error : LineError) → why (because.Line name error) → ⊥)
    → (refusal : Refusal) → why refusal → HasCause refusal
has_cause why no_csv no_week no_past no_line because.Long h = tt
has_cause why no_csv no_week no_past no_line (because.Csv error) h = absurd (no_csv error h)
has_cause why no_csv no_week no_past no_line (because.Week error) h = absurd (no_week error h)
has_cause why no_csv no_week no_past no_line (because.Past name error) h = absurd (no_past name error h)
has_cause why no_csv no_week no_past no_line (because.Line name error) h = absurd (no_line name error h)
has_cause why no_csv no_week no_past no_line (because.Published of receipt) h = tt
has_cause why no_csv no_week no_past no_line (because.NoDraft of) h = tt
has_cause why no_csv no_week no_past no_line (because.Stale named now) h = tt
has_cause why no_csv no_week no_past no_line (because.Moved name) h = tt
has_cause why no_csv no_week no_past no_line (because.Kept name) h = tt
has_cause why no_csv no_week no_past no_line (because.Later name kept) h = tt
has_cause why no_csv no_week no_past no_line (because.NoHistory name) h = tt
has_cause why no_csv no_week no_past no_line (because.DraftsFull of) h = tt

pub week_has_cause : (monday : Monday) (refusal : Refusal) → IsWeekRefusal monday refusal → HasCause refusal
week_has_cause monday = has_cause (IsWeekRefusal monday) (λ error h. h) (λ error h. h) (λ name error h. h) (λ name error h. h)

history_has_cause : (monday : Monday) (name : List ℕ) (past : Option Fields) (refusal : Refusal) → IsHistoryRefusal monday name past refusal → HasCause refusal
history_has_cause monday name (Some past) = has_cause (IsHistoryRefusal monday name (Some past)) (λ error h. h) (λ error h. h) (λ name error h. h) (λ name error h. h)
history_has_cause monday name None = has_cause (IsHistoryRefusal monday name None) (λ error h. h) (λ error h. h) (λ name error h. h) (λ name error h. h)

pub driver_has_cause : (monday : Monday) (drivers : List Driver) (pasts : List (Option Fields)) (refusal : Refusal) → IsDriverRefusal monday drivers pasts refusal → HasCause refusal
driver_has_cause monday drivers pasts refusal h = history_has_cause monday h.driver.name h.past refusal h.refused

pub issue_has_cause : (monday : Monday) (revision : ℕ) (refusal : Refusal) → IsIssueRefusal monday revision refusal → HasCause refusal
issue_has_cause monday revision = has_cause (IsIssueRefusal monday revision) (λ error h. h) (λ error h. h) (λ name error h. h) (λ name error h. h)

pub draft_has_cause : (monday : Monday) (refusal : Refusal) → IsNoDraft monday refusal → HasCause refusal
draft_has_cause monday = has_cause (IsNoDraft monday) (λ error h. cc) (λ error h. cc) (λ name error h. cc) (λ name error h. cc)
