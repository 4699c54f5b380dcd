-- What a command came to is an answer to it.
use Rattle.std.proofs.Common.{ℕ, List, Result, Ok, Err, IfOk}
use Rattle.minute_line.specs.declared.dates.Monday.{Monday}
use Rattle.duty_plan.specs.declared.outcomes.Limits.{Limits}
use Rattle.desk_core.specs.declared.commands.Command.TheVariants as ask
use Rattle.desk_core.specs.declared.refusals.Stop.{Stop}
use Rattle.desk_core.specs.declared.refusals.Stop.TheVariants.{Refused, Fault, Memory}
use Rattle.desk_core.specs.Refusing.{Meets}
use Rattle.desk_core.specs.Causes.{HasCause, RefusedFor, IsIssueRefusal, IsNoDraft}
use Rattle.desk_core.specs.Checking.{check_said}
use Rattle.desk_core.specs.Issuing.{IsPublication}
use Rattle.desk_core.specs.Answering.{IsPlannedWeek, IsPlanRefusal, IsAnswer}
use Rattle.desk_core.specs.Machine.{reply_said}
use Rattle.desk_core.proofs.Reasons.{issue_has_cause, draft_has_cause}

pub plan_answers : (text : List ℕ) (limits : Limits) (result : Result (List ℕ) Stop) → IfOk result (IsPlannedWeek limits text) → RefusedFor (IsPlanRefusal text) result
    → RefusedFor HasCause result → IsAnswer (ask.Plan text limits) (reply_said result)
plan_answers text limits (Ok told) planned refused cause = planned
plan_answers text limits (Err (Refused refusal)) planned refused cause = (refused, cause)
plan_answers text limits (Err Fault) planned refused cause = tt
plan_answers text limits (Err Memory) planned refused cause = tt

pub check_answers : (text : List ℕ) (result : Result (List ℕ) Stop) → Meets (λ (lines : List ℕ). lines) result (check_said text) → RefusedFor HasCause result
    → IsAnswer (ask.Check text) (reply_said result)
check_answers text (Ok told) said cause = said
check_answers text (Err (Refused refusal)) said cause = (said, cause)
check_answers text (Err Fault) said cause = said
check_answers text (Err Memory) said cause = tt

pub publish_answers : (monday : Monday) (revision : ℕ) (result : Result (List ℕ) Stop) → IfOk result (λ told. (receipt : ℕ) × IsPublication monday receipt told)
    → RefusedFor (IsIssueRefusal monday revision) result → IsAnswer (ask.Publish monday revision) (reply_said result)
publish_answers monday revision (Ok told) publication refused = publication
publish_answers monday revision (Err (Refused refusal)) publication refused = (refused, issue_has_cause monday revision refusal refused)
publish_answers monday revision (Err Fault) publication refused = tt
publish_answers monday revision (Err Memory) publication refused = tt

pub show_answers : (monday : Monday) (result : Result (List ℕ) Stop) → RefusedFor (IsNoDraft monday) result → IsAnswer (ask.Show monday) (reply_said result)
show_answers monday (Ok told) refused = tt
show_answers monday (Err (Refused refusal)) refused = (refused, draft_has_cause monday refusal refused)
show_answers monday (Err Fault) refused = tt
show_answers monday (Err Memory) refused = tt

pub export_answers : (monday : Monday) (result : Result (List ℕ) Stop) → RefusedFor (IsNoDraft monday) result → IsAnswer (ask.Export monday) (reply_said result)
export_answers monday (Ok told) refused = tt
export_answers monday (Err (Refused refusal)) refused = (refused, draft_has_cause monday refusal refused)
export_answers monday (Err Fault) refused = tt
export_answers monday (Err Memory) refused = tt
