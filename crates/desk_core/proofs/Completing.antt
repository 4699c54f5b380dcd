-- What nothing refuses is done.
use Rattle.std.proofs.Common.{◌≡◌, ◌∙◌, ℕ, suc, ◌+◌, ◌<◌, ◌==◌, ◌⊎◌, inl, inr, int_le, ap, sym, subst, refl, arith, true, false, List, [], ◌∷◌, ◌++◌, Option, Some, None, IsSome, Result, Ok, Err, IsOk}
use Rattle.std.specs.Prelude.{slice_get}
use Rattle.std.proofs.lemmas.Int.{ints}
use Rattle.std.proofs.lemmas.Bool.{cond-true, cond-false}
use Rattle.minute_line.specs.declared.dates.Monday.{Monday}
use Rattle.minute_line.specs.Histories.{Fields}
use Rattle.duty_plan.specs.declared.outcomes.Limits.{Limits}
use Rattle.week_book.specs.declared.weeks.Driver.{Driver}
use Rattle.driver_history.specs.Advancing.{idle_of}
use Rattle.desk_keeper.specs.declared.records.TheConstants.{DRAFT_LIMIT}
use Rattle.desk_keeper.specs.Tables.{Tables, KeptFields, DraftFields, IssueFields}
use Rattle.desk_keeper.specs.Entries.{history_in, draft_in, issue_in, revision_in}
use Rattle.desk_core.specs.declared.refusals.Refusal.{Refusal}
use Rattle.desk_core.specs.declared.commands.Command.{Command}
use Rattle.desk_core.specs.declared.commands.Command.TheVariants as ask
use Rattle.desk_core.specs.declared.commands.Reply.{Reply}
use Rattle.desk_core.specs.declared.commands.Reply.TheVariants as reply
use Rattle.desk_core.specs.Checking.{check_said}
use Rattle.desk_core.specs.Drafting.{weeks_between, planned_with, all_planned_with, revision_said, Planned, planned, MakesDraft}
use Rattle.desk_core.specs.Issuing.{issue_report, week_said, draft_said, PublishesDraft}
use Rattle.desk_core.specs.Completing.{HasOneHistory, MayBePlanned, MayBePublished, MayBeDone, IsNoRefusal}
use Rattle.desk_core.specs.Machine.{Steps, IsReply}
use Rattle.desk_core.proofs.PlannedWeeks.{planned-ok}
use Rattle.desk_core.proofs.Stopping.{then-on}

-- a driver with just one history is planned with it
one_planned : (monday : Monday) (name : List ℕ) (past : Option Fields) (kept : Option KeptFields) → HasOneHistory monday past kept
    → (with : Fields) × (planned_with monday.day name past kept ≡ Ok with)
one_planned monday name (Some past) None h = (past, refl)
one_planned monday name (Some past) (Some kept) h = absurd h
one_planned monday name None (Some kept) h =
    let before : int_le kept.monday monday.day ≡ true = grind (arith, ints) in
    (idle_of (weeks_between kept.monday monday.day) kept.past, cond-true (int_le kept.monday monday.day) _ _ before)
one_planned monday name None None h = absurd h

-- so are all drivers
all_planned : (monday : Monday) (t : Tables) (before : List Fields) (drivers : List Driver) (pasts : List (Option Fields))
    → ((k : ℕ) (driver : Driver) (past : Option Fields) → slice_get drivers k ≡ Some driver → slice_get pasts k ≡ Some past → HasOneHistory monday past (history_in t driver.name))
    → (all : List Fields) × (all_planned_with monday.day t before drivers pasts ≡ Ok all)
all_planned monday t before [] pasts each = (before, refl)
all_planned monday t before (driver ∷ drivers) [] each = (before, refl)
all_planned monday t before (driver ∷ drivers) (past ∷ pasts) each =
    let one = one_planned monday driver.name past (history_in t driver.name) (each 0 driver past refl refl) in
    let rest = all_planned monday t (before ++ one.0 ∷ []) drivers pasts (λ k other its there stands. each (suc k) other its there stands) in
    (rest.0, then-on (planned_with monday.day driver.name past (history_in t driver.name)) (λ with. all_planned_with monday.day t (before ++ with ∷ []) drivers pasts) one.0 one.1 ∙ rest.1)

-- the next draft may be made
next_said : (monday : Monday) (t : Tables) → issue_in t monday.day ≡ None → revision_in t monday.day < DRAFT_LIMIT → revision_said monday t ≡ Ok (revision_in t monday.day + 1)
next_said monday t none below =
    let fewer : (revision_in t monday.day == DRAFT_LIMIT) ≡ false = grind (arith) in
    rw (none, revision_said) (cond-false (revision_in t monday.day == DRAFT_LIMIT) _ _ fewer)

-- what is planned over such tables
may_plan : (text : List ℕ) (t : Tables) (refusal : Refusal) → MayBePlanned text t → planned text t ≡ Err refusal → ⊥
may_plan text t refusal may refused =
    let past = all_planned may.read.week.monday t [] may.read.week.drivers may.read.past may.histories in
    let is = planned-ok text t may.read (revision_in t may.read.week.monday.day + 1) past.0 may.accepted (next_said may.read.week.monday t may.unpublished may.drafts) past.1 in
    cc (is, refused)

plan_done : (limits : Limits) (text : List ℕ) (t : Tables) (refusal : Refusal) (said : Result Planned Refusal) → MayBePlanned text t → planned text t ≡ said → MakesDraft limits t said (Err refusal) → ⊥
plan_done limits text t refusal (Ok of) may is makes = makes
plan_done limits text t refusal (Err other) may is makes = may_plan text t other may is

publish_done : (monday : Monday) (revision : ℕ) (t : Tables) (refusal : Refusal) → MayBePublished monday revision t
    → PublishesDraft t (draft_said monday revision (issue_in t monday.day) (draft_in t monday.day)) (Err refusal) → ⊥
publish_done monday revision t refusal may publishes =
    let same : (may.draft.revision == revision) ≡ true = grind (arith, may.at) in
    let said : draft_said monday revision (issue_in t monday.day) (draft_in t monday.day) ≡ Ok may.draft =
    rw (may.unpublished, may.stands) (cond-true (may.draft.revision == revision) _ _ same) in
    let moved = subst (λ d. PublishesDraft t d (Err refusal)) said publishes in
    moved.2.moved (ap (history_in t) (sym moved.2.named) ∙ may.seen moved.2.number moved.2.driver moved.2.there)

week_done : (of_issue : IssueFields → List ℕ) (of_draft : DraftFields → List ℕ) (monday : Monday) (issue : Option IssueFields) (draft : Option DraftFields) (refusal : Refusal)
    → IsSome issue ⊎ IsSome draft → Err refusal ≡ week_said of_issue of_draft monday issue draft → ⊥
week_done of_issue of_draft monday (Some issue) draft refusal has said = cc said
week_done of_issue of_draft monday None (Some draft) refusal has said = cc said
week_done of_issue of_draft monday None None refusal (inl has) said = cc has
week_done of_issue of_draft monday None None refusal (inr has) said = cc has

accepted_done : (said : Result (List ℕ) Refusal) (refusal : Refusal) → IsOk said → Err refusal ≡ said → ⊥
accepted_done (Ok told) refusal ok is = cc is
accepted_done (Err other) refusal ok is = cc ok

never_refused : (command : Command) (t after : Tables) (refusal : Refusal) → MayBeDone command t → Steps command t (Err refusal) after → ⊥
never_refused (ask.Plan text limits) t after refusal may steps = plan_done limits text t refusal (planned text t) may refl steps.0
never_refused (ask.Check text) t after refusal may steps = accepted_done (check_said text) refusal may steps.0
never_refused (ask.Publish monday revision) t after refusal may steps = publish_done monday revision t refusal may steps.0
never_refused (ask.Show monday) t after refusal may steps =
    week_done issue_report (λ draft. draft.report) monday (issue_in t monday.day) (draft_in t monday.day) refusal may steps.0
never_refused (ask.Export monday) t after refusal may steps =
    week_done (λ issue. issue.export) (λ draft. draft.export) monday (issue_in t monday.day) (draft_in t monday.day) refusal may steps.0

pub what_may_be_is_done : (command : Command) (before : Tables) (answer : Reply) (after : Option Tables) → MayBeDone command before → IsReply command (Some before) answer after → IsNoRefusal answer
what_may_be_is_done command before (reply.Done told) after may is = tt
what_may_be_is_done command before (reply.Refused refusal) after may is = never_refused command before is.0 refusal may is.2
what_may_be_is_done command before reply.KeeperFault after may is = tt
what_may_be_is_done command before reply.Memory after may is = tt
