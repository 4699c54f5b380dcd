-- A planned week is a step of the machine: what its text comes to, and the draft that is put.
use Rattle.std.proofs.Common.{◌≡◌, ◌∙◌, ℕ, ◌+◌, ◌==◌, if◌then◌else◌, ap, sym, subst, refl, Bool, true, false, List, [], map, Option, Some, None, IfSome, Result, Ok, Err}
use Rattle.minute_line.specs.declared.dates.Monday.{Monday}
use Rattle.minute_line.specs.Histories.{Fields, fields_of}
use Rattle.duty_plan.specs.declared.plans.Case.{Case}
use Rattle.duty_plan.specs.declared.outcomes.Limits.{Limits}
use Rattle.duty_plan.specs.declared.outcomes.Outcome.{Outcome}
use Rattle.duty_plan.specs.Duties.{IsCase}
use Rattle.duty_plan.specs.Trees.{IsRight}
use Rattle.desk_keeper.specs.declared.records.TheConstants.{DRAFT_LIMIT}
use Rattle.desk_keeper.specs.Tables.{Tables, KeptFields, DraftFields, IssueFields}
use Rattle.week_book.specs.declared.weeks.Driver.{Driver}
use Rattle.desk_keeper.specs.Entries.{issue_in, revision_in}
use Rattle.desk_keeper.specs.Changes.{IsNext}
use Rattle.desk_core.specs.declared.refusals.Refusal.{Refusal}
use Rattle.desk_core.specs.declared.refusals.Refusal.TheVariants as because
use Rattle.desk_core.specs.declared.refusals.Stop.{Stop}
use Rattle.desk_core.specs.declared.refusals.Stop.TheVariants.{Refused, Fault, Memory}
use Rattle.desk_core.specs.Refusing.{◌>>=◌}
use Rattle.desk_core.specs.Drafting.{WeekText, Planned, text_said, revision_said, all_planned_with, planned, kept_now, IsDraftAfter, IsDraftOf, MakesDraft}
use Rattle.desk_core.specs.Replies.{IsDone, IsOutcome}
use Rattle.desk_core.specs.Machine.{Puts, Drafts}
use Rattle.desk_core.proofs.Stopping.{then-on}

-- what is planned, once the histories are known
abbrev with_histories : WeekText → ℕ → List Fields → Result Planned Refusal
with_histories read revision past = Ok (record { book = record { week = read.week; past = past }; revision = revision })

-- the histories that the drivers of a text are planned with
abbrev pub histories_said : Tables → WeekText → Result (List Fields) Refusal
histories_said t read = all_planned_with read.week.monday.day t [] read.week.drivers read.past

abbrev with_revision : Tables → WeekText → ℕ → Result Planned Refusal
with_revision t read revision = histories_said t read >>= λ past. with_histories read revision past

abbrev with_text : Tables → WeekText → Result Planned Refusal
with_text t read = revision_said read.week.monday t >>= λ revision. with_revision t read revision

-- the text, the revision and the histories make what is planned
pub planned-ok : (text : List ℕ) (t : Tables) (read : WeekText) (revision : ℕ) (past : List Fields) → text_said text ≡ Ok read → revision_said read.week.monday t ≡ Ok revision
    → histories_said t read ≡ Ok past → planned text t ≡ with_histories read revision past
planned-ok text t read revision past e f g =
    then-on (text_said text) (with_text t) read e ∙ (then-on (revision_said read.week.monday t) (with_revision t read) revision f
    ∙ then-on (histories_said t read) (with_histories read revision) past g)

if_told : {P Q : Tables → Type 0} (told : Option Tables) → ((t : Tables) → P t → Q t) → IfSome told P → IfSome told Q
if_told None more h = tt
if_told (Some t) more h = more t h

-- the revision of the next draft
next_by : (monday : Monday) (revision last : ℕ) (issue : Option IssueFields) (full : Bool)
    → ◌≡◌ {A = Result ℕ Refusal} (Ok revision) (elim issue [ Some issue ↦ Err (because.Published monday issue.receipt) | None ↦ if full then Err (because.DraftsFull monday) else Ok (last + 1) ])
    → (issue ≡ None) × (revision ≡ last + 1)
next_by monday revision last (Some issue) full e = absurd (cc e)
next_by monday revision last None true e = absurd (cc e)
next_by monday revision last None false e = (refl, cc e)

is_next : (t : Tables) (monday : Monday) (revision : ℕ) (draft : DraftFields) → Ok revision ≡ revision_said monday t → draft.monday ≡ monday.day → draft.revision ≡ revision → IsNext draft t
is_next t monday revision draft e day number =
    let next = next_by monday revision (revision_in t monday.day) (issue_in t monday.day) (revision_in t monday.day == DRAFT_LIMIT) e in
    record { unpublished = ap (issue_in t) day ∙ next.0; revision = number ∙ (next.1 ∙ ap (λ d. revision_in t d + 1) (sym day)) }

-- what was said of the tables still is, where they did not change
pub still : (P : Tables → Type 0) (told now : Option Tables) → now ≡ told → IfSome told P → IfSome now P
still P told now same holds = subst (λ (o : Option Tables). IfSome o P) (sym same) holds

-- the draft may be put
pub may_put : (told now : Option Tables) (monday : Monday) (revision : ℕ) (draft : DraftFields) → now ≡ told → IfSome told (λ t. Ok revision ≡ revision_said monday t)
    → draft.monday ≡ monday.day → draft.revision ≡ revision → IfSome now (IsNext draft)
may_put told now monday revision draft same said day number =
    still (IsNext draft) told now same (if_told told (λ t e. is_next t monday revision draft e day number) said)

-- the draft that is put is that of what is planned
pub is_draft : (limits : Limits) (text : List ℕ) (told : Option Tables) (read : WeekText) (case : Case) (outcome : Outcome) (revision : ℕ) (draft : DraftFields)
    (seen : List (Option KeptFields)) → text_said text ≡ Ok read → case.week ≡ read.week → IsCase case → IsRight case limits outcome
    → IsDraftAfter case outcome seen revision draft → IfSome told (λ t. Ok revision ≡ revision_said read.week.monday t)
    → IfSome told (λ t. Ok (map fields_of case.past) ≡ histories_said t read) → IfSome told (λ t. seen ≡ kept_now t read.week.drivers)
    → IfSome told (λ t. MakesDraft limits t (planned text t) (Ok draft))
is_draft limits text None read case outcome revision draft seen e week valid right made number past kept = tt
is_draft limits text (Some t) read case outcome revision draft seen e week valid right made number past kept =
    let all : planned text t ≡ with_histories read revision (map fields_of case.past) = planned-ok text t read revision (map fields_of case.past) e (sym number) (sym past) in
    let seen_now : seen ≡ kept_now t case.week.drivers = kept ∙ ap (λ w. kept_now t w.drivers) (sym week) in
    let is : IsDraftOf limits t (record { book = record { week = read.week; past = map fields_of case.past }; revision = revision }) draft = record {
      case = case;
      is_planned = ap (λ w. record { week = w; past = map fields_of case.past }) week;
      valid = valid;
      outcome = outcome;
      right = right;
      made = rw (← seen_now) made;
    } in
    subst (λ said. MakesDraft limits t said (Ok draft)) (sym all) is

done : (limits : Limits) (text : List ℕ) (told now after : Option Tables) (draft : DraftFields) (reply : Result (List ℕ) Refusal) → now ≡ told
    → IfSome told (λ t. MakesDraft limits t (planned text t) (Ok draft)) → IsDone (Puts draft) now reply after → IsDone (Drafts limits text) told reply after
done limits text None now after draft reply same makes puts = subst (λ o. IsDone (Puts draft) o reply after) same puts
done limits text (Some t) now after draft reply same makes puts =
    let put = subst (λ o. IsDone (Puts draft) o reply after) same puts in
    let drafts : Drafts limits text t (Ok draft.report) put.0 = (draft, makes, refl, put.2.1) in
    (put.0, put.1, subst (λ r. Drafts limits text t r put.0) (sym put.2.0) drafts)

-- a plan whose draft is put, or whose keeper fails
pub plan-put : (limits : Limits) (text : List ℕ) (told now after : Option Tables) (draft : DraftFields) (result : Result (List ℕ) Stop) → now ≡ told
    → IfSome told (λ t. MakesDraft limits t (planned text t) (Ok draft)) → IsOutcome (Puts draft) now result after → IsOutcome (Drafts limits text) told result after
plan-put limits text told now after draft (Ok text') same makes puts = done limits text told now after draft (Ok text') same makes puts
plan-put limits text told now after draft (Err (Refused refusal)) same makes puts = done limits text told now after draft (Err refusal) same makes puts
plan-put limits text told now after draft (Err Fault) same makes puts = puts ∙ same
plan-put limits text told now after draft (Err Memory) same makes puts = puts ∙ same

-- the same, as the keeper was asked
pub past_told : (told now : Option Tables) (read : WeekText) (drivers : List Driver) (pasts : List (Option Fields)) (past : List Fields) → now ≡ told → drivers ≡ read.week.drivers
    → pasts ≡ read.past → IfSome now (λ t. Ok past ≡ all_planned_with read.week.monday.day t [] drivers pasts) → IfSome told (λ t. Ok past ≡ histories_said t read)
past_told told now read drivers pasts past same of_week of_text is =
    let one = still (λ t. Ok past ≡ all_planned_with read.week.monday.day t [] drivers pasts) now told (sym same) is in
    let two = subst (λ (d : List Driver). IfSome told (λ t. Ok past ≡ all_planned_with read.week.monday.day t [] d pasts)) of_week one in
    subst (λ (p : List (Option Fields)). IfSome told (λ t. Ok past ≡ all_planned_with read.week.monday.day t [] read.week.drivers p)) of_text two

pub kept_told : (told now : Option Tables) (drivers week : List Driver) (seen slice : List (Option KeptFields)) → now ≡ told → drivers ≡ week → slice ≡ seen
    → IfSome now (λ t. seen ≡ kept_now t drivers) → IfSome told (λ t. slice ≡ kept_now t week)
kept_told told now drivers week seen slice same of_week of_seen is =
    let one = still (λ t. seen ≡ kept_now t drivers) now told (sym same) is in
    let two = subst (λ (d : List Driver). IfSome told (λ t. seen ≡ kept_now t d)) of_week one in
    subst (λ (s : List (Option KeptFields)). IfSome told (λ t. s ≡ kept_now t week)) (sym of_seen) two
