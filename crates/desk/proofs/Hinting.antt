-- What is said hints at what its status means.
use Rattle.std.proofs.Common.{◌≡◌, ◌≤◌, ◌<◌, ℕ, ◌⊎◌, inl, inr, refl, sym, ◌∙◌, ap, subst, List, length, Option, Some, None, Result, Ok, Err}
use Rattle.desk_io.specs.Device.{GivesBytes, NothingLeft}
use Rattle.week_maker.specs.MadeWeeks.{made_text}
use Rattle.minute_line.specs.declared.dates.Monday.{Monday}
use Rattle.duty_plan.specs.declared.outcomes.Limits.{Limits}
use Rattle.desk_core.specs.declared.commands.Command.{Command}
use Rattle.desk_core.specs.declared.commands.Command.TheVariants as command
use Rattle.desk_core.specs.declared.commands.Reply.{Reply}
use Rattle.desk_core.specs.declared.commands.Reply.TheVariants.{Done, Refused, KeeperFault, Memory}
use Rattle.desk_core.specs.declared.refusals.Refusal.{Refusal}
use Rattle.desk_core.specs.declared.refusals.Refusal.TheVariants.{Long, NoDraft}
use Rattle.desk_core.specs.Answering.{IsAnswer, IsRefusal, IsPlanRefusal}
use Rattle.desk_core.specs.Causes.{HasCause, IsIssueRefusal, IsNoDraft}
use Rattle.desk_core.specs.Checking.{check_said}
use Rattle.desk_core.specs.Machine.{IsReply, failed_after}
use Rattle.desk_core.specs.Planning.{Book, case_said}
use Rattle.desk_words.specs.declared.asks.Ask.{Ask}
use Rattle.desk_words.specs.declared.asks.Ask.TheVariants.{Plan, Check, Publish, Show, Export, Make, Serve}
use Rattle.desk.specs.Office.{Shelf, Office}
use Rattle.desk_csv.specs.declared.reading.TheConstants.{TEXT_LIMIT}
use Rattle.desk.specs.Saying.{Said, usage, read_fault, keeper_fault, done, status_of, IsRefused, SaysReply, SaysSolved, SaysMade}
use Rattle.desk.specs.Running.{Plays, SaysText, PlaysText, SaysAsked}
use Rattle.desk.specs.Causes.{IsNoCommand, Reads, AsksKeeper, RefusesText, RefusesKept, IsStep}
use Rattle.desk.proofs.RefusalKinds.{either, text-three, check-three, kept-four, issue-four}
use Rattle.desk.proofs.Meanings.{Hints, IsRefusedBy}

-- what is said hints at what its status means
abbrev Hinted : Option Ask → Office → Office → Said → Type 0
Hinted asked before after said = Hints asked before after said.text said.status

-- a refusal of the text, or one for what is kept
abbrev IsCause : Option Ask → Office → Office → Refusal → Type 0
IsCause asked before after refusal =
    (RefusesText asked before after refusal × (status_of refusal ≡ 3)) ⊎ (RefusesKept asked before after refusal × (status_of refusal ≡ 4))

refused : (asked : Option Ask) (before after : Office) (said : Said) (refusal : Refusal) → IsRefused refusal said → HasCause refusal
    → IsCause asked before after refusal → Hinted asked before after said
refused asked before after said refusal is named (inl text) =
    subst (Hints asked before after said.text) (sym (is.0 ∙ text.1))
    (record { refusal = refusal; is_status = text.1; because = text.0; named = named; is_line = is.1 })
refused asked before after said refusal is named (inr kept) =
    subst (Hints asked before after said.text) (sym (is.0 ∙ kept.1))
    (record { refusal = refusal; is_status = kept.1; because = kept.0; named = named; is_line = is.1 })

replied : (asked : Option Ask) (before after : Office) (said : Said) (command : Command) (reply : Reply) → IsAnswer command reply
    → IsReply command before.shelf.tables reply after.shelf.tables → after.shelf.faults ≡ failed_after before.shelf.faults reply
    → SaysReply reply said → after.source.faults ≡ before.source.faults
    → ((refusal : Refusal) → IsRefusal command refusal → IsStep command before.shelf after.shelf refusal → IsCause asked before after refusal)
    → Hinted asked before after said
replied asked before after said command (Done text) answer step counts told same cause =
    subst (λ s. Hints asked before after s.text s.status) (sym told) (same, counts)
replied asked before after said command (Refused refusal) answer step counts told same cause =
    refused asked before after said refusal told answer.1 (cause refusal answer.0 step)
replied asked before after said command KeeperFault answer step counts told same cause =
    subst (λ s. Hints asked before after s.text s.status) (sym told) (counts, step)
replied asked before after said command Memory answer step counts told same cause = absurd told

played : (asked : Option Ask) (before after : Office) (said : Said) (command : Command) → Plays command before.shelf after.shelf said
    → after.source.faults ≡ before.source.faults
    → ((refusal : Refusal) → IsRefusal command refusal → IsStep command before.shelf after.shelf refusal → IsCause asked before after refusal)
    → Hinted asked before after said
played asked before after said command plays same cause =
    replied asked before after said command plays.reply plays.answer plays.step plays.counts plays.told same cause

-- a text: the source failed, or gave too much, or its command was played
read : (asked : Option Ask) (before after : Office) (said : Said) (command : List ℕ → Command) → SaysText command before after said
    → ((given : List ℕ) → GivesBytes before.source.bytes given after.source.bytes → TEXT_LIMIT < length given → RefusesText asked before after Long)
    → ((given : List ℕ) (refusal : Refusal) → GivesBytes before.source.bytes given after.source.bytes → length given ≤ TEXT_LIMIT
    → NothingLeft after.source.bytes → IsRefusal (command given) refusal → IsStep (command given) before.shelf after.shelf refusal
    → IsCause asked before after refusal)
    → Hinted asked before after said
read asked before after said command (given, gives, inl fault) long cause =
    subst (λ s. Hints asked before after s.text s.status) (sym fault.0) fault.1
read asked before after said command (given, gives, inr (inl longer)) long cause =
    refused asked before after said Long longer.1 tt (inl (long given gives longer.0, refl))
read asked before after said command (given, gives, inr (inr all)) long cause =
    played asked before after said (command given) all.3 all.2 (λ refusal is step. cause given refusal gives all.0 all.1 is step)

plan-cause : (limits : Limits) (before after : Office) (given : List ℕ) (refusal : Refusal) → GivesBytes before.source.bytes given after.source.bytes
    → length given ≤ TEXT_LIMIT → NothingLeft after.source.bytes → IsPlanRefusal given refusal
    → IsStep (command.Plan given limits) before.shelf after.shelf refusal → IsCause (Some (Plan limits)) before after refusal
plan-cause limits before after given refusal gives within ended (inl text) step =
    inl (inr (given, gives, within, ended, text), text-three given refusal text)
plan-cause limits before after given refusal gives within ended (inr kept) step =
    inr ((given, gives, within, ended, (kept, step)), kept-four kept.0 refusal kept.2)

no-draft : (monday : Monday) (refusal : Refusal) → IsNoDraft monday refusal → status_of refusal ≡ 4
no-draft monday refusal is = subst (λ r. status_of r ≡ 4) (sym is) refl

solved : (seed : ℕ) (limits : Limits) (before after : Office) (said : Said) (r : Result Book Refusal) → case_said (made_text seed) ≡ r
    → SaysSolved seed limits r said → after.source.faults ≡ before.source.faults → after.shelf.faults ≡ before.shelf.faults
    → Hinted (Some (Make seed limits)) before after said
solved seed limits before after said (Ok of) is says same shelf =
    subst (λ s. Hints (Some (Make seed limits)) before after s.text s.status) (sym says.told) (same, shelf)
solved seed limits before after said (Err refusal) is says same shelf =
    refused (Some (Make seed limits)) before after said refusal says.0 says.1 (elim (either refusal) [
      | inl three ↦ inl (inr is, three)
      | inr four ↦ inr (is, four)
    ])

made : (seed : ℕ) (limits : Limits) (before after : Office) (said : Said) → SaysMade seed limits said
    → after.source.faults ≡ before.source.faults → after.shelf.faults ≡ before.shelf.faults → Hinted (Some (Make seed limits)) before after said
made seed limits before after said (inl long) same shelf =
    refused (Some (Make seed limits)) before after said Long long.1 tt (inl (inl (refl, long.0), refl))
made seed limits before after said (inr says) same shelf = solved seed limits before after said _ refl says same shelf

pub hinted : (asked : Option Ask) (before after : Office) (said : Said) → SaysAsked asked before after said → Hinted asked before after said
hinted None before after said says = subst (λ s. Hints None before after s.text s.status) (sym says.0) tt
hinted (Some (Serve port count)) before after said says =
    subst (λ s. Hints (Some (Serve port count)) before after s.text s.status) (sym says.0) tt
hinted (Some (Plan limits)) before after said says =
    read (Some (Plan limits)) before after said (λ text. command.Plan text limits) says
    (λ given gives longer. inl (refl, (given, gives, longer)))
    (λ given refusal gives within ended is step. plan-cause limits before after given refusal gives within ended is step)
hinted (Some Check) before after said says =
    read (Some Check) before after said (λ text. command.Check text) says
    (λ given gives longer. inl (refl, (given, gives, longer)))
    (λ given refusal gives within ended is step. inl (inr (given, gives, within, ended, is), check-three given refusal is))
hinted (Some (Publish monday revision)) before after said says =
    played (Some (Publish monday revision)) before after said (command.Publish monday revision) says.1 (ap (λ d. d.faults) says.0)
    (λ refusal is step. inr ((is, step), issue-four monday revision refusal is))
hinted (Some (Show monday)) before after said says =
    played (Some (Show monday)) before after said (command.Show monday) says.1 (ap (λ d. d.faults) says.0)
    (λ refusal is step. inr ((is, step), no-draft monday refusal is))
hinted (Some (Export monday)) before after said says =
    played (Some (Export monday)) before after said (command.Export monday) says.1 (ap (λ d. d.faults) says.0)
    (λ refusal is step. inr ((is, step), no-draft monday refusal is))
hinted (Some (Make seed limits)) before after said says =
    made seed limits before after said says.2 (ap (λ d. d.faults) says.0) (ap (λ d. d.faults) says.1)

-- words that are no command have status 2
pub no-command : (asked : Option Ask) (before after : Office) (said : Said) → SaysAsked asked before after said → IsNoCommand asked
    → said.status ≡ 2
no-command None before after said says is = ap (λ (s : Said). s.status) says.0
no-command (Some (Serve port count)) before after said says is = ap (λ (s : Said). s.status) says.0
no-command (Some (Plan limits)) before after said says is = absurd is
no-command (Some Check) before after said says is = absurd is
no-command (Some (Publish monday revision)) before after said says is = absurd is
no-command (Some (Show monday)) before after said says is = absurd is
no-command (Some (Export monday)) before after said says is = absurd is
no-command (Some (Make seed limits)) before after said says is = absurd is

-- what reads nothing leaves the source alone
pub unread : (asked : Option Ask) (before after : Office) (said : Said) → SaysAsked asked before after said → ¬ Reads asked
    → after.source ≡ before.source
unread None before after said says not = says.1
unread (Some (Serve port count)) before after said says not = says.1
unread (Some (Plan limits)) before after said says not = absurd (not tt)
unread (Some Check) before after said says not = absurd (not tt)
unread (Some (Publish monday revision)) before after said says not = says.0
unread (Some (Show monday)) before after said says not = says.0
unread (Some (Export monday)) before after said says not = says.0
unread (Some (Make seed limits)) before after said says not = says.0

check-unasked : (before after : Office) (said : Said) → SaysText command.Check before after said → after.shelf ≡ before.shelf
check-unasked before after said (given, gives, inl fault) = fault.2
check-unasked before after said (given, gives, inr (inl long)) = long.3
check-unasked before after said (given, gives, inr (inr all)) = all.3.unasked

-- what doesn't ask the keeper leaves the shelf alone
pub unasked : (asked : Option Ask) (before after : Office) (said : Said) → SaysAsked asked before after said → ¬ AsksKeeper asked
    → after.shelf ≡ before.shelf
unasked None before after said says not = says.2
unasked (Some (Serve port count)) before after said says not = says.2
unasked (Some (Plan limits)) before after said says not = absurd (not tt)
unasked (Some Check) before after said says not = check-unasked before after said says
unasked (Some (Publish monday revision)) before after said says not = absurd (not tt)
unasked (Some (Show monday)) before after said says not = absurd (not tt)
unasked (Some (Export monday)) before after said says not = absurd (not tt)
unasked (Some (Make seed limits)) before after said says not = says.1
