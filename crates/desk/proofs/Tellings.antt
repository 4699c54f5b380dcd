-- A run, from its parts.
use Rattle.std.specs.Prelude.{⊤}
use Rattle.std.proofs.Common.{◌≡◌, ℕ, inl, inr, refl, sym, ◌∙◌, ap, subst, List, [], ◌++◌, Option, Some, None}
use Rattle.desk_io.specs.Device.{GivesBytes}
use Rattle.desk_keeper.specs.Tables.{Tables}
use Rattle.desk_core.specs.declared.commands.Command.{Command}
use Rattle.desk_core.specs.declared.commands.Command.TheVariants as command
use Rattle.desk_core.specs.declared.commands.Reply.{Reply}
use Rattle.desk_core.specs.declared.commands.Reply.TheVariants.{Done, Refused, KeeperFault, Memory}
use Rattle.desk_core.specs.declared.refusals.Refusal.{Refusal}
use Rattle.desk_core.specs.Answering.{IsAnswer, OnCheck}
use Rattle.desk_core.specs.Machine.{IsReply, failed_after}
use Rattle.desk_words.specs.declared.asks.Ask.{Ask}
use Rattle.desk_words.specs.declared.asks.Ask.TheVariants.{Plan, Check, Publish, Show, Export, Make, Serve}
use Rattle.desk.specs.Office.{Device, Office, shelf}
use Rattle.desk.specs.Saying.{Said, done, keeper_fault, IsRefused, SaysReply}
use Rattle.desk.specs.Running.{Tells, IsTold, PlaysOut, HasReadFor, Runs}

-- a refusal leaves the tables
refusal-stays : (command : Command) (before after : Option Tables) (refusal : Refusal) → IsReply command before (Refused refusal) after → after ≡ before
refusal-stays command None after refusal none = none
refusal-stays (command.Plan text limits) (Some before) after refusal (tables, is, step) = is ∙ ap Some step.1
refusal-stays (command.Check text) (Some before) after refusal (tables, is, step) = is ∙ ap Some step.1
refusal-stays (command.Publish monday revision) (Some before) after refusal (tables, is, step) = is ∙ ap Some step.1
refusal-stays (command.Show monday) (Some before) after refusal (tables, is, step) = is ∙ ap Some step.1
refusal-stays (command.Export monday) (Some before) after refusal (tables, is, step) = is ∙ ap Some step.1

-- a fact of a check, from another
pub on-check : {P Q : Type 0} (command : Command) → (P → Q) → OnCheck command P → OnCheck command Q
on-check (command.Plan text limits) then fact = fact
on-check (command.Check text) then fact = then fact
on-check (command.Publish monday revision) then fact = fact
on-check (command.Show monday) then fact = fact
on-check (command.Export monday) then fact = fact

-- a reply is told with what is said of it
pub told : (command : Command) (tables now : Option Tables) (faults counts : ℕ) (held holds : Device) (status : ℕ) (reply : Reply) (said : Said)
    → IsReply command tables reply now → IsAnswer command reply → counts ≡ failed_after faults reply
    → OnCheck command (shelf now counts ≡ shelf tables faults) → SaysReply reply said → Tells said held holds status
    → PlaysOut command (shelf tables faults) (shelf now counts) held holds status
told command tables now faults counts held holds status reply said step answer count unasked says tells =
    inl (said, record { reply = reply; step = step; answer = answer; counts = count; unasked = unasked; told = says }, tells)

-- a command that is done is told by its text
pub told-done : (command : Command) (tables now : Option Tables) (faults counts : ℕ) (held holds : Device) (status : ℕ) (reply : Reply) (text slice : List ℕ)
    → reply ≡ Done text → slice ≡ text → IsReply command tables reply now → IsAnswer command reply → counts ≡ failed_after faults reply
    → OnCheck command (shelf now counts ≡ shelf tables faults) → Tells (done slice) held holds status
    → PlaysOut command (shelf tables faults) (shelf now counts) held holds status
told-done command tables now faults counts held holds status reply text slice is same step answer count unasked tells =
    told command tables now faults counts held holds status reply (done slice) step answer count unasked
    (subst (λ r. SaysReply r (done slice)) (sym is) (ap done same)) tells

-- a keeper that failed is told
pub told-fault : (command : Command) (tables now : Option Tables) (faults counts : ℕ) (held holds : Device) (status : ℕ) (reply : Reply)
    → reply ≡ KeeperFault → IsReply command tables reply now → IsAnswer command reply → counts ≡ failed_after faults reply
    → OnCheck command (shelf now counts ≡ shelf tables faults) → Tells keeper_fault held holds status
    → PlaysOut command (shelf tables faults) (shelf now counts) held holds status
told-fault command tables now faults counts held holds status reply is step answer count unasked tells =
    told command tables now faults counts held holds status reply keeper_fault step answer count unasked
    (subst (λ r. SaysReply r keeper_fault) (sym is) refl) tells

-- a refusal is told, or nothing is for want of memory, and the shelf is as it was
pub told-refusal : (command : Command) (tables now : Option Tables) (faults counts : ℕ) (held holds : Device) (status : ℕ) (reply : Reply) (refusal : Refusal)
    → reply ≡ Refused refusal → IsReply command tables reply now → IsAnswer command reply → counts ≡ failed_after faults reply
    → OnCheck command (shelf now counts ≡ shelf tables faults) → IsTold (IsRefused refusal) ⊤ held holds status
    → PlaysOut command (shelf tables faults) (shelf now counts) held holds status
told-refusal command tables now faults counts held holds status reply refusal is step answer count unasked (inl (said, refused, tells)) =
    told command tables now faults counts held holds status reply said step answer count unasked (subst (λ r. SaysReply r said) (sym is) refused) tells
told-refusal command tables now faults counts held holds status reply refusal is step answer count unasked (inr (wants, _)) =
    let same : now ≡ tables = refusal-stays command tables now refusal (subst (λ r. IsReply command tables r now) is step) in
    let counted : counts ≡ faults = count ∙ ap (failed_after faults) is in
    inr (wants, ap (λ t. shelf t counts) same ∙ ap (shelf tables) counted)

nothing-given : (left : Option (List ℕ)) → GivesBytes left [] left
nothing-given None = refl
nothing-given (Some rest) = refl

has-not-read : (asked : Option Ask) (source : Device) → HasReadFor asked source source
has-not-read None source = refl
has-not-read (Some (Plan limits)) source = (([], nothing-given source.bytes), refl)
has-not-read (Some Check) source = (([], nothing-given source.bytes), refl)
has-not-read (Some (Publish monday revision)) source = refl
has-not-read (Some (Show monday)) source = refl
has-not-read (Some (Export monday)) source = refl
has-not-read (Some (Make seed limits)) source = refl
has-not-read (Some (Serve port count)) source = refl

-- words that can't be read for want of memory
pub words-unread : (asked : Option Ask) (office : Office) → Runs asked office office 8
words-unread asked office = inr ((refl, refl), (refl, has-not-read asked office.source))
