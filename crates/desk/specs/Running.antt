-- One run of the desk: what is said, and what becomes of the source, the sink and the keeper.
use Rattle.std.specs.Prelude.{◌≡◌, ⊤, ℕ, ◌<◌, ◌≤◌, ◌⊎◌, List, take, length, Option, Some, None}
use Rattle.desk_io.specs.Device.{counted_up, GivesBytes, Takes, NothingLeft}
use Rattle.desk_io.specs.declared.whole.ReadError.{ReadError}
use Rattle.desk_io.specs.declared.whole.ReadError.TheVariants.{Fault, TooLong, Memory}
use Rattle.desk_core.specs.declared.commands.Command.{Command}
use Rattle.desk_core.specs.declared.commands.Command.TheVariants as command
use Rattle.desk_core.specs.declared.commands.Reply.{Reply}
use Rattle.desk_core.specs.declared.refusals.Refusal.{Refusal}
use Rattle.desk_core.specs.declared.refusals.Refusal.TheVariants.{Long}
use Rattle.desk_core.specs.Answering.{IsAnswer, OnCheck}
use Rattle.desk_core.specs.Machine.{IsReply, failed_after}
use Rattle.desk_words.specs.declared.asks.Ask.{Ask}
use Rattle.desk_words.specs.declared.asks.Ask.TheVariants.{Plan, Check, Publish, Show, Export, Make, Serve}
use Rattle.desk.specs.Office.{Device, Shelf, Office}
use Rattle.desk_csv.specs.declared.reading.TheConstants.{TEXT_LIMIT}
use Rattle.desk.specs.Saying.{Said, usage, read_fault, IsRefused, SaysReply, SaysMade}

-- a command was played on the shelf, and this is said of its reply: a step of the machine, where the tables are told, and an answer
-- over every keeper. A check leaves the shelf alone
pub record Plays (command : Command) (before after : Shelf) (said : Said) : Type 0 where
  pub reply : Reply
  pub step : IsReply command before.tables reply after.tables
  pub answer : IsAnswer command reply
  pub counts : after.faults ≡ failed_after before.faults reply
  pub unasked : OnCheck command (after ≡ before)
  pub told : SaysReply reply said

-- what is said of a source that failed
abbrev pub SaysFault : Office → Office → Said → Type 0
SaysFault before after said =
    (said ≡ read_fault) × (after.source.faults ≡ counted_up before.source.faults) × (after.shelf ≡ before.shelf)

-- what is said of more bytes than a text may have
abbrev pub SaysLong : List ℕ → Office → Office → Said → Type 0
SaysLong given before after said =
    (TEXT_LIMIT < length given) × IsRefused Long said × (after.source.faults ≡ before.source.faults) × (after.shelf ≡ before.shelf)

-- a text was read to its end, and its command was played
abbrev pub PlaysText : (List ℕ → Command) → List ℕ → Office → Office → Said → Type 0
PlaysText command given before after said =
    (length given ≤ TEXT_LIMIT) × NothingLeft after.source.bytes × (after.source.faults ≡ before.source.faults)
    × Plays (command given) before.shelf after.shelf said

-- what is said once bytes were given: the source failed; or they are too many; or they are all, and make the text of a command
abbrev pub SaysText : (List ℕ → Command) → Office → Office → Said → Type 0
SaysText command before after said = (given : List ℕ) × GivesBytes before.source.bytes given after.source.bytes
    × (SaysFault before after said ⊎ (SaysLong given before after said ⊎ PlaysText command given before after said))

-- what is said of a command without a text: nothing is read
abbrev pub SaysCommand : Command → Office → Office → Said → Type 0
SaysCommand command before after said = (after.source ≡ before.source) × Plays command before.shelf after.shelf said

-- the words are no command: nothing is read or asked
abbrev pub SaysUsage : Office → Office → Said → Type 0
SaysUsage before after said = (said ≡ usage) × (after.source ≡ before.source) × (after.shelf ≡ before.shelf)

-- what is said of what is asked for
abbrev pub SaysAsked : Option Ask → Office → Office → Said → Type 0
SaysAsked None before after said = SaysUsage before after said
SaysAsked (Some (Plan limits)) before after said = SaysText (λ text. command.Plan text limits) before after said
SaysAsked (Some Check) before after said = SaysText (λ text. command.Check text) before after said
SaysAsked (Some (Publish monday revision)) before after said = SaysCommand (command.Publish monday revision) before after said
SaysAsked (Some (Show monday)) before after said = SaysCommand (command.Show monday) before after said
SaysAsked (Some (Export monday)) before after said = SaysCommand (command.Export monday) before after said
SaysAsked (Some (Make seed limits)) before after said = (after.source ≡ before.source) × (after.shelf ≡ before.shelf) × SaysMade seed limits said
SaysAsked (Some (Serve port count)) before after said = SaysUsage before after said

-- the sink took the text, and the status is its own; or the sink failed, a beginning was appended, and the status is 6
abbrev pub Tells : Said → Device → Device → ℕ → Type 0
Tells said before after status =
    ((status ≡ said.status) × Takes before.bytes said.text after.bytes × (after.faults ≡ before.faults))
    ⊎ ((status ≡ 6) × (after.faults ≡ counted_up before.faults) × ((n : ℕ) × (n < length said.text) × Takes before.bytes (take n said.text) after.bytes))

-- nothing is told for want of memory
abbrev pub WantsMemory : Device → Device → ℕ → Type 0
WantsMemory before after status = (status ≡ 8) × (after ≡ before)

-- what may be said is told; or nothing is for want of memory, and then this holds
abbrev pub IsTold : (Said → Type 0) → Type 0 → Device → Device → ℕ → Type 0
IsTold says wanting before after status =
    ((said : Said) × says said × Tells said before after status) ⊎ (WantsMemory before after status × wanting)

-- a reply to a command is told; for want of memory the shelf is as it was
abbrev pub PlaysOut : Command → Shelf → Shelf → Device → Device → ℕ → Type 0
PlaysOut command before after held holds status = IsTold (Plays command before after) (after ≡ before) held holds status

-- why a source gave no text is told
abbrev pub TellsUnread : ReadError → Device → Device → ℕ → Type 0
TellsUnread Fault before after status = Tells read_fault before after status
TellsUnread TooLong before after status = IsTold (IsRefused Long) ⊤ before after status
TellsUnread Memory before after status = WantsMemory before after status

-- what was read once memory was wanted: some bytes, without a fault
abbrev pub HasRead : Device → Device → Type 0
HasRead before after = ((given : List ℕ) × GivesBytes before.bytes given after.bytes) × (after.faults ≡ before.faults)

-- what was read once memory was wanted: only a plan and a check read
abbrev pub HasReadFor : Option Ask → Device → Device → Type 0
HasReadFor (Some (Plan limits)) before after = HasRead before after
HasReadFor (Some Check) before after = HasRead before after
HasReadFor _ before after = after ≡ before

-- one run: what is said of what is asked for is told; for want of memory the shelf is as it was
abbrev pub Runs : Option Ask → Office → Office → ℕ → Type 0
Runs asked before after status =
    IsTold (SaysAsked asked before after) ((after.shelf ≡ before.shelf) × HasReadFor asked before.source after.source) before.sink after.sink status
