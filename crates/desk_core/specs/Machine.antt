-- The desk as a machine over its tables: what it replies to a command, and what the tables are then.
use Rattle.std.specs.Prelude.{◌≡◌, ⊤, Bool, true, false, ℕ, ◌≤◌, Option, Result, Ok, Err, List, [], ◌∷◌, ◌++◌, length}
use Rattle.duty_plan.specs.declared.outcomes.Limits.{Limits}
use Rattle.duty_plan.specs.Trees.{IsLimits}
use Rattle.desk_io.specs.Device.{counted_up}
use Rattle.minute_line.specs.declared.dates.Monday.{Monday}
use Rattle.desk_csv.specs.declared.reading.TheConstants.{TEXT_LIMIT}
use Rattle.desk_keeper.specs.Tables.{Tables, DraftFields}
use Rattle.desk_keeper.specs.Entries.{next_receipt}
use Rattle.desk_keeper.specs.Changes.{with_draft, with_issue}
use Rattle.desk_core.specs.declared.commands.Command.{Command}
use Rattle.desk_core.specs.declared.commands.Command.TheVariants as ask
use Rattle.desk_core.specs.declared.commands.Reply.{Reply}
use Rattle.desk_core.specs.declared.commands.Reply.TheVariants.{Done, Refused, KeeperFault, Memory}
use Rattle.desk_core.specs.declared.refusals.Refusal.{Refusal}
use Rattle.desk_core.specs.declared.refusals.Stop.{Stop}
use Rattle.desk_core.specs.declared.refusals.Stop.TheVariants as stop
use Rattle.desk_core.specs.Checking.{check_said}
use Rattle.desk_core.specs.Issuing.{shown, exported, Publishes, IsPublication}
use Rattle.desk_core.specs.Drafting.{planned, MakesDraft}
use Rattle.desk_core.specs.Replies.{IsDone}

-- a command that can be asked: its text has at most 1,048,576 bytes, and a search may be given its limits
abbrev pub IsCommand : Command → Type 0
IsCommand (ask.Plan text limits) = (length text ≤ TEXT_LIMIT) × IsLimits limits
IsCommand (ask.Check text) = length text ≤ TEXT_LIMIT
IsCommand (ask.Publish monday revision) = ⊤
IsCommand (ask.Show monday) = ⊤
IsCommand (ask.Export monday) = ⊤

-- a reply that changes nothing
abbrev pub Replies : Result (List ℕ) Refusal → Tables → Result (List ℕ) Refusal → Tables → Type 0
Replies said before reply after = (reply ≡ said) × (after ≡ before)

-- a draft is kept, and its report is the reply
abbrev pub Puts : DraftFields → Tables → Result (List ℕ) Refusal → Tables → Type 0
Puts draft before reply after = (reply ≡ Ok draft.report) × (after ≡ with_draft draft before)

-- a draft is put, and its report is the reply; or the tables stay
abbrev pub Drafts : Limits → List ℕ → Tables → Result (List ℕ) Refusal → Tables → Type 0
Drafts limits text before (Ok reply) after =
    (draft : DraftFields) × MakesDraft limits before (planned text before) (Ok draft) × (reply ≡ draft.report) × (after ≡ with_draft draft before)
Drafts limits text before (Err refusal) after = MakesDraft limits before (planned text before) (Err refusal) × (after ≡ before)

-- a draft is published, and the text of the publication is the reply; or the tables stay
abbrev pub Issues : Monday → ℕ → Tables → Result (List ℕ) Refusal → Tables → Type 0
Issues monday revision before (Ok reply) after =
    (draft : DraftFields) × Publishes monday revision before (Ok draft) × IsPublication monday (next_receipt before) reply × (after ≡ with_issue draft before)
Issues monday revision before (Err refusal) after = Publishes monday revision before (Err refusal) × (after ≡ before)

-- one step of the machine
abbrev pub Steps : Command → Tables → Result (List ℕ) Refusal → Tables → Type 0
Steps (ask.Plan text limits) before reply after = Drafts limits text before reply after
Steps (ask.Check text) before reply after = Replies (check_said text) before reply after
Steps (ask.Publish monday revision) before reply after = Issues monday revision before reply after
Steps (ask.Show monday) before reply after = Replies (shown monday before) before reply after
Steps (ask.Export monday) before reply after = Replies (exported monday before) before reply after

-- a reply to a command: a step of the machine; or the keeper failed or memory was wanted, and nothing changes
abbrev pub IsReply : Command → Option Tables → Reply → Option Tables → Type 0
IsReply command before (Done text) after = IsDone (Steps command) before (Ok text) after
IsReply command before (Refused refusal) after = IsDone (Steps command) before (Err refusal) after
IsReply command before KeeperFault after = after ≡ before
IsReply command before Memory after = after ≡ before

-- what a command came to, as the reply
abbrev pub reply_said : Result (List ℕ) Stop → Reply
reply_said (Ok text) = Done text
reply_said (Err (stop.Refused refusal)) = Refused refusal
reply_said (Err stop.Fault) = KeeperFault
reply_said (Err stop.Memory) = Memory

-- how many of the keeper's calls failed, after a command: it ends with the first that does
abbrev pub failed_after : ℕ → Reply → ℕ
failed_after faults (Done text) = faults
failed_after faults (Refused refusal) = faults
failed_after faults KeeperFault = counted_up faults
failed_after faults Memory = faults

-- the tables after a list of commands, with the reply to each: a step of the machine for each command
abbrev pub Plays : List Command → Tables → List (Result (List ℕ) Refusal) → Tables → Type 0
Plays [] before [] after = after ≡ before
Plays (command ∷ commands) before (reply ∷ replies) after =
    (between : Tables) × Steps command before reply between × Plays commands between replies after
Plays _ before _ after = ⊥

-- what the machine answers, as a reply
abbrev pub answered : Result (List ℕ) Refusal → Reply
answered (Ok text) = Done text
answered (Err refusal) = Refused refusal

-- the replies to a list of commands, one after another
abbrev pub Replied : List Command → Option Tables → List Reply → Option Tables → Type 0
Replied [] before [] after = after ≡ before
Replied (command ∷ commands) before (reply ∷ replies) after =
    (between : Option Tables) × IsReply command before reply between × Replied commands between replies after
Replied _ before _ after = ⊥

-- nothing more is played after a reply: the keeper failed, or memory was wanted
abbrev pub ends_play : Reply → Bool
ends_play (Done text) = false
ends_play (Refused refusal) = false
ends_play KeeperFault = true
ends_play Memory = true

-- the last reply is one after which nothing more is played
pub record EndsPlay (replies : List Reply) : Type 0 where
  pub before : List Reply
  pub last : Reply
  pub are : replies ≡ before ++ last ∷ []
  pub ends : ends_play last ≡ true
