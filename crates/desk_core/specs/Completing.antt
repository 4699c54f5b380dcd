-- When nothing refuses a command, over tables that are told.
use Rattle.std.specs.Prelude.{◌≡◌, ⊤, ◌⊎◌, ℕ, ◌<◌, ◌≤ℤ◌, List, Option, Some, None, IsSome, slice_get, Ok, IsOk}
use Rattle.minute_line.specs.declared.dates.Monday.{Monday}
use Rattle.minute_line.specs.Histories.{Fields}
use Rattle.week_book.specs.declared.weeks.Driver.{Driver}
use Rattle.desk_keeper.specs.declared.records.TheConstants.{DRAFT_LIMIT}
use Rattle.desk_keeper.specs.Tables.{Tables, KeptFields, DraftFields}
use Rattle.desk_keeper.specs.Entries.{history_in, draft_in, issue_in, revision_in}
use Rattle.desk_core.specs.declared.commands.Command.{Command}
use Rattle.desk_core.specs.declared.commands.Command.TheVariants as ask
use Rattle.desk_core.specs.declared.commands.Reply.{Reply}
use Rattle.desk_core.specs.declared.commands.Reply.TheVariants.{Done, Refused, KeeperFault, Memory}
use Rattle.desk_core.specs.Checking.{check_said}
use Rattle.desk_core.specs.Drafting.{WeekText, text_said}
use Rattle.desk_core.specs.Issuing.{AreAsSeen}
use Rattle.desk_core.specs.Machine.{IsReply}

-- a driver has just one history: the text's, or a kept one that leads up to no later Monday
abbrev pub HasOneHistory : Monday → Option Fields → Option KeptFields → Type 0
HasOneHistory monday (Some past) None = ⊤
HasOneHistory monday (Some past) (Some kept) = ⊥
HasOneHistory monday None (Some kept) = kept.monday ≤ℤ monday.day
HasOneHistory monday None None = ⊥

-- a week text may be planned: it is accepted, its week is not published and has fewer drafts than there may be, and each of its
-- drivers has just one history
pub record MayBePlanned (text : List ℕ) (tables : Tables) : Type 0 where
  pub read : WeekText
  pub accepted : text_said text ≡ Ok read
  pub unpublished : issue_in tables read.week.monday.day ≡ None
  pub drafts : revision_in tables read.week.monday.day < DRAFT_LIMIT
  pub histories : (k : ℕ) (driver : Driver) (past : Option Fields) → slice_get read.week.drivers k ≡ Some driver → slice_get read.past k ≡ Some past
      → HasOneHistory read.week.monday past (history_in tables driver.name)

-- a week may be published at a revision: it is not published, its draft is of that revision, and what is kept of the draft's drivers
-- is what was kept as it was made
pub record MayBePublished (monday : Monday) (revision : ℕ) (tables : Tables) : Type 0 where
  pub unpublished : issue_in tables monday.day ≡ None
  pub draft : DraftFields
  pub stands : draft_in tables monday.day ≡ Some draft
  pub at : draft.revision ≡ revision
  pub seen : AreAsSeen tables draft.drivers

-- a week has an issue or a draft
abbrev pub HasPlan : Monday → Tables → Type 0
HasPlan monday tables = IsSome (issue_in tables monday.day) ⊎ IsSome (draft_in tables monday.day)

-- nothing refuses a command
abbrev pub MayBeDone : Command → Tables → Type 0
MayBeDone (ask.Plan text limits) tables = MayBePlanned text tables
MayBeDone (ask.Check text) tables = IsOk (check_said text)
MayBeDone (ask.Publish monday revision) tables = MayBePublished monday revision tables
MayBeDone (ask.Show monday) tables = HasPlan monday tables
MayBeDone (ask.Export monday) tables = HasPlan monday tables

-- a reply that refuses nothing
abbrev pub IsNoRefusal : Reply → Type 0
IsNoRefusal (Done told) = ⊤
IsNoRefusal (Refused refusal) = ⊥
IsNoRefusal KeeperFault = ⊤
IsNoRefusal Memory = ⊤

-- what nothing refuses is done, unless the keeper fails or memory is wanted
abbrev pub WhatMayBeIsDone : Type 0
WhatMayBeIsDone = (command : Command) (before : Tables) (reply : Reply) (after : Option Tables) → MayBeDone command before
    → IsReply command (Some before) reply after → IsNoRefusal reply
