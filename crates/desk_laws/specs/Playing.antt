-- What a list of commands comes to, played over one keeper.
use Rattle.std.specs.Prelude.{◌≡◌, ℕ, true, ◌⊎◌, Option, Some, Result, List, [], ◌∷◌, ◌++◌, map}
use Rattle.desk_keeper.specs.Tables.{Tables}
use Rattle.desk_core.specs.declared.commands.Command.{Command}
use Rattle.desk_core.specs.declared.commands.Reply.{Reply}
use Rattle.desk_core.specs.declared.refusals.Refusal.{Refusal}
use Rattle.desk_core.specs.Machine.{Plays, answered, ends_play, failed_after}

-- each command was done or refused: the replies are the machine's, and so are the tables after them
pub record PlaysAll (commands : List Command) (before : Tables) (replies : List Reply) (after : Option Tables) : Type 0 where
  pub said : List (Result (List ℕ) Refusal)
  pub told : replies ≡ map answered said
  pub last : Tables
  pub tables : after ≡ Some last
  pub plays : Plays commands before said last

-- a command ended the play, for which the keeper failed or memory was wanted: its reply is the last and it changes nothing, and what
-- came before it is the machine's
pub record PlaysUpTo (commands : List Command) (before : Tables) (replies : List Reply) (after : Option Tables) : Type 0 where
  pub played : List Command
  pub stopped : Command
  pub left : List Command
  pub asked : commands ≡ played ++ stopped ∷ left
  pub said : List (Result (List ℕ) Refusal)
  pub end : Reply
  pub told : replies ≡ map answered said ++ end ∷ []
  pub ends : ends_play end ≡ true
  pub last : Tables
  pub tables : after ≡ Some last
  pub plays : Plays played before said last

-- what a list of commands comes to over tables that are told
abbrev pub IsPlay : List Command → Tables → List Reply → Option Tables → Type 0
IsPlay commands before replies after = PlaysAll commands before replies after ⊎ PlaysUpTo commands before replies after

-- how many of the keeper's calls failed, after these replies
abbrev pub failed_after_all : ℕ → List Reply → ℕ
failed_after_all faults [] = faults
failed_after_all faults (reply ∷ replies) = failed_after_all (failed_after faults reply) replies
