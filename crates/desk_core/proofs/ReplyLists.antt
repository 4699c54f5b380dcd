-- The replies to a list of commands, and the machine's steps.
use Rattle.std.proofs.Common.{◌≡◌, subst, refl, ℕ, List, [], ◌∷◌, ◌++◌, map, Option, Some, Result, Ok, Err}
use Rattle.desk_keeper.specs.Tables.{Tables}
use Rattle.desk_core.specs.declared.commands.Command.{Command}
use Rattle.desk_core.specs.declared.commands.Reply.{Reply}
use Rattle.desk_core.specs.declared.refusals.Refusal.{Refusal}
use Rattle.desk_core.specs.Machine.{IsReply, Replied, Plays, answered}

-- one more command and its reply
pub replied_more : (commands : List Command) (command : Command) (replies : List Reply) (reply : Reply) (before between after : Option Tables)
    → Replied commands before replies between → IsReply command between reply after → Replied (commands ++ command ∷ []) before (replies ++ reply ∷ []) after
replied_more [] command [] reply before between after h is = (after, subst (λ (o : Option Tables). IsReply command o reply after) h is, refl)
replied_more [] command (other ∷ replies) reply before between after h is = absurd h
replied_more (first ∷ commands) command [] reply before between after h is = absurd h
replied_more (first ∷ commands) command (other ∷ replies) reply before between after h is =
    (h.0, h.1, replied_more commands command replies reply h.0 between after h.2 is)

-- replies that are done or refused are steps of the machine
plays_on : (command : Command) (commands : List Command) (said : Result (List ℕ) Refusal) (more : List (Result (List ℕ) Refusal)) (before : Tables) (between after : Option Tables)
    → IsReply command (Some before) (answered said) between → ((t : Tables) → between ≡ Some t → (last : Tables) × (after ≡ Some last) × Plays commands t more last)
    → (last : Tables) × (after ≡ Some last) × Plays (command ∷ commands) before (said ∷ more) last
plays_on command commands (Ok told) more before between after is rest = let on = rest is.0 is.1 in (on.0, on.1, (is.0, is.2, on.2))
plays_on command commands (Err refusal) more before between after is rest = let on = rest is.0 is.1 in (on.0, on.1, (is.0, is.2, on.2))

pub replies_are_plays : (commands : List Command) (before : Tables) (said : List (Result (List ℕ) Refusal)) (after : Option Tables)
    → Replied commands (Some before) (map answered said) after → (last : Tables) × (after ≡ Some last) × Plays commands before said last
replies_are_plays [] before [] after h = (before, h, refl)
replies_are_plays [] before (one ∷ said) after h = absurd h
replies_are_plays (command ∷ commands) before [] after h = absurd h
replies_are_plays (command ∷ commands) before (one ∷ said) after h =
    plays_on command commands one said before h.0 after h.1
    (λ t e. replies_are_plays commands t said after (subst (λ (o : Option Tables). Replied commands o (map answered said) after) e h.2))
