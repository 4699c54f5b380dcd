-- Commands played one after another, and the machine's steps.
use Rattle.std.proofs.Common.{◌≡◌, ◌∙◌, ℕ, suc, ◌+◌, ◌<◌, ◌≤◌, true, false, inl, inr, ap, sym, subst, refl, List, [], ◌∷◌, ◌++◌, length, map, take, drop, get_or, Option, Some, None, IfSome, Result, Ok, Err}
use Rattle.std.proofs.lemmas.List.{length-append, map-append, take_all}
use Rattle.duty_plan.proofs.Lists.{split-at, take-more}
use Rattle.desk_keeper.specs.Tables.{Tables}
use Rattle.desk_core.specs.declared.commands.Command.{Command}
use Rattle.desk_core.specs.declared.commands.Reply.{Reply}
use Rattle.desk_core.specs.declared.commands.Reply.TheVariants.{Done, Refused, KeeperFault, Memory}
use Rattle.desk_core.specs.declared.refusals.Refusal.{Refusal}
use Rattle.desk_core.specs.Machine.{Plays, IsReply, Replied, answered, ends_play, failed_after}
use Rattle.desk_core.proofs.ReplyLists.{replied_more, replies_are_plays}
use Rattle.desk_laws.specs.Playing.{IsPlay, failed_after_all}

-- each of the replies is what the machine answers: no play ended
pub record AreSaid (replies : List Reply) : Type 0 where
  pub said : List (Result (List ℕ) Refusal)
  pub told : replies ≡ map answered said

answer_of : (reply : Reply) → ends_play reply ≡ false → (one : Result (List ℕ) Refusal) × (answered one ≡ reply)
answer_of (Done text) e = (Ok text, refl)
answer_of (Refused refusal) e = (Err refusal, refl)
answer_of KeeperFault e = cc e
answer_of Memory e = cc e

said_longer : (said : List (Result (List ℕ) Refusal)) (one : Result (List ℕ) Refusal) (reply : Reply) → answered one ≡ reply
    → map answered said ++ reply ∷ [] ≡ map answered (said ++ one ∷ [])
said_longer said one reply e = ap (λ (r : Reply). map answered said ++ r ∷ []) (sym e) ∙ sym (map-append answered said (one ∷ []))

-- one more reply, after which more is played
pub said_more : (replies more : List Reply) (reply : Reply) → more ≡ replies ++ reply ∷ [] → ends_play reply ≡ false → AreSaid replies → AreSaid more
said_more replies more reply pushed goes are =
    let one = answer_of reply goes in
    record {
      said = are.said ++ one.0 ∷ [];
      told = pushed ∙ (ap (λ (first : List Reply). first ++ reply ∷ []) are.told ∙ said_longer are.said one.0 reply one.1);
    }

-- how many replies there are after one more
pub one_longer : (replies more : List Reply) (reply : Reply) (i : ℕ) → more ≡ replies ++ reply ∷ [] → length replies ≡ i → length more ≡ i + 1
one_longer replies more reply i pushed e = ap length pushed ∙ (length-append replies (reply ∷ []) ∙ ap (λ n. n + 1) e)

-- one more command and its reply
pub replies_more : (commands : List Command) (i : ℕ) (command d : Command) (replies more : List Reply) (reply : Reply) (before between after : Option Tables)
    → i < length commands → command ≡ get_or commands i d → more ≡ replies ++ reply ∷ [] → Replied (take i commands) before replies between
    → IsReply command between reply after → Replied (take (i + 1) commands) before more after
replies_more commands i command d replies more reply before between after l e pushed h is =
    rw (pushed, take-more commands i command d l e) (replied_more (take i commands) command replies reply before between after h is)

counted_on : (faults : ℕ) (replies : List Reply) (reply : Reply) → failed_after_all faults (replies ++ reply ∷ []) ≡ failed_after (failed_after_all faults replies) reply
counted_on faults [] reply = refl
counted_on faults (first ∷ replies) reply = counted_on (failed_after faults first) replies reply

-- the keeper's failures after one more reply
pub counted_more : (first faults now : ℕ) (replies more : List Reply) (reply : Reply) → more ≡ replies ++ reply ∷ [] → faults ≡ failed_after_all first replies
    → now ≡ failed_after faults reply → now ≡ failed_after_all first more
counted_more first faults now replies more reply pushed e f = f ∙ rw (pushed, e) (sym (counted_on first replies reply))

-- a reply that ends the play leaves the tables
unchanged : (command : Command) (reply : Reply) (before after : Option Tables) → ends_play reply ≡ true → IsReply command before reply after → after ≡ before
unchanged command (Done text) before after e is = cc e
unchanged command (Refused refusal) before after e is = cc e
unchanged command KeeperFault before after e is = is
unchanged command Memory before after e is = is

plays_of : (commands : List Command) (before : Tables) (replies : List Reply) (after : Option Tables) (are : AreSaid replies) → Replied commands (Some before) replies after
    → (last : Tables) × (after ≡ Some last) × Plays commands before are.said last
plays_of commands before replies after are h =
    replies_are_plays commands before are.said after (subst (λ (told : List Reply). Replied commands (Some before) told after) are.told h)

-- as many replies as commands
pub all_replied : (commands : List Command) (i : ℕ) (replies : List Reply) (before after : Option Tables) → length commands ≤ i
    → Replied (take i commands) before replies after → Replied commands before replies after
all_replied commands i replies before after l h = subst (λ (asked : List Command). Replied asked before replies after) (take_all i commands l) h

-- all commands were played
pub play_all : (commands : List Command) (told after : Option Tables) (replies : List Reply) → AreSaid replies → Replied commands told replies after
    → IfSome told (λ before. IsPlay commands before replies after)
play_all commands None after replies are h = tt
play_all commands (Some before) after replies are h =
    let on = plays_of commands before replies after are h in
    inl (record { said = are.said; told = are.told; last = on.0; tables = on.1; plays = on.2 })

-- a command ended the play
pub play_up_to : (commands : List Command) (i : ℕ) (command d : Command) (replies more : List Reply) (reply : Reply) (told between after : Option Tables)
    → i < length commands → command ≡ get_or commands i d → more ≡ replies ++ reply ∷ [] → AreSaid replies → ends_play reply ≡ true
    → Replied (take i commands) told replies between → IsReply command between reply after → IfSome told (λ before. IsPlay commands before more after)
play_up_to commands i command d replies more reply None between after l e pushed are ends h is = tt
play_up_to commands i command d replies more reply (Some before) between after l e pushed are ends h is =
    let on = plays_of (take i commands) before replies between are h in
    inr (record {
      played = take i commands;
      stopped = command;
      left = drop (suc i) commands;
      asked = sym (split-at commands i command d l e);
      said = are.said;
      end = reply;
      told = pushed ∙ ap (λ (first : List Reply). first ++ reply ∷ []) are.told;
      ends = ends;
      last = on.0;
      tables = unchanged command reply between after ends is ∙ on.1;
      plays = on.2;
    })
