-- The answer to a command, and to a request without one.
use Rattle.std.proofs.Common.{◌≡◌, refl, ℕ, List, Option, None, Some, Result, Ok, Err, IfOk, OnErr}
use Rattle.minute_line.specs.declared.many.Memory.{Memory}
use Rattle.desk_keeper.specs.Tables.{Tables}
use Rattle.desk_core.specs.declared.commands.Command.{Command}
use Rattle.desk_core.specs.declared.commands.Command.TheVariants as ask
use Rattle.desk_core.specs.declared.commands.Reply.{Reply}
use Rattle.desk_core.specs.declared.commands.Reply.TheVariants as reply
use Rattle.desk_core.specs.declared.refusals.Refusal.{Refusal}
use Rattle.desk_core.specs.Answering.{IsAnswer}
use Rattle.desk_core.specs.Machine.{IsReply, Steps}
use Rattle.desk_core.specs.Replies.{IsDone}
use Rattle.desk_http.specs.declared.answers.Answer.{Answer}
use Rattle.desk_http.specs.declared.early.Early.{Early}
use Rattle.desk_http.specs.Answers.{kind_of, early_line, HasBody}
use Rattle.desk_http.specs.Answering.{IsReplied, IsUnsaid, Answers}
use Rattle.desk_http.specs.Requests.{Asks}

-- a refused command changes nothing
refused_stays : (command : Command) (before after : Tables) (refusal : Refusal) → Steps command before (Err refusal) after → after ≡ before
refused_stays (ask.Plan text limits) before after refusal step = step.1
refused_stays (ask.Check text) before after refusal step = step.1
refused_stays (ask.Publish monday revision) before after refusal step = step.1
refused_stays (ask.Show monday) before after refusal step = step.1
refused_stays (ask.Export monday) before after refusal step = step.1

refusal_stays : (command : Command) (before after : Option Tables) (refusal : Refusal) → IsDone (Steps command) before (Err refusal) after → after ≡ before
refusal_stays command None after refusal done = done
refusal_stays command (Some before) after refusal (tables, is, step) = rw (is, refused_stays command before tables refusal step) refl

unsaid_stays : (command : Command) (before after : Option Tables) (said : Reply) → IsReply command before said after → IsUnsaid said → after ≡ before
unsaid_stays command before after (reply.Done text) done unsaid = absurd unsaid
unsaid_stays command before after (reply.Refused refusal) done unsaid = refusal_stays command before after refusal done
unsaid_stays command before after reply.KeeperFault done unsaid = absurd unsaid
unsaid_stays command before after reply.Memory done unsaid = done

pub answered : (request : List ℕ) (command : Command) (before after : Option Tables) (said : Reply) (result : Result Answer Memory)
    → ((asked : Result Command Early) × Asks request asked × (asked ≡ Ok command)) → IsReply command before said after
    → IsAnswer command said → IfOk result (IsReplied command said) → OnErr result (IsUnsaid said) → Answers request before result after
answered request command before after said (Ok answer) (asked, asks, is) done caused ok err = (asked, asks, rw is (said, done, caused, ok))
answered request command before after said (Err memory) asked done caused ok err = unsaid_stays command before after said done err

pub answered_early : (request : List ℕ) (early : Early) (before : Option Tables) (result : Result Answer Memory)
    → ((asked : Result Command Early) × Asks request asked × (asked ≡ Err early)) → IfOk result (HasBody (kind_of early) (early_line early))
    → Answers request before result before
answered_early request early before (Ok answer) (asked, asks, is) ok = (asked, asks, rw is (ok, refl))
answered_early request early before (Err memory) asked ok = refl
