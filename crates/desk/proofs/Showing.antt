-- What a status says of a run.
use Rattle.std.proofs.Common.{◌≡◌, ℕ, ◌⊎◌, inl, inr, refl, sym, ◌∙◌, ap, subst, Option, Some, None}
use Rattle.desk_words.specs.declared.asks.Ask.{Ask}
use Rattle.desk_words.specs.declared.asks.Ask.TheVariants.{Plan, Check, Publish, Show, Export, Make, Serve}
use Rattle.desk.specs.Office.{Device, Office}
use Rattle.desk.specs.Saying.{Said}
use Rattle.desk.specs.Running.{HasReadFor, Runs}
use Rattle.desk.specs.Causes.{IsNoCommand, Reads, AsksKeeper, Shows}
use Rattle.desk.proofs.Meanings.{Hints, Means, taken, is-status}
use Rattle.desk.proofs.Hinting.{hinted, no-command, unread, unasked}
use Rattle.desk.proofs.Succeeds.{planned, made, checked}

-- what a status says, from what it means
from-means : (asked : Option Ask) (before after : Office) (status : ℕ) → Runs asked before after status → Means asked before after status
    → (IsNoCommand asked → (status ≡ 2) ⊎ ((status ≡ 6) ⊎ (status ≡ 8))) → (¬ Reads asked → after.source ≡ before.source)
    → (¬ AsksKeeper asked → after.shelf ≡ before.shelf) → Shows asked before after status
from-means asked before after status run means usage source shelf = record {
  statuses = is-status asked before after status means;
  planned = λ zero limits is. planned asked limits before after status run zero is;
  made = λ zero seed limits is. made asked seed limits before after status run zero is;
  checked = λ zero is. checked asked before after status run zero is;
  no_fault = λ e. subst (Means asked before after) e means;
  usage_only = λ e. subst (Means asked before after) e means;
  usage = usage;
  refused = λ e. subst (Means asked before after) e means;
  missing = λ e. subst (Means asked before after) e means;
  read_cause = λ e. subst (Means asked before after) e means;
  sink_cause = λ e. subst (Means asked before after) e means;
  keeper_cause = λ e. subst (Means asked before after) e means;
  wants = λ e. subst (Means asked before after) e means;
  source_stays = source;
  keeper_stays = shelf;
}

-- want of memory leaves a source alone that is not read
unread-then : (asked : Option Ask) (before after : Device) → HasReadFor asked before after → ¬ Reads asked → after ≡ before
unread-then None before after read not = read
unread-then (Some (Serve port count)) before after read not = read
unread-then (Some (Plan limits)) before after read not = absurd (not tt)
unread-then (Some Check) before after read not = absurd (not tt)
unread-then (Some (Publish monday revision)) before after read not = read
unread-then (Some (Show monday)) before after read not = read
unread-then (Some (Export monday)) before after read not = read
unread-then (Some (Make seed limits)) before after read not = read

pub shows : (asked : Option Ask) (before after : Office) (status : ℕ) → Runs asked before after status → Shows asked before after status
shows asked before after status (inl (said, says, inl tells)) =
    from-means asked before after status (inl (said, says, inl tells))
    (subst (Means asked before after) (sym tells.0) (taken asked before after said.text said.status (hinted asked before after said says) tells.1 tells.2))
    (λ is. inl (tells.0 ∙ no-command asked before after said says is)) (unread asked before after said says) (unasked asked before after said says)
shows asked before after status (inl (said, says, inr fails)) =
    from-means asked before after status (inl (said, says, inr fails)) (subst (Means asked before after) (sym fails.0) fails.1)
    (λ is. inr (inl fails.0)) (unread asked before after said says) (unasked asked before after said says)
shows asked before after status (inr (wants, rest)) =
    from-means asked before after status (inr (wants, rest)) (subst (Means asked before after) (sym wants.0) (wants.1, rest.0))
    (λ is. inr (inr wants.0)) (unread-then asked before.source after.source rest.1) (λ _. rest.0)
