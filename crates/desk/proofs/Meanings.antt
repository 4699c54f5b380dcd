-- What a status means, status by status.
use Rattle.std.proofs.Common.{◌≡◌, ℕ, zero, suc, ◌⊎◌, inl, inr, refl, sym, ◌∙◌, subst, List, Option, arith}
use Rattle.desk_io.specs.Device.{counted_up, Takes}
use Rattle.desk_core.specs.declared.refusals.Refusal.{Refusal}
use Rattle.desk_core.specs.Causes.{HasCause}
use Rattle.desk_core.specs.Lines.{IsRefusalText}
use Rattle.desk_words.specs.declared.asks.Ask.{Ask}
use Rattle.desk.specs.Office.{Office}
use Rattle.desk.specs.Saying.{Said, status_of}
use Rattle.desk.specs.Running.{Tells}
use Rattle.desk.specs.Causes.{IsNoCommand, RefusesText, RefusesKept, IsRefusedFor, IsStatus}

-- a refusal of that status and of such a cause has this line
pub record IsRefusedBy (cause : Refusal → Type 0) (status : ℕ) (text : List ℕ) : Type 0 where
  pub refusal : Refusal
  pub is_status : status_of refusal ≡ status
  pub because : cause refusal
  pub named : HasCause refusal
  pub is_line : IsRefusalText refusal text

-- what a status means that is said with this text
abbrev pub Hints : Option Ask → Office → Office → List ℕ → ℕ → Type 0
Hints asked before after text zero = (after.source.faults ≡ before.source.faults) × (after.shelf.faults ≡ before.shelf.faults)
Hints asked before after text (suc (suc zero)) = IsNoCommand asked
Hints asked before after text (suc (suc (suc zero))) = IsRefusedBy (RefusesText asked before after) 3 text
Hints asked before after text (suc (suc (suc (suc zero)))) = IsRefusedBy (RefusesKept asked before after) 4 text
Hints asked before after text (suc (suc (suc (suc (suc zero))))) = after.source.faults ≡ counted_up before.source.faults
Hints asked before after text (suc (suc (suc (suc (suc (suc (suc zero))))))) =
    (after.shelf.faults ≡ counted_up before.shelf.faults) × (after.shelf.tables ≡ before.shelf.tables)
Hints asked before after text _ = ⊥

-- what a status means
abbrev pub Means : Option Ask → Office → Office → ℕ → Type 0
Means asked before after zero =
    (after.source.faults ≡ before.source.faults) × (after.sink.faults ≡ before.sink.faults) × (after.shelf.faults ≡ before.shelf.faults)
Means asked before after (suc (suc zero)) = IsNoCommand asked
Means asked before after (suc (suc (suc zero))) = IsRefusedFor (RefusesText asked before after) 3 before after
Means asked before after (suc (suc (suc (suc zero)))) = IsRefusedFor (RefusesKept asked before after) 4 before after
Means asked before after (suc (suc (suc (suc (suc zero))))) = after.source.faults ≡ counted_up before.source.faults
Means asked before after (suc (suc (suc (suc (suc (suc zero)))))) = after.sink.faults ≡ counted_up before.sink.faults
Means asked before after (suc (suc (suc (suc (suc (suc (suc zero))))))) =
    (after.shelf.faults ≡ counted_up before.shelf.faults) × (after.shelf.tables ≡ before.shelf.tables)
Means asked before after (suc (suc (suc (suc (suc (suc (suc (suc zero)))))))) = (after.sink ≡ before.sink) × (after.shelf ≡ before.shelf)
Means asked before after _ = ⊥

refused-for : (cause : Refusal → Type 0) (status : ℕ) (text : List ℕ) (before after : Office) → IsRefusedBy cause status text
    → Takes before.sink.bytes text after.sink.bytes → IsRefusedFor cause status before after
refused-for cause status text before after by takes = record {
  refusal = by.refusal;
  is_status = by.is_status;
  because = by.because;
  named = by.named;
  line = text;
  is_line = by.is_line;
  told = takes;
}

-- a text that the sink took
pub taken : (asked : Option Ask) (before after : Office) (text : List ℕ) (status : ℕ) → Hints asked before after text status
    → Takes before.sink.bytes text after.sink.bytes → after.sink.faults ≡ before.sink.faults → Means asked before after status
taken asked before after text zero h takes same = (h.0, same, h.1)
taken asked before after text (suc zero) h takes same = absurd h
taken asked before after text (suc (suc zero)) h takes same = h
taken asked before after text (suc (suc (suc zero))) h takes same = refused-for _ 3 text before after h takes
taken asked before after text (suc (suc (suc (suc zero)))) h takes same = refused-for _ 4 text before after h takes
taken asked before after text (suc (suc (suc (suc (suc zero))))) h takes same = h
taken asked before after text (suc (suc (suc (suc (suc (suc zero)))))) h takes same = absurd h
taken asked before after text (suc (suc (suc (suc (suc (suc (suc zero))))))) h takes same = h
taken asked before after text (suc (suc (suc (suc (suc (suc (suc (suc n)))))))) h takes same = absurd h

-- each status is one of those that mean something
pub is-status : (asked : Option Ask) (before after : Office) (status : ℕ) → Means asked before after status → IsStatus status
is-status asked before after zero h = (λ e. absurd (omega (arith, e)), omega arith)
is-status asked before after (suc zero) h = absurd h
is-status asked before after (suc (suc zero)) h = (λ e. absurd (omega (arith, e)), omega arith)
is-status asked before after (suc (suc (suc zero))) h = (λ e. absurd (omega (arith, e)), omega arith)
is-status asked before after (suc (suc (suc (suc zero)))) h = (λ e. absurd (omega (arith, e)), omega arith)
is-status asked before after (suc (suc (suc (suc (suc zero))))) h = (λ e. absurd (omega (arith, e)), omega arith)
is-status asked before after (suc (suc (suc (suc (suc (suc zero)))))) h = (λ e. absurd (omega (arith, e)), omega arith)
is-status asked before after (suc (suc (suc (suc (suc (suc (suc zero))))))) h = (λ e. absurd (omega (arith, e)), omega arith)
is-status asked before after (suc (suc (suc (suc (suc (suc (suc (suc zero)))))))) h = (λ e. absurd (omega (arith, e)), omega arith)
is-status asked before after (suc (suc (suc (suc (suc (suc (suc (suc (suc n))))))))) h = absurd h
