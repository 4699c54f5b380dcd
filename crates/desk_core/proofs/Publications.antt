-- A publication is a step of the machine.
use Rattle.std.proofs.Common.{◌≡◌, ◌∙◌, ℕ, ap, subst, refl, List, [], ◌∷◌, ◌++◌, append_assoc, codes, Option, Some, None, IfSome, option_map, Ok}
use Rattle.std.specs.Fmt.{decimal}
use Rattle.minute_line.specs.declared.dates.Monday.{Monday}
use Rattle.minute_line.specs.DateWriting.{IsDayText}
use Rattle.desk_keeper.specs.Tables.{Tables, DriverFields, DraftFields}
use Rattle.desk_keeper.specs.Entries.{draft_in, issue_in, next_receipt}
use Rattle.desk_keeper.specs.Changes.{with_issue}
use Rattle.desk_core.specs.Issuing.{draft_said, AreAsSeen, IsPublication}
use Rattle.desk_core.specs.Machine.{Issues}
use Rattle.desk_core.specs.Replies.{IsDone}

is_publication : (monday : Monday) (receipt : ℕ) (day begun text : List ℕ) → IsDayText monday.day day → begun ≡ codes "published " ++ (day ++ codes " receipt ")
    → text ≡ begun ++ (decimal receipt ++ 10 ∷ []) → IsPublication monday receipt text
is_publication monday receipt day begun text is begins ends = (day, is, ends ∙ (ap (λ b. b ++ (decimal receipt ++ 10 ∷ [])) begins ∙ simp append_assoc))

-- what holds of the tables still does, where they did not change
carried : (P : Tables → Type 0) (told now : Option Tables) → now ≡ told → IfSome now P → IfSome told P
carried P told now same holds = subst (λ (o : Option Tables). IfSome o P) same holds

pub is_issued : (told asked seen after : Option Tables) (monday : Monday) (revision receipt : ℕ) (draft : DraftFields) (drivers : List DriverFields) (begun text : List ℕ)
    → asked ≡ told → seen ≡ asked → after ≡ option_map (with_issue draft) seen
    → IfSome told (λ t. Ok draft ≡ draft_said monday revision (issue_in t monday.day) (draft_in t monday.day))
    → drivers ≡ draft.drivers → IfSome asked (λ t. AreAsSeen t drivers)
    → IfSome seen (λ t. receipt ≡ next_receipt t)
    → ((day : List ℕ) × IsDayText monday.day day × (begun ≡ codes "published " ++ (day ++ codes " receipt "))) → text ≡ begun ++ (decimal receipt ++ 10 ∷ [])
    → IsDone (Issues monday revision) told (Ok text) after
is_issued None asked seen after monday revision receipt draft drivers begun text same1 same2 then said are as_seen number begins ends = then ∙ ap (option_map (with_issue draft)) (same2 ∙ same1)
is_issued (Some t) asked seen after monday revision receipt draft drivers begun text same1 same2 then said are as_seen number begins ends =
    let here : AreAsSeen t draft.drivers = subst (AreAsSeen t) are (carried (λ t. AreAsSeen t drivers) (Some t) asked same1 as_seen) in
    let next : receipt ≡ next_receipt t = carried (λ t. receipt ≡ next_receipt t) (Some t) seen (same2 ∙ same1) number in (
      with_issue draft t,
      then ∙ ap (option_map (with_issue draft)) (same2 ∙ same1),
      (draft, rw (← said) (refl, here), rw (← next) (is_publication monday receipt begins.0 begun text begins.1 begins.2 ends), refl),
    )
