-- What is found in the tables.
use Rattle.std.proofs.Common.{◌≡◌, ℤ, Bool, true, false, cond, arith, length, refl, ap, sym, ◌∙◌, List, [], ◌∷◌, map, Option, Some, None, IfSome, find, int_eq}
use Rattle.std.specs.List.{IsDistinct}
use Rattle.std.proofs.lemmas.Bool.Decides.{Decides-int_eq}
use Rattle.desk_keeper.specs.declared.records.DraftDriver.{DraftDriver}
use Rattle.desk_keeper.specs.Tables.{Tables, DraftFields, IssueFields, driver_fields, AreNamedOnce}
use Rattle.desk_keeper.specs.Entries.{draft_in, issue_in}
use Rattle.desk_keeper.specs.Changes.{IsStanding}

-- what a search by a test finds passes it
found_by : {X : Type 0} (p : X → Bool) (x y : X) (ys : List X) (b : Bool) → p y ≡ b → (find p ys ≡ Some x → p x ≡ true) → cond b (Some y) (find p ys) ≡ Some x → p x ≡ true
found_by p x y ys true passes later e = let same : y ≡ x = cc in rw (← same) passes
found_by p x y ys false passes later e = later e

pub found_passes : {X : Type 0} (p : X → Bool) (x : X) (xs : List X) → find p xs ≡ Some x → p x ≡ true
found_passes p x [] e = cc
found_passes p x (y ∷ ys) e = found_by p x y ys (p y) refl (found_passes p x ys) e

-- the draft of a week is of that week
pub draft_monday : (tables : Tables) (monday : ℤ) (draft : DraftFields) → draft_in tables monday ≡ Some draft → draft.monday ≡ monday
draft_monday tables monday draft e = (Decides-int_eq draft.monday monday).0 (found_passes (λ other. int_eq other.monday monday) draft tables.drafts e)

-- what a keeper tells of a week that is not published and of its draft lets that draft be published
pub may_publish : (told : Option Tables) (monday : ℤ) (draft : DraftFields) → IfSome told (λ t. None ≡ issue_in t monday) → IfSome told (λ t. Some draft ≡ draft_in t monday)
    → IfSome told (IsStanding draft)
may_publish None monday draft unpublished stands = unpublished
may_publish (Some t) monday draft unpublished stands =
    let same : draft.monday ≡ monday = draft_monday t monday draft (sym stands) in
    record { unpublished = ap (issue_in t) same ∙ sym unpublished; stands = ap (draft_in t) same ∙ sym stands }

-- the same, of a keeper that was asked for the issue and then for the draft
pub may_publish_now : (first then now : Option Tables) (monday : ℤ) (issue : Option IssueFields) (found : Option DraftFields) (draft : DraftFields) → then ≡ first → now ≡ then
    → issue ≡ None → found ≡ Some draft → IfSome first (λ t. issue ≡ issue_in t monday) → IfSome then (λ t. found ≡ draft_in t monday) → IfSome now (IsStanding draft)
may_publish_now first then now monday issue found draft same_then same_now none is unpublished stands =
    may_publish now monday draft
    (rw (same_now, same_then, ← none) unpublished)
    (rw (same_now, ← is) stands)

-- one driver is named once
pub one_named : (drivers : List DraftDriver) → length drivers ≡ 1 → AreNamedOnce (map driver_fields drivers)
unfolding IsDistinct
one_named [] e = absurd (omega arith)
one_named (driver ∷ []) e = (tt, tt)
one_named (driver ∷ other ∷ drivers) e = absurd (omega arith)
