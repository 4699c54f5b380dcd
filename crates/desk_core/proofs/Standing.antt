-- What stands after a command, and after a list of commands.
use Rattle.std.proofs.Common.{◌≡◌, ◌∙◌, ℕ, ◌==◌, if◌then◌else◌, ℤ, Bool, true, false, ◌⊎◌, inl, inr, ap, sym, subst, refl, List, [], ◌∷◌, Option, Some, None, Result, Ok, Err, find, int_eq}
use Rattle.std.specs.Option.{option_or}
use Rattle.std.proofs.lemmas.List.Folds.{find-append}
use Rattle.std.proofs.lemmas.Bool.{eqb-true}
use Rattle.std.proofs.lemmas.Bool.Decides.{Decides-int_eq}
use Rattle.minute_line.specs.declared.dates.Monday.{Monday}
use Rattle.desk_keeper.specs.Tables.{Tables, DraftFields, IssueFields}
use Rattle.desk_keeper.specs.Entries.{draft_in, issue_in, next_receipt}
use Rattle.desk_keeper.specs.Changes.{issue_of, with_issue}
use Rattle.desk_keeper.proofs.Entries.{draft_monday}
use Rattle.desk_core.specs.declared.refusals.Refusal.{Refusal}
use Rattle.desk_core.specs.declared.refusals.Refusal.TheVariants as because
use Rattle.desk_core.specs.declared.commands.Command.{Command}
use Rattle.desk_core.specs.declared.commands.Command.TheVariants as ask
use Rattle.desk_core.specs.Issuing.{draft_said, AreAsSeen, PublishesDraft, IsPublication}
use Rattle.desk_core.specs.Machine.{Steps, Plays}
use Rattle.desk_core.specs.Playing.{IsPublished}

or_first : {X : Type 0} (o other : Option X) (x : X) → o ≡ Some x → option_or o other ≡ Some x
or_first o other x e = rw e refl

or_then : {X : Type 0} (o other : Option X) (x : X) → o ≡ None → other ≡ Some x → option_or o other ≡ Some x
or_then o other x e f = rw (e, f) refl

-- one more issue leaves those before it
issued_before : (t : Tables) (draft : DraftFields) (day : ℤ) (issue : IssueFields) → issue_in t day ≡ Some issue → issue_in (with_issue draft t) day ≡ Some issue
issued_before t draft day issue e =
    let p = λ (other : IssueFields). int_eq other.monday day in
    find-append p t.issues (issue_of (next_receipt t) draft ∷ []) ∙ or_first (find p t.issues) (find p (issue_of (next_receipt t) draft ∷ [])) issue e

found_alone : (issue : IssueFields) (day : ℤ) → issue.monday ≡ day → find (λ (other : IssueFields). int_eq other.monday day) (issue ∷ []) ≡ Some issue
found_alone issue day e =
    let passes : int_eq issue.monday day ≡ true = (Decides-int_eq issue.monday day).1 e in
    rw passes refl

-- the new issue is that of its week
pub issued_now : (t : Tables) (draft : DraftFields) (day : ℤ) → draft.monday ≡ day → issue_in t day ≡ None
    → issue_in (with_issue draft t) day ≡ Some (issue_of (next_receipt t) draft)
issued_now t draft day same none =
    let p = λ (other : IssueFields). int_eq other.monday day in
    let new = issue_of (next_receipt t) draft in
    find-append p t.issues (new ∷ []) ∙ or_then (find p t.issues) (find p (new ∷ [])) new none (found_alone new day same)

-- the draft that is published stands, of a week that is not published
pub record Stood (monday : Monday) (revision : ℕ) (t : Tables) (draft : DraftFields) : Type 0 where
  pub unpublished : issue_in t monday.day ≡ None
  pub stands : draft_in t monday.day ≡ Some draft
  pub at : draft.revision ≡ revision
  pub seen : AreAsSeen t draft.drivers

-- by what the tables hold of the week, and whether the revision is the named one
stood_at : (monday : Monday) (revision : ℕ) (t : Tables) (draft other : DraftFields) (b : Bool) → issue_in t monday.day ≡ None → draft_in t monday.day ≡ Some other
    → (other.revision == revision) ≡ b → PublishesDraft t (if b then Ok other else Err (because.Stale revision other.revision)) (Ok draft) → Stood monday revision t draft
stood_at monday revision t draft other true e f is h = record {
  unpublished = e;
  stands = f ∙ ap Some (sym h.0);
  at = ap (λ d. d.revision) h.0 ∙ eqb-true other.revision revision is;
  seen = subst (λ (d : DraftFields). AreAsSeen t d.drivers) (sym h.0) h.1;
}
stood_at monday revision t draft other false e f is h = cc h

stood_by : (monday : Monday) (revision : ℕ) (t : Tables) (draft : DraftFields) (issue : Option IssueFields) (found : Option DraftFields)
    → issue_in t monday.day ≡ issue → draft_in t monday.day ≡ found → PublishesDraft t (draft_said monday revision issue found) (Ok draft) → Stood monday revision t draft
stood_by monday revision t draft (Some issue) found e f h = cc h
stood_by monday revision t draft None None e f h = cc h
stood_by monday revision t draft None (Some other) e f h = stood_at monday revision t draft other (other.revision == revision) e f refl h

pub stood : (monday : Monday) (revision : ℕ) (t : Tables) (draft : DraftFields)
    → PublishesDraft t (draft_said monday revision (issue_in t monday.day) (draft_in t monday.day)) (Ok draft) → Stood monday revision t draft
stood monday revision t draft h = stood_by monday revision t draft (issue_in t monday.day) (draft_in t monday.day) refl refl h

-- an issue stands after one command
stands_after : (command : Command) (reply : Result (List ℕ) Refusal) (before after : Tables) (day : ℤ) (issue : IssueFields) → Steps command before reply after
    → issue_in before day ≡ Some issue → issue_in after day ≡ Some issue
stands_after (ask.Plan text limits) (Ok told) before after day issue h e = rw h.3 e
stands_after (ask.Plan text limits) (Err refusal) before after day issue h e = rw h.1 e
stands_after (ask.Check text) reply before after day issue h e = rw h.1 e
stands_after (ask.Publish monday revision) (Ok told) before after day issue h e = rw h.3 (issued_before before h.0 day issue e)
stands_after (ask.Publish monday revision) (Err refusal) before after day issue h e = rw h.1 e
stands_after (ask.Show monday) reply before after day issue h e = rw h.1 e
stands_after (ask.Export monday) reply before after day issue h e = rw h.1 e

pub issues_stand : (commands : List Command) (replies : List (Result (List ℕ) Refusal)) (before after : Tables) (day : ℤ) (issue : IssueFields)
    → Plays commands before replies after → issue_in before day ≡ Some issue → issue_in after day ≡ Some issue
issues_stand [] [] before after day issue h e = rw h e
issues_stand [] (reply ∷ replies) before after day issue h e = absurd h
issues_stand (command ∷ commands) [] before after day issue h e = absurd h
issues_stand (command ∷ commands) (reply ∷ replies) before after day issue h e =
    issues_stand commands replies h.0 after day issue h.2 (stands_after command reply before h.0 day issue h.1 e)

refused_same : (t : Tables) (refusal other : Refusal) → PublishesDraft t (Err other) (Err refusal) → refusal ≡ other
refused_same t refusal other h = cc h

-- a week that is published is refused with its receipt
published_refused : (monday : Monday) (revision : ℕ) (t after : Tables) (issue : IssueFields) (reply : Result (List ℕ) Refusal) → issue_in t monday.day ≡ Some issue
    → Steps (ask.Publish monday revision) t reply after → (reply ≡ Err (because.Published monday issue.receipt)) × (after ≡ t)
published_refused monday revision t after issue (Ok told) e h =
    let found = stood monday revision t h.0 h.1 in
    let none : Some issue ≡ None = sym e ∙ found.unpublished in
    cc none
published_refused monday revision t after issue (Err refusal) e h =
    let said = subst (λ (o : Option IssueFields). PublishesDraft t (draft_said monday revision o (draft_in t monday.day)) (Err refusal)) e h.0 in
    (ap (λ (why : Refusal). Err why) (refused_same t refusal (because.Published monday issue.receipt) said), h.1)

pub published_once : (monday : Monday) (revision other : ℕ) (told : List ℕ) (before published later after : Tables) (commands : List Command)
    (replies : List (Result (List ℕ) Refusal)) (reply : Result (List ℕ) Refusal)
    → Steps (ask.Publish monday revision) before (Ok told) published → Plays commands published replies later → Steps (ask.Publish monday other) later reply after
    → IsPublication monday (next_receipt before) told × (reply ≡ Err (because.Published monday (next_receipt before))) × (after ≡ later)
published_once monday revision other told before published later after commands replies reply first between again =
    let draft = first.0 in
    let found = stood monday revision before draft first.1 in
    let new = issue_of (next_receipt before) draft in
    let issued : issue_in published monday.day ≡ Some new =
    rw first.3 (issued_now before draft monday.day (draft_monday before monday.day draft found.stands) found.unpublished) in
    let stands = issues_stand commands replies published later monday.day new between issued in
    let refused = published_refused monday other later after new reply stands again in
    (first.2, refused.0, refused.1)

-- what is kept of drivers
pub histories_stand : (command : Command) (reply : Result (List ℕ) Refusal) (before after : Tables) → Steps command before reply after
    → (after.histories ≡ before.histories) ⊎ IsPublished command reply
histories_stand (ask.Plan text limits) (Ok told) before after h = inl (ap (λ t. t.histories) h.3)
histories_stand (ask.Plan text limits) (Err refusal) before after h = inl (ap (λ t. t.histories) h.1)
histories_stand (ask.Check text) reply before after h = inl (ap (λ t. t.histories) h.1)
histories_stand (ask.Publish monday revision) (Ok told) before after h =
    inr (record { monday = monday; revision = revision; asked = refl; told = told; done = refl })
histories_stand (ask.Publish monday revision) (Err refusal) before after h = inl (ap (λ t. t.histories) h.1)
histories_stand (ask.Show monday) reply before after h = inl (ap (λ t. t.histories) h.1)
histories_stand (ask.Export monday) reply before after h = inl (ap (λ t. t.histories) h.1)
