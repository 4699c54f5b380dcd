-- Each draft is that of a planned week, and its publication moves the week's drivers on.
use Rattle.std.proofs.Common.{◌≡◌, ◌≢◌, ◌∙◌, ℕ, zero, suc, ◌<◌, ℤ, Bool, true, false, cond, not, int_eq, ap, sym, subst, refl, arith, List, [], ◌∷◌, map, length, Option, Some, IfSome, Result, Ok, Err, pos, ◌+ℤ◌}
use Rattle.std.specs.Prelude.{slice_get, All}
use Rattle.std.specs.List.{IsDistinct}
use Rattle.std.specs.Str.{bytes_eq}
use Rattle.std.proofs.lemmas.List.Elements.{All-nil, All-cons, All-head, All-tail, All-filter}
use Rattle.std.proofs.lemmas.List.{length-map}
use Rattle.std.proofs.lemmas.Slice.Eq.{bytes_eq-Decides}
use Rattle.minute_line.specs.declared.dates.Monday.{Monday}
use Rattle.minute_line.specs.declared.lines.History.{History}
use Rattle.minute_line.specs.Histories.{Fields, fields_of}
use Rattle.week_book.specs.declared.weeks.Driver.{Driver}
use Rattle.driver_history.specs.Advancing.{advance_of}
use Rattle.duty_plan.specs.declared.plans.Case.{Case}
use Rattle.duty_plan.specs.declared.outcomes.Limits.{Limits}
use Rattle.duty_plan.specs.declared.outcomes.Outcome.{Outcome}
use Rattle.duty_plan.specs.Duties.{IsCase, IsLawfulPlan, partial_of}
use Rattle.duty_plan.specs.Stints.{stints_of}
use Rattle.duty_plan.proofs.WeekLimits.{all-find}
use Rattle.desk_report.specs.Reports.{IsReportOf}
use Rattle.desk_keeper.specs.Tables.{Tables, KeptFields, DriverFields, DraftFields, AreNamedOnce}
use Rattle.desk_keeper.specs.Entries.{history_in}
use Rattle.desk_keeper.specs.Changes.{put}
use Rattle.desk_keeper.specs.Laws.{is_named, MovesItsDrivers}
use Rattle.desk_keeper.proofs.Entries.{draft_monday}
use Rattle.desk_keeper.proofs.Publications.{publication_moves_its_drivers}
use Rattle.desk_core.specs.declared.refusals.Refusal.{Refusal}
use Rattle.desk_core.specs.declared.commands.Command.{Command}
use Rattle.desk_core.specs.declared.commands.Command.TheVariants as ask
use Rattle.desk_core.specs.Drafting.{Planned, planned, kept_now, IsDraftAfter, IsDraftOf, MakesDraft}
use Rattle.desk_core.specs.Machine.{Steps, Plays}
use Rattle.desk_core.proofs.Standing.{stood, issued_now}
use Rattle.desk_laws.specs.Moving.{IsMovedOn, MovesOn, HistoriesMove}

-- a draft of a lawful plan
record IsPlannedDraft (draft : DraftFields) : Type 0 where
  pub case : Case
  pub valid : IsCase case
  pub outcome : Outcome
  pub lawful : IsLawfulPlan case outcome.plan
  pub seen : List (Option KeptFields)
  pub each : length seen ≡ length case.week.drivers
  pub made : IsDraftAfter case outcome seen draft.revision draft

-- so is each draft of the tables
abbrev ArePlanned : Tables → Type 0
ArePlanned t = All IsPlannedDraft t.drafts

-- a draft that is put among others
put_at : {X : Type 0} (P : X → Type 0) (x y : X) (ys more : List X) (b : Bool) → P x → P y → All P ys → All P more → All P (cond b (x ∷ ys) (y ∷ more))
put_at P x y ys more true one other all rest = All-cons P x ys one all
put_at P x y ys more false one other all rest = All-cons P y more other rest

all_put : {X : Type 0} (P : X → Type 0) (passes : X → Bool) (x : X) (xs : List X) → P x → All P xs → All P (put passes x xs)
all_put P passes x [] one all = All-cons P x [] one (All-nil P)
all_put P passes x (y ∷ ys) one all =
    let rest = All-tail P y ys all in
    put_at P x y ys (put passes x ys) (passes y) one (All-head P y ys all) rest (all_put P passes x ys one rest)

-- the draft of what is planned
is_planned : (limits : Limits) (t : Tables) (of : Planned) (draft : DraftFields) → IsDraftOf limits t of draft → IsPlannedDraft draft
is_planned limits t of draft is = record {
  case = is.case;
  valid = is.valid;
  outcome = is.outcome;
  lawful = is.right.plan.lawful;
  seen = kept_now t is.case.week.drivers;
  each = length-map is.case.week.drivers (λ driver. history_in t driver.name);
  made = subst (λ n. IsDraftAfter is.case is.outcome (kept_now t is.case.week.drivers) n draft) (sym is.made.revision) is.made;
}

made_planned : (limits : Limits) (t : Tables) (said : Result Planned Refusal) (draft : DraftFields) → MakesDraft limits t said (Ok draft) → IsPlannedDraft draft
made_planned limits t (Ok of) draft is = is_planned limits t of draft is
made_planned limits t (Err refusal) draft is = cc is

-- drafts of lawful plans stay so after one command
planned_after : (command : Command) (reply : Result (List ℕ) Refusal) (before after : Tables) → Steps command before reply after → ArePlanned before → ArePlanned after
planned_after (ask.Plan text limits) (Ok told) before after h all =
    rw h.3 (all_put IsPlannedDraft (λ other. int_eq other.monday h.0.monday) h.0 before.drafts (made_planned limits before (planned text before) h.0 h.1) all)
planned_after (ask.Plan text limits) (Err refusal) before after h all = rw h.1 all
planned_after (ask.Check text) reply before after h all = rw h.1 all
planned_after (ask.Publish monday revision) (Ok told) before after h all =
    rw h.3 (All-filter (λ (draft : DraftFields). not (int_eq draft.monday h.0.monday)) IsPlannedDraft before.drafts all)
planned_after (ask.Publish monday revision) (Err refusal) before after h all = rw h.1 all
planned_after (ask.Show monday) reply before after h all = rw h.1 all
planned_after (ask.Export monday) reply before after h all = rw h.1 all

all_planned : (commands : List Command) (replies : List (Result (List ℕ) Refusal)) (before after : Tables) → Plays commands before replies after → ArePlanned before → ArePlanned after
all_planned [] [] before after h all = rw h all
all_planned [] (reply ∷ replies) before after h all = absurd h
all_planned (command ∷ commands) [] before after h all = absurd h
all_planned (command ∷ commands) (reply ∷ replies) before after h all =
    all_planned commands replies h.0 after h.2 (planned_after command reply before h.0 h.1 all)

-- an element at a place that is in the list, and the other way round
there_is : {X : Type 0} (xs : List X) (k : ℕ) → k < length xs → (x : X) × (slice_get xs k ≡ Some x)
there_is [] k l = absurd (omega arith)
there_is (x ∷ xs) zero l = (x, refl)
there_is (x ∷ xs) (suc k) l = there_is xs k (omega arith)

inside : {X : Type 0} (xs : List X) (k : ℕ) (x : X) → slice_get xs k ≡ Some x → k < length xs
inside [] k x e = cc e
inside (y ∷ ys) zero x e = omega arith
inside (y ∷ ys) (suc k) x e = omega (arith, inside ys k x e)

mapped : {X Y : Type 0} (f : X → Y) (xs : List X) (k : ℕ) (x : X) → slice_get xs k ≡ Some x → slice_get (map f xs) k ≡ Some (f x)
mapped f [] k x e = cc e
mapped f (y ∷ ys) zero x e = cc
mapped f (y ∷ ys) (suc k) x e = mapped f ys k x e

unmapped : {X Y : Type 0} (f : X → Y) (xs : List X) (k : ℕ) (y : Y) → slice_get (map f xs) k ≡ Some y → (x : X) × (slice_get xs k ≡ Some x) × (f x ≡ y)
unmapped f [] k y e = cc e
unmapped f (x ∷ xs) zero y e = (x, refl, cc)
unmapped f (x ∷ xs) (suc k) y e = unmapped f xs k y e

-- the same is kept where Monday and history are the same
same_kept : (one other : ℤ) (past next : Fields) → one ≡ other → past ≡ next
    → ◌≡◌ {A = Option KeptFields} (Some (record { monday = one +ℤ pos 7; past = past })) (Some (record { monday = other +ℤ pos 7; past = next }))
same_kept one other past next e f = rw (e, f) refl

-- a driver of a published draft is moved on
moved_on : (case : Case) (outcome : Outcome) (seen : List (Option KeptFields)) (draft : DraftFields) (before after : Tables) → IsCase case → IsLawfulPlan case outcome.plan
    → IsDraftAfter case outcome seen draft.revision draft → length seen ≡ length case.week.drivers → MovesItsDrivers draft before after
    → (k : ℕ) (driver : Driver) → slice_get case.week.drivers k ≡ Some driver → IsMovedOn case outcome after k driver
moved_on case outcome seen draft before after valid lawful made each moves k driver a =
    let l = inside case.week.drivers k driver a in
    let history = there_is case.past k (omega (arith, l, valid.drivers)) in
    let duty = there_is outcome.plan.duties k (omega (arith, l, lawful.duties)) in
    let fields = there_is draft.drivers k (omega (arith, l, made.drivers.each)) in
    let was = there_is seen k (omega (arith, l, each)) in
    let its = made.drivers.theirs k driver duty.0 was.0 fields.0 a duty.1 was.1 fields.1 in
    let next : fields.0.next ≡ advance_of (fields_of history.0) (stints_of case.week (partial_of duty.0)) =
    subst (λ (o : Option History). IfSome o (λ past. fields.0.next ≡ advance_of (fields_of past) (stints_of case.week (partial_of duty.0)))) history.1 its.next in
    record {
      history = history.0;
      had = history.1;
      duty = duty.0;
      does = duty.1;
      kept = ap (history_in after) (sym its.named) ∙ (moves.theirs k fields.0 fields.1
          ∙ same_kept draft.monday case.week.monday.day fields.0.next (advance_of (fields_of history.0) (stints_of case.week (partial_of duty.0))) made.monday next);
    }

differs_by : (b : Bool) (one other : List ℕ) → one ≢ other → bytes_eq one other ≡ b → bytes_eq one other ≡ false
differs_by true one other apart e = absurd (apart ((bytes_eq-Decides one other).0 e))
differs_by false one other apart e = e

differs : (one other : List ℕ) → one ≢ other → bytes_eq one other ≡ false
differs one other apart = differs_by (bytes_eq one other) one other apart refl

not_named : (drivers : List DriverFields) (name : List ℕ) → ((k : ℕ) (fields : DriverFields) → slice_get drivers k ≡ Some fields → fields.name ≢ name) → is_named drivers name ≡ false
not_named [] name none = refl
not_named (fields ∷ drivers) name none =
    let first : bytes_eq fields.name name ≡ false = differs fields.name name (none 0 fields refl) in
    rw first (not_named drivers name (λ k other there. none (suc k) other there))

-- no other driver is
stays : (case : Case) (draft : DraftFields) (before after : Tables) → map (λ (fields : DriverFields). fields.name) draft.drivers ≡ map (λ (driver : Driver). driver.name) case.week.drivers
    → MovesItsDrivers draft before after → (name : List ℕ) → ((k : ℕ) (driver : Driver) → slice_get case.week.drivers k ≡ Some driver → driver.name ≢ name)
    → history_in after name ≡ history_in before name
stays case draft before after names moves name none =
    moves.others name
    (not_named draft.drivers name
    (λ k fields there same.
    let named : slice_get (map (λ (driver : Driver). driver.name) case.week.drivers) k ≡ Some fields.name =
    ap (λ l. slice_get l k) (sym names) ∙ mapped (λ (fields : DriverFields). fields.name) draft.drivers k fields there in
    let found = unmapped (λ (driver : Driver). driver.name) case.week.drivers k fields.name named in
    none k found.0 found.1 (found.2 ∙ same)))

moves_on : (monday : Monday) (revision : ℕ) (told : List ℕ) (before after : Tables) → Steps (ask.Publish monday revision) before (Ok told) after → ArePlanned before → MovesOn monday revision before after
moves_on monday revision told before after h all =
    let draft = h.0 in
    let found = stood monday revision before draft h.1 in
    let of = all-find IsPlannedDraft (λ (other : DraftFields). int_eq other.monday monday.day) before.drafts draft all found.stands in
    let day = draft_monday before monday.day draft found.stands in
    let once : AreNamedOnce draft.drivers = subst (IsDistinct bytes_eq) (sym of.made.drivers.names) of.valid.week.driver_names.distinct in
    let moves : MovesItsDrivers draft before after = subst (MovesItsDrivers draft before) (sym h.3) (publication_moves_its_drivers draft before once) in
    record {
      draft = draft;
      stood = found.stands;
      issued = rw h.3 (issued_now before draft monday.day day found.unpublished);
      case = of.case;
      valid = of.valid;
      week = sym of.made.monday ∙ day;
      outcome = of.outcome;
      lawful = of.lawful;
      printed = subst (λ (n : ℕ). IsReportOf of.case of.outcome n draft.report) found.at of.made.report;
      moved = moved_on of.case of.outcome of.seen draft before after of.valid of.lawful of.made of.each moves;
      others = stays of.case draft before after of.made.drivers.names moves;
    }

pub histories_move : HistoriesMove
histories_move commands replies first before after monday revision told none plays steps =
    moves_on monday revision told before after steps
    (all_planned commands replies first before plays (subst (All IsPlannedDraft) (sym none) (All-nil IsPlannedDraft)))
