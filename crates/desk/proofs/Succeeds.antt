-- What a run that ends with status 0 has done.
use Rattle.std.proofs.Common.{◌≡◌, ◌≤◌, ℕ, ◌⊎◌, inl, inr, refl, sym, ◌∙◌, ap, subst, List, [], length, map, Option, Some, None, Result, Ok, Err, arith}
use Rattle.minute_line.specs.Histories.{fields_of}
use Rattle.desk_io.specs.Device.{GivesBytes, NothingLeft, Takes}
use Rattle.week_maker.specs.MadeWeeks.{made_text}
use Rattle.week_book.specs.Driven.{did_of}
use Rattle.duty_plan.specs.declared.outcomes.Limits.{Limits}
use Rattle.duty_plan.specs.declared.outcomes.Outcome.{Outcome}
use Rattle.duty_plan.specs.declared.plans.Case.{Case}
use Rattle.duty_plan.specs.Trees.{IsRight}
use Rattle.desk_csv.specs.declared.errors.Form.TheVariants as form
use Rattle.branch_tree.proofs.Cover.{no_cheaper}
use Rattle.desk_keeper.specs.Tables.{Tables, DraftFields}
use Rattle.desk_report.specs.Summaries.{summary_text}
use Rattle.desk_core.specs.declared.commands.Command.{Command}
use Rattle.desk_core.specs.declared.commands.Command.TheVariants as command
use Rattle.desk_core.specs.declared.commands.Reply.{Reply}
use Rattle.desk_core.specs.declared.commands.Reply.TheVariants.{Done, Refused, KeeperFault, Memory}
use Rattle.desk_core.specs.declared.refusals.Refusal.{Refusal}
use Rattle.desk_core.specs.declared.refusals.Refusal.TheVariants.{Long, Week as Weekly}
use Rattle.desk_core.specs.Answering.{IsAnswer, IsText, IsPlannedWeek}
use Rattle.desk_core.specs.Books.{book}
use Rattle.desk_core.specs.Checking.{check_said}
use Rattle.desk_core.specs.Drafting.{WeekText, Planned, text_said, revision_said, all_planned_with, planned as planned_by, MakesDraft, IsDraftOf}
use Rattle.desk_core.specs.Machine.{IsReply, Steps, Drafts}
use Rattle.desk_core.specs.Planning.{Book, case_said}
use Rattle.desk_core.specs.Refusing.{refuse, rows_said}
use Rattle.desk_core.specs.Replies.{IsDone}
use Rattle.desk_core.proofs.Gathering.{then_ok}
use Rattle.desk_core.proofs.Verdicts.{lines_are_verdicts}
use Rattle.desk_words.specs.declared.asks.Ask.{Ask}
use Rattle.desk_words.specs.declared.asks.Ask.TheVariants.{Plan, Check, Make}
use Rattle.desk.specs.Office.{Shelf, Office}
use Rattle.desk_csv.specs.declared.reading.TheConstants.{TEXT_LIMIT}
use Rattle.week_maker.specs.declared.weeks.TheConstants.{ROW_COUNT}
use Rattle.desk.specs.Saying.{Said, IsRefused, SaysReply, SaysSolved, SaysMade, IsSummaryOf}
use Rattle.desk.specs.Running.{Plays, SaysText, SaysAsked, Runs}
use Rattle.desk.specs.Succeeding.{IsSound, IsDrafted, IsPlanned, IsMade, IsChecked}
use Rattle.desk.proofs.Budgets.{exact}
use Rattle.desk.proofs.RefusalKinds.{either}

sound : (case : Case) (limits : Limits) (outcome : Outcome) → IsRight case limits outcome → IsSound case limits outcome
sound case limits outcome right = record {
  lawful = right.plan.lawful;
  cost = right.plan.costs;
  bound = λ plan lawful. no_cheaper case limits outcome plan right lawful;
  unless = exact case limits outcome right;
  right = right;
}

-- a refusal is told with another status
not_refused : {P : Type 0} (said : Said) (refusal : Refusal) → IsRefused refusal said → said.status ≡ 0 → P
not_refused said refusal is zero = elim (either refusal) [
  | inl three ↦ absurd (omega (arith, zero, three, is.0))
  | inr four ↦ absurd (omega (arith, zero, four, is.0))
]

-- what is told with status 0
record Succeeds (asked : Option Ask) (before after : Office) : Type 0 where
  pub said : Said
  pub says : SaysAsked asked before after said
  pub zero : said.status ≡ 0
  pub printed : Takes before.sink.bytes said.text after.sink.bytes

succeeds : (asked : Option Ask) (before after : Office) (status : ℕ) → Runs asked before after status → status ≡ 0 → Succeeds asked before after
succeeds asked before after status (inr wants) zero = absurd (omega (arith, zero, wants.0.0))
succeeds asked before after status (inl (said, says, inr fails)) zero = absurd (omega (arith, zero, fails.0))
succeeds asked before after status (inl (said, says, inl tells)) zero =
    record { said = said; says = says; zero = sym tells.0 ∙ zero; printed = tells.1 }

-- a command that is done
record IsDoneWith (command : Command) (before after : Shelf) (told : List ℕ) : Type 0 where
  pub step : IsDone (Steps command) before.tables (Ok told) after.tables
  pub answer : IsText command told

done-with : (command : Command) (before after : Shelf) (said : Said) (reply : Reply) → IsReply command before.tables reply after.tables
    → IsAnswer command reply → SaysReply reply said → said.status ≡ 0 → IsDoneWith command before after said.text
done-with command before after said (Done text) step answer told zero =
    subst (λ (s : Said). IsDoneWith command before after s.text) (sym told) (record { step = step; answer = answer })
done-with command before after said (Refused refusal) step answer told zero = not_refused said refusal told zero
done-with command before after said KeeperFault step answer told zero = absurd (omega (arith, zero, ap (λ (s : Said). s.status) told))
done-with command before after said Memory step answer told zero = absurd told

-- a command of a text that is done
record IsDoneText (command : List ℕ → Command) (before after : Office) (told : List ℕ) : Type 0 where
  pub text : List ℕ
  pub given : GivesBytes before.source.bytes text after.source.bytes
  pub ended : NothingLeft after.source.bytes
  pub within : length text ≤ TEXT_LIMIT
  pub done : IsDoneWith (command text) before.shelf after.shelf told

done-text : (command : List ℕ → Command) (before after : Office) (said : Said) → SaysText command before after said → said.status ≡ 0
    → IsDoneText command before after said.text
done-text command before after said (given, gives, inl fault) zero = absurd (omega (arith, zero, ap (λ (s : Said). s.status) fault.0))
done-text command before after said (given, gives, inr (inl long)) zero = not_refused said Long long.1 zero
done-text command before after said (given, gives, inr (inr all)) zero = record {
  text = given;
  given = gives;
  ended = all.1;
  within = all.0;
  done = done-with (command given) before.shelf after.shelf said all.3.reply all.3.step all.3.answer all.3.told zero;
}

-- over a keeper that tells nothing
untold : (limits : Limits) (before after : Office) (told : List ℕ) → before.shelf.tables ≡ None
    → IsDoneText (λ text. command.Plan text limits) before after told → Takes before.sink.bytes told after.sink.bytes → IsPlanned limits before after
untold limits before after told none all takes = let week : IsPlannedWeek limits all.text told = all.done.answer in record {
  text = all.text;
  given = all.given;
  ended = all.ended;
  within = all.within;
  read = week.read;
  accepted = week.accepted;
  case = week.case;
  valid = week.valid;
  week = week.week;
  past = rw none week.past;
  outcome = week.outcome;
  revision = week.revision;
  report = told;
  reports = week.reported;
  printed = takes;
  drafted = rw none tt;
  sound = sound week.case limits week.outcome week.right;
}

-- a text that is planned over the tables
record IsPlannedOver (text : List ℕ) (tables : Tables) (of : Planned) : Type 0 where
  pub read : WeekText
  pub accepted : text_said text ≡ Ok read
  pub week : of.book.week ≡ read.week
  pub past : all_planned_with read.week.monday.day tables [] read.week.drivers read.past ≡ Ok of.book.past

planned-over : (text : List ℕ) (tables : Tables) (of : Planned) → planned_by text tables ≡ Ok of → IsPlannedOver text tables of
planned-over text tables of h =
    let read = then_ok (text_said text) _ of h in
    let revision = then_ok (revision_said read.0.week.monday tables) _ of read.2 in
    let past = then_ok (all_planned_with read.0.week.monday.day tables [] read.0.week.drivers read.0.past) _ of revision.2 in
    let same : of ≡ record { book = record { week = read.0.week; past = past.0 }; revision = revision.0 } = cc past.2 in record {
      read = read.0;
      accepted = read.1;
      week = ap (λ (p : Planned). p.book.week) same;
      past = past.1 ∙ ap (λ (p : Planned). Ok p.book.past) (sym same);
    }

no-err : {A E : Type 0} {P : Type 0} (x : A) (e : E) → Ok x ≡ Err e → P
no-err x e h = cc h

-- the draft that is made is of what is planned
made-of : (limits : Limits) (tables : Tables) (r : Result Planned Refusal) (draft : DraftFields) → MakesDraft limits tables r (Ok draft)
    → (of : Planned) × (r ≡ Ok of) × IsDraftOf limits tables of draft
made-of limits tables (Ok of) draft made = (of, refl, made)
made-of limits tables (Err refusal) draft made = no-err draft refusal made

-- over a keeper that tells its tables
told-planned : (limits : Limits) (before after : Office) (told : List ℕ) (tables now : Tables) → before.shelf.tables ≡ Some tables → after.shelf.tables ≡ Some now
    → (all : IsDoneText (λ text. command.Plan text limits) before after told) → Drafts limits all.text tables (Ok told) now
    → Takes before.sink.bytes told after.sink.bytes → IsPlanned limits before after
told-planned limits before after told tables now is then all (draft, makes, says, change) takes =
    let made = made-of limits tables (planned_by all.text tables) draft makes in
    let of = made.0 in
    let draft_of = made.2 in
    let over = planned-over all.text tables of made.1 in record {
      text = all.text;
      given = all.given;
      ended = all.ended;
      within = all.within;
      read = over.read;
      accepted = over.accepted;
      case = draft_of.case;
      valid = draft_of.valid;
      week = ap (λ (b : Book). b.week) draft_of.is_planned ∙ over.week;
      past = rw is (over.past ∙ ap (λ (b : Book). Ok b.past) (sym draft_of.is_planned));
      outcome = draft_of.outcome;
      revision = of.revision;
      report = told;
      reports = rw says draft_of.made.report;
      printed = takes;
      drafted = rw is (record {
        is_planned = made.1 ∙ ap (λ (b : Book). Ok (record { book = b; revision = of.revision })) (sym draft_of.is_planned);
        draft = draft;
        made = draft_of.made;
        told = says;
        kept = then ∙ ap Some change;
      });
      sound = sound draft_of.case limits draft_of.outcome draft_of.right;
    }

planned-at : (limits : Limits) (before after : Office) (told : List ℕ) (tables : Option Tables) → before.shelf.tables ≡ tables
    → (all : IsDoneText (λ text. command.Plan text limits) before after told)
    → IsDone (Steps (command.Plan all.text limits)) tables (Ok told) after.shelf.tables → Takes before.sink.bytes told after.sink.bytes
    → IsPlanned limits before after
planned-at limits before after told None is all step takes = untold limits before after told is all takes
planned-at limits before after told (Some tables) is all (now, then, step) takes =
    told-planned limits before after told tables now is then all step takes

pub planned : (asked : Option Ask) (limits : Limits) (before after : Office) (status : ℕ) → Runs asked before after status → status ≡ 0
    → asked ≡ Some (Plan limits) → IsPlanned limits before after
planned asked limits before after status run zero e =
    let all = succeeds (Some (Plan limits)) before after status (subst (λ a. Runs a before after status) e run) zero in
    let text = done-text (λ text. command.Plan text limits) before after all.said all.says all.zero in
    planned-at limits before after all.said.text before.shelf.tables refl text text.done.step all.printed

refuse-ok : {A E : Type 0} (because : E → Refusal) (r : Result A E) (x : A) → refuse because r ≡ Ok x → r ≡ Ok x
refuse-ok because (Ok y) x h = let same : y ≡ x = cc in ap Ok same
refuse-ok because (Err e) x h = cc h

pub checked : (asked : Option Ask) (before after : Office) (status : ℕ) → Runs asked before after status → status ≡ 0
    → asked ≡ Some Check → IsChecked before after
checked asked before after status run zero e =
    let all = succeeds (Some Check) before after status (subst (λ a. Runs a before after status) e run) zero in
    let text = done-text (λ text. command.Check text) before after all.said all.says all.zero in
    let accepted : check_said text.text ≡ Ok all.said.text = text.done.answer in
    let rows = then_ok (rows_said form.Check text.text) _ all.said.text accepted in
    let drivers = then_ok (refuse Weekly (did_of rows.0)) _ all.said.text rows.2 in record {
      text = text.text;
      given = text.given;
      ended = text.ended;
      lines = all.said.text;
      accepted = accepted;
      printed = all.printed;
      rows = rows.0;
      read = rows.1;
      drivers = drivers.0;
      driven = refuse-ok Weekly (did_of rows.0) drivers.0 drivers.1;
      verdicts = lines_are_verdicts rows.0 drivers.0 all.said.text drivers.2;
    }

-- what a made week that is told with status 0 comes to
summed : (seed : ℕ) (limits : Limits) (said : Said) (r : Result Book Refusal) → SaysSolved seed limits r said → said.status ≡ 0
    → (of : Book) × (r ≡ Ok of) × IsSummaryOf seed limits of said
summed seed limits said (Ok of) says zero = (of, refl, says)
summed seed limits said (Err refusal) says zero = not_refused said refusal says.0 zero

made-solved : (seed : ℕ) (limits : Limits) (before after : Office) (said : Said) → SaysMade seed limits said → said.status ≡ 0
    → Takes before.sink.bytes said.text after.sink.bytes → IsMade seed limits before after
made-solved seed limits before after said (inl long) zero takes = not_refused said Long long.1 zero
made-solved seed limits before after said (inr says) zero takes =
    let found = summed seed limits said (case_said (made_text seed)) says zero in
    let of = found.2 in record {
      case = of.case;
      accepted = found.1 ∙ ap Ok (sym of.is_said);
      valid = of.valid;
      outcome = of.outcome;
      printed = rw of.told at takes;
      sound = sound of.case limits of.outcome of.right;
    }

pub made : (asked : Option Ask) (seed : ℕ) (limits : Limits) (before after : Office) (status : ℕ) → Runs asked before after status → status ≡ 0
    → asked ≡ Some (Make seed limits) → IsMade seed limits before after
made asked seed limits before after status run zero e =
    let all = succeeds (Some (Make seed limits)) before after status (subst (λ a. Runs a before after status) e run) zero in
    made-solved seed limits before after all.said all.says.2 all.zero all.printed
