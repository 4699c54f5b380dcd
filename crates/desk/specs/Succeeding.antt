-- What a run that ends with status 0 has done.
use Rattle.std.specs.Prelude.{◌≡◌, ℕ, ◌+◌, ◌≤◌, List, [], length, map, Option, Some, None, IfSome, Ok}
use Rattle.minute_line.specs.Histories.{Fields, fields_of}
use Rattle.desk_io.specs.Device.{GivesBytes, Takes, NothingLeft}
use Rattle.week_book.specs.declared.rows.Row.{Row}
use Rattle.week_book.specs.Driven.{did_of}
use Rattle.week_maker.specs.MadeWeeks.{made_text}
use Rattle.duty_plan.specs.declared.outcomes.Limits.{Limits}
use Rattle.duty_plan.specs.declared.outcomes.Outcome.{Outcome}
use Rattle.duty_plan.specs.declared.outcomes.State.TheVariants.{Proved, OpenLabels, OpenNodes}
use Rattle.duty_plan.specs.declared.plans.Case.{Case}
use Rattle.duty_plan.specs.declared.plans.Plan.{Plan}
use Rattle.duty_plan.specs.Duties.{IsCase, IsLawfulPlan, cost_of_plan}
use Rattle.duty_plan.specs.declared.deciding.Pairs.{Pairs}
use Rattle.duty_plan.specs.declared.nodes.Node.{Node}
use Rattle.duty_plan.specs.declared.nodes.NodeState.TheVariants.{Spent}
use Rattle.duty_plan.specs.declared.pricing.Prices.{Prices}
use Rattle.duty_plan.specs.LabelLists.{MayExhaustLabels, chunks_for}
use Rattle.duty_plan.specs.Nodes.{IsNode, path_of}
use Rattle.duty_plan.specs.Trees.{IsRight}
use Rattle.duty_plan.specs.Values.{ArePairsOf}
use Rattle.desk_csv.specs.declared.errors.Form.TheVariants as form
use Rattle.desk_keeper.specs.Tables.{Tables, DraftFields}
use Rattle.desk_keeper.specs.Changes.{with_draft}
use Rattle.desk_report.specs.Reports.{IsReportOf}
use Rattle.desk_report.specs.Summaries.{summary_text}
use Rattle.desk_core.specs.Refusing.{rows_said}
use Rattle.desk_core.specs.Planning.{case_said}
use Rattle.desk_core.specs.Books.{book}
use Rattle.desk_core.specs.Drafting.{WeekText, text_said, all_planned_with, planned, kept_now, IsDraftAfter}
use Rattle.desk_core.specs.Answering.{HoldsTheTexts}
use Rattle.desk_core.specs.Checking.{check_said}
use Rattle.desk_core.specs.Laws.{AreVerdicts}
use Rattle.desk.specs.Office.{Office}
use Rattle.desk_csv.specs.declared.reading.TheConstants.{TEXT_LIMIT}
use Rattle.week_maker.specs.declared.weeks.TheConstants.{ROW_COUNT}

-- a leaf that has no Free pair wanted labels in a round of its run: there were fewer chunks of them than drivers, or label
-- lists of all drivers filled the chunks
pub record WantsLabels (case : Case) (limits : Limits) (outcome : Outcome) : Type 0 where
  pub number : ℕ
  pub leaf : Node
  pub is_leaf : IsNode outcome.tree number leaf
  pub spent : leaf.state ≡ Spent
  pub pairs : Pairs
  pub are_pairs : ArePairsOf case.week (path_of outcome.tree number) pairs
  pub prices : Prices
  pub licensed : MayExhaustLabels (chunks_for limits.labels) case pairs prices

-- the bound is the cost, unless a budget was spent that the state names: nodes, so that no two more fit; or labels, which a
-- round of a leaf wanted that has no Free pair
pub record IsExact (case : Case) (limits : Limits) (outcome : Outcome) : Type 0 where
  pub proved : outcome.state ≡ Proved → outcome.bound ≡ outcome.cost
  pub nodes : outcome.state ≡ OpenNodes → limits.nodes ≤ length outcome.tree + 1
  pub labels : outcome.state ≡ OpenLabels → WantsLabels case limits outcome

-- the plan that was found is lawful, at the cost that is told; no lawful plan costs less than the bound; and the bound is the cost,
-- unless a budget was spent that the state names
pub record IsSound (case : Case) (limits : Limits) (outcome : Outcome) : Type 0 where
  pub lawful : IsLawfulPlan case outcome.plan
  pub cost : cost_of_plan case outcome.plan ≡ outcome.cost
  pub bound : (plan : Plan) → IsLawfulPlan case plan → outcome.bound ≤ cost_of_plan case plan
  pub unless : IsExact case limits outcome
  pub right : IsRight case limits outcome

-- each driver is planned with the history of the text or with the kept one, brought up to the week; where the keeper doesn't tell what
-- is kept, each of whom the text has a history is planned with that one
abbrev pub HaveHistories : Option Tables → WeekText → List Fields → Type 0
HaveHistories None read past = HoldsTheTexts read.past past
HaveHistories (Some tables) read past = all_planned_with read.week.monday.day tables [] read.week.drivers read.past ≡ Ok past

-- a draft of the outcome is kept. The case has, for each driver, the history of the text or the kept one, brought up to the week; the
-- revision is the week's next
pub record IsDrafted (text : List ℕ) (case : Case) (outcome : Outcome) (revision : ℕ) (report : List ℕ) (before : Tables) (after : Option Tables) : Type 0 where
  pub is_planned : planned text before ≡ Ok (record { book = book case; revision = revision })
  pub draft : DraftFields
  pub made : IsDraftAfter case outcome (kept_now before case.week.drivers) revision draft
  pub told : report ≡ draft.report
  pub kept : after ≡ Some (with_draft draft before)

-- a week text was read to its end and accepted, and the sink holds the report of a sound outcome, at a revision, after what it held.
-- Where the keeper tells its tables, they hold its draft now
pub record IsPlanned (limits : Limits) (before after : Office) : Type 0 where
  pub text : List ℕ
  pub given : GivesBytes before.source.bytes text after.source.bytes
  pub ended : NothingLeft after.source.bytes
  pub within : length text ≤ TEXT_LIMIT
  pub read : WeekText
  pub accepted : text_said text ≡ Ok read
  pub case : Case
  pub valid : IsCase case
  pub week : case.week ≡ read.week
  pub past : HaveHistories before.shelf.tables read (map fields_of case.past)
  pub outcome : Outcome
  pub revision : ℕ
  pub report : List ℕ
  pub reports : IsReportOf case outcome revision report
  pub printed : Takes before.sink.bytes report after.sink.bytes
  pub drafted : IfSome before.shelf.tables (λ tables. IsDrafted text case outcome revision report tables after.shelf.tables)
  pub sound : IsSound case limits outcome

-- the sink holds the summary of the week that the seed makes, planned with its own histories, after what it held
pub record IsMade (seed : ℕ) (limits : Limits) (before after : Office) : Type 0 where
  pub case : Case
  pub accepted : case_said (made_text seed) ≡ Ok (book case)
  pub valid : IsCase case
  pub outcome : Outcome
  pub printed : Takes before.sink.bytes (summary_text seed case.week ROW_COUNT outcome) after.sink.bytes
  pub sound : IsSound case limits outcome

-- a check text was read to its end and accepted; the sink holds its lines after what it held: one a driver, in their
-- order, each the verdict on that driver
pub record IsChecked (before after : Office) : Type 0 where
  pub text : List ℕ
  pub given : GivesBytes before.source.bytes text after.source.bytes
  pub ended : NothingLeft after.source.bytes
  pub lines : List ℕ
  pub accepted : check_said text ≡ Ok lines
  pub printed : Takes before.sink.bytes lines after.sink.bytes
  pub rows : List Row
  pub read : rows_said form.Check text ≡ Ok rows
  pub drivers : List (List ℕ)
  pub driven : did_of rows ≡ Ok drivers
  pub verdicts : AreVerdicts rows drivers lines
