use Rattle.std.proofs.Common.{◌∙◌, ap, refl, map, length, option_map}
use Rattle.minute_line.specs.Histories.{fields_of}
use Rattle.duty_plan.specs.declared.plans.Case.{Case}
use Rattle.duty_plan.specs.Duties.{IsCase}
use Rattle.desk_keeper.specs.Tables.{kept_fields}
use Rattle.desk_keeper.specs.Records.{draft_fields}
use Rattle.desk_core.specs.WeekTexts.{week_text}
use Rattle.desk_core.proofs.PlannedWeeks.{may_put, is_draft, plan-put, past_told, kept_told}
use Rattle.desk_core.specs.declared.refusals.Refusal.{Refusal}
use Rattle.desk_core.specs.Causes.{HasCause, IsWeekRefusal, IsDriverRefusal}
use Rattle.desk_core.specs.Answering.{IsPlanRefusal}
use Rattle.desk_core.proofs.Reasons.{refused_on, refused_more, stops_more, week_has_cause, driver_has_cause}
use Rattle.desk_core.proofs.PlanReasons.{text_refuses, week_refuses, driver_refuses_week, is_planned_week}
use Rattle.desk_core.proofs.stepping.plan.Goals as goal

pub draft_from-requires-clause-seen : goal.draft_from-requires-clause-seen
draft_from-requires-clause-seen g c = ap length c.as_slice-2.ensures ∙ c.in_ok-past.ensures.each.1 ∙ ap length c.as_slice-drivers.ensures

pub put-requires : goal.put-requires
put-requires g c = record {
  next = may_put (g.B.Keeper.tables c.args.keeper.now) (g.B.Keeper.tables c.histories_for.new.keeper) c.in_ok-week.field-0.week.monday c.in_ok-revision.revision
      (draft_fields c.in_ok-draft.draft) (c.in_ok-past.ensures.tables ∙ c.in_ok-revision.ensures.tables) c.in_ok-revision.ensures.answer c.in_ok-draft.ensures.monday
      c.in_ok-draft.ensures.revision;
}

pub returns-clause-step : goal.returns-clause-step
returns-clause-step g c =
    let told = g.B.Keeper.tables c.args.keeper.now in
    let asked = g.B.Keeper.tables c.next_revision.new.keeper in
    let now = g.B.Keeper.tables c.histories_for.new.keeper in
    let read = week_text c.in_ok-week.field-0 in
    let case : Case = record { week = c.in_ok-week.field-0.week; past = c.in_ok-past.field-0.past } in
    let valid : IsCase case = record { week = c.in_ok-week.ensures.week; drivers = c.in_ok-past.ensures.each.0 ∙ ap length c.as_slice-drivers.ensures } in
    let seen = map (option_map kept_fields) c.in_ok-past.field-0.seen in
    let slice = map (option_map kept_fields) c.as_slice-2.result.now in
    let past = past_told told asked read c.as_slice-drivers.result.now (map (option_map fields_of) c.as_slice.result.now) (map fields_of c.in_ok-past.field-0.past)
    c.in_ok-revision.ensures.tables c.as_slice-drivers.ensures (ap (map (option_map fields_of)) c.as_slice.ensures) c.in_ok-past.ensures.answer in
    let kept = kept_told told asked c.as_slice-drivers.result.now c.in_ok-week.field-0.week.drivers seen slice c.in_ok-revision.ensures.tables c.as_slice-drivers.ensures
    (ap (map (option_map kept_fields)) c.as_slice-2.ensures) c.in_ok-past.ensures.seen in
    let makes = is_draft c.args.limits.now c.args.text.now told read case c.in_ok-outcome.outcome c.in_ok-revision.revision (draft_fields c.in_ok-draft.draft) slice
    c.in_ok-week.ensures.read refl valid c.in_ok-outcome.ensures.right c.in_ok-draft.ensures c.in_ok-revision.ensures.answer past kept in
    plan-put c.args.limits.now c.args.text.now told now (g.B.Keeper.tables c.put.new.keeper) (draft_fields c.in_ok-draft.draft) c.put.result
    (c.in_ok-past.ensures.tables ∙ c.in_ok-revision.ensures.tables) makes c.put.ensures.step

pub returns-clause-planned : goal.returns-clause-planned
returns-clause-planned g c =
    let case : Case = record { week = c.in_ok-week.field-0.week; past = c.in_ok-past.field-0.past } in
    let valid : IsCase case = record { week = c.in_ok-week.ensures.week; drivers = c.in_ok-past.ensures.each.0 ∙ ap length c.as_slice-drivers.ensures } in
    is_planned_week c.args.limits.now c.args.text.now (week_text c.in_ok-week.field-0) case c.in_ok-outcome.outcome c.in_ok-revision.revision
    (draft_fields c.in_ok-draft.draft) (map (option_map kept_fields) c.as_slice-2.result.now) (map (option_map fields_of) c.as_slice.result.now) c.put.result
    c.in_ok-week.ensures.read refl valid c.in_ok-outcome.ensures.right (ap (map (option_map fields_of)) c.as_slice.ensures) c.in_ok-past.ensures.own
    c.in_ok-revision.ensures.range c.in_ok-draft.ensures c.put.ensures.told

pub returns-in_err-week-clause-refused : goal.returns-in_err-week-clause-refused
returns-in_err-week-clause-refused g c =
    refused_on (IsPlanRefusal c.args.text.now) c.from_residual.result c.in_err-week.field-0.0 c.from_residual.ensures
    (text_refuses c.args.text.now c.in_err-week.field-0.0 c.in_err-week.ensures.read)

pub returns-in_err-week-clause-cause : goal.returns-in_err-week-clause-cause
returns-in_err-week-clause-cause g c = refused_on HasCause c.from_residual.result c.in_err-week.field-0.0 c.from_residual.ensures c.in_err-week.ensures.cause

pub returns-in_err-revision-clause-refused : goal.returns-in_err-revision-clause-refused
returns-in_err-revision-clause-refused g c =
    refused_on (IsPlanRefusal c.args.text.now) c.from_residual-in_err-revision.result c.in_err-revision.field-0.0 c.from_residual-in_err-revision.ensures
    (week_refuses c.args.text.now (week_text c.in_ok-week.field-0) c.in_err-revision.field-0.0 c.in_ok-week.ensures.read c.in_err-revision.ensures.refused)

pub returns-in_err-revision-clause-cause : goal.returns-in_err-revision-clause-cause
returns-in_err-revision-clause-cause g c =
    let monday = c.in_ok-week.field-0.week.monday in
    refused_on HasCause c.from_residual-in_err-revision.result c.in_err-revision.field-0.0 c.from_residual-in_err-revision.ensures
    (stops_more (IsWeekRefusal monday) HasCause c.in_err-revision.field-0.0 (week_has_cause monday) c.in_err-revision.ensures.refused)

pub returns-in_err-past-clause-refused : goal.returns-in_err-past-clause-refused
returns-in_err-past-clause-refused g c =
    refused_on (IsPlanRefusal c.args.text.now) c.from_residual-in_err-past.result c.in_err-past.field-0.0 c.from_residual-in_err-past.ensures
    (driver_refuses_week c.args.text.now (week_text c.in_ok-week.field-0) c.as_slice-drivers.result.now (map (option_map fields_of) c.as_slice.result.now)
    c.in_err-past.field-0.0 c.in_ok-week.ensures.read c.as_slice-drivers.ensures (ap (map (option_map fields_of)) c.as_slice.ensures)
    c.in_err-past.ensures.refused)

pub returns-in_err-past-clause-cause : goal.returns-in_err-past-clause-cause
returns-in_err-past-clause-cause g c =
    let monday = c.in_ok-week.field-0.week.monday in
    let drivers = c.as_slice-drivers.result.now in
    let pasts = map (option_map fields_of) c.as_slice.result.now in
    refused_on HasCause c.from_residual-in_err-past.result c.in_err-past.field-0.0 c.from_residual-in_err-past.ensures
    (stops_more (IsDriverRefusal monday drivers pasts) HasCause c.in_err-past.field-0.0 (driver_has_cause monday drivers pasts) c.in_err-past.ensures.refused)

pub returns-clause-refused : goal.returns-clause-refused
returns-clause-refused g c =
    refused_more (λ (refusal : Refusal). ⊥) (IsPlanRefusal c.args.text.now) c.put.result (λ refusal none. absurd none) c.put.ensures.refused

pub returns-clause-cause : goal.returns-clause-cause
returns-clause-cause g c = refused_more (λ (refusal : Refusal). ⊥) HasCause c.put.result (λ refusal none. absurd none) c.put.ensures.refused
