-- The office rules at a step with a listed stay.
use Rattle.std.proofs.Common.{◌≡◌, ℕ, ◌-◌, ◌%◌, ◌≤◌, Bool, true, false, not, ◌||◌, ◌==◌, ◌∷◌, refl, sym, ap, subst, ◌∙◌, arith, le-leb}
use Rattle.std.proofs.lemmas.Bool.{leb-true}
use Rattle.minute_line.specs.Marks.{is_rest}
use Rattle.week_book.specs.declared.weeks.Week.{Week}
use Rattle.duty_plan.specs.declared.duties.Act.{Act}
use Rattle.duty_plan.specs.declared.duties.Act.TheVariants.{Leg, Serve, Load}
use Rattle.duty_plan.specs.declared.duties.Step.{Step}
use Rattle.duty_plan.specs.Acts.{may_start, place_by, minutes_of, used_by, loaded_by, serves_order}
use Rattle.duty_plan.specs.PartialDuties.{PartialDuty, place_after, at_after, start_of, serves, is_new, has_lawful_length, KeepsOffice}
use Rattle.duty_plan.specs.Labels.{listed_ready}
use Rattle.duty_plan.proofs.WeekLimits.{at-step}
use Rattle.dominance.proofs.ShiftedSteps.{DidTheSame, with_minutes, listed_plain, listed_rest, ready-early, opens-plain, start-same, stays-plain, stays-rest}

same-new : (act : Act) (partial old : PartialDuty) → ((order : ℕ) → serves order partial ≡ serves order old) → is_new act partial ≡ is_new act old
same-new (Leg to) partial old h = refl
same-new (Serve order) partial old h = ap not (h order)
same-new Load partial old h = refl

-- the act ends no later where it starts no later
ends-early : (week : Week) (step : Step) (ready off : ℕ) (partial old : PartialDuty) → place_after partial ≡ place_after old →
    start_of week (with_minutes ready off step) partial ≤ start_of week step old →
    at_after week (with_minutes ready off step ∷ partial) ≤ at_after week (step ∷ old)
ends-early week step ready off partial old p l =
    let same : minutes_of week (place_after partial) step.act ≡ minutes_of week (place_after old) step.act =
    ap (λ (x : ℕ). minutes_of week x step.act) p in
    omega (arith, at-step week (with_minutes ready off step) partial, at-step week step old)

-- a step that starts no later keeps the office rules where its stay, the grid and its window allow it
keeps-shifted : (week : Week) (open_off capacity : ℕ) (step : Step) (ready off : ℕ) (partial old : PartialDuty) →
    DidTheSame week open_off partial old → KeepsOffice week open_off capacity step old →
    start_of week (with_minutes ready off step) partial ≤ start_of week step old →
    has_lawful_length open_off (with_minutes ready off step) old ≡ true →
    (not (is_rest step.stay.kind) || (start_of week (with_minutes ready off step) partial % week.grid == 0)) ≡ true →
    may_start week step.act (start_of week (with_minutes ready off step) partial) ≡ true →
    KeepsOffice week open_off capacity (with_minutes ready off step) partial
keeps-shifted week open_off capacity step ready off partial old s k l stay grid window = record {
  road = rw s.place k.road;
  stay = rw s.begins stay;
  away = rw s.place k.away;
  grid = grid;
  late =
      let end = leb-true (at_after week (step ∷ old)) 10080 k.late in
      le-leb _ 10080 (omega (arith, ends-early week step ready off partial old s.place l, end));
  window = window;
  load = rw (s.used, s.loaded) k.load;
  twice = same-new step.act partial old s.served ∙ k.twice;
}

pub keeps-plain : (week : Week) (open_off capacity : ℕ) (step : Step) (partial old : PartialDuty) → DidTheSame week open_off partial old →
    KeepsOffice week open_off capacity step old → is_rest step.stay.kind ≡ false →
    KeepsOffice week open_off capacity (listed_plain week step partial) partial
keeps-plain week open_off capacity step partial old s k r =
    keeps-shifted week open_off capacity step (listed_ready week step partial) step.stay.off partial old s k
    (omega (arith, ready-early week open_off capacity step partial old s k)) (stays-plain week open_off capacity step partial old s k)
    (rw r refl) (opens-plain week open_off capacity step partial old s k)

pub keeps-rest : (week : Week) (open_off capacity : ℕ) (step : Step) (partial old : PartialDuty) → DidTheSame week open_off partial old →
    KeepsOffice week open_off capacity step old → is_rest step.stay.kind ≡ true →
    KeepsOffice week open_off capacity (listed_rest week step old partial) partial
keeps-rest week open_off capacity step partial old s k r =
    let same : start_of week (listed_rest week step old partial) partial ≡ start_of week step old = start-same week step partial old s.early in
    keeps-shifted week open_off capacity step 0 (start_of week step old - at_after week partial) partial old s k
    (omega (arith, same)) (stays-rest week open_off capacity step partial old s k r)
    (subst (λ (t : ℕ). (not (is_rest step.stay.kind) || (t % week.grid == 0)) ≡ true) (sym same) k.grid)
    (subst (λ (t : ℕ). may_start week step.act t ≡ true) (sym same) k.window)

-- two partial duties with the step did the same
pub same-step : (week : Week) (open_off : ℕ) (step : Step) (ready off : ℕ) (partial old : PartialDuty) → DidTheSame week open_off partial old →
    start_of week (with_minutes ready off step) partial ≤ start_of week step old →
    DidTheSame week open_off (with_minutes ready off step ∷ partial) (step ∷ old)
same-step week open_off step ready off partial old s l = record {
  early = ends-early week step ready off partial old s.place l;
  place = ap (place_by step.act) s.place;
  used = ap (used_by week step.act) s.used;
  loaded = ap (loaded_by step.act) s.loaded;
  served = λ order. ap (λ (b : Bool). serves_order order step.act || b) (s.served order);
  cents = rw (s.place, s.cents) refl;
  begins = refl;
}
