-- Where one step more leaves a driver.
use Rattle.std.proofs.Common.{◌≡◌, ℕ, ◌+◌, ◌≤◌, Bool, true, false, cond, eqb, not, ◌&&◌, ◌*◌, ◌^◌, bit_or, bit_and, ◌/◌, ◌⊎◌, inl, inr, refl, ap, sym, ◌∙◌, arith, ◌∷◌, Option, Some, None, option_map}
use Rattle.std.proofs.lemmas.Nat.{and_mask, or_shifted}
use Rattle.minute_line.specs.Marks.{is_daily}
use Rattle.week_book.specs.declared.weeks.Driver.{Driver}
use Rattle.week_book.specs.declared.weeks.Week.{Week}
use Rattle.week_book.specs.Weeks.{IsDriver}
use Rattle.std.specs.Int.{bit_at}
use Rattle.duty_plan.specs.declared.duties.Act.{Act}
use Rattle.duty_plan.specs.declared.duties.Act.TheVariants.{Leg, Load}
use Rattle.duty_plan.specs.declared.duties.Step.{Step}
use Rattle.duty_plan.specs.declared.faults.DutyFault.{DutyFault}
use Rattle.duty_plan.specs.declared.positions.Position.{Position}
use Rattle.duty_plan.specs.Acts.{minutes_of, cents_of_act, can_be_done, place_by, used_by, loaded_by}
use Rattle.duty_plan.specs.PartialDuties.{PartialDuty, place_after, at_after, follows_road, KeepsOffice}
use Rattle.duty_plan.specs.Duties.{night_of}
use Rattle.duty_plan.specs.Labels.{bit_of_act}
use Rattle.duty_plan.specs.Positions.{position_of, IsPositionOfSome}
use Rattle.duty_plan.specs.Verdicts.{first_failed, numbered, tests_of_step}
use Rattle.duty_plan.proofs.Keeping.{keeps-passed}
use Rattle.duty_plan.proofs.WeekLimits.{at-step, light}

-- what is served since the last load act is what a lorry can carry
pub light-position : (week : Week) (lorry : Driver) (open_off : ℕ) (position : Position) → IsDriver lorry →
    IsPositionOfSome week open_off lorry.capacity position → position.used ≤ 100000
light-position week lorry open_off position d s =
    omega (arith, ap (λ (p : Position). p.used) s.position_is, light week open_off lorry.capacity s.partial s.office, d.capacity.1)

-- no fault has no number
unnumbered : (number : ℕ) (found : Option DutyFault) → option_map (numbered number) found ≡ None → found ≡ None
unnumbered number None h = refl
unnumbered number (Some fault) h = cc

-- where a step's act ends
pub ends : (week : Week) (before : PartialDuty) (position : Position) (step : Step) (end minutes : ℕ) → position ≡ position_of week before →
    minutes ≡ minutes_of week position.place step.act → end ≡ position.at + step.stay.ready + step.stay.off + minutes →
    end ≡ at_after week (step ∷ before)
ends week before position step end minutes s m e =
    let long : minutes ≡ minutes_of week (place_after before) step.act = rw (ap (λ (p : Position). p.place) s) at m in
    omega (arith, e, ap (λ (p : Position). p.at) s, long, at-step week step before)

-- a step at which no test failed keeps the office rules
pub kept : (week : Week) (open_off capacity number : ℕ) (before : PartialDuty) (position : Position) (step : Step) (found : Option DutyFault) (end minutes : ℕ) →
    position ≡ position_of week before → true ≡ can_be_done week position.place step.act → minutes ≡ minutes_of week position.place step.act →
    end ≡ position.at + step.stay.ready + step.stay.off + minutes →
    (follows_road week step before ≡ true → end ≡ at_after week (step ∷ before) →
    found ≡ option_map (numbered number) (first_failed (tests_of_step week open_off capacity step before))) → found ≡ None →
    KeepsOffice week open_off capacity step before
kept week open_off capacity number before position step found end minutes s r m b h e =
    let road : follows_road week step before ≡ true = rw (ap (λ (p : Position). p.place) s) at (sym r) in
    keeps-passed week open_off capacity step before
    (unnumbered number _ (sym (h road (ends week before position step end minutes s m b)) ∙ e))

-- the position after a step
pub position-step : (week : Week) (before : PartialDuty) (position : Position) (step : Step) (at place used minutes served : ℕ) (loaded : Bool) →
    position ≡ position_of week before → minutes ≡ minutes_of week position.place step.act →
    at ≡ position.at + step.stay.ready + step.stay.off + minutes → place ≡ place_by step.act position.place → used ≡ used_by week step.act position.used →
    loaded ≡ loaded_by step.act position.loaded → served ≡ bit_or position.served (bit_of_act step.act) →
    record { at = at; place = place; used = used; loaded = loaded; begun = true; served = served } ≡ position_of week (step ∷ before)
position-step week before position step at place used minutes served loaded s m at_is place_is used_is loaded_is served_is =
    let end : at ≡ at_after week (step ∷ before) = ends week before position step at minutes s m at_is in
    rw (end, place_is, used_is, loaded_is, served_is, s) refl

-- a night costs at most so much
pub night-small : (b : Bool) (night n : ℕ) → night ≤ 1000000 → n ≡ cond b night 0 → n ≤ 1000000
night-small true night n h e = omega arith
night-small false night n h e = omega arith

-- what a step costs
pub taken-cents : (week : Week) (before : PartialDuty) (position : Position) (step : Step) (night cents : ℕ) → position ≡ position_of week before →
    night ≡ cond (is_daily step.stay.kind && not (eqb position.place 0)) week.night 0 → cents ≡ cents_of_act week position.place step.act →
    night + cents ≡ night_of week step before + cents_of_act week (place_after before) step.act
taken-cents week before position step night cents s n c =
    let here : night ≡ night_of week step before = rw (ap (λ (p : Position). p.place) s) at n in
    let act : cents ≡ cents_of_act week (place_after before) step.act = rw (ap (λ (p : Position). p.place) s) at c in
    omega (arith, here, act)

-- no bit more
pub or-none : (bits : ℕ) → bit_or bits 0 ≡ bits
or-none bits =
    let same : bits ≡ bits * 2 ^ 0 = omega arith in
    ap (λ (x : ℕ). bit_or x 0) same ∙ (or_shifted bits 0 0 (omega arith) ∙ omega arith)

-- an act that serves nothing adds no bit
pub no-bit : (act : Act) (bits : ℕ) → ((x : ℕ) × (act ≡ Leg x)) ⊎ (act ≡ Load) → bits ≡ bit_or bits (bit_of_act act)
no-bit act bits (inl e) = rw e.1 (sym (or-none bits))
no-bit act bits (inr e) = rw e (sym (or-none bits))

-- an order's bit, tested
pub anew : (bits order : ℕ) (b : Bool) → bit_at bits order ≡ cond b 1 0 → eqb (bit_and (bits / 2 ^ order) 1) 0 ≡ not b
anew bits order b h =
    let one : bit_and (bits / 2 ^ order) 1 ≡ cond b 1 0 = and_mask (bits / 2 ^ order) 1 ∙ h in rw one (by_test b)
  where
    by_test : (b : Bool) → eqb (cond b 1 0) 0 ≡ not b
    by_test true = refl
    by_test false = refl
