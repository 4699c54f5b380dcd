use Rattle.std.proofs.Common.{◌≤◌, ◌+◌, ◌∷◌, ap, sym, arith}
use Rattle.std.proofs.lemmas.Bool.{leb-true}
use Rattle.duty_plan.specs.declared.positions.Position.{Position}
use Rattle.duty_plan.specs.PartialDuties.{at_after}
use Rattle.duty_plan.proofs.WeekLimits.{has-bit, small-act}
use Rattle.duty_plan.proofs.OfficeSteps.{ends, kept, light-position, night-small, position-step, taken-cents}
use Rattle.duty_plan.proofs.positions.Position.try_step.Goals as goal

pub returns : goal.returns
returns c = λ before office s.
    let k = kept c.args.week.now c.args.open_off c.args.lorry.now.capacity c.args.number before c.args.self.now c.args.step.now c.fault.result _ c.in-Some.effect.minutes
    s c.in-Some.ensures.road c.in-Some.ensures.minutes (omega (arith, c.act_start.ensures.start, c.from.ensures)) (c.fault.ensures before s) c.in_default-fault.is in record {
      office = k;
      minutes = rw (ap (λ (p : Position). p.place) s) at c.in-Some.ensures.minutes;
      cents = taken-cents c.args.week.now before c.args.self.now c.args.step.now c.night.result c.in-Some.effect.cents s c.night.ensures c.in-Some.ensures.cents;
      position = position-step c.args.week.now before c.args.self.now c.args.step.now _ _ _ c.in-Some.effect.minutes _ _ s c.in-Some.ensures.minutes
          (omega (arith, c.act_start.ensures.start, c.from.ensures)) c.place_after.ensures c.used_after.ensures c.loaded_after.ensures c.with_bit.ensures;
    }

pub fault-requires-clause-used : goal.fault-requires-clause-used
fault-requires-clause-used c = light-position c.args.week.now c.args.lorry.now c.args.open_off c.args.self.now c.requires.lorry c.requires.position

pub fault-requires-clause-bit : goal.fault-requires-clause-bit
fault-requires-clause-bit c =
    has-bit c.args.week.now c.args.self.now.place c.args.step.now.act c.requires.week (sym c.in-Some.ensures.road)

pub overflow_add-result : goal.overflow_add-result
overflow_add-result c =
    let s = small-act c.args.week.now c.args.self.now.place c.args.step.now.act c.requires.week (sym c.in-Some.ensures.road) in
    omega (arith, s.cheap, c.in-Some.ensures.cents, night-small _ c.args.week.now.night c.night.result c.requires.week.night c.night.ensures)

pub overflow_cast-result : goal.overflow_cast-result
overflow_cast-result c =
    let h = c.requires.position in
    let k = kept c.args.week.now c.args.open_off c.args.lorry.now.capacity c.args.number h.partial c.args.self.now c.args.step.now c.fault.result _ c.in-Some.effect.minutes
    h.position_is c.in-Some.ensures.road c.in-Some.ensures.minutes (omega (arith, c.act_start.ensures.start, c.from.ensures)) (c.fault.ensures h.partial h.position_is)
    c.in_default-fault.is in
    let late : at_after c.args.week.now (c.args.step.now ∷ h.partial) ≤ 10080 = leb-true (at_after c.args.week.now (c.args.step.now ∷ h.partial)) 10080 k.late in
    omega (
      arith,
      late,
      ends c.args.week.now h.partial c.args.self.now c.args.step.now (c.act_start.result + c.from.result) c.in-Some.effect.minutes h.position_is
          c.in-Some.ensures.minutes (omega (arith, c.act_start.ensures.start, c.from.ensures)),
    )

pub used_after-requires-clause-used : goal.used_after-requires-clause-used
used_after-requires-clause-used c = light-position c.args.week.now c.args.lorry.now c.args.open_off c.args.self.now c.requires.lorry c.requires.position

pub with_bit-requires : goal.with_bit-requires
with_bit-requires c =
    has-bit c.args.week.now c.args.self.now.place c.args.step.now.act c.requires.week (sym c.in-Some.ensures.road)
