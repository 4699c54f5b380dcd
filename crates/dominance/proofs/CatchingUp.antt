-- The partial duty of a better label is behind the other's by the minutes between the two.
use Rattle.std.proofs.Common.{◌≡◌, ℕ, ◌-◌, ◌≤◌, Bool, true, false, cond, [], ◌∷◌, refl, ap, sym, ◌∙◌, arith, None}
use Rattle.std.specs.Int.{bit_at}
use Rattle.hours_rules.specs.declared.clocks.Clock.{Clock}
use Rattle.hours_rules.specs.Rules.{Past, fault}
use Rattle.hours_rules.specs.Standing.{Stands}
use Rattle.hours_rules.specs.Order.{IsRested}
use Rattle.hours_rules.proofs.Waiting.{ready_catches_up}
use Rattle.week_book.specs.declared.weeks.Week.{Week}
use Rattle.week_book.specs.Weeks.{IsWeek}
use Rattle.duty_plan.specs.declared.plans.Case.{Case}
use Rattle.duty_plan.specs.declared.labels.Label.{Label}
use Rattle.duty_plan.specs.declared.pricing.Prices.{Prices}
use Rattle.duty_plan.specs.Acts.{mark_of, minutes_of}
use Rattle.duty_plan.specs.PartialDuties.{PartialDuty, place_after, line_after, serves, KeepsOfficeThrough}
use Rattle.duty_plan.specs.Duties.{IsCase, IsLawfulPartialDuty, past_at, open_off_at, capacity_at}
use Rattle.duty_plan.specs.Labels.{IsLabelOf, has_step, served_after}
use Rattle.duty_plan.proofs.Runs.{duty-act}
use Rattle.duty_plan.proofs.Bits.{served_bits}
use Rattle.duty_plan.proofs.WeekLimits.{small-act, early}
use Rattle.dominance.specs.Reaching.{DominatesWithin}
use Rattle.dominance.proofs.DelayedLines.{closed, rested, earlier, waited_none}
use Rattle.dominance.proofs.Behind.{IsBehind}

-- no run is open after a partial duty with a step
closed-partial : (week : Week) (open_off capacity : ℕ) (past : Past) (partial : PartialDuty) (clock : Clock) → IsWeek week →
    KeepsOfficeThrough week open_off capacity partial → has_step partial ≡ true → Stands clock past (line_after week partial) →
    clock.off ≡ 0
closed-partial week open_off capacity past [] clock w k h s = cc
closed-partial week open_off capacity past (step ∷ before) clock w k h s =
    closed clock past step.stay (mark_of step.act) (minutes_of week (place_after before) step.act) (line_after week before)
    (duty-act step.act) (small-act week (place_after before) step.act w k.0.road).some s

-- a lawful partial duty with a step ends in an on-duty minute, and keeps its limits
rested-partial : (week : Week) (open_off capacity : ℕ) (past : Past) (partial : PartialDuty) (clock : Clock) → IsWeek week →
    KeepsOfficeThrough week open_off capacity partial → has_step partial ≡ true → Stands clock past (line_after week partial) →
    fault past (line_after week partial) ≡ None → IsRested clock
rested-partial week open_off capacity past [] clock w k h s f = cc
rested-partial week open_off capacity past (step ∷ before) clock w k h s f =
    rested clock past step.stay (mark_of step.act) (minutes_of week (place_after before) step.act) (line_after week before)
    (duty-act step.act) (small-act week (place_after before) step.act w k.0.road).some s f

-- a test as a bit
abbrev pub bit_of : Bool → ℕ
bit_of b = cond b 1 0

pub bit_less : (x y : Bool) → bit_of x ≤ bit_of y → y ≡ false → x ≡ false
bit_less true true l h = h
bit_less true false l h = absurd (omega arith)
bit_less false y l h = refl

bit_same : (x y : Bool) → bit_of x ≡ bit_of y → x ≡ y
bit_same true true e = refl
bit_same true false e = absurd (omega arith)
bit_same false true e = absurd (omega arith)
bit_same false false e = refl

-- the bit of an order in a label is whether its partial duty serves the order
pub serves-bit : (label : Label) (partial : PartialDuty) (order : ℕ) → label.served ≡ served_after partial →
    bit_at label.served order ≡ bit_of (serves order partial)
serves-bit label partial order e = ap (λ (x : ℕ). bit_at x order) e ∙ served_bits order partial

-- where a label betters another within reach, its partial duty is behind by the minutes between the two
pub better-behind : (case : Case) (driver : ℕ) (prices : Prices) (forced reach : ℕ) (a b : Label) (better worse : PartialDuty) →
    IsCase case → IsLawfulPartialDuty case driver better → IsLawfulPartialDuty case driver worse →
    IsLabelOf case driver prices a better → IsLabelOf case driver prices b worse →
    a.fee_paid ≡ true → b.fee_paid ≡ true → DominatesWithin a b forced reach →
    IsBehind case driver forced reach (b.clock.at - a.clock.at) better worse
better-behind case driver prices forced reach a b better worse c lf ls la lb fa fb h =
    let week = case.week in
    let past = past_at case driver in
    let first_step = sym la.fee_paid ∙ fa in
    let second_step = sym lb.fee_paid ∙ fb in
    let open_off = open_off_at case driver in
    let capacity = capacity_at case driver in
    let wa = line_after week better in
    let wb = line_after week worse in
    let first_off = closed-partial week open_off capacity past better a.clock c.week lf.office first_step la.clock in
    let second_off = closed-partial week open_off capacity past worse b.clock c.week ls.office second_step lb.clock in
    let limits = rested-partial week open_off capacity past worse b.clock c.week ls.office second_step lb.clock ls.hours in
    let small : b.clock.at ≤ 10080 = omega (arith, lb.clock.at, early week open_off capacity worse ls.office) in
    let sooner = earlier a.clock b.clock past wa wb la.clock lb.clock h.clock first_off second_off in
    let catch = ready_catches_up a.clock b.clock past past wa wb la.clock lb.clock sooner limits small in
    record {
      place = sym la.place ∙ (h.place ∙ lb.place);
      minutes = omega (arith, la.clock.at, lb.clock.at, h.clock.at);
      loaded = λ l. sym la.loaded ∙ h.loaded (lb.loaded ∙ l);
      used = omega (arith, la.used, lb.used, h.used);
      among = λ o r s. bit_less (serves o better) (serves o worse)
          (omega (arith, serves-bit a better o la.served, serves-bit b worse o lb.served, h.among o r)) s;
      agree = λ o s. bit_same (serves o better) (serves o worse)
          (sym (serves-bit a better o la.served) ∙ (h.agree o s ∙ serves-bit b worse o lb.served));
      steps = (first_step, second_step);
      together = catch.0;
      hours = waited_none past (b.clock.at - a.clock.at) wa lf.hours catch.1;
    }
