-- A partial duty has one label.
use Rattle.std.proofs.Common.{◌≡◌, ℕ, sym, ◌∙◌}
use Rattle.minute_line.specs.Minutes.{Minutes}
use Rattle.hours_rules.specs.declared.clocks.Clock.{Clock}
use Rattle.hours_rules.specs.Rules.{Past}
use Rattle.hours_rules.specs.Standing.{Stands}
use Rattle.hours_rules.proofs.Same.{clock_ext}
use Rattle.duty_plan.specs.declared.plans.Case.{Case}
use Rattle.duty_plan.specs.declared.pricing.Prices.{Prices}
use Rattle.duty_plan.specs.declared.labels.Label.{Label}
use Rattle.duty_plan.specs.PartialDuties.{PartialDuty}
use Rattle.duty_plan.specs.Labels.{IsLabelOf}

-- one clock stands for a line
pub one_clock : (x y : Clock) (past : Past) (week : Minutes) → Stands x past week → Stands y past week → x ≡ y
one_clock x y past week s t = clock_ext x y (record {
  at = s.at ∙ sym t.at;
  off = s.off ∙ sym t.off;
  day_from = s.day_from ∙ sym t.day_from;
  rest_from = s.rest_from ∙ sym t.rest_from;
  period = s.period ∙ sym t.period;
  half = s.half ∙ sym t.half;
  drive_day = s.drive_day ∙ sym t.drive_day;
  long_days = s.long_days ∙ sym t.long_days;
  split = s.split ∙ sym t.split;
  reduced = s.reduced ∙ sym t.reduced;
  prev_weekly = s.prev_weekly ∙ sym t.prev_weekly;
  work_run = s.work_run ∙ sym t.work_run;
  work_day = s.work_day ∙ sym t.work_day;
  pause_day = s.pause_day ∙ sym t.pause_day;
  drive_week = s.drive_week ∙ sym t.drive_week;
  work_week = s.work_week ∙ sym t.work_week;
  prev_drive = s.prev_drive ∙ sym t.prev_drive;
  work_before = s.work_before ∙ sym t.work_before;
  owed = s.owed ∙ sym t.owed;
  due = s.due ∙ sym t.due;
})

-- labels with equal fields are equal
label_ext : (a b : Label) → a.clock ≡ b.clock → a.place ≡ b.place → a.served ≡ b.served → a.used ≡ b.used → a.loaded ≡ b.loaded →
    a.fee_paid ≡ b.fee_paid → a.value ≡ b.value → a ≡ b
label_ext a b clock place served used loaded fee_paid value = λ i. record {
  clock = clock i;
  place = place i;
  served = served i;
  used = used i;
  loaded = loaded i;
  fee_paid = fee_paid i;
  value = value i;
}

-- each field is fixed by the partial duty
pub one_label : (case : Case) (driver : ℕ) (prices : Prices) (a b : Label) (partial : PartialDuty) →
    IsLabelOf case driver prices a partial → IsLabelOf case driver prices b partial → a ≡ b
one_label case driver prices a b partial s t =
    label_ext a b (one_clock a.clock b.clock _ _ s.clock t.clock) (s.place ∙ sym t.place) (s.served ∙ sym t.served) (s.used ∙ sym t.used)
    (s.loaded ∙ sym t.loaded) (s.fee_paid ∙ sym t.fee_paid) (s.value ∙ sym t.value)
