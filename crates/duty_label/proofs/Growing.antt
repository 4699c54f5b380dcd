-- What one step more makes of a driver's label.
use Rattle.std.proofs.Common.{◌≡◌, ℕ, ◌+◌, true, false, cond, [], ◌∷◌, Some, None, Result, Ok}
use Rattle.std.proofs.Common.{slice_get, refl, ap, ◌∙◌, arith}
use Rattle.std.specs.Prelude.{ℤ, pos, ◌+ℤ◌, ◌-ℤ◌}
use Rattle.minute_line.specs.declared.lines.History.{History}
use Rattle.hours_rules.specs.declared.clocks.Clock.{Clock}
use Rattle.hours_rules.specs.declared.rules.Broken.{Broken}
use Rattle.hours_rules.specs.Rules.{fault_from}
use Rattle.hours_rules.specs.Standing.{Stands}
use Rattle.hours_rules.specs.Going.{StandsOrBreaks, AnswersStay}
use Rattle.hours_rules.specs.Verdicts.{past_of}
use Rattle.week_book.specs.declared.weeks.Driver.{Driver}
use Rattle.duty_plan.specs.declared.duties.Step.{Step}
use Rattle.duty_plan.specs.declared.plans.Case.{Case}
use Rattle.duty_plan.specs.declared.pricing.Prices.{Prices}
use Rattle.duty_plan.specs.declared.labels.Label.{Label}
use Rattle.duty_plan.specs.declared.positions.Position.{Position}
use Rattle.duty_plan.specs.declared.positions.StepEffect.{StepEffect}
use Rattle.duty_plan.specs.Acts.{mark_of, order_of_act}
use Rattle.duty_plan.specs.PartialDuties.{PartialDuty, line_after, KeepsOfficeThrough}
use Rattle.duty_plan.specs.Duties.{IsCase, IsLawfulPartialDuty, past_at, past_or_none, open_off_at, open_or_none, capacity_at, capacity_or_none}
use Rattle.duty_plan.specs.Duties.{worth}
use Rattle.duty_plan.specs.Labels.{IsLabelOf}
use Rattle.duty_plan.specs.Positions.{position_of, IsTaken}
use Rattle.duty_plan.specs.Values.{IsPrices, price_at, reduced_cost}
use Rattle.duty_plan.proofs.Stepping.{GoesOn, goes-on, IsSmallStep, small-taken}
use Rattle.duty_label.specs.Children.{HasLabel, IsLabelOfSome, IsSmallValue, fault_of_step}
use Rattle.duty_label.proofs.Brought.{Names, fault-hours}
use Rattle.duty_label.proofs.Values.{value-small, value-step}

-- where a label says that its steps leave the driver
abbrev pub label_position : Label → Position
label_position label = record {
  at = label.clock.at;
  place = label.place;
  used = label.used;
  loaded = label.loaded;
  begun = label.fee_paid;
  served = label.served;
}

pub is-position : (case : Case) (driver : ℕ) (prices : Prices) (before : PartialDuty) (label : Label) → HasLabel case driver prices before label →
    label_position label ≡ position_of case.week before
is-position case driver prices before label h =
    let of = h.label_of in rw (of.clock.at, of.place, of.used, of.loaded, of.fee_paid, of.served) refl

-- what the step comes to, whatever partial duty has the position
abbrev pub Takes : Case → Driver → History → Position → Step → StepEffect → Type 0
Takes case lorry history position step taken =
    (partial : PartialDuty) → KeepsOfficeThrough case.week history.open_off lorry.capacity partial → position ≡ position_of case.week partial →
    IsTaken case.week history.open_off lorry.capacity partial step taken

-- the office rules hold through a lawful partial duty
pub keeps : (case : Case) (driver : ℕ) (lorry : Driver) (history : History) (partial : PartialDuty) → Names case driver lorry history →
    IsLawfulPartialDuty case driver partial → KeepsOfficeThrough case.week history.open_off lorry.capacity partial
keeps case driver lorry history partial n l =
    let open_off : open_off_at case driver ≡ history.open_off = ap open_or_none n.history_is in
    let capacity : capacity_at case driver ≡ lorry.capacity = ap capacity_or_none n.lorry_is in
    rw (open_off, capacity) at l.office

-- the step that is taken after a partial duty that has the label
pub takes-label : (case : Case) (driver : ℕ) (prices : Prices) (lorry : Driver) (history : History) (before : PartialDuty) (label : Label)
    (step : Step) (taken : StepEffect) → Names case driver lorry history → HasLabel case driver prices before label →
    Takes case lorry history (label_position label) step taken → IsTaken case.week history.open_off lorry.capacity before step taken
takes-label case driver prices lorry history before label step taken n h t =
    t before (keeps case driver lorry history before n h.lawful) (is-position case driver prices before label h)

-- the label's clock stands for the driver's line
pub stands-label : (case : Case) (driver : ℕ) (prices : Prices) (lorry : Driver) (history : History) (before : PartialDuty) (label : Label) →
    Names case driver lorry history → HasLabel case driver prices before label →
    Stands label.clock (past_of history) (line_after case.week before) × (fault_from 0 (past_of history) (line_after case.week before) ≡ None)
stands-label case driver prices lorry history before label n h =
    let past : past_at case driver ≡ past_of history = ap past_or_none n.history_is in
    (rw past at h.label_of.clock, rw past at h.lawful.hours)

-- the label's clock may go on through the step
pub goes-label : (case : Case) (driver : ℕ) (prices : Prices) (lorry : Driver) (history : History) (label : Label) (step : Step)
    (taken : StepEffect) → IsCase case → Names case driver lorry history → IsLabelOfSome case driver prices label →
    Takes case lorry history (label_position label) step taken → GoesOn label.clock step.stay taken.minutes
goes-label case driver prices lorry history label step taken c n s t =
    let good = takes-label case driver prices lorry history s.partial label step taken n s.has_label t in
    goes-on case.week lorry.capacity history s.partial step taken.minutes label.clock c.week (keeps case driver lorry history s.partial n
    s.has_label.lawful)
    good.office good.minutes (stands-label case driver prices lorry history s.partial label n s.has_label).0

-- a taken step is small
pub small-label : (case : Case) (driver : ℕ) (prices : Prices) (lorry : Driver) (history : History) (label : Label) (step : Step)
    (taken : StepEffect) → IsCase case → Names case driver lorry history → IsLabelOfSome case driver prices label →
    Takes case lorry history (label_position label) step taken → IsSmallStep taken
small-label case driver prices lorry history label step taken c n s t =
    small-taken case.week history.open_off lorry.capacity s.partial step taken c.week
    (takes-label case driver prices lorry history s.partial label step taken n s.has_label t)

-- what `go` answers for the longer line
pub goes-line : (case : Case) (driver : ℕ) (prices : Prices) (lorry : Driver) (history : History) (before : PartialDuty) (label : Label)
    (step : Step) (taken : StepEffect) (answer : Result Clock Broken) → Names case driver lorry history →
    HasLabel case driver prices before label → Takes case lorry history (label_position label) step taken →
    AnswersStay label.clock step.stay (mark_of step.act) taken.minutes answer → StandsOrBreaks 0 (past_of history)
    (line_after case.week (step ∷ before)) answer
goes-line case driver prices lorry history before label step taken answer n h t a =
    let good = takes-label case driver prices lorry history before label step taken n h t in
    let s = stands-label case driver prices lorry history before label n h in
    rw good.minutes at (a 0 (past_of history) (line_after case.week before) s.0 (omega arith) s.1)

-- the label of no step
pub first-label : (case : Case) (driver : ℕ) (prices : Prices) (history : History) (clock : Clock) → slice_get case.past driver ≡ Some
    history →
    Stands clock (past_of history) [] →
    HasLabel case driver prices [] (record {
      clock = clock;
      place = 0;
      served = 0;
      used = 0;
      loaded = false;
      fee_paid = false;
      value = pos 0;
    })
first-label case driver prices history clock h s =
    let past : past_at case driver ≡ past_of history = ap past_or_none h in record {
      lawful = record { office = tt; hours = refl };
      label_of = record { clock = rw past s; place = refl; served = refl; used = refl; loaded = refl; fee_paid = refl; value = refl };
    }

-- the value of a label is small
pub label-value : (case : Case) (driver : ℕ) (prices : Prices) (lorry : Driver) (history : History) (label : Label) → IsCase case →
    IsPrices case.week prices →
    Names case driver lorry history → IsLabelOfSome case driver prices label → IsSmallValue label.value
label-value case driver prices lorry history label c p n s =
    rw s.has_label.label_of.value
    (value-small case driver prices history.open_off lorry.capacity s.partial c.week p (keeps case driver lorry history s.partial n
    s.has_label.lawful))

-- the label of one step more
pub longer-label : (case : Case) (driver : ℕ) (prices : Prices) (lorry : Driver) (history : History) (before : PartialDuty) (label : Label)
    (step : Step) (taken : StepEffect) (clock : Clock) (fee price : ℕ) (value : ℤ) → Names case driver lorry history → HasLabel case driver prices before label →
    Takes case lorry history (label_position label) step taken → AnswersStay label.clock step.stay (mark_of step.act) taken.minutes (Ok clock) →
    fee ≡ cond label.fee_paid 0 lorry.fee → price ≡ worth (price_at prices) (order_of_act step.act) →
    value ≡ label.value +ℤ pos (fee + taken.cents) -ℤ pos price →
    (fault_of_step case driver before step ≡ None) × IsLabelOf case driver prices (record {
      clock = clock;
      place = taken.position.place;
      served = taken.position.served;
      used = taken.position.used;
      loaded = taken.position.loaded;
      fee_paid = true;
      value = value;
    }) (step ∷ before)
longer-label case driver prices lorry history before label step taken clock fee price value n h t a f p v =
    let good = takes-label case driver prices lorry history before label step taken n h t in
    let line : StandsOrBreaks 0 (past_of history) (line_after case.week (step ∷ before)) (Ok clock) =
    goes-line case driver prices lorry history before label step taken (Ok clock) n h t a in
    let past : past_at case driver ≡ past_of history = ap past_or_none n.history_is in
    let sum : value ≡ reduced_cost case driver prices before +ℤ pos (fee + taken.cents) -ℤ pos price = rw h.label_of.value at v in (
      fault-hours case driver lorry history before step None n good.office line.1,
      record {
        clock = rw past line.0;
        place = ap (λ (p : Position). p.place) good.position;
        served = ap (λ (p : Position). p.served) good.position;
        used = ap (λ (p : Position). p.used) good.position;
        loaded = ap (λ (p : Position). p.loaded) good.position;
        fee_paid = refl;
        value = sum
            ∙ value-step case driver prices lorry before step label.fee_paid fee taken.cents price n.lorry_is h.label_of.fee_paid f
            good.cents p;
      },
    )
