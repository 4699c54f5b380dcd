-- A label's value is far from the ends of its type.
use Rattle.std.proofs.Common.{ℕ, sym, subst}
use Rattle.duty_plan.specs.declared.plans.Case.{Case}
use Rattle.duty_plan.specs.declared.pricing.Prices.{Prices}
use Rattle.duty_plan.specs.declared.labels.Label.{Label}
use Rattle.duty_plan.specs.Values.{IsPrices}
use Rattle.duty_plan.specs.Duties.{IsCase, open_off_at, capacity_at}
use Rattle.duty_label.specs.Children.{IsLabelOfSome, IsSmallValue}
use Rattle.duty_label.proofs.Values.{value-small}

pub small : (case : Case) (driver : ℕ) (prices : Prices) (label : Label) → IsCase case → IsPrices case.week prices →
    IsLabelOfSome case driver prices label → IsSmallValue label.value
small case driver prices label c p h =
    subst IsSmallValue (sym h.has_label.label_of.value)
    (value-small case driver prices (open_off_at case driver) (capacity_at case driver) h.partial c.week p h.has_label.lawful.office)
