-- The half-made duties of a beam.
use Rattle.std.specs.Prelude.{ℕ, All}
use Rattle.duty_plan.specs.declared.plans.Case.{Case}
use Rattle.duty_plan.specs.declared.pricing.Prices.{Prices}
use Rattle.duty_label.specs.Children.{IsLabelOfSome}
use Rattle.duty_beam.specs.declared.nodes.Nodes.{Nodes}

-- each node has the label of a lawful partial duty of the driver
abbrev pub AreLabels : Case → ℕ → Prices → Nodes → Type 0
AreLabels case driver prices nodes = All (λ node. IsLabelOfSome case driver prices node.label) nodes.nodes.items
