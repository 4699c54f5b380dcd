use Rattle.duty_label.specs.Children.{IsLabelOfSome}
use Rattle.duty_tests.proofs.labels.label_of.Given as goal

abbrev pub invariant-loop-step : goal.invariant-loop-step
invariant-loop-step l = IsLabelOfSome l.desk.case 0 l.desk.prices l.label
