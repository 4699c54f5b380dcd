-- The labels before the next one better nothing.
use Rattle.std.proofs.Common.{◌≡◌, true}
use Rattle.std.specs.List.{AllWithin}
use Rattle.duty_plan.specs.Labels.{Dominates}
use Rattle.dominance.proofs.storing.Fronts.bettered.Given as goal

abbrev pub invariant-loop-stored : goal.invariant-loop-stored
invariant-loop-stored l =
    AllWithin (λ stored. stored.fee_paid ≡ true → Dominates stored l.label l.self.forced → ⊥) l.stored-items 0 l.stored-index
