use Rattle.std.proofs.Common.{◌≡◌, ◌++◌, ◌∷◌, take}
use Rattle.std.specs.List.{flat_map}
use Rattle.minute_line.specs.Spelling.{stint_text}
use Rattle.minute_line.proofs.spelling.push_more_stints.Given as goal

abbrev pub invariant-loop-stint : goal.invariant-loop-stint
invariant-loop-stint l = l.out ≡ l.fn.out ++ flat_map (λ t. 44 ∷ stint_text t) (take l.stint-index l.stints)
