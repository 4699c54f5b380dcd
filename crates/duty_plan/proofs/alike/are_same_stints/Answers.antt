use Rattle.std.proofs.Common.{rules}
use Rattle.std.proofs.lemmas.Slice.Eq.{slice_eq-Decides}
use Rattle.minute_line.specs.declared.marks.Stint.{Stint}
use Rattle.duty_plan.proofs.alike.are_same_stints.Goals as goal

pub returns : goal.returns
returns c = slice_eq-Decides (λ (a b : Stint). search rules) c.args.one.now c.args.other.now c.eq.result c.eq.ensures
