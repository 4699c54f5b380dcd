use Rattle.std.proofs.Common.{ℕ, rules}
use Rattle.std.proofs.lemmas.Slice.Eq.{slice_eq-Decides}
use Rattle.duty_plan.proofs.alike.are_same_weeks.Goals as goal

pub returns : goal.returns
returns c = slice_eq-Decides (λ (a b : ℕ). search rules) c.args.one.now c.args.other.now c.eq.result c.eq.ensures
