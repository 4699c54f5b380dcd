use Rattle.std.proofs.Common.{◌∙◌}
use Rattle.driver_history.specs.Carrying.{all_stints}
use Rattle.driver_history.specs.Keeping.{seen}
use Rattle.driver_history.proofs.Shapes.{line-past}
use Rattle.driver_history.proofs.carrying.SinceWeeklyRest.into_history.Goals as goal

pub invariant_of-result : goal.invariant_of-result
invariant_of-result c = record { shape = rw (c.from_vec.ensures ∙ c.in_ok-stints.ensures) (line-past (all_stints (seen c.args.self)) c.requires.kept.shape) }
