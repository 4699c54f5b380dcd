use Rattle.std.proofs.Common.{◌∙◌, ap}
use Rattle.std.specs.Option.{option_map_or}
use Rattle.driver_history.specs.Reading.{off_in}
use Rattle.driver_history.proofs.activities.trailing.Goals as goal

pub returns-in-Some : goal.returns-in-Some
returns-in-Some c = c.off_minutes.ensures ∙ ap (λ last. option_map_or off_in last 0) c.in-Some.ensures.value

pub returns-in-None : goal.returns-in-None
returns-in-None c = ap (λ last. option_map_or off_in last 0) c.in-None.ensures.value
