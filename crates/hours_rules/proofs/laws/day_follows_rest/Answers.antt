use Rattle.hours_rules.specs.Counts.{ends_rest}
use Rattle.hours_rules.proofs.Beginnings.{spans_begin}
use Rattle.hours_rules.proofs.laws.day_follows_rest.Goals as goal

pub returns : goal.returns
returns c = spans_begin ends_rest
