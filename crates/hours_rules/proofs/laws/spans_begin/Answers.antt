use Rattle.hours_rules.proofs.Beginnings.{spans_begin}
use Rattle.hours_rules.proofs.laws.spans_begin.Goals as goal

pub returns : goal.returns
returns c = spans_begin
