use Rattle.week_maker.proofs.Ranges.{week-in-range}
use Rattle.week_maker.proofs.laws.made_weeks_are_in_range.Goals as goal

pub returns : goal.returns
returns c = week-in-range
