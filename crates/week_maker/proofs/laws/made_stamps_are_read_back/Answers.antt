use Rattle.week_maker.proofs.Stamps.{week-read-back}
use Rattle.week_maker.proofs.laws.made_stamps_are_read_back.Goals as goal

pub returns : goal.returns
returns c = week-read-back
