use Rattle.duty_label.proofs.Prunes.{prunes_soundly, keeps_on_time, keeps_hopeful}
use Rattle.duty_label.proofs.laws.prune.Goals as goal

pub returns-clause-sound : goal.returns-clause-sound
returns-clause-sound c = prunes_soundly

pub returns-clause-on_time : goal.returns-clause-on_time
returns-clause-on_time c = keeps_on_time

pub returns-clause-hopeful : goal.returns-clause-hopeful
returns-clause-hopeful c = keeps_hopeful
