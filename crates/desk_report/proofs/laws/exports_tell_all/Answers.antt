use Rattle.desk_report.proofs.OneExport.{exports_tell_all as law}
use Rattle.desk_report.proofs.laws.exports_tell_all.Goals as goal

pub returns : goal.returns
returns c = law
