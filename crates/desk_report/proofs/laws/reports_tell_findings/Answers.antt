use Rattle.desk_report.proofs.OneReport.{reports_tell_findings as law}
use Rattle.desk_report.proofs.laws.reports_tell_findings.Goals as goal

pub returns : goal.returns
returns c = law
