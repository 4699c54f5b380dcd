use Rattle.desk_report.proofs.WholeReport.{bodies_tell_all, reports_tell_all as law}
use Rattle.desk_report.proofs.laws.reports_tell_all.Goals as goal

pub returns-clause-body : goal.returns-clause-body
returns-clause-body c = bodies_tell_all

pub returns-clause-report : goal.returns-clause-report
returns-clause-report c = law
