use Rattle.std.proofs.Common.{◌≡◌, drop}
use Rattle.desk_report.specs.Services.{service_from}
use Rattle.desk_report.proofs.services.service_of.Given as goal

abbrev pub invariant-loop-driver : goal.invariant-loop-driver
invariant-loop-driver l =
    service_from l.week l.driver (drop l.driver l.duties) l.order ≡ service_from l.week 0 l.duties l.order
