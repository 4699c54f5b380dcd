use Rattle.desk_core.specs.Books.{gathered}
use Rattle.desk_core.proofs.Gathering.{one_each}
use Rattle.desk_core.proofs.planning.histories_in.Goals as goal

pub returns-clause-each : goal.returns-clause-each
returns-clause-each c = one_each c.args.rows.now c.args.drivers.now (gathered c.in_ok-pasts.pasts) c.all_in.result c.in_ok-pasts.ensures.pasts c.all_in.ensures.all
