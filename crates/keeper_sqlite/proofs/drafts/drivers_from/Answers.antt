use Rattle.keeper_sqlite.proofs.Named.{none_named}
use Rattle.keeper_sqlite.proofs.drafts.drivers_from.Goals as goal

pub loop-row-init : goal.loop-row-init
loop-row-init c = none_named c.new-drivers.result c.new-drivers.ensures
