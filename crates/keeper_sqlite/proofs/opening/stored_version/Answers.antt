use Rattle.std.proofs.Common.{arith}
use Rattle.sqlite.specs.Held.{state}
use Rattle.sqlite.specs.State.{HasCleanDisk}
use Rattle.keeper_sqlite.proofs.Stored.{version_stored}
use Rattle.keeper_sqlite.proofs.opening.stored_version.Goals as goal

pub returns-clause-version : goal.returns-clause-version
returns-clause-version g c late =
    let early : HasCleanDisk (state g.S.Store c.has_table.new.tx.conn.now) = omega (arith, c.read.ensures.kept.clean) in
    version_stored c.version_of.result c.as_slice.result.now c.in_ok-rows.rows.items (state g.S.Store c.has_table.new.tx.conn.now).now (state g.S.Store c.args.tx.now.conn.now).now c.version_query.result.now c.as_slice.ensures.value
    (c.in_ok-has_table.ensures.unchanged early) c.version_query.ensures.text (c.in_ok-rows.ensures.answers late) c.version_of.ensures
