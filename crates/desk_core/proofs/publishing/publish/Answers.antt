use Rattle.std.proofs.Common.{ap, map}
use Rattle.desk_keeper.specs.Tables.{driver_fields}
use Rattle.desk_keeper.specs.Records.{draft_fields}
use Rattle.desk_core.proofs.Publications.{is_issued}
use Rattle.desk_core.proofs.publishing.publish.Goals as goal

pub returns-clause-step : goal.returns-clause-step
returns-clause-step g c =
    is_issued (g.B.Keeper.tables c.args.keeper.now) (g.B.Keeper.tables c.draft_at.new.keeper) (g.B.Keeper.tables c.expect_as_seen.new.keeper)
    (g.B.Keeper.tables c.publish.new.self) c.args.monday c.args.revision c.in_ok-receipt.receipt (draft_fields c.in_ok-draft.draft)
    (map driver_fields c.as_slice.result.now) c.in_ok-text.text.items c.publication_ended.result c.in_ok-draft.ensures.tables c.in_ok-expect_as_seen.ensures.tables
    c.in_ok-receipt.ensures.tables c.in_ok-draft.ensures.answer (ap (map driver_fields) c.as_slice.ensures) c.in_ok-expect_as_seen.ensures.answer
    c.in_ok-receipt.ensures.receipt c.in_ok-text.ensures.text c.publication_ended.ensures
