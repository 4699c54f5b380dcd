use Rattle.desk_core.proofs.drafts.draft_from.Goals as goal

pub drivers_after-requires-clause-lawful : goal.drivers_after-requires-clause-lawful
drivers_after-requires-clause-lawful c = rw c.as_slice.ensures c.requires.lawful.lawful
