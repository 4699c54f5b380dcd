use Rattle.std.proofs.Common.{ap, ◌∙◌, Some, option_map, int_eq}
use Rattle.desk_keeper.specs.Records.{draft_fields}
use Rattle.desk_keeper.proofs.Lists.{find-map}
use Rattle.desk_keeper.proofs.memory.draft_among.Goals as goal

pub returns-in_ok-copy_draft-in-Some : goal.returns-in_ok-copy_draft-in-Some
returns-in_ok-copy_draft-in-Some c =
    ap Some c.in_ok-copy_draft-in-Some.ensures
    ∙ (ap (option_map draft_fields) c.in-Some.ensures ∙ find-map draft_fields (λ draft. int_eq draft.monday c.args.monday.day) c.args.drafts.now)

pub returns-in-None : goal.returns-in-None
returns-in-None c = ap (option_map draft_fields) c.in-None.ensures ∙ find-map draft_fields (λ draft. int_eq draft.monday c.args.monday.day) c.args.drafts.now
