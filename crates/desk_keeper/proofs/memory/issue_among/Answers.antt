use Rattle.std.proofs.Common.{ap, ◌∙◌, Some, option_map, int_eq}
use Rattle.desk_keeper.specs.Records.{issue_fields}
use Rattle.desk_keeper.proofs.Lists.{find-map}
use Rattle.desk_keeper.proofs.memory.issue_among.Goals as goal

pub returns-in_ok-copy_issue-in-Some : goal.returns-in_ok-copy_issue-in-Some
returns-in_ok-copy_issue-in-Some c =
    ap Some c.in_ok-copy_issue-in-Some.ensures
    ∙ (ap (option_map issue_fields) c.in-Some.ensures ∙ find-map issue_fields (λ issue. int_eq issue.monday c.args.monday.day) c.args.issues.now)

pub returns-in-None : goal.returns-in-None
returns-in-None c = ap (option_map issue_fields) c.in-None.ensures ∙ find-map issue_fields (λ issue. int_eq issue.monday c.args.monday.day) c.args.issues.now
