use Rattle.std.proofs.Common.{◌≡◌, ap, ◌∙◌, map, int_eq, position, Some, None}
use Rattle.desk_keeper.specs.Records.{draft_fields}
use Rattle.desk_keeper.proofs.Lists.{put-map, put_there, put_last, on_ok}
use Rattle.desk_keeper.proofs.memory.put_among.Goals as goal

pub returns-in-Some-clause-ok : goal.returns-in-Some-clause-ok
returns-in-Some-clause-ok c =
    let day = c.args.draft.monday.day in
    let place : Some c.in-Some.place ≡ position (λ other. int_eq other.monday.day day) c.args.drafts.now = c.in-Some.ensures ∙ ap (position (λ other. int_eq other.monday.day day)) c.as_slice.ensures in
    ap (map draft_fields) (c.set.ensures ∙ put_there (λ other. int_eq other.monday.day day) c.args.draft c.args.drafts.now c.in-Some.place place)
    ∙ put-map draft_fields (λ other. int_eq other.monday day) c.args.draft c.args.drafts.now

pub returns-in-None-clause-ok : goal.returns-in-None-clause-ok
returns-in-None-clause-ok c =
    let day = c.args.draft.monday.day in
    let place : None ≡ position (λ other. int_eq other.monday.day day) c.args.drafts.now = c.in-None.ensures ∙ ap (position (λ other. int_eq other.monday.day day)) c.as_slice.ensures in
    on_ok c.push.result
    (λ pushed. ap (map draft_fields) (pushed ∙ put_last (λ other. int_eq other.monday.day day) c.args.draft c.args.drafts.now place)
    ∙ put-map draft_fields (λ other. int_eq other.monday day) c.args.draft c.args.drafts.now)
    c.push.ensures.ok
