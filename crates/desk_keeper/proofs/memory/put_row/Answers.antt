use Rattle.std.proofs.Common.{◌≡◌, ap, ◌∙◌, map, position, Some, None}
use Rattle.std.specs.Str.{bytes_eq}
use Rattle.desk_keeper.specs.Memory.{row_fields}
use Rattle.desk_keeper.proofs.Lists.{put-map, put_there, put_last, on_ok}
use Rattle.desk_keeper.proofs.memory.put_row.Goals as goal

pub returns-in-Some : goal.returns-in-Some
returns-in-Some c =
    let driver = c.args.row.driver in
    let place : Some c.in-Some.place ≡ position (λ other. bytes_eq other.driver driver) c.args.rows.now = c.in-Some.ensures ∙ ap (position (λ other. bytes_eq other.driver driver)) c.as_slice.ensures in
    ap (map row_fields) (c.set.ensures ∙ put_there (λ other. bytes_eq other.driver driver) c.args.row c.args.rows.now c.in-Some.place place)
    ∙ put-map row_fields (λ other. bytes_eq other.driver driver) c.args.row c.args.rows.now

pub returns-in-None : goal.returns-in-None
returns-in-None c =
    let driver = c.args.row.driver in
    let place : None ≡ position (λ other. bytes_eq other.driver driver) c.args.rows.now = c.in-None.ensures ∙ ap (position (λ other. bytes_eq other.driver driver)) c.as_slice.ensures in
    on_ok c.push.result
    (λ pushed. ap (map row_fields) (pushed ∙ put_last (λ other. bytes_eq other.driver driver) c.args.row c.args.rows.now place)
    ∙ put-map row_fields (λ other. bytes_eq other.driver driver) c.args.row c.args.rows.now)
    c.push.ensures.ok
