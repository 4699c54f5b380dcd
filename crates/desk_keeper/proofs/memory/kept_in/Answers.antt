use Rattle.std.proofs.Common.{ap, ◌∙◌, Some, option_map}
use Rattle.std.specs.Str.{bytes_eq}
use Rattle.desk_keeper.specs.Memory.{row_fields}
use Rattle.desk_keeper.proofs.Lists.{find-map}
use Rattle.desk_keeper.proofs.memory.kept_in.Goals as goal

pub returns-in_ok-copy_kept-in-Some : goal.returns-in_ok-copy_kept-in-Some
returns-in_ok-copy_kept-in-Some c =
    ap Some c.in_ok-copy_kept-in-Some.ensures
    ∙ ap (option_map (λ row. row.kept)) (ap (option_map row_fields) c.in-Some.ensures ∙ find-map row_fields (λ row. bytes_eq row.driver c.args.driver.now) c.args.rows.now)

pub returns-in-None : goal.returns-in-None
returns-in-None c =
    ap (option_map (λ row. row.kept)) (ap (option_map row_fields) c.in-None.ensures ∙ find-map row_fields (λ row. bytes_eq row.driver c.args.driver.now) c.args.rows.now)
