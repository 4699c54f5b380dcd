use Rattle.std.proofs.Common.{◌≡◌, ap, ◌∙◌, map, filter, int_eq, not, rules}
use Rattle.std.proofs.lemmas.Fn.{filter_same}
use Rattle.desk_keeper.specs.Records.{draft_fields}
use Rattle.desk_keeper.proofs.Lists.{filter-map}
use Rattle.desk_keeper.proofs.memory.others.Goals as goal

pub returns : goal.returns
returns c =
    let day = c.args.monday.day in
    let kept : c.retain.new.self.items ≡ filter (λ draft. not (int_eq draft.monday.day day)) c.into_vec-drafts.result.items =
    filter_same _ (λ draft. not (int_eq draft.monday.day day)) _ (λ x b f' k. search rules) _ _ c.retain.ensures.filtered in
    ap (map draft_fields) (c.from_vec.ensures ∙ kept ∙ ap (filter (λ draft. not (int_eq draft.monday.day day))) c.into_vec-drafts.ensures)
    ∙ filter-map draft_fields (λ draft. not (int_eq draft.monday day)) c.args.drafts
