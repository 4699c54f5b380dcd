use Rattle.std.proofs.Common.{◌∙◌, ℕ, List, sym}
use Rattle.std.proofs.lemmas.Map.Text.{btree_map_updates_str}
use Rattle.std.specs.BTreeMap as tree
use Rattle.std.specs.Cmp.Lexicographic.{slice_cmp}
use Rattle.std.specs.Ordering.{nat_cmp}
use Rattle.week_book.proofs.Maps.{set_new, set_old}
use Rattle.week_book.proofs.name_indexes.enter.Goals as goal

pub returns-then-contains_key : goal.returns-then-contains_key
returns-then-contains_key c = λ q.
    set_old (λ (x : List ℕ). tree.get_by (λ k. slice_cmp nat_cmp x k.now) c.args.numbers.now) c.args.name.now q c.args.number (sym c.contains_key.ensures ∙ c.if-contains_key.true)

pub returns : goal.returns
returns c = λ q.
    let name = c.args.name.now in
    let u = btree_map_updates_str name c.args.numbers.now c.insert.new.self _ c.in_ok-insert.ensures.updates q in
    set_new (λ (x : List ℕ). tree.get_by (λ k. slice_cmp nat_cmp x k.now) c.args.numbers.now) (λ (x : List ℕ). tree.get_by (λ k. slice_cmp nat_cmp x k.now) c.insert.new.self) name q c.args.number
    (sym c.contains_key.ensures ∙ c.if-contains_key.false) u
