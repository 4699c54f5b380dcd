use Rattle.std.proofs.Common.{◌≡◌, ◌∙◌, ℕ, ◌+◌, cond, Option, Some, None, List, [], ◌∷◌, map, length, sym, ap, arith, Bor}
use Rattle.std.proofs.lemmas.List.{length-map, map-append}
use Rattle.std.specs.Option.{option_or}
use Rattle.std.specs.Str.{bytes_eq}
use Rattle.week_book.specs.Names.{number_of}
use Rattle.week_book.proofs.Maps.{number_more}
use Rattle.week_book.proofs.name_indexes.NameIndex.with.Goals as goal

pub invariant_of-result : goal.invariant_of-result
invariant_of-result c = (
  (λ q.
      let view : Bor (List ℕ) → List ℕ = λ n. n.now in
      let before = c.self.inside.names.items in
      let name = c.args.name.now in
      let same_size : length (map view before) ≡ length before = length-map before view in
      let size : c.len-number.result ≡ 0 + length (map view before) = omega (arith, same_size) in
      let last : Option ℕ = cond (bytes_eq q name) (Some c.len-number.result) None in
      c.in_ok-enter.ensures q ∙ ap (λ (o : Option ℕ). option_or o last) (c.self.inside.numbered q)
      ∙ sym (number_more 0 c.len-number.result (map view before) name q size)
      ∙ ap (λ (ns : List (List ℕ)). number_of ns q) (sym (map-append view before (c.args.name ∷ [])) ∙ ap (map view) (sym c.in_ok-push.ensures.items))),
  tt,
)
