use Rattle.std.proofs.Common.{◌≡◌, zero, suc, [], ◌∷◌, refl, ap, arith, rules}
use Rattle.duty_plan.specs.declared.nodes.Node.{Node}
use Rattle.branch_tree.specs.Paths.{HasEarlierParents}
use Rattle.search_tests.proofs.tests.tree.Goals as goal

three : (a b c : Node) → a.parent ≡ 0 → b.parent ≡ 1 → c.parent ≡ 2 → HasEarlierParents (a ∷ b ∷ c ∷ [])
three a b c pa pb pc zero node is = absurd (omega (arith, is.0))
three a b c pa pb pc (suc zero) node is = let h = is.1 in let same : a ≡ node = cc in omega (arith, pa, ap (λ (n : Node). n.parent) same)
three a b c pa pb pc (suc (suc zero)) node is = let h = is.1 in let same : b ≡ node = cc in omega (arith, pb, ap (λ (n : Node). n.parent) same)
three a b c pa pb pc (suc (suc (suc zero))) node is = let h = is.1 in let same : c ≡ node = cc in omega (arith, pc, ap (λ (n : Node). n.parent) same)
three a b c pa pb pc (suc (suc (suc (suc k)))) node is = let h = is.1 in cc

pub returns : goal.returns
returns c =
    let items : c.push-3.new.self ≡ c.node.result ∷ c.node-2.result ∷ c.node-3.result ∷ [] = search rules in
    rw items (refl, three c.node.result c.node-2.result c.node-3.result c.node.ensures c.node-2.ensures c.node-3.ensures)
