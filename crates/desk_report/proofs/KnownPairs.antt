-- A tree decides of drivers and orders of the week alone.
use Rattle.std.proofs.Common.{◌≡◌, ◌⊎◌, inl, inr, ℕ, pred, ◌+◌, List, [], ◌∷◌, zero, suc, get_or, Some, slice_get, refl, ap, sym, ◌∙◌, subst, arith}
use Rattle.std.proofs.lemmas.Option.{slice_get_within, slice_get-get_or}
use Rattle.week_book.specs.declared.weeks.Week.{Week}
use Rattle.duty_plan.specs.declared.nodes.Node.{Node}
use Rattle.duty_plan.specs.Nodes.{IsNode, IsTree, HasChildren}
use Rattle.desk_report.proofs.TellingNodes.{IsKnownPair, AreKnownPairs}

same-there : (tree : List Node) (i j : ℕ) (a b : Node) → i ≡ j → slice_get tree i ≡ Some a → slice_get tree j ≡ Some b → a ≡ b
same-there tree i j a b e p q = let same : Some a ≡ Some b = sym p ∙ ap (λ k. slice_get tree k) e ∙ q in cc same

child-known : (week : Week) (tree : List Node) (number parent : ℕ) (node : Node) → IsNode tree number node → (h : HasChildren week tree parent)
    → (number ≡ h.child) ⊎ (number ≡ h.child + 1) → IsKnownPair week node.decision
child-known week tree number parent node is h (inl e) =
    let same : node ≡ h.forcing = same-there tree (pred number) (pred h.child) node h.forcing (ap pred e) is.1 h.is_forcing.1 in
    subst (IsKnownPair week) (sym (ap (λ (n : Node). n.decision) same ∙ h.forces_it)) h.in_week
child-known week tree number parent node is h (inr e) =
    let same : node ≡ h.barring = same-there tree (pred number) (pred (h.child + 1)) node h.barring (ap pred e) is.1 h.is_barring.1 in
    subst (IsKnownPair week) (sym (ap (λ (n : Node). n.decision) same ∙ h.bars_it)) h.in_week

node-known : (week : Week) (tree : List Node) (n : ℕ) (node : Node) → IsTree week tree → slice_get tree n ≡ Some node → IsKnownPair week node.decision
node-known week tree zero node t there = subst (IsKnownPair week) (sym (t.root node (omega arith, there)).1) tt
node-known week tree (suc n) node t there =
    let is : IsNode tree (suc (suc n)) node = (omega arith, there) in
    let up = t.others (suc (suc n)) node (omega arith) is in
    let within = slice_get_within tree (suc n) node there in
    let parent : Node = get_or tree (pred node.parent) node in
    let of : IsNode tree node.parent parent = (up.0, slice_get-get_or tree (pred node.parent) node (omega (arith, up.0, up.1, within))) in
    let children = t.branched node.parent parent of (t.parents (suc (suc n)) node parent is of) in
    child-known week tree (suc (suc n)) node.parent node is children (children.only (suc (suc n)) node is refl)

all-known : (week : Week) (tree : List Node) → ((n : ℕ) (node : Node) → slice_get tree n ≡ Some node → IsKnownPair week node.decision) → AreKnownPairs week tree
all-known week [] each = tt
all-known week (node ∷ tree) each = (each 0 node refl, all-known week tree (λ n other there. each (suc n) other there))

pub tree-known : (week : Week) (tree : List Node) → IsTree week tree → AreKnownPairs week tree
tree-known week tree t = all-known week tree (λ n node there. node-known week tree n node t there)
