-- A tree that grows keeps the paths of the nodes that it has.
use Rattle.std.proofs.Common.{◌≡◌, ℕ, ◌+◌, ◌≤◌, false, List, [], ◌∷◌, ◌++◌, length, reverse, refl, ap, sym, ◌∙◌, arith, eqb, length-append}
use Rattle.std.proofs.lemmas.List.{reverse-append, length-reverse}
use Rattle.std.proofs.lemmas.Bool.Decides.{nat_tests}
use Rattle.duty_plan.specs.declared.nodes.Node.{Node}
use Rattle.duty_plan.specs.Nodes.{path_in}
use Rattle.branch_tree.specs.PathLaws.{DecidedHasNoFree, PathsLast}

skips : (newer older : List Node) (k : ℕ) → k ≤ length older → path_in (newer ++ older) k ≡ path_in older k
skips [] older k l = refl
skips (x ∷ newer) older k l =
    let e : eqb k (length (newer ++ older) + 1) ≡ false = grind (arith, nat_tests, length-append newer older) in
    rw e (skips newer older k l)

pub paths_last : PathsLast
paths_last tree more k l =
    ap (λ (xs : List Node). path_in xs k) (reverse-append tree more)
    ∙ skips (reverse more) (reverse tree) k (omega (arith, length-reverse tree))

pub decided_has_no_free : DecidedHasNoFree
decided_has_no_free week tree k pairs p = (
  λ decided h. decided h.0 h.1 h.2 h.3 (p.each h.0 h.1 h.2 h.3 ∙ h.4),
  λ none d o ld lo e. none (d, o, ld, lo, sym (p.each d o ld lo) ∙ e),
)
