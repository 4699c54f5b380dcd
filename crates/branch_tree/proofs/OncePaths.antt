-- A path that decides only what is Free forces no order for two drivers, whatever tree it stands in.
use Rattle.std.proofs.Common.{◌≡◌, ℕ, true, List, [], ◌∷◌, sym, ◌∙◌}
use Rattle.duty_plan.specs.declared.nodes.Decision.{Decision}
use Rattle.duty_plan.specs.declared.nodes.Decision.TheVariants.{Root, Forced as forces, Barred as bars}
use Rattle.duty_plan.specs.Values.{forced_by}
use Rattle.price_master.proofs.Decisions.{is-forced}
use Rattle.branch_tree.specs.PathLaws.{DecidesOnlyFree, PathsForceOnce}
use Rattle.branch_tree.proofs.ForcedOnce.{once-path}

once : (path : List Decision) → DecidesOnlyFree path → (d e o : ℕ) → forced_by d o path ≡ true → forced_by e o path ≡ true → d ≡ e
once [] f d e o h i = cc
once (Root ∷ []) f d e o h i = cc
once (Root ∷ (x ∷ rest)) f d e o h i = cc
once (forces x y ∷ rest) f d e o h i = once-path (forces x y) rest f.0 (λ a b c. once rest f.1 a b c) d e o h i
once (bars x y ∷ rest) f d e o h i = once-path (bars x y) rest f.0 (λ a b c. once rest f.1 a b c) d e o h i

pub paths_force_once : PathsForceOnce
paths_force_once week path pairs f p d e o ld le lo h i =
    once path f d e o (is-forced _ _ (sym (p.each d o ld lo) ∙ h)) (is-forced _ _ (sym (p.each e o le lo) ∙ i))
