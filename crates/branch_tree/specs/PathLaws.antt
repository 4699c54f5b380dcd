-- Laws on paths: they last while the tree grows, tell when a node is decided, and force no order for two drivers.
use Rattle.std.specs.Prelude.{◌≡◌, ◌↔◌, ℕ, ◌≤◌, List, [], ◌∷◌, ◌++◌, length}
use Rattle.week_book.specs.declared.weeks.Week.{Week}
use Rattle.duty_plan.specs.declared.nodes.Node.{Node}
use Rattle.duty_plan.specs.declared.nodes.Decision.{Decision}
use Rattle.duty_plan.specs.declared.nodes.Decision.TheVariants.{Root, Forced as forces, Barred as bars}
use Rattle.duty_plan.specs.declared.deciding.Pair.TheVariants.{Free}
use Rattle.duty_plan.specs.declared.deciding.Pairs.{Pairs}
use Rattle.duty_plan.specs.Values.{ArePairsOf, IsDecided, decided_by}
use Rattle.duty_plan.specs.Nodes.{HasFree, path_of}
use Rattle.price_master.specs.Laws.{ForcesOnce}

-- more nodes change no path of a node that is there
abbrev pub PathsLast : Type 0
PathsLast = (tree more : List Node) (k : ℕ) → k ≤ length tree → path_of (tree ++ more) k ≡ path_of tree k

-- the pairs of a node are decided just where nothing is Free at it
abbrev pub DecidedHasNoFree : Type 0
DecidedHasNoFree = (week : Week) (tree : List Node) (k : ℕ) (pairs : Pairs) → ArePairsOf week (path_of tree k) pairs →
    IsDecided week pairs ↔ (HasFree week tree k → ⊥)

-- the path ends at the root, and each other decision is about what was Free before it
abbrev pub DecidesOnlyFree : List Decision → Type 0
DecidesOnlyFree [] = ⊥
DecidesOnlyFree (Root ∷ rest) = rest ≡ []
DecidesOnlyFree (forces d o ∷ rest) = (decided_by rest d o ≡ Free) × DecidesOnlyFree rest
DecidesOnlyFree (bars d o ∷ rest) = (decided_by rest d o ≡ Free) × DecidesOnlyFree rest

-- such a path forces no order for two drivers, whatever tree it stands in
abbrev pub PathsForceOnce : Type 0
PathsForceOnce = (week : Week) (path : List Decision) (pairs : Pairs) → DecidesOnlyFree path → ArePairsOf week path pairs → ForcesOnce week pairs
