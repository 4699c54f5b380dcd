-- What a node's rounds keep while they run, and the leaf that they leave.
use Rattle.std.specs.Prelude.{◌≡◌, ◌≢◌, ℕ, ◌<◌, ◌≤◌, Bool, if◌then◌else◌, List, length, Some, slice_get, slice_index, ℤ}
use Rattle.week_book.specs.declared.weeks.Week.{Week}
use Rattle.duty_plan.specs.declared.plans.Case.{Case}
use Rattle.duty_plan.specs.declared.duties.Duty.{Duty}
use Rattle.duty_plan.specs.declared.outcomes.Limits.{Limits}
use Rattle.duty_plan.specs.declared.nodes.Decision.{Decision}
use Rattle.duty_plan.specs.declared.nodes.Node.{Node}
use Rattle.duty_plan.specs.declared.nodes.NodeStart.{NodeStart}
use Rattle.duty_plan.specs.declared.nodes.NodeState.{NodeState}
use Rattle.duty_plan.specs.declared.nodes.NodeState.TheVariants.{Closed, Empty, Open, Spent}
use Rattle.duty_plan.specs.declared.deciding.Pair.TheVariants.{Free}
use Rattle.duty_plan.specs.declared.deciding.Pairs.{Pairs}
use Rattle.duty_plan.specs.declared.pricing.Prices.{Prices}
use Rattle.duty_plan.specs.declared.pricing.Priced.{Priced}
use Rattle.duty_plan.specs.declared.pricing.Priced.TheVariants.{Least}
use Rattle.duty_plan.specs.Values.{ArePairsOf, IsDecided, pair_at, lagrangian}
use Rattle.duty_plan.specs.LabelLists.{chunks_for}
use Rattle.duty_plan.specs.Rounds.{Round, values_of}
use Rattle.duty_plan.specs.Branching.{ViolatesCover}
use Rattle.duty_plan.specs.Trees.{BeatsDuty, BeatsDuties}
use Rattle.price_master.specs.Laws.{ForcesOnce}
use Rattle.branch_tree.specs.Growth.{IsRanNode}
use Rattle.branch_tree.specs.Running.{ArePricingRoundsSoFar}

-- some driver and order are Free
abbrev pub HasFreeIn : Week → Pairs → Type 0
HasFreeIn week pairs = (driver : ℕ) × (order : ℕ) × (driver < length week.drivers) × (order < length week.orders) × (pair_at pairs driver order ≡ Free)

-- the state of a leaf: Empty comes first, then Closed; a decided leaf that is neither had a Spent
abbrev pub leaf_state : Bool → Bool → Bool → NodeState
leaf_state none closed decided = if none then Empty else (if closed then Closed else (if decided then Spent else Open))

-- no plan of one least duty of the answers costs less
abbrev pub BeatsAnswers : Case → ℕ → List Priced → Type 0
BeatsAnswers case cost answers = (driver : ℕ) (value : ℤ) (duty : Duty) → slice_get answers driver ≡ Some (Least value duty) → BeatsDuty case cost driver duty

-- what the plans of a whole round leave: no plan of one of its duties costs less, nor where all is decided its value
pub record IsTaken (case : Case) (pairs : Pairs) (prices : Prices) (answers : List Priced) (cost : ℕ) : Type 0 where
  pub beats : BeatsAnswers case cost answers
  pub decided : IsDecided case.week pairs → ForcesOnce case.week pairs → cost ≤ lagrangian case.week pairs prices (values_of answers)

-- one number for each order, which isn't 1 just where the order is uneven after these rounds
pub record AreCounts (week : Week) (rounds : List Round) (counts : List ℕ) : Type 0 where
  pub orders : length counts ≡ length week.orders
  pub uneven : (order : ℕ) → order < length week.orders → ViolatesCover rounds order → slice_index counts order ≢ 1
  pub other : (order : ℕ) → order < length week.orders → slice_index counts order ≢ 1 → ViolatesCover rounds order

-- after k whole rounds
pub record IsUnderway (case : Case) (limits : Limits) (start : NodeStart) (k cost bound : ℕ) (kept now : Prices) (counts : List ℕ) : Type 0 where
  pub rounds : List Round
  pub running : ArePricingRoundsSoFar (chunks_for limits.labels) case start bound kept now rounds
  pub beats : BeatsDuties case cost rounds
  pub number : length rounds ≡ k
  pub counted : AreCounts case.week rounds counts

-- the node is a leaf with a run, at the end of whatever path has these pairs
abbrev pub HasRan : Case → Limits → ℕ → NodeStart → Node → List ℕ → Type 0
HasRan case limits cost start node counts = (path : List Decision) → ArePairsOf case.week path start.pairs →
    (rounds : List Round) × IsRanNode case limits cost path start.bound start.prices node rounds × AreCounts case.week rounds counts
