-- What the outcome of a search must show.
use Rattle.std.specs.Prelude.{◌≡◌, ◌≢◌, ◌⊎◌, ◌↔◌, ℕ, pred, ◌+◌, ◌-◌, ◌*◌, ◌^◌, ◌<◌, ◌≤◌, true, false, List, [], length, map, ℤ, Some, slice_get}
use Rattle.week_book.specs.declared.weeks.Week.{Week}
use Rattle.duty_plan.specs.declared.plans.Case.{Case}
use Rattle.duty_plan.specs.declared.plans.Plan.{Plan}
use Rattle.duty_plan.specs.declared.duties.Duty.{Duty}
use Rattle.duty_plan.specs.declared.outcomes.Limits.{Limits}
use Rattle.duty_plan.specs.declared.outcomes.Outcome.{Outcome}
use Rattle.duty_plan.specs.declared.outcomes.State.{State}
use Rattle.duty_plan.specs.declared.outcomes.State.TheVariants.{Proved, OpenLabels, OpenNodes}
use Rattle.duty_plan.specs.declared.nodes.Decision.TheVariants.{Forced as forces}
use Rattle.duty_plan.specs.declared.nodes.Node.{Node}
use Rattle.duty_plan.specs.declared.nodes.NodeStart.{NodeStart}
use Rattle.duty_plan.specs.declared.nodes.NodeState.{NodeState}
use Rattle.duty_plan.specs.declared.nodes.NodeState.TheVariants.{Branched, Closed, Empty, Open, Spent}
use Rattle.duty_plan.specs.declared.deciding.Pairs.{Pairs}
use Rattle.duty_plan.specs.declared.pricing.Prices.{Prices}
use Rattle.duty_plan.specs.declared.pricing.Priced.TheVariants.{Least}
use Rattle.duty_plan.specs.Duties.{EachOf, IsLawfulPlan, cost_of_plan}
use Rattle.duty_plan.specs.Values.{ArePairsOf, cost_of_all}
use Rattle.duty_plan.specs.LabelLists.{Entry, IsLabelList, chunks_for, total_length}
use Rattle.duty_plan.specs.Rounds.{Round, ArePricingRounds, is_whole, has_none, has_spent}
use Rattle.duty_plan.specs.Nodes.{path_of, IsNode, HasFree, IsTree}
use Rattle.duty_plan.specs.Branching.{IsBestFirst, HasIncumbentCosts, IsBranchingPair}

-- the prices with which a search starts: what a subcontractor takes for each order
abbrev pub AreStartPrices : Week → Prices → Type 0
AreStartPrices week prices = prices.cents ≡ map (λ order. order.price) week.orders

-- a node begins so: at the pairs of its path, with the bound and the prices of its parent, or 0 and the start prices at the
-- root
pub record Begins (week : Week) (tree : List Node) (number : ℕ) (node : Node) (start : NodeStart) : Type 0 where
  pub pairs : ArePairsOf week (path_of tree number) start.pairs
  pub root : node.parent ≡ 0 → (start.bound ≡ 0) × AreStartPrices week start.prices
  pub child : (parent : Node) → IsNode tree node.parent parent → (start.bound ≡ parent.bound) × (start.prices ≡ parent.prices)

-- the node has this run, towards the printed cost
pub record HasRun (case : Case) (limits : Limits) (cost : ℕ) (tree : List Node) (number : ℕ) (node : Node) (rounds : List Round) : Type 0 where
  pub start : NodeStart
  pub begins : Begins case.week tree number node start
  pub run : ArePricingRounds (chunks_for limits.labels) case limits.rounds start cost node.bound node.prices rounds

-- the run ended with a NoDuty
abbrev pub EndsEmpty : List Round → Type 0
EndsEmpty rounds = (round : Round) × (slice_get rounds (pred (length rounds)) ≡ Some round) × (has_none round.answers ≡ true)

-- the run ended with a Spent and no NoDuty
abbrev pub EndsSpent : List Round → Type 0
EndsSpent rounds = (round : Round) × (slice_get rounds (pred (length rounds)) ≡ Some round) × (has_none round.answers ≡ false) ×
    (has_spent round.answers ≡ true)

-- what the state of a node says of its run, its bound and what is Free at it
pub record IsState (week : Week) (cost : ℕ) (tree : List Node) (number : ℕ) (node : Node) (rounds : List Round) : Type 0 where
  pub branched : node.state ≡ Branched → EndsEmpty rounds → ⊥
  pub empty : node.state ≡ Empty → EndsEmpty rounds
  pub closed : node.state ≡ Closed → (EndsEmpty rounds → ⊥) × (cost ≤ node.bound)
  pub spent : node.state ≡ Spent → (HasFree week tree number → ⊥) × EndsSpent rounds × (node.bound < cost)
  pub open_leaf : node.state ≡ Open → HasFree week tree number × (EndsEmpty rounds → ⊥) × (node.bound < cost)

-- some node has that state
abbrev pub HasLeaf : NodeState → List Node → Type 0
HasLeaf state tree = (k : ℕ) × (node : Node) × IsNode tree k node × (node.state ≡ state)

-- a plan of one duty: it gives one driver this duty and the others the empty one, and so gives away all other orders
pub record IsSingleDutyPlan (case : Case) (driver : ℕ) (duty : Duty) (plan : Plan) : Type 0 where
  pub lawful : IsLawfulPlan case plan
  pub given : slice_get plan.duties driver ≡ Some duty
  pub others : (k : ℕ) (other : Duty) → k ≢ driver → slice_get plan.duties k ≡ Some other → other.steps ≡ []

-- no plan of that one duty costs less
abbrev pub BeatsDuty : Case → ℕ → ℕ → Duty → Type 0
BeatsDuty case cost driver duty = (plan : Plan) → IsSingleDutyPlan case driver duty plan → cost ≤ cost_of_plan case plan

-- no plan of one least duty of a whole round costs less
abbrev pub BeatsDuties : Case → ℕ → List Round → Type 0
BeatsDuties case cost rounds = (k driver : ℕ) (round : Round) (value : ℤ) (duty : Duty) → slice_get rounds k ≡ Some round →
    is_whole round.answers ≡ true → slice_get round.answers driver ≡ Some (Least value duty) → BeatsDuty case cost driver duty

-- the plan is lawful and costs so much, and no more than giving all orders away
pub record IsPlanAtCost (case : Case) (plan : Plan) (cost : ℕ) : Type 0 where
  pub lawful : IsLawfulPlan case plan
  pub costs : cost_of_plan case plan ≡ cost
  pub cheap : cost ≤ cost_of_all case.week

-- a tree within the limits with a run for each of its nodes, no least duty of which makes a cheaper plan; the runs and the
-- bounds give the nodes their states
pub record HasRuns (case : Case) (limits : Limits) (cost : ℕ) (tree : List Node) (runs : List (List Round)) : Type 0 where
  pub few : length tree ≤ limits.nodes
  pub shape : IsTree case.week tree
  pub all_runs : length runs ≡ length tree
  pub each : (k : ℕ) (node : Node) (run : List Round) → IsNode tree k node → slice_get runs (pred k) ≡ Some run →
      HasRun case limits cost tree k node run × BeatsDuties case cost run × IsState case.week cost tree k node run

-- each branched node was branched at the pair that its run gives
abbrev pub HasBranchingPairs : Week → List Node → List (List Round) → Type 0
HasBranchingPairs week tree runs = (k child d o : ℕ) (run : List Round) (forcing : Node) → slice_get runs (pred k) ≡ Some run →
    IsNode tree child forcing → forcing.parent ≡ k → forcing.decision ≡ forces d o → IsBranchingPair week tree k run d o

-- how the tree was branched: below a kept cost that never rose, the best node first, at the pair that its run gives
pub record IsBranchedByRule (week : Week) (cost : ℕ) (tree : List Node) (runs : List (List Round)) : Type 0 where
  pub seen : HasIncumbentCosts week cost tree
  pub best_first : IsBestFirst week tree
  pub picks : HasBranchingPairs week tree runs

-- the state that the leaves show: nodes were wanted where one is Open, and then no two more fit; labels where none is Open
-- and one is Spent
pub record ShowsState (limits : Limits) (tree : List Node) (state : State) : Type 0 where
  pub open_nodes : (state ≡ OpenNodes) ↔ HasLeaf Open tree
  pub full : state ≡ OpenNodes → limits.nodes ≤ length tree + 1
  pub open_labels : (state ≡ OpenLabels) ↔ ((HasLeaf Open tree → ⊥) × HasLeaf Spent tree)

-- the bound that the leaves show: the cost where the state is Proved, else the least bound of the Open and Spent leaves
pub record ShowsBound (tree : List Node) (state : State) (cost bound : ℕ) : Type 0 where
  pub proved : state ≡ Proved → bound ≡ cost
  pub least : state ≢ Proved → (k : ℕ) (node : Node) → IsNode tree k node → (node.state ≡ Open) ⊎ (node.state ≡ Spent) → bound ≤ node.bound
  pub attained : state ≢ Proved → (k : ℕ) × (node : Node) × IsNode tree k node × ((node.state ≡ Open) ⊎ (node.state ≡ Spent)) ×
      (node.bound ≡ bound)

-- a right outcome: a lawful plan at its cost, and a tree with runs, branched by the rule, that shows the state and the bound
pub record IsRight (case : Case) (limits : Limits) (outcome : Outcome) : Type 0 where
  pub plan : IsPlanAtCost case outcome.plan outcome.cost
  pub runs : List (List Round)
  pub tree : HasRuns case limits outcome.cost outcome.tree runs
  pub branching : IsBranchedByRule case.week outcome.cost outcome.tree runs
  pub state : ShowsState limits outcome.tree outcome.state
  pub bound : ShowsBound outcome.tree outcome.state outcome.cost outcome.bound

-- limits that a search may be given: at most 2,097,152 labels, 1 to 4,095 nodes, and 1 to 100 rounds for each node
pub record IsLimits (limits : Limits) : Type 0 where
  pub labels : limits.labels ≤ 2097152
  pub nodes : (1 ≤ limits.nodes) × (limits.nodes ≤ 4095)
  pub rounds : (1 ≤ limits.rounds) × (limits.rounds ≤ 100)

-- nodes enough for every tree, where each branching decides a driver and an order more; as many chunks as drivers; and
-- labels enough for every pricing, since no label lists of all drivers fill the chunks
pub record IsWithinReach (case : Case) (limits : Limits) : Type 0 where
  pub nodes : 2 ^ (length case.week.drivers * length case.week.orders + 1) ≤ limits.nodes + 1
  pub chunks : length case.week.drivers ≤ chunks_for limits.labels
  pub labels : (pairs : Pairs) (prices : Prices) (lists : List (List Entry)) → length lists ≡ length case.week.drivers →
      EachOf (λ driver entries. IsLabelList case driver pairs prices entries) lists →
      total_length lists < (chunks_for limits.labels - length case.week.drivers + 1) * 1024
