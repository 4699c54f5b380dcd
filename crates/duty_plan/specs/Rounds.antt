-- A round of answers, how prices move after it, and the run of a node.
use Rattle.std.specs.Prelude.{◌≡◌, ◌⊎◌, ℕ, zero, suc, pred, ◌+◌, ◌-◌, ◌*◌, ◌/◌, ◌<◌, ◌≤◌, min, max, Bool, true, false, ◌&&◌, ◌||◌, if◌then◌else◌, List, [], ◌∷◌, ◌++◌, length, ℤ, Option, Some, IfSome, slice_get}
use Rattle.week_book.specs.declared.weeks.Week.{Week}
use Rattle.duty_plan.specs.declared.duties.Duty.{Duty}
use Rattle.duty_plan.specs.declared.plans.Case.{Case}
use Rattle.duty_plan.specs.declared.deciding.Pairs.{Pairs}
use Rattle.duty_plan.specs.declared.nodes.NodeStart.{NodeStart}
use Rattle.duty_plan.specs.declared.pricing.Prices.{Prices}
use Rattle.duty_plan.specs.declared.pricing.Priced.{Priced}
use Rattle.duty_plan.specs.declared.pricing.Priced.TheVariants.{Least, NoDuty, Spent}
use Rattle.duty_plan.specs.PartialDuties.{serves}
use Rattle.duty_plan.specs.Duties.{EachOf, partial_of, price_of}
use Rattle.duty_plan.specs.Values.{price_at, IsChoice, IsLeast, HasNoDuty, IsDecided, lagrangian}
use Rattle.duty_plan.specs.LabelLists.{MayExhaustLabels, MayStore}

-- the answer for a driver is right: a least value with a duty that has it, no duty where there is none, or Spent where
-- a pricer of m chunks may answer so
abbrev pub IsAnswer : ℕ → Case → Pairs → Prices → ℕ → Priced → Type 0
IsAnswer m case pairs prices driver (Least value duty) = IsLeast case driver pairs prices value duty
IsAnswer m case pairs prices driver NoDuty = HasNoDuty case driver pairs
IsAnswer m case pairs prices driver (Spent stored) = MayExhaustLabels m case pairs prices × MayStore case driver pairs prices stored

-- a round of a pricer of m chunks: one right answer for each driver
pub record IsRound (m : ℕ) (case : Case) (pairs : Pairs) (prices : Prices) (answers : List Priced) : Type 0 where
  pub drivers : length answers ≡ length case.week.drivers
  pub each : EachOf (IsAnswer m case pairs prices) answers

-- a guess for each driver is a duty that the driver may be given, or none
pub record AreGuesses (case : Case) (pairs : Pairs) (guesses : List (Option Duty)) : Type 0 where
  pub drivers : length guesses ≡ length case.week.drivers
  pub each : EachOf (λ driver guess. IfSome guess (IsChoice case driver pairs)) guesses

-- the answer gives a least value
abbrev pub is_least : Priced → Bool
is_least (Least value duty) = true
is_least NoDuty = false
is_least (Spent stored) = false

-- the answer says that no duty is inside
abbrev pub is_none : Priced → Bool
is_none (Least value duty) = false
is_none NoDuty = true
is_none (Spent stored) = false

-- the answer says that the memory was spent
abbrev pub is_spent : Priced → Bool
is_spent (Least value duty) = false
is_spent NoDuty = false
is_spent (Spent stored) = true

-- a round is whole where all its answers give least values
abbrev pub is_whole : List Priced → Bool
is_whole [] = true
is_whole (answer ∷ rest) = is_least answer && is_whole rest

-- a NoDuty is among the answers
abbrev pub has_none : List Priced → Bool
has_none [] = false
has_none (answer ∷ rest) = is_none answer || has_none rest

-- a Spent is among the answers
abbrev pub has_spent : List Priced → Bool
has_spent [] = false
has_spent (answer ∷ rest) = is_spent answer || has_spent rest

-- the least value of an answer, where it gives one
abbrev pub value_of_answer : Priced → List ℤ
value_of_answer (Least value duty) = value ∷ []
value_of_answer NoDuty = []
value_of_answer (Spent stored) = []

-- the least values of a whole round, the first driver's first
abbrev pub values_of : List Priced → List ℤ
values_of [] = []
values_of (answer ∷ rest) = value_of_answer answer ++ values_of rest

-- the answer's duty serves the order
abbrev pub carries : ℕ → Priced → Bool
carries order (Least value duty) = serves order (partial_of duty)
carries order NoDuty = false
carries order (Spent stored) = false

-- how many duties of a round carry the order
abbrev pub carriers : ℕ → List Priced → ℕ
carriers order [] = 0
carriers order (answer ∷ rest) = (if carries order answer then 1 else 0) + carriers order rest

-- how far a price moves after round k: by a part of what a subcontractor takes that falls from round to round, and by a
-- cent at least
abbrev pub price_step : ℕ → ℕ → ℕ
price_step k most = max 1 (most / (4 * (k + 1)))

-- a price after round k: it rises where nobody carries the order, to at most what a subcontractor takes, stays where
-- one duty does, and falls for each further one, to at least 0
abbrev pub next_price : ℕ → ℕ → ℕ → ℕ → ℕ
next_price k most zero price = min most (price + price_step k most)
next_price k most (suc others) price = price - price_step k most * others

-- the prices after round k, by the number of carriers of each order
pub record AreNextPrices (week : Week) (k : ℕ) (count : ℕ → ℕ) (prices next : Prices) : Type 0 where
  pub orders : length next.cents ≡ length week.orders
  pub each : (order : ℕ) → order < length week.orders →
      price_at next order ≡ next_price k (price_of week order) (count order) (price_at prices order)

-- a round of a run: the prices, and the answers at them
pub record Round : Type 0 where
  pub prices : Prices
  pub answers : List Priced

-- the Lagrangian value of a whole round
abbrev pub value_of_round : Week → Pairs → Round → ℕ
value_of_round week pairs round = lagrangian week pairs round.prices (values_of round.answers)

-- the bound is the value of a whole round, above the first bound and above the values of all whole rounds before it, and
-- the kept prices are that round's
pub record IsFirstAt (week : Week) (start : NodeStart) (rounds : List Round) (best : ℕ) (kept : Prices) : Type 0 where
  pub number : ℕ
  pub round : Round
  pub is_round : slice_get rounds number ≡ Some round
  pub whole : is_whole round.answers ≡ true
  pub value : value_of_round week start.pairs round ≡ best
  pub prices : round.prices ≡ kept
  pub above_first : start.bound < best
  pub earlier : (k : ℕ) (other : Round) → k < number → slice_get rounds k ≡ Some other → is_whole other.answers ≡ true →
      value_of_round week start.pairs other < best

-- the bound of a node is the greatest of its first bound and the values of its whole rounds; its kept prices are those of
-- the first round that gave this bound, or those from before where no round is above the first bound
pub record IsBest (week : Week) (start : NodeStart) (rounds : List Round) (best : ℕ) (kept : Prices) : Type 0 where
  pub above_first : start.bound ≤ best
  pub above : (k : ℕ) (round : Round) → slice_get rounds k ≡ Some round → is_whole round.answers ≡ true →
      value_of_round week start.pairs round ≤ best
  pub from : ((best ≡ start.bound) × (kept ≡ start.prices)) ⊎ IsFirstAt week start rounds best kept

-- the run of a node that begins so, with `most` rounds at most: each round is right and has the prices after the one
-- before it, all but the last are whole, and a whole last round ends a full run, a decided node's, or one whose bound has
-- reached the cost
pub record ArePricingRounds (m : ℕ) (case : Case) (most : ℕ) (start : NodeStart) (cost bound : ℕ) (kept : Prices) (rounds : List Round) : Type 0 where
  pub some : (1 ≤ length rounds) × (length rounds ≤ most)
  pub begins : (round : Round) → slice_get rounds 0 ≡ Some round → round.prices ≡ start.prices
  pub moves : (k : ℕ) (round next : Round) → slice_get rounds k ≡ Some round → slice_get rounds (suc k) ≡ Some next →
      AreNextPrices case.week k (λ order. carriers order round.answers) round.prices next.prices
  pub each : (k : ℕ) (round : Round) → slice_get rounds k ≡ Some round → IsRound m case start.pairs round.prices round.answers
  pub whole : (k : ℕ) (round : Round) → suc k < length rounds → slice_get rounds k ≡ Some round → is_whole round.answers ≡ true
  pub ends : (round : Round) → slice_get rounds (pred (length rounds)) ≡ Some round → is_whole round.answers ≡ true →
      (length rounds ≡ most) ⊎ (IsDecided case.week start.pairs ⊎ (cost ≤ bound))
  pub best : IsBest case.week start rounds bound kept
