-- The rounds of a node while they run: those so far are whole, and the next one's prices are known.
use Rattle.std.specs.Prelude.{◌≡◌, ◌⊎◌, ℕ, suc, ◌<◌, ◌≤◌, true, false, List, [], ◌∷◌, ◌++◌, length, Some, slice_get}
use Rattle.duty_plan.specs.declared.plans.Case.{Case}
use Rattle.duty_plan.specs.declared.nodes.NodeStart.{NodeStart}
use Rattle.duty_plan.specs.declared.pricing.Prices.{Prices}
use Rattle.duty_plan.specs.declared.pricing.Priced.{Priced}
use Rattle.duty_plan.specs.Values.{IsDecided}
use Rattle.duty_plan.specs.Rounds.{Round, IsRound, ArePricingRounds, IsBest, AreNextPrices, carriers, is_whole, value_of_round}

-- whole rounds so far, from the bound `first` and the prices `before`, with the bound and the kept prices that they leave;
-- `now` are the prices of the next round
pub record ArePricingRoundsSoFar (m : ℕ) (case : Case) (start : NodeStart) (bound : ℕ) (kept now : Prices) (rounds : List Round) : Type 0 where
  pub begins : (round : Round) → slice_get rounds 0 ≡ Some round → round.prices ≡ start.prices
  pub moves : (k : ℕ) (round next : Round) → slice_get rounds k ≡ Some round → slice_get rounds (suc k) ≡ Some next →
      AreNextPrices case.week k (λ order. carriers order round.answers) round.prices next.prices
  pub each : (k : ℕ) (round : Round) → slice_get rounds k ≡ Some round → IsRound m case start.pairs round.prices round.answers
  pub whole : (k : ℕ) (round : Round) → slice_get rounds k ≡ Some round → is_whole round.answers ≡ true
  pub best : IsBest case.week start rounds bound kept
  pub now_first : length rounds ≡ 0 → now ≡ start.prices
  pub now_next : (k : ℕ) (round : Round) → suc k ≡ length rounds → slice_get rounds k ≡ Some round →
      AreNextPrices case.week k (λ order. carriers order round.answers) round.prices now

-- the bound and the prices that a whole round leaves: its own where its value is above the bound so far, else those so far
pub record IsRaised (value bound raised : ℕ) (now kept held : Prices) : Type 0 where
  pub above : bound < value → (raised ≡ value) × (held ≡ now)
  pub below : value ≤ bound → (raised ≡ bound) × (held ≡ kept)

-- a run may begin
abbrev pub RunBegins : Type 0
RunBegins = (m : ℕ) (case : Case) (start : NodeStart) → ArePricingRoundsSoFar m case start start.bound start.prices start.prices []

-- one whole round more
abbrev pub RoundAdds : Type 0
RoundAdds = (m : ℕ) (case : Case) (start : NodeStart) (bound raised : ℕ) (kept held now next : Prices) (rounds : List Round) (answers : List Priced) →
    ArePricingRoundsSoFar m case start bound kept now rounds → IsRound m case start.pairs now answers → is_whole answers ≡ true →
    IsRaised (value_of_round case.week start.pairs (record { prices = now; answers = answers })) bound raised now kept held →
    AreNextPrices case.week (length rounds) (λ order. carriers order answers) now next →
    ArePricingRoundsSoFar m case start raised held next (rounds ++ record { prices = now; answers = answers } ∷ [])

-- a round that isn't whole ends the run
abbrev pub PartEnds : Type 0
PartEnds = (m : ℕ) (case : Case) (most : ℕ) (start : NodeStart) (cost bound : ℕ) (kept now : Prices) (rounds : List Round) (answers : List Priced) →
    ArePricingRoundsSoFar m case start bound kept now rounds → IsRound m case start.pairs now answers → is_whole answers ≡ false → suc (length rounds) ≤ most →
    ArePricingRounds m case most start cost bound kept (rounds ++ record { prices = now; answers = answers } ∷ [])

-- a whole round ends the run, where it is the last, or all is decided, or the bound has reached the cost
abbrev pub WholeEnds : Type 0
WholeEnds = (m : ℕ) (case : Case) (most : ℕ) (start : NodeStart) (cost bound raised : ℕ) (kept held now : Prices) (rounds : List Round) (answers : List Priced) →
    ArePricingRoundsSoFar m case start bound kept now rounds → IsRound m case start.pairs now answers → is_whole answers ≡ true →
    IsRaised (value_of_round case.week start.pairs (record { prices = now; answers = answers })) bound raised now kept held →
    suc (length rounds) ≤ most → (suc (length rounds) ≡ most) ⊎ (IsDecided case.week start.pairs ⊎ (cost ≤ raised)) →
    ArePricingRounds m case most start cost raised held (rounds ++ record { prices = now; answers = answers } ∷ [])
