-- Rounds whose seats share m chunks, where one driver of each class of twins is priced, and what licenses a Spent there.
use Rattle.std.specs.Prelude.{◌≡◌, ◌≢◌, ◌⊎◌, ℕ, ◌+◌, ◌*◌, ◌<◌, ◌≤◌, nat_lt, if◌then◌else◌, List, [], ◌∷◌, length, Some, slice_get}
use Rattle.duty_plan.specs.declared.plans.Case.{Case}
use Rattle.duty_plan.specs.declared.deciding.Pairs.{Pairs}
use Rattle.duty_plan.specs.declared.pricing.Prices.{Prices}
use Rattle.duty_plan.specs.declared.pricing.Priced.{Priced}
use Rattle.duty_plan.specs.declared.pricing.Priced.TheVariants.{Least, NoDuty, Spent}
use Rattle.duty_plan.specs.Duties.{EachOf, times}
use Rattle.duty_plan.specs.Values.{IsLeast, HasNoDuty}
use Rattle.duty_plan.specs.LabelLists.{Entry, IsLabelList, MayExhaustLabels}
use Rattle.duty_plan.specs.Rounds.{IsRound}
use Rattle.duty_plan.specs.Twins.{AreTwins}

-- how many of the numbers are below m: the chunks that a seat drew, of m
abbrev pub chunks_drawn : ℕ → List ℕ → ℕ
chunks_drawn m [] = 0
chunks_drawn m (number ∷ rest) = (if nat_lt number m then 1 else 0) + chunks_drawn m rest

-- the classes of twins, each with one driver who stands for it
pub record AreClasses (case : Case) (pairs : Pairs) (rep : ℕ → ℕ) : Type 0 where
  pub below : (driver : ℕ) → driver < length case.week.drivers → rep driver < length case.week.drivers
  pub own : (driver : ℕ) → driver < length case.week.drivers → rep (rep driver) ≡ rep driver
  pub twin : (driver : ℕ) → driver < length case.week.drivers → AreTwins case pairs (rep driver) driver

-- what the seat that priced a driver drew and stored: a label list or nothing, which fills all chunks of 1,024 that it
-- drew but at most one
pub record IsSeatOf (m : ℕ) (case : Case) (driver : ℕ) (pairs : Pairs) (prices : Prices) (drawn : List ℕ) (entries : List Entry) : Type 0 where
  pub list : (entries ≡ []) ⊎ IsLabelList case driver pairs prices entries
  pub filled : 1024 * chunks_drawn m drawn ≤ length entries + 1024

-- the cause of a Spent: the seat drew a number at or above m, while all chunks that it held were full
pub record IsSpentSeat (m : ℕ) (drawn : List ℕ) (entries : List Entry) : Type 0 where
  pub number : ℕ
  pub drew : 0 < times number drawn
  pub past : m ≤ number
  pub full : length entries ≡ 1024 * chunks_drawn m drawn

-- what the pricing of a driver found: the least value, no duty, or the cause of a Spent with the number of entries stored
abbrev pub IsFound : ℕ → Case → Pairs → Prices → ℕ → List ℕ → List Entry → Priced → Type 0
IsFound m case pairs prices driver drawn entries (Least value duty) = IsLeast case driver pairs prices value duty
IsFound m case pairs prices driver drawn entries NoDuty = HasNoDuty case driver pairs
IsFound m case pairs prices driver drawn entries (Spent stored) = IsSpentSeat m drawn entries × (length entries ≡ stored)

-- what a worker of a round came to, once it has ended: whom it priced, the numbers that its seat drew, and what it stored
pub record Worker : Type 0 where
  pub driver : ℕ
  pub drawn : List ℕ
  pub entries : List Entry

-- how often a number was drawn by the workers
abbrev pub times_drawn : ℕ → List Worker → ℕ
times_drawn number [] = 0
times_drawn number (worker ∷ rest) = times number worker.drawn + times_drawn number rest

-- workers that shared m chunks and have ended: each priced another driver, who stands for himself, and the numbers that
-- they drew are those below the counter, each once
pub record AreJoined (m : ℕ) (case : Case) (pairs : Pairs) (prices : Prices) (rep : ℕ → ℕ) (counter : ℕ) (workers : List Worker) : Type 0 where
  pub classes : AreClasses case pairs rep
  pub known : EachOf (λ n worker. worker.driver < length case.week.drivers) workers
  pub own : EachOf (λ n worker. rep worker.driver ≡ worker.driver) workers
  pub one : (n k : ℕ) (a b : Worker) → k < n → slice_get workers n ≡ Some a → slice_get workers k ≡ Some b → a.driver ≢ b.driver
  pub seats : EachOf (λ n worker. IsSeatOf m case worker.driver pairs prices worker.drawn worker.entries) workers
  pub once : (number : ℕ) → times_drawn number workers ≡ (if nat_lt number counter then 1 else 0)

-- where a worker has the cause, any answer of the round may be Spent
abbrev pub JoinedLicence : Type 0
JoinedLicence = (m : ℕ) (case : Case) (pairs : Pairs) (prices : Prices) (rep : ℕ → ℕ) (counter : ℕ) (workers : List Worker) →
    AreJoined m case pairs prices rep counter workers → (n : ℕ) (worker : Worker) → slice_get workers n ≡ Some worker →
    IsSpentSeat m worker.drawn worker.entries → MayExhaustLabels m case pairs prices

-- the answers that workers found: each driver's is that of the worker who priced the one who stands for it
pub record AreFoundBy (m : ℕ) (case : Case) (pairs : Pairs) (prices : Prices) (rep : ℕ → ℕ) (workers : List Worker) (answers : List Priced) : Type 0 where
  pub drivers : length answers ≡ length case.week.drivers
  pub found : (driver : ℕ) (answer : Priced) → slice_get answers driver ≡ Some answer →
      (n : ℕ) × (worker : Worker) × (slice_get workers n ≡ Some worker) × (worker.driver ≡ rep driver)
      × IsFound m case pairs prices worker.driver worker.drawn worker.entries answer

-- the answers that such workers found are a round
abbrev pub JoinedIsRound : Type 0
JoinedIsRound = (m : ℕ) (case : Case) (pairs : Pairs) (prices : Prices) (rep : ℕ → ℕ) (counter : ℕ) (workers : List Worker) (answers : List Priced) →
    AreJoined m case pairs prices rep counter workers → AreFoundBy m case pairs prices rep workers answers →
    IsRound m case pairs prices answers

-- a driver whose list alone fills all chunks licenses a Spent
abbrev pub LoneLicence : Type 0
LoneLicence = (m : ℕ) (case : Case) (pairs : Pairs) (prices : Prices) (driver : ℕ) (entries : List Entry) → driver < length case.week.drivers →
    IsLabelList case driver pairs prices entries → length entries ≡ 1024 * m → MayExhaustLabels m case pairs prices
