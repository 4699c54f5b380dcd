-- Rows of a driver in their ranges. The contracts of the private functions cite this; no public clause does. The bounds are those
-- of the fields of a week text (a past row's 2,000,000 minutes, a rest's 1,000,000) and of its length (1,048,576 bytes, and no more
-- rows). With a last row of 2,000,000 minutes what is left of a line stays below the 4,000,000 that are asked where rows are
-- carried.
use Rattle.std.specs.Prelude.{◌≡◌, ℕ, ◌≤◌, Bool, true, ◌&&◌, nat_le, pos, ◌≤ℤ◌, List, [], ◌∷◌, length}
use Rattle.minute_line.specs.declared.lines.TheConstants.{WEEK_MINUTES}
use Rattle.minute_line.specs.Stints.{all_up_to}
use Rattle.minute_line.specs.declared.debts.TheConstants.{WEEKLY_REST}
use Rattle.week_book.specs.Pasts.{Activity, Rested, PastWorkingTime, each_lasts}

-- each is of at most so many minutes
abbrev pub each_within : ℕ → List Activity → Bool
each_within most [] = true
each_within most (s ∷ ss) = nat_le s.minutes most && each_within most ss

-- past rows in their ranges
pub record ArePast (activities : List Activity) : Type 0 where
  pub few : length activities ≤ 1048576
  pub within : each_within 2000000 activities ≡ true
  pub lasts : each_lasts activities ≡ true

-- a rest in its ranges
pub record IsRestInRange (rested : Rested) : Type 0 where
  pub end : rested.end ≤ℤ pos 0
  pub minutes : (WEEKLY_REST ≤ rested.minutes) × (rested.minutes ≤ 1000000)

-- the work of past weeks in its ranges
pub record IsPastWorkingTime (past_work : PastWorkingTime) : Type 0 where
  pub last : past_work.last ≤ WEEK_MINUTES
  pub weeks : all_up_to WEEK_MINUTES past_work.weeks ≡ true
