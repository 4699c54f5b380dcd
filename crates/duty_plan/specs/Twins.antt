-- Drivers who are alike; twins, who are alike at some pairs, and what is said of both.
use Rattle.std.specs.Prelude.{◌≡◌, ℕ, ◌<◌, ℤ, List, length, option_map, slice_get}
use Rattle.minute_line.specs.Histories.{fields_of}
use Rattle.week_book.specs.Weeks.{driver_of}
use Rattle.duty_plan.specs.declared.duties.Duty.{Duty}
use Rattle.duty_plan.specs.declared.plans.Case.{Case}
use Rattle.duty_plan.specs.declared.deciding.Pairs.{Pairs}
use Rattle.duty_plan.specs.declared.pricing.Prices.{Prices}
use Rattle.duty_plan.specs.declared.pricing.Priced.{Priced}
use Rattle.duty_plan.specs.declared.labels.Label.{Label}
use Rattle.duty_plan.specs.PartialDuties.{PartialDuty}
use Rattle.duty_plan.specs.Duties.{IsLawfulPartialDuty, past_at, open_off_at, capacity_at, fee_or_none}
use Rattle.duty_plan.specs.Labels.{IsLabelOf}
use Rattle.duty_plan.specs.Values.{pair_at, IsChoice, IsLeast, HasNoDuty}
use Rattle.duty_plan.specs.LabelLists.{Entry, IsLabelList, MayStore}
use Rattle.duty_plan.specs.Rounds.{IsAnswer}

-- alike in all but their names: in capacity, fee, and each field of the history
pub record AreAlikeDrivers (case : Case) (d e : ℕ) : Type 0 where
  pub capacity : capacity_at case d ≡ capacity_at case e
  pub fee : fee_or_none (driver_of case.week d) ≡ fee_or_none (driver_of case.week e)
  pub history : option_map fields_of (slice_get case.past d) ≡ option_map fields_of (slice_get case.past e)

-- alike in capacity, fee, what stands before Monday, and what is decided of each order
pub record AreTwins (case : Case) (pairs : Pairs) (d e : ℕ) : Type 0 where
  pub capacity : capacity_at case d ≡ capacity_at case e
  pub fee : fee_or_none (driver_of case.week d) ≡ fee_or_none (driver_of case.week e)
  pub past : past_at case d ≡ past_at case e
  pub open_off : open_off_at case d ≡ open_off_at case e
  pub row : (order : ℕ) → order < length case.week.orders → pair_at pairs d order ≡ pair_at pairs e order

-- two drivers are alike at some prices: a lawful partial duty of one is one of the other, with the same labels; so is a choice, a
-- duty of the least value, and that no duty is inside
pub record AreAlike (case : Case) (pairs : Pairs) (prices : Prices) (d e : ℕ) : Type 0 where
  pub lawful : (partial : PartialDuty) → IsLawfulPartialDuty case d partial → IsLawfulPartialDuty case e partial
  pub label : (label : Label) (partial : PartialDuty) → IsLabelOf case d prices label partial → IsLabelOf case e prices label partial
  pub choice : (duty : Duty) → IsChoice case d pairs duty → IsChoice case e pairs duty
  pub least : (value : ℤ) (duty : Duty) → IsLeast case d pairs prices value duty → IsLeast case e pairs prices value duty
  pub none : HasNoDuty case d pairs → HasNoDuty case e pairs

-- twins are alike at all prices
abbrev pub TwinsAreAlike : Type 0
TwinsAreAlike = (case : Case) (pairs : Pairs) (prices : Prices) (d e : ℕ) → AreTwins case pairs d e → AreAlike case pairs prices d e

-- a label list of one twin is a label list of the other
abbrev pub TwinsShareLists : Type 0
TwinsShareLists = (case : Case) (pairs : Pairs) (prices : Prices) (d e : ℕ) → AreTwins case pairs d e → (entries : List Entry) →
    IsLabelList case d pairs prices entries → IsLabelList case e pairs prices entries

-- what may be stored for one twin may be stored for the other
abbrev pub TwinsStoreAlike : Type 0
TwinsStoreAlike = (case : Case) (pairs : Pairs) (prices : Prices) (d e : ℕ) → AreTwins case pairs d e → (stored : ℕ) →
    MayStore case d pairs prices stored → MayStore case e pairs prices stored

-- a right answer for one twin is a right answer for the other
abbrev pub TwinsAnswerAlike : Type 0
TwinsAnswerAlike = (m : ℕ) (case : Case) (pairs : Pairs) (prices : Prices) (d e : ℕ) → AreTwins case pairs d e → (answer : Priced) →
    IsAnswer m case pairs prices d answer → IsAnswer m case pairs prices e answer
