-- What the ways home of a half-made duty save at most.
use Rattle.std.specs.Prelude.{◌≡◌, ℕ, ◌≤◌, true, List, ◌++◌, ℤ, ◌-ℤ◌, ◌≤ℤ◌}
use Rattle.duty_plan.specs.declared.plans.Case.{Case}
use Rattle.duty_plan.specs.declared.deciding.Pairs.{Pairs}
use Rattle.duty_plan.specs.declared.pricing.Prices.{Prices}
use Rattle.duty_plan.specs.PartialDuties.{PartialDuty, place_after, at_after, serves}
use Rattle.duty_plan.specs.Duties.{capacity_at}
use Rattle.duty_plan.specs.Values.{reduced_cost}
use Rattle.duty_label.specs.Pruning.{IsWayHome}
use Rattle.duty_outlook.specs.Timetables.{Stop, IsTimetable, saving, load_after, done_after}
use Rattle.duty_outlook.specs.declared.outlooks.Outlook.{Outlook}
use Rattle.duty_outlook.specs.Covering.{AreDone, is_barred_for}
use Rattle.duty_outlook.specs.Outlooks.{IsFilled}

-- a timetable from where the partial duty leaves the driver
abbrev pub IsTimetableAfter : Case → ℕ → Pairs → PartialDuty → List Stop → Type 0
IsTimetableAfter case driver pairs partial stops =
    IsTimetable case.week (capacity_at case driver) (done_after (is_barred_for case.week pairs driver) partial) (place_after partial)
    (at_after case.week partial) (load_after case.week (capacity_at case driver) partial) stops

-- the timetable of a way home: the whole duty is worth no less than the partial duty less what the timetable saves
abbrev pub HasTimetable : Type 0
HasTimetable = (case : Case) (driver : ℕ) (pairs : Pairs) (prices : Prices) (partial more : PartialDuty) →
    IsWayHome case driver pairs partial more → (stops : List Stop) × IsTimetableAfter case driver pairs partial stops
    × ((reduced_cost case driver prices partial -ℤ saving case.week prices (place_after partial) stops)
    ≤ℤ reduced_cost case driver prices (more ++ partial))

-- steps that end where those of another partial duty do, but no sooner: they serve all orders that it serves, carried no less since
-- the last load act, and are worth no less
pub record IsNoSooner (case : Case) (driver : ℕ) (prices : Prices) (sooner later : PartialDuty) : Type 0 where
  pub place : place_after later ≡ place_after sooner
  pub late : at_after case.week sooner ≤ at_after case.week later
  pub load : load_after case.week (capacity_at case driver) sooner ≤ load_after case.week (capacity_at case driver) later
  pub orders : (order : ℕ) → serves order sooner ≡ true → serves order later ≡ true
  pub value : reduced_cost case driver prices sooner ≤ℤ reduced_cost case driver prices later

-- no way home makes the partial duty a duty that is worth less than the partial duty less the gain
abbrev pub IsGain : Case → ℕ → Pairs → Prices → PartialDuty → ℤ → Type 0
IsGain case driver pairs prices partial gain = (more : PartialDuty) → IsWayHome case driver pairs partial more →
    (reduced_cost case driver prices partial -ℤ gain) ≤ℤ reduced_cost case driver prices (more ++ partial)

-- no way home makes the partial duty a duty that is worth less than a value
abbrev pub HasNoBelow : Case → ℕ → Pairs → Prices → PartialDuty → ℤ → Type 0
HasNoBelow case driver pairs prices partial known = (more : PartialDuty) → IsWayHome case driver pairs partial more →
    known ≤ℤ reduced_cost case driver prices (more ++ partial)

-- the outlook is that of a driver at these pairs and prices: each of its entries is sound, for the driver's lorry, and no order
-- counts as barred but those that are
pub record IsOutlookOf (case : Case) (driver : ℕ) (pairs : Pairs) (prices : Prices) (outlook : Outlook) : Type 0 where
  pub filled : IsFilled case.week prices outlook
  pub capacity : outlook.scale.capacity ≡ capacity_at case driver
  pub barred : AreDone outlook.barred (is_barred_for case.week pairs driver)
