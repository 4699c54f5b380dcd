-- What the entries of an outlook say.
use Rattle.std.specs.Prelude.{◌≡◌, ℕ, ◌+◌, ◌*◌, ◌<◌, ◌≤◌, List, All, ℤ, pos, ◌-ℤ◌, Some}
use Rattle.minute_line.specs.declared.lines.TheConstants.{WEEK_MINUTES}
use Rattle.week_book.specs.declared.weeks.Week.{Week}
use Rattle.week_book.specs.declared.weeks.Leg.{Leg as Road}
use Rattle.week_book.specs.Weeks.{IsWeek, road}
use Rattle.duty_plan.specs.declared.duties.Act.{Act}
use Rattle.duty_plan.specs.declared.duties.Act.TheVariants.{Leg, Serve}
use Rattle.duty_plan.specs.declared.pricing.Prices.{Prices}
use Rattle.duty_plan.specs.Values.{IsPrices}
use Rattle.duty_outlook.specs.declared.spots.Spot.{Spot}
use Rattle.duty_outlook.specs.declared.spots.Entry.{Entry}
use Rattle.duty_outlook.specs.declared.outlooks.Outlook.{Outlook}
use Rattle.duty_outlook.specs.Covering.{Covers, Admits, MayStartAt}
use Rattle.duty_outlook.specs.Rows.{number_at}

-- the cents that a number of a row stands for
abbrev pub cents_of : ℕ → ℤ
cents_of number = pos number -ℤ pos 2000000000000

-- each number of a row covers all timetables from the spot, where so many kg were served as its level stands for
pub record CoversRow (week : Week) (capacity unit : ℕ) (prices : Prices) (spot : Spot) (row : List ℕ) : Type 0 where
  pub each : (level : ℕ) → level < 32 →
      Covers week capacity prices spot.orders spot.place spot.minute (level * unit) (cents_of (number_at row level))

-- an entry of a spot in the week has a row that covers
abbrev pub IsSound : Week → ℕ → ℕ → Prices → Entry → Type 0
IsSound week capacity unit prices entry = entry.spot.minute ≤ WEEK_MINUTES → CoversRow week capacity unit prices entry.spot entry.numbers

-- each entry of the outlook is sound, for a lorry of its capacity
pub record IsFilled (week : Week) (prices : Prices) (outlook : Outlook) : Type 0 where
  pub is_week : IsWeek week
  pub is_prices : IsPrices week prices
  pub sound : All (IsSound week outlook.scale.capacity outlook.scale.unit prices) outlook.entries.items

-- each number of the row admits the act, where it may start at the spot and so many kg were served as its level stands for
pub record AdmitsRow (week : Week) (capacity unit : ℕ) (prices : Prices) (spot : Spot) (act : Act) (row : List ℕ) : Type 0 where
  pub each : (level : ℕ) → level < 32 → MayStartAt week capacity spot.orders spot.place spot.minute (level * unit) act →
      Admits week capacity prices spot.orders spot.place spot.minute (level * unit) act (cents_of (number_at row level))

-- the row admits the act whatever the prices are at which the outlook is filled
abbrev pub AdmitsAct : Week → Outlook → Spot → Act → List ℕ → Type 0
AdmitsAct week outlook spot act row = (prices : Prices) → IsFilled week prices outlook →
    AdmitsRow week outlook.scale.capacity outlook.scale.unit prices spot act row

-- the same of the leg along a road of the week from the spot's place
abbrev pub AdmitsRoad : Week → Outlook → Spot → List ℕ → Road → Type 0
AdmitsRoad week outlook spot row leg = road week spot.place leg.to ≡ Some leg → AdmitsAct week outlook spot (Leg leg.to) row

-- the row admits the services of the orders below a number
abbrev pub AdmitsServices : Week → Prices → Outlook → Spot → List ℕ → ℕ → Type 0
AdmitsServices week prices outlook spot row n = (number : ℕ) → number < n →
    AdmitsRow week outlook.scale.capacity outlook.scale.unit prices spot (Serve number) row

-- the spot a minute later
abbrev pub later_spot : Spot → Spot
later_spot spot = record spot { minute = spot.minute + 1 }

-- two outlooks are for the same lorry, and count the same orders as barred
pub record IsSameBut (old new : Outlook) : Type 0 where
  pub scale : new.scale ≡ old.scale
  pub barred : new.barred ≡ old.barred

-- no entry is one of a minute in the week
abbrev pub AreBlank : Outlook → Type 0
AreBlank outlook = All (λ entry. WEEK_MINUTES < entry.spot.minute) outlook.entries.items
