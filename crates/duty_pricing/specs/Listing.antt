-- The stays and the acts that are tried after a partial duty: each step that must be tried has one of these stays.
use Rattle.std.specs.Prelude.{◌≡◌, ◌⊎◌, ℕ, ◌+◌, ◌-◌, ◌*◌, ◌<◌, ◌≤◌, true}
use Rattle.minute_line.specs.declared.lines.TheConstants.{WEEK_MINUTES}
use Rattle.minute_line.specs.declared.marks.Kind.{Kind}
use Rattle.minute_line.specs.declared.marks.Kind.TheVariants.{Plain, Daily, Weekly}
use Rattle.hours_rules.specs.declared.clocks.Stay.{Stay}
use Rattle.week_book.specs.declared.weeks.Week.{Week}
use Rattle.week_book.specs.Weeks.{order_of}
use Rattle.duty_plan.specs.declared.duties.Act.{Act}
use Rattle.duty_plan.specs.declared.duties.Act.TheVariants.{Leg, Serve, Load}
use Rattle.duty_plan.specs.PartialDuties.{is_plain_length}
use Rattle.duty_plan.specs.Labels.{opens_of}

-- the Ready minutes of a listed Plain stay of so many Off minutes, from a week minute on: until the order's window
abbrev pub ready_before : Week → ℕ → ℕ → Act → ℕ
ready_before week at off (Leg to) = 0
ready_before week at off (Serve order) = opens_of (order_of week order) - (at + off)
ready_before week at off Load = 0

-- the listed Plain stay of so many Off minutes before an act
abbrev pub plain_stay : Week → ℕ → Act → ℕ → Stay
plain_stay week at act off = record { ready = ready_before week at off act; off = off; kind = Plain }

-- the listed rest of a kind from a week minute until another
abbrev pub rest_stay : ℕ → Kind → ℕ → Stay
rest_stay at kind start = record { ready = 0; off = start - at; kind = kind }

-- the listed Plain stay of one of the five lengths
pub record IsPlainStay (week : Week) (at : ℕ) (act : Act) (stay : Stay) : Type 0 where
  pub off : ℕ
  pub is_length : is_plain_length off ≡ true
  pub is : stay ≡ plain_stay week at act off

-- a listed rest until a start on the grid
pub record IsRestStay (week : Week) (at : ℕ) (stay : Stay) : Type 0 where
  pub turn : ℕ
  pub late : at ≤ turn * week.grid
  pub in_week : turn * week.grid < WEEK_MINUTES
  pub is : (stay ≡ rest_stay at Daily (turn * week.grid)) ⊎ (stay ≡ rest_stay at Weekly (turn * week.grid))

-- a stay that is tried before the act, from a week minute on
abbrev pub IsTriedStay : Week → ℕ → Act → Stay → Type 0
IsTriedStay week at act stay = IsPlainStay week at act stay ⊎ IsRestStay week at stay
