-- The stints that a duty's steps give.
use Rattle.std.specs.Prelude.{◌≡◌, ℕ, zero, suc, Bool, true, List, [], ◌∷◌, ◌++◌, is_some}
use Rattle.minute_line.specs.declared.marks.Mark.TheVariants.{Ready, Off}
use Rattle.minute_line.specs.declared.marks.Kind.{Kind}
use Rattle.minute_line.specs.declared.marks.Kind.TheVariants.{Plain}
use Rattle.minute_line.specs.declared.marks.Stint.{Stint}
use Rattle.hours_rules.specs.declared.clocks.Stay.{Stay}
use Rattle.week_book.specs.declared.weeks.Week.{Week}
use Rattle.week_book.specs.Weeks.{road, order_of}
use Rattle.duty_plan.specs.declared.duties.Act.{Act}
use Rattle.duty_plan.specs.declared.duties.Act.TheVariants.{Leg, Serve, Load}
use Rattle.duty_plan.specs.declared.duties.Step.{Step}
use Rattle.duty_plan.specs.Acts.{mark_of, minutes_of}
use Rattle.duty_plan.specs.PartialDuties.{PartialDuty, place_after, has_lawful_length}

-- a Ready stint, where the stay has a Ready minute
abbrev pub ready_stints : ℕ → List Stint
ready_stints zero = []
ready_stints (suc n) = record { mark = Ready; minutes = suc n; kind = Plain } ∷ []

-- an Off stint, where the stay has an Off minute or declares the history's open run to be a rest
abbrev pub off_stints : ℕ → Kind → List Stint
off_stints zero Plain = []
off_stints n kind = record { mark = Off; minutes = n; kind = kind } ∷ []

-- the stints of a stay
abbrev pub stay_stints : Stay → List Stint
stay_stints stay = ready_stints stay.ready ++ off_stints stay.off stay.kind

-- the stints of a partial duty, one step's after another's, the oldest first
abbrev pub stints_of : Week → PartialDuty → List Stint
stints_of week [] = []
stints_of week (step ∷ before) =
    stints_of week before ++ (stay_stints step.stay
    ++ record { mark = mark_of step.act; minutes = minutes_of week (place_after before) step.act; kind = Plain } ∷ [])

-- the act names a road from the place, or an order of the week
abbrev pub is_known : Week → ℕ → Act → Bool
is_known week place (Leg to) = is_some (road week place to)
is_known week place (Serve order) = is_some (order_of week order)
is_known week place Load = true

-- the step's stay has the lengths of its kind, and its act is known
pub record GivesStints (week : Week) (open_off : ℕ) (step : Step) (before : PartialDuty) : Type 0 where
  pub stay : has_lawful_length open_off step before ≡ true
  pub known : is_known week (place_after before) step.act ≡ true

-- each step gives its stints
abbrev pub HasLine : Week → ℕ → PartialDuty → Type 0
HasLine week open_off [] = Unit {0}
HasLine week open_off (step ∷ before) = GivesStints week open_off step before × HasLine week open_off before
