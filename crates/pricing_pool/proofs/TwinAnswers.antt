-- What was answered or guessed for a twin is right for the driver too.
use Rattle.std.proofs.Common.{◌≡◌, ℕ, List, Option, Some, None, slice_get, sym, subst}
use Rattle.std.specs.Prelude.{IfSome}
use Rattle.duty_plan.specs.declared.duties.Duty.{Duty}
use Rattle.duty_plan.specs.declared.plans.Case.{Case}
use Rattle.duty_plan.specs.declared.deciding.Pairs.{Pairs}
use Rattle.duty_plan.specs.declared.pricing.Prices.{Prices}
use Rattle.duty_plan.specs.declared.pricing.Priced.{Priced}
use Rattle.duty_plan.specs.Duties.{EachOf}
use Rattle.duty_plan.specs.Values.{IsChoice}
use Rattle.duty_plan.specs.Rounds.{IsAnswer}
use Rattle.duty_plan.specs.Twins.{AreTwins}
use Rattle.duty_plan.proofs.TwinLists.{twins_answer_alike}
use Rattle.duty_plan.proofs.Twins.{twins_are_alike}

pub twin-answer : (m : ℕ) (case : Case) (pairs : Pairs) (prices : Prices) (class driver : ℕ) (answers : List Priced) (answer : Priced) →
    AreTwins case pairs class driver → EachOf (IsAnswer m case pairs prices) answers → slice_get answers class ≡ Some answer →
    (copy : Priced) → copy ≡ answer → IsAnswer m case pairs prices driver copy
twin-answer m case pairs prices class driver answers answer twins each at copy is =
    subst (IsAnswer m case pairs prices driver) (sym is)
    (twins_answer_alike m case pairs prices class driver twins answer (each class answer at))

-- a duty of a twin's is one of the driver's
chosen : (case : Case) (pairs : Pairs) (prices : Prices) (class driver : ℕ) → AreTwins case pairs class driver → (guess : Option Duty) →
    IfSome guess (IsChoice case class pairs) → IfSome guess (IsChoice case driver pairs)
chosen case pairs prices class driver twins None is = is
chosen case pairs prices class driver twins (Some duty) is = (twins_are_alike case pairs prices class driver twins).choice duty is

pub twin-guess : (case : Case) (pairs : Pairs) (prices : Prices) (class driver : ℕ) (guesses : List (Option Duty)) (guess : Option Duty) →
    AreTwins case pairs class driver → EachOf (λ k g. IfSome g (IsChoice case k pairs)) guesses → slice_get guesses class ≡ Some guess →
    (copy : Option Duty) → copy ≡ guess → IfSome copy (IsChoice case driver pairs)
twin-guess case pairs prices class driver guesses guess twins each at copy is =
    subst (λ g. IfSome g (IsChoice case driver pairs)) (sym is) (chosen case pairs prices class driver twins guess (each class guess at))
