-- Guesses inside pairs are lawful.
use Rattle.std.proofs.Common.{◌≡◌, ℕ, List, Option, Some, None, IfSome, ap, sym, ◌∙◌, slice_get}
use Rattle.duty_plan.specs.declared.duties.Duty.{Duty}
use Rattle.duty_plan.specs.declared.plans.Case.{Case}
use Rattle.duty_plan.specs.declared.deciding.Pairs.{Pairs}
use Rattle.duty_plan.specs.Duties.{EachOf}
use Rattle.duty_plan.specs.Values.{IsChoice}
use Rattle.duty_plan.specs.Rounds.{AreGuesses}
use Rattle.cheap_plans.specs.Drafts.{IsLawfulGuess}

one-lawful : (case : Case) (driver : ℕ) (pairs : Pairs) (guess : Option Duty) → IfSome guess (IsChoice case driver pairs) → IsLawfulGuess case driver guess
one-lawful case driver pairs None h = tt
one-lawful case driver pairs (Some duty) h = h.lawful

pub all-lawful : (case : Case) (pairs : Pairs) (guesses seen : List (Option Duty)) → AreGuesses case pairs guesses → seen ≡ guesses → EachOf (IsLawfulGuess case) seen
all-lawful case pairs guesses seen g e n guess h =
    one-lawful case n pairs guess (g.each n guess (ap (λ (xs : List (Option Duty)). slice_get xs n) (sym e) ∙ h))
