use Rattle.std.proofs.Common.{◌≡◌, ℕ, List, Option, None, IfSome, replicate, length, sym, subst, ◌∙◌, rules}
use Rattle.duty_plan.specs.declared.duties.Duty.{Duty}
use Rattle.duty_plan.specs.declared.plans.Case.{Case}
use Rattle.duty_plan.specs.declared.deciding.Pairs.{Pairs}
use Rattle.duty_plan.specs.Rounds.{AreGuesses}
use Rattle.duty_plan.proofs.Home.{length_replicated, replicate_at}
use Rattle.duty_plan.specs.Values.{IsChoice}
use Rattle.search_tests.proofs.tests.HomebodyPricer.guess.Goals as goal

no-guesses : (case : Case) (pairs : Pairs) (n : ℕ) → n ≡ length case.week.drivers → AreGuesses case pairs (replicate n None)
no-guesses case pairs n same = record {
  drivers = length_replicated n None ∙ same;
  each = λ k guess h. subst (λ (g : Option Duty). IfSome g (IsChoice case k pairs)) (replicate_at n k None guess h).0 tt;
}

pub returns-clause-guesses : goal.returns-clause-guesses
returns-clause-guesses c =
    let whole : c.loop-driver._driver-index ≡ length c.args.case.now.week.drivers = search rules in
    subst (λ (xs : List (Option Duty)). AreGuesses c.args.case.now c.args._pairs.now xs) (sym c.loop-driver.invariant)
    (no-guesses c.args.case.now c.args._pairs.now c.loop-driver._driver-index whole)
