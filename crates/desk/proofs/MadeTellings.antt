-- A made week, from its parts.
use Rattle.std.specs.Prelude.{⊤}
use Rattle.std.proofs.Common.{◌≡◌, ℕ, inl, inr, refl, sym, ◌∙◌, ap, subst, List, Some, Ok}
use Rattle.week_maker.specs.MadeWeeks.{made_text}
use Rattle.duty_plan.specs.declared.outcomes.Limits.{Limits}
use Rattle.duty_plan.specs.declared.outcomes.Outcome.{Outcome}
use Rattle.duty_plan.specs.declared.plans.Case.{Case}
use Rattle.duty_plan.specs.Duties.{IsCase}
use Rattle.duty_plan.specs.Trees.{IsRight}
use Rattle.desk_report.specs.Summaries.{summary_text}
use Rattle.desk_core.specs.Books.{book}
use Rattle.desk_core.specs.Planning.{case_said}
use Rattle.desk_words.specs.declared.asks.Ask.{Ask}
use Rattle.desk_words.specs.declared.asks.Ask.TheVariants.{Make}
use Rattle.desk.specs.Office.{Device, Shelf, office}
use Rattle.week_maker.specs.declared.weeks.TheConstants.{ROW_COUNT}
use Rattle.desk.specs.Saying.{done, SaysSolved, SaysMade, AnswersMade}
use Rattle.desk.specs.Running.{IsTold, Runs}

-- the summary of a made text that was planned
pub summed-up : (seed : ℕ) (limits : Limits) (text summary : List ℕ) (case : Case) (outcome : Outcome) → text ≡ made_text seed
    → case_said text ≡ Ok (book case) → IsCase case → IsRight case limits outcome → summary ≡ summary_text seed case.week ROW_COUNT outcome
    → AnswersMade seed limits (Ok summary)
summed-up seed limits text summary case outcome made said valid right is =
    inr (subst (λ r. SaysSolved seed limits r (done summary)) (sym (ap case_said (sym made) ∙ said))
    (record { case = case; is_said = refl; valid = valid; outcome = outcome; right = right; told = ap done is }))

-- a made week that is told is a run
pub told-made : (ask : Ask) (seed : ℕ) (limits : Limits) (source held holds : Device) (kept : Shelf) (status : ℕ) → ask ≡ Make seed limits
    → IsTold (SaysMade seed limits) ⊤ held holds status → Runs (Some ask) (office source held kept) (office source holds kept) status
told-made ask seed limits source held holds kept status is (inl (said, says, tells)) =
    subst (λ a. Runs (Some a) (office source held kept) (office source holds kept) status) (sym is) (inl (said, (refl, refl, says), tells))
told-made ask seed limits source held holds kept status is (inr (wants, _)) =
    subst (λ a. Runs (Some a) (office source held kept) (office source holds kept) status) (sym is) (inr (wants, (refl, refl)))
