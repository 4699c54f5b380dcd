-- The summary of a week that was made from a seed and planned.
use Rattle.std.specs.Prelude.{ℕ, List, [], ◌∷◌, length, codes}
use Rattle.std.specs.Fmt.{decimal}
use Rattle.week_book.specs.declared.weeks.Week.{Week}
use Rattle.duty_plan.specs.declared.outcomes.Outcome.{Outcome}
use Rattle.desk_report.specs.Lines.{Line, with_lines}
use Rattle.desk_report.specs.Reports.{found_lines}

-- the seed, how many drivers and orders the week has and how many rows its text, and what the search found
abbrev pub summary_lines : ℕ → Week → ℕ → Outcome → List Line
summary_lines seed week rows outcome =
    (codes "made" ∷ decimal seed ∷ [])
    ∷ (codes "drivers" ∷ decimal (length week.drivers) ∷ [])
    ∷ (codes "orders" ∷ decimal (length week.orders) ∷ [])
    ∷ (codes "rows" ∷ decimal rows ∷ [])
    ∷ found_lines outcome

-- the text of a summary
abbrev pub summary_text : ℕ → Week → ℕ → Outcome → List ℕ
summary_text seed week rows outcome = with_lines [] (summary_lines seed week rows outcome)
