-- What minutes that are added to a line do to its clock and its faults.
use Rattle.std.specs.Prelude.{◌≡◌, ℕ, ◌≤◌, length, None, Some, Result, MatchResult}
use Rattle.minute_line.specs.declared.marks.Mark.{Mark}
use Rattle.minute_line.specs.declared.marks.Mark.TheVariants.{Ready, Off}
use Rattle.minute_line.specs.declared.marks.Kind.{Kind}
use Rattle.minute_line.specs.declared.marks.Kind.TheVariants.{Plain}
use Rattle.minute_line.specs.Minutes.{Minutes, stretch}
use Rattle.hours_rules.specs.declared.clocks.Clock.{Clock}
use Rattle.hours_rules.specs.declared.rules.Broken.{Broken}
use Rattle.hours_rules.specs.declared.clocks.Stay.{Stay}
use Rattle.hours_rules.specs.Rules.{Past, fault_from}
use Rattle.hours_rules.specs.Standing.{Stands}

-- the answer for a line: a clock stands for it and no rule fails from week minute `from` on, or this is the first
-- fault from there
abbrev pub StandsOrBreaks : ℕ → Past → Minutes → Result Clock Broken → Type 0
StandsOrBreaks from past week answer =
    MatchResult answer (λ clock. Stands clock past week × (fault_from from past week ≡ None))
    (λ broken. fault_from from past week ≡ Some broken)

-- whatever line the clock stands for, this is the answer for the line with a block of minutes added
abbrev pub AnswersBlock : Clock → Mark → Kind → ℕ → Result Clock Broken → Type 0
AnswersBlock clock mark kind minutes answer = (from : ℕ) (past : Past) (week : Minutes) → Stands clock past week →
    from ≤ length week → fault_from from past week ≡ None → StandsOrBreaks from past (stretch minutes mark kind week) answer

-- the week with a stay, and then some minutes of an act
abbrev pub with_stay : Stay → Mark → ℕ → Minutes → Minutes
with_stay stay mark minutes week =
    stretch minutes mark stay.kind (stretch stay.off Off Plain (stretch stay.ready Ready Plain week))

-- whatever line the clock stands for, and from whichever minute on no rule fails in it, this is the answer for the
-- line with a stay and an act added
abbrev pub AnswersStay : Clock → Stay → Mark → ℕ → Result Clock Broken → Type 0
AnswersStay clock stay mark minutes answer = (from : ℕ) (past : Past) (week : Minutes) → Stands clock past week →
    from ≤ length week → fault_from from past week ≡ None → StandsOrBreaks from past (with_stay stay mark minutes week) answer
