-- A report says what the search found: its first lines are read back.
use Rattle.std.proofs.Common.{◌≡◌, ◌≢◌, ℕ, ◌+◌, ◌%◌, ◌<◌, ◌^◌, List, [], ◌∷◌, ◌++◌, length, drop, codes, get_or, refl, ap, sym, ◌∙◌, append_assoc, length-append, arith, ℤ}
use Rattle.std.specs.Fmt.{decimal}
use Rattle.std.proofs.lemmas.Fmt.{decimal_by_steps, decimal_injective}
use Rattle.std.proofs.lemmas.List.{append-nil}
use Rattle.minute_line.specs.DateWriting.{AreDaysOf}
use Rattle.minute_line.specs.Writing.{with_words}
use Rattle.duty_plan.specs.declared.outcomes.Outcome.{Outcome}
use Rattle.duty_plan.specs.declared.outcomes.State.{State}
use Rattle.duty_plan.specs.declared.outcomes.State.TheVariants.{Proved, OpenLabels, OpenNodes}
use Rattle.duty_plan.specs.declared.plans.Case.{Case}
use Rattle.desk_report.specs.Laws.{AreNumbers, FoundSame}
use Rattle.desk_report.specs.Lines.{Line, add_line, with_lines}
use Rattle.desk_report.specs.Reports.{state_word, outcome_lines, drivers_lines, orders_lines, IsBodyOf}
use Rattle.desk_report.proofs.FindingServices.{is-there}

-- no byte is a line feed
NoFeed : List ℕ → Type 0
NoFeed [] = Unit {0}
NoFeed (byte ∷ more) = (byte ≢ 10) × NoFeed more

no-feed-more : (text : List ℕ) (byte : ℕ) → NoFeed text → byte ≢ 10 → NoFeed (text ++ byte ∷ [])
unfolding NoFeed
no-feed-more [] byte none other = (other, tt)
no-feed-more (b ∷ text) byte none other = (none.0, no-feed-more text byte none.1 other)

decimal-no-feed : (n : ℕ) → n < 2 ^ 64 → NoFeed (decimal n)
unfolding NoFeed
decimal-no-feed =
    decimal_by_steps (λ m ds. NoFeed ds) (λ m l. (omega arith, tt)) (λ m ds l h. no-feed-more ds (48 + m % 10) h (omega arith))

-- two texts are the same up to their first line feeds, and after them
split : (a b x y : List ℕ) → NoFeed a → NoFeed b → (a ++ 10 ∷ []) ++ x ≡ (b ++ 10 ∷ []) ++ y → (a ≡ b) × (x ≡ y)
unfolding NoFeed
split [] [] x y none other e = (refl, ap (drop 1) e)
split [] (d ∷ b) x y none other e = absurd (other.0 (sym (ap (λ (t : List ℕ). get_or t 0 0) e)))
split (c ∷ a) [] x y none other e = absurd (none.0 (ap (λ (t : List ℕ). get_or t 0 0) e))
split (c ∷ a) (d ∷ b) x y none other e =
    let more = split a b x y none.1 other.1 (ap (drop 1) e) in
    let head : c ≡ d = ap (λ (t : List ℕ). get_or t 0 0) e in
    (ap (λ (t : List ℕ). c ∷ t) more.0 ∙ ap (λ (h : ℕ). h ∷ b) head, more.1)

-- what comes after texts of one length is the same
pub after-same : (a b x y : List ℕ) → length a ≡ length b → a ++ x ≡ b ++ y → x ≡ y
after-same [] [] x y l e = e
after-same [] (d ∷ b) x y l e = absurd (omega (arith, l))
after-same (c ∷ a) [] x y l e = absurd (omega (arith, l))
after-same (c ∷ a) (d ∷ b) x y l e = after-same a b x y (omega (arith, l)) (ap (drop 1) e)

pub words-after : (text more : List ℕ) (words : List (List ℕ)) → with_words (text ++ more) words ≡ text ++ with_words more words
words-after text more [] = refl
words-after text more (word ∷ words) = rw (append_assoc text more (32 ∷ word)) (words-after text (more ++ 32 ∷ word) words)

pub line-after : (text : List ℕ) (line : Line) → add_line text line ≡ text ++ add_line [] line
line-after text [] = refl
line-after text (first ∷ more) = rw (words-after text first more) (append_assoc text (with_words first more) (10 ∷ []))

pub lines-after : (text : List ℕ) (lines : List Line) → with_lines text lines ≡ text ++ with_lines [] lines
lines-after text [] = sym (append-nil text)
lines-after text (line ∷ lines) =
    lines-after (add_line text line) lines
    ∙ rw (line-after text line) (append_assoc text (add_line [] line) (with_lines [] lines) ∙ ap (λ (t : List ℕ). text ++ t) (sym (lines-after (add_line [] line) lines)))

-- a line, and the lines after it
pub first-line : (line : Line) (lines : List Line) → with_lines [] (line ∷ lines) ≡ add_line [] line ++ with_lines [] lines
first-line line lines = lines-after (add_line [] line) lines

-- the bytes of what a search found, before the rest of a report
abbrev pub begins_with : List ℕ → ℕ → ℕ → State → ℕ → List ℕ → List ℕ
begins_with monday cost bound state nodes rest =
    add_line [] (codes "week" ∷ monday ∷ [])
    ++ (add_line [] (codes "cost" ∷ decimal cost ∷ [])
    ++ (add_line [] (codes "bound" ∷ decimal bound ∷ [])
    ++ (add_line [] (codes "state" ∷ state_word state ∷ [])
    ++ (add_line [] (codes "nodes" ∷ decimal nodes ∷ []) ++ rest))))

pub begins : (monday : List ℕ) (outcome : Outcome) (rest : List Line)
    → with_lines [] (outcome_lines monday outcome ++ rest) ≡ begins_with monday outcome.cost outcome.bound outcome.state (length outcome.tree) (with_lines [] rest)
begins monday outcome rest =
    rw (
      first-line (codes "week" ∷ monday ∷ []) ((codes "cost" ∷ decimal outcome.cost ∷ []) ∷ (codes "bound" ∷ decimal outcome.bound ∷ []) ∷ (codes "state" ∷ state_word outcome.state ∷ []) ∷ (codes "nodes" ∷ decimal (length outcome.tree) ∷ []) ∷ rest),
      first-line (codes "cost" ∷ decimal outcome.cost ∷ []) ((codes "bound" ∷ decimal outcome.bound ∷ []) ∷ (codes "state" ∷ state_word outcome.state ∷ []) ∷ (codes "nodes" ∷ decimal (length outcome.tree) ∷ []) ∷ rest),
      first-line (codes "bound" ∷ decimal outcome.bound ∷ []) ((codes "state" ∷ state_word outcome.state ∷ []) ∷ (codes "nodes" ∷ decimal (length outcome.tree) ∷ []) ∷ rest),
      first-line (codes "state" ∷ state_word outcome.state ∷ []) ((codes "nodes" ∷ decimal (length outcome.tree) ∷ []) ∷ rest),
      first-line (codes "nodes" ∷ decimal (length outcome.tree) ∷ []) rest,
    ) refl

state-no-feed : (state : State) → NoFeed (state_word state)
unfolding NoFeed
state-no-feed Proved = (omega arith, (omega arith, (omega arith, (omega arith, (omega arith, (omega arith, tt))))))
state-no-feed OpenLabels = (omega arith, (omega arith, (omega arith, (omega arith, (omega arith, (omega arith, tt))))))
state-no-feed OpenNodes = (omega arith, (omega arith, (omega arith, (omega arith, (omega arith, tt)))))

one-state : (a b : State) → state_word a ≡ state_word b → a ≡ b
one-state Proved Proved e = refl
one-state Proved OpenLabels e = let first : 112 ≡ 108 = ap (λ (t : List ℕ). get_or t 0 0) e in absurd (omega (arith, first))
one-state Proved OpenNodes e = let first : 112 ≡ 110 = ap (λ (t : List ℕ). get_or t 0 0) e in absurd (omega (arith, first))
one-state OpenLabels Proved e = let first : 108 ≡ 112 = ap (λ (t : List ℕ). get_or t 0 0) e in absurd (omega (arith, first))
one-state OpenLabels OpenLabels e = refl
one-state OpenLabels OpenNodes e = let first : 108 ≡ 110 = ap (λ (t : List ℕ). get_or t 0 0) e in absurd (omega (arith, first))
one-state OpenNodes Proved e = let first : 110 ≡ 112 = ap (λ (t : List ℕ). get_or t 0 0) e in absurd (omega (arith, first))
one-state OpenNodes OpenLabels e = let first : 110 ≡ 108 = ap (λ (t : List ℕ). get_or t 0 0) e in absurd (omega (arith, first))
one-state OpenNodes OpenNodes e = refl

-- numbers after one word
pub number-after : (a b : ℕ) (x y : List ℕ) → a < 2 ^ 64 → b < 2 ^ 64 → (decimal a ++ 10 ∷ []) ++ x ≡ (decimal b ++ 10 ∷ []) ++ y → (a ≡ b) × (x ≡ y)
number-after a b x y p q e =
    let two = split (decimal a) (decimal b) x y (decimal-no-feed a p) (decimal-no-feed b q) e in (decimal_injective a b p q two.0, two.1)

pub found-same : (monday day : List ℕ) (one two : Outcome) (x y : List ℕ) → length monday ≡ length day → AreNumbers one → AreNumbers two
    → begins_with monday one.cost one.bound one.state (length one.tree) x ≡ begins_with day two.cost two.bound two.state (length two.tree) y
    → FoundSame one two × (x ≡ y)
found-same monday day one two x y l p q e =
    let after_week = after-same (add_line [] (codes "week" ∷ monday ∷ [])) (add_line [] (codes "week" ∷ day ∷ [])) _ _
    (omega (arith, l, length-append monday (10 ∷ []), length-append day (10 ∷ []))) e in
    let cost = number-after one.cost two.cost _ _ p.cost q.cost (ap (drop 5) after_week) in
    let bound = number-after one.bound two.bound _ _ p.bound q.bound (ap (drop 6) cost.1) in
    let state = split (state_word one.state) (state_word two.state) _ _ (state-no-feed one.state) (state-no-feed two.state) (ap (drop 6) bound.1) in
    let nodes = number-after (length one.tree) (length two.tree) _ _ p.nodes q.nodes (ap (drop 6) state.1) in
    let found : FoundSame one two = record {
      cost = cost.0;
      bound = bound.0;
      state = one-state one.state two.state state.0;
      nodes = nodes.0;
    } in (found, nodes.1)

-- the text of a Monday has ten bytes
pub monday-length : (day : ℤ) (days : List (List ℕ)) → AreDaysOf day days → length (get_or days 0 []) ≡ 10
monday-length day days are = (are.1 0 (get_or days 0 []) (is-there days 0 (get_or days 0 []) [] (omega (arith, are.0)) refl)).0

-- outcomes with one body of a report found the same
pub reports_tell_findings : (case other : Case) (one two : Outcome) (text : List ℕ) → AreNumbers one → AreNumbers two
    → IsBodyOf case one text → IsBodyOf other two text → FoundSame one two
reports_tell_findings case other one two text p q (days, are, is) (dates, be, same) =
    let first = begins (get_or days 0 []) one (drivers_lines days case 0 one.plan.duties ++ orders_lines days case.week one.plan.duties 0 case.week.orders) in
    let second = begins (get_or dates 0 []) two (drivers_lines dates other 0 two.plan.duties ++ orders_lines dates other.week two.plan.duties 0 other.week.orders) in
    (found-same (get_or days 0 []) (get_or dates 0 []) one two _ _
    (monday-length case.week.monday.day days are ∙ sym (monday-length other.week.monday.day dates be)) p q
    (sym first ∙ (sym is ∙ (same ∙ second)))).0
