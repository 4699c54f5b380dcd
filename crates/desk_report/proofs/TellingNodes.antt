-- The rows of the nodes say the tree.
use Rattle.std.proofs.Common.{◌≡◌, ℕ, ◌+◌, ◌<◌, ◌^◌, List, [], ◌∷◌, ◌++◌, length, map, drop, get_or, All, refl, ap, ◌∙◌, arith}
use Rattle.std.specs.Fmt.{decimal}
use Rattle.std.proofs.lemmas.Fmt.{decimal_injective}
use Rattle.std.proofs.lemmas.List.Elements.{All-head, All-tail}
use Rattle.week_book.specs.declared.weeks.Week.{Week}
use Rattle.week_book.specs.Weeks.{IsWeek}
use Rattle.duty_plan.specs.declared.nodes.Decision.{Decision}
use Rattle.duty_plan.specs.declared.nodes.Decision.TheVariants.{Root, Forced, Barred}
use Rattle.duty_plan.specs.declared.nodes.Node.{Node}
use Rattle.duty_plan.specs.declared.nodes.NodeState.{NodeState}
use Rattle.duty_plan.specs.declared.nodes.NodeState.TheVariants.{Branched, Closed, Empty, Open, Spent}
use Rattle.desk_report.specs.Exports.{decision_fields, node_word, node_row, price_row, nodes_rows}
use Rattle.desk_report.specs.Laws.{AreNodeNumbers}
use Rattle.desk_report.specs.Rows.{Fields}
use Rattle.desk_report.proofs.SaidEntries.{same-driver, same-order}

-- a decision that names a driver and an order of the week
abbrev pub IsKnownPair : Week → Decision → Type 0
IsKnownPair week Root = Unit {0}
IsKnownPair week (Forced driver order) = (driver < length week.drivers) × (order < length week.orders)
IsKnownPair week (Barred driver order) = (driver < length week.drivers) × (order < length week.orders)

-- the fields of a decision say it, and what comes after them
decision-says : (week : Week) (one two : Decision) (x y : Fields) → IsWeek week → IsKnownPair week one → IsKnownPair week two
    → decision_fields week one ++ x ≡ decision_fields week two ++ y → (one ≡ two) × (x ≡ y)
decision-says week Root Root x y w p q e = (refl, ap (drop 3) e)
decision-says week (Forced d o) (Forced f g) x y w p q e =
    let driver = same-driver week d f w p.0 q.0 (ap (λ (t : Fields). get_or t 0 []) e) in
    let order = same-order week o g w p.1 q.1 (ap (λ (t : Fields). get_or t 1 []) e) in
    (ap (λ k. Forced k o) driver ∙ ap (λ k. Forced f k) order, ap (drop 3) e)
decision-says week (Barred d o) (Barred f g) x y w p q e =
    let driver = same-driver week d f w p.0 q.0 (ap (λ (t : Fields). get_or t 0 []) e) in
    let order = same-order week o g w p.1 q.1 (ap (λ (t : Fields). get_or t 1 []) e) in
    (ap (λ k. Barred k o) driver ∙ ap (λ k. Barred f k) order, ap (drop 3) e)
decision-says week _ _ x y w p q e = let head = ap (λ (t : Fields). get_or (get_or t 2 []) 0 0) e in absurd (omega (arith, head))

one-state : (one two : NodeState) → node_word one ≡ node_word two → one ≡ two
one-state Branched Branched e = refl
one-state Closed Closed e = refl
one-state Empty Empty e = refl
one-state Open Open e = refl
one-state Spent Spent e = refl
one-state _ _ e = let head = ap (λ (t : List ℕ). get_or t 0 0) e in absurd (omega (arith, head))

numbers-say : (one two : List ℕ) → All (λ n. n < 2 ^ 64) one → All (λ n. n < 2 ^ 64) two → map decimal one ≡ map decimal two → one ≡ two
numbers-say [] [] p q e = refl
numbers-say [] (n ∷ two) p q e = cc e
numbers-say (m ∷ one) [] p q e = cc e
numbers-say (m ∷ one) (n ∷ two) p q e =
    let head = decimal_injective m n (All-head (λ k. k < 2 ^ 64) m one p) (All-head (λ k. k < 2 ^ 64) n two q) (ap (λ (t : Fields). get_or t 0 []) e) in
    ap (λ k. k ∷ one) head ∙ ap (λ ks. n ∷ ks) (numbers-say one two (All-tail (λ k. k < 2 ^ 64) m one p) (All-tail (λ k. k < 2 ^ 64) n two q) (ap (drop 1) e))

-- a node by its fields
made : ℕ → Decision → List ℕ → ℕ → ℕ → NodeState → Node
made parent decision cents bound seen state =
    record { parent = parent; decision = decision; prices = record { cents = cents }; bound = bound; seen = seen; state = state }

same-node : (a b : Node) → a.parent ≡ b.parent → a.decision ≡ b.decision → a.prices.cents ≡ b.prices.cents → a.bound ≡ b.bound → a.seen ≡ b.seen
    → a.state ≡ b.state → a ≡ b
unfolding made
same-node a b parent decision cents bound seen state =
    ap (λ k. made k a.decision a.prices.cents a.bound a.seen a.state) parent
    ∙ ap (λ k. made b.parent k a.prices.cents a.bound a.seen a.state) decision
    ∙ ap (λ k. made b.parent b.decision k a.bound a.seen a.state) cents
    ∙ ap (λ k. made b.parent b.decision b.prices.cents k a.seen a.state) bound
    ∙ ap (λ k. made b.parent b.decision b.prices.cents b.bound k a.state) seen
    ∙ ap (λ k. made b.parent b.decision b.prices.cents b.bound b.seen k) state

-- a node's two rows say the node
node-says : (week : Week) (number : ℕ) (a b : Node) → IsWeek week → AreNodeNumbers a → AreNodeNumbers b → IsKnownPair week a.decision → IsKnownPair week b.decision
    → node_row week number a ≡ node_row week number b → price_row number a ≡ price_row number b → a ≡ b
node-says week number a b w p q k l e f =
    let parent = decimal_injective a.parent b.parent p.parent q.parent (ap (λ (t : Fields). get_or t 2 []) e) in
    let rest = decision-says week a.decision b.decision _ _ w k l (ap (drop 3) e) in
    let bound = decimal_injective a.bound b.bound p.bound q.bound (ap (λ (t : Fields). get_or t 0 []) rest.1) in
    let seen = decimal_injective a.seen b.seen p.seen q.seen (ap (λ (t : Fields). get_or t 1 []) rest.1) in
    let state = one-state a.state b.state (ap (λ (t : Fields). get_or t 2 []) rest.1) in
    same-node a b parent rest.0 (numbers-say a.prices.cents b.prices.cents p.prices q.prices (ap (drop 2) f)) bound seen state

-- decisions that name drivers and orders of the week
abbrev pub AreKnownPairs : Week → List Node → Type 0
AreKnownPairs week [] = Unit {0}
AreKnownPairs week (node ∷ tree) = IsKnownPair week node.decision × AreKnownPairs week tree

-- the rows of nodes say the nodes
pub nodes-say : (week : Week) (number : ℕ) (one two : List Node) → IsWeek week → All AreNodeNumbers one → All AreNodeNumbers two
    → AreKnownPairs week one → AreKnownPairs week two → nodes_rows week number one ≡ nodes_rows week number two → one ≡ two
nodes-say week number [] [] w p q k l e = refl
nodes-say week number [] (b ∷ two) w p q k l e = cc e
nodes-say week number (a ∷ one) [] w p q k l e = cc e
nodes-say week number (a ∷ one) (b ∷ two) w p q k l e =
    let head = node-says week number a b w (All-head AreNodeNumbers a one p) (All-head AreNodeNumbers b two q) k.0 l.0 (ap (λ (t : List Fields). get_or t 0 []) e) (ap (λ (t : List Fields). get_or t 1 []) e) in
    ap (λ n. n ∷ one) head
    ∙ ap (λ ns. b ∷ ns) (nodes-say week (number + 1) one two w (All-tail AreNodeNumbers a one p) (All-tail AreNodeNumbers b two q) k.1 l.1 (ap (drop 2) e))
