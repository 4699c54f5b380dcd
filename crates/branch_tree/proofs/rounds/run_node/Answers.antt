use Rattle.std.proofs.Common.{◌≡◌, ℕ, ◌+◌, ◌<◌, ◌≤◌, ◌⊎◌, inl, inr, Bool, true, false, leb, List, length, get_or, refl, ap, sym, subst, ◌∙◌, arith, Some, slice_get}
use Rattle.duty_plan.specs.declared.nodes.Node.{Node}
use Rattle.duty_plan.specs.declared.pricing.Prices.{Prices}
use Rattle.duty_plan.specs.declared.pricing.Priced.{Priced}
use Rattle.duty_plan.specs.declared.pricing.Priced.TheVariants.{Least}
use Rattle.duty_plan.specs.LabelLists.{chunks_for}
use Rattle.duty_plan.specs.Values.{IsPrices, lagrangian}
use Rattle.duty_plan.specs.Rounds.{IsRound, carriers, has_none, is_whole, values_of}
use Rattle.branch_tree.specs.Running.{IsRaised}
use Rattle.branch_tree.specs.Leaving.{HasRan, IsTaken, IsUnderway, leaf_state}
use Rattle.price_master.proofs.Whole.{next-prices}
use Rattle.branch_tree.proofs.Leaving.{begin, go-on, leave-part, leave-whole, left-as}
use Rattle.branch_tree.proofs.RoundFacts.{values-length, values-modest, raised-then, raised-else, next-counted}
use Rattle.branch_tree.proofs.rounds.run_node.Goals as goal
use Rattle.branch_tree.proofs.rounds.run_node.Goals.{then-value-bound+in_ok-prices-2, else-value-bound, then-k-task-via-then-k-task, then-k-task-via-else-k-task+then-decided, then-k-task-via-else-k-task+else-decided+then-kept-bound}

pub loop-carried-init : goal.loop-carried-init
loop-carried-init g c =
    let p = c.in_ok-prices.ensures in
    let n = c.in_ok-now.ensures in record {
      underway =
          subst (λ (x : Prices). IsUnderway c.args.task.now.case.now c.args.task.now.limits.now c.args.start.now 0 c.args.kept.now.cost c.args.start.now.bound x c.in_ok-now.now c.in_ok-carried.carried) (sym p)
          (subst (λ (x : Prices). IsUnderway c.args.task.now.case.now c.args.task.now.limits.now c.args.start.now 0 c.args.kept.now.cost c.args.start.now.bound c.args.start.now.prices x c.in_ok-carried.carried) (sym n)
          (begin c.args.task.now.case.now c.args.task.now.limits.now c.args.start.now c.args.kept.now.cost c.in_ok-carried.carried c.in_ok-carried.ensures.length c.in_ok-carried.ensures.ones));
      few = omega (arith, c.requires.limits.rounds);
      now_prices = subst (λ (x : Prices). IsPrices c.args.task.now.case.now.week x) (sym n) c.requires.prices;
      kept_prices = subst (λ (x : Prices). IsPrices c.args.task.now.case.now.week x) (sym p) c.requires.prices;
      keeps = c.requires.kept;
      pool = c.requires.pool;
      falls = omega arith;
      chunks = refl;
    }

pub returns-then-not-is_whole-clause-ran : goal.returns-then-not-is_whole-clause-ran
returns-then-not-is_whole-clause-ran g c =
    let answers : List Priced = c.in_ok-answers.answers in
    let node : Node = record { parent = c.args.parent; decision = c.args.decision; prices = c.loop-carried.prices; bound = c.loop-carried.bound; seen = 0; state = c.state_of-state.result } in
    let m = c.loop-carried.invariant.chunks ∙ c.requires.chunks in
    let round : IsRound (chunks_for c.args.task.now.limits.now.labels) c.args.task.now.case.now c.args.start.now.pairs c.loop-carried.now c.in_ok-answers.answers =
    subst (λ (x : ℕ). IsRound x c.args.task.now.case.now c.args.start.now.pairs c.loop-carried.now c.in_ok-answers.answers) m c.in_ok-answers.ensures.round in
    let part : is_whole c.in_ok-answers.answers ≡ false = ap is_whole (sym c.as_slice.ensures) ∙ (sym c.is_whole.ensures ∙ c.if-not-is_whole.true) in
    let none : c.has_none.result ≡ has_none c.in_ok-answers.answers = c.has_none.ensures ∙ ap has_none c.as_slice-then-not-is_whole.ensures in
    let state : c.state_of-state.result ≡ leaf_state (has_none c.in_ok-answers.answers) (leb c.loop-carried.kept.cost c.loop-carried.bound) c.is_decided-decided.result =
    c.state_of-state.ensures ∙ ap (λ (b : Bool). leaf_state b (leb c.loop-carried.kept.cost c.loop-carried.bound) c.is_decided-decided.result) none in
    let ran : HasRan c.args.task.now.case.now c.args.task.now.limits.now c.loop-carried.kept.cost c.args.start.now node c.loop-carried.carried =
    leave-part c.args.task.now.case.now c.args.task.now.limits.now c.args.start.now c.loop-carried.k c.loop-carried.kept.cost c.loop-carried.bound
    c.loop-carried.prices c.loop-carried.now c.in_ok-answers.answers node c.is_decided-decided.result c.loop-carried.carried c.loop-carried.invariant.underway round part
    c.loop-carried.invariant.few refl refl state refl c.is_decided-decided.ensures.decided c.is_decided-decided.ensures.free in
    left-as c.args.task.now.case.now c.args.task.now.limits.now c.loop-carried.kept.cost c.args.start.now node c.leaf_of.result.node c.loop-carried.carried c.leaf_of.result.counts
    c.leaf_of.ensures.node c.leaf_of.ensures.counts ran

pub lagrange-value-requires-clause-drivers : goal.lagrange-value-requires-clause-drivers
lagrange-value-requires-clause-drivers g c =
    let whole : is_whole c.in_ok-answers.answers ≡ true = ap is_whole (sym c.as_slice.ensures) ∙ (sym c.is_whole.ensures ∙ c.if-not-is_whole.false) in
    let is : c.in_ok-least.least ≡ values_of c.in_ok-answers.answers = c.in_ok-least.ensures ∙ ap values_of c.as_slice-in-loop-carried-2.ensures in
    values-length _ c.args.task.now.case.now c.args.start.now.pairs c.loop-carried.now c.in_ok-answers.answers c.in_ok-least.least c.in_ok-answers.ensures.round whole is

pub lagrange-value-requires-clause-modest : goal.lagrange-value-requires-clause-modest
lagrange-value-requires-clause-modest g c =
    let whole : is_whole c.in_ok-answers.answers ≡ true = ap is_whole (sym c.as_slice.ensures) ∙ (sym c.is_whole.ensures ∙ c.if-not-is_whole.false) in
    let is : c.in_ok-least.least ≡ values_of c.in_ok-answers.answers = c.in_ok-least.ensures ∙ ap values_of c.as_slice-in-loop-carried-2.ensures in
    values-modest _ c.args.task.now.case.now c.args.start.now.pairs c.loop-carried.now c.in_ok-answers.answers c.in_ok-least.least c.requires.case c.loop-carried.invariant.now_prices
    c.in_ok-answers.ensures.round whole is

pub returns-then-k-task-clause-prices : goal.returns-then-k-task-clause-prices
returns-then-k-task-clause-prices g c =
    let held : IsPrices c.args.task.now.case.now.week c.if-value-bound.prices = elim c.if-value-bound.branch [
      | then-value-bound+in_ok-prices-2 w ↦ subst (λ (x : Prices). IsPrices c.args.task.now.case.now.week x) (sym (w.prices-is ∙ w.in_ok-prices-2.ensures)) c.loop-carried.invariant.now_prices
      | else-value-bound w ↦ subst (λ (x : Prices). IsPrices c.args.task.now.case.now.week x) (sym w.prices-is) c.loop-carried.invariant.kept_prices
    ] in
    subst (λ (x : Prices). IsPrices c.args.task.now.case.now.week x) (sym (ap (λ (n : Node). n.prices) c.leaf_of-then-k-task.ensures.node)) held

pub returns-then-k-task-clause-ran : goal.returns-then-k-task-clause-ran
returns-then-k-task-clause-ran g c =
    let node : Node = record { parent = c.args.parent; decision = c.args.decision; prices = c.if-value-bound.prices; bound = c.if-value-bound.bound; seen = 0; state = c.state_of-state-then-k-task.result } in
    let m = c.loop-carried.invariant.chunks ∙ c.requires.chunks in
    let round : IsRound (chunks_for c.args.task.now.limits.now.labels) c.args.task.now.case.now c.args.start.now.pairs c.loop-carried.now c.in_ok-answers.answers =
    subst (λ (x : ℕ). IsRound x c.args.task.now.case.now c.args.start.now.pairs c.loop-carried.now c.in_ok-answers.answers) m c.in_ok-answers.ensures.round in
    let whole : is_whole c.in_ok-answers.answers ≡ true = ap is_whole (sym c.as_slice.ensures) ∙ (sym c.is_whole.ensures ∙ c.if-not-is_whole.false) in
    let is : c.in_ok-least.least ≡ values_of c.in_ok-answers.answers = c.in_ok-least.ensures ∙ ap values_of c.as_slice-in-loop-carried-2.ensures in
    let value : c.lagrange-value.result ≡ lagrangian c.args.task.now.case.now.week c.args.start.now.pairs c.loop-carried.now (values_of c.in_ok-answers.answers) =
    c.lagrange-value.ensures ∙ ap (lagrangian c.args.task.now.case.now.week c.args.start.now.pairs c.loop-carried.now) is in
    let raised : IsRaised (lagrangian c.args.task.now.case.now.week c.args.start.now.pairs c.loop-carried.now (values_of c.in_ok-answers.answers)) c.loop-carried.bound c.if-value-bound.bound c.loop-carried.now c.loop-carried.prices c.if-value-bound.prices =
    subst (λ (x : ℕ). IsRaised x c.loop-carried.bound c.if-value-bound.bound c.loop-carried.now c.loop-carried.prices c.if-value-bound.prices) value
    (elim c.if-value-bound.branch [
      | then-value-bound+in_ok-prices-2 w ↦ raised-then _ _ _ _ _ _ w.if-value-bound.true w.bound-is (w.prices-is ∙ w.in_ok-prices-2.ensures)
      | else-value-bound w ↦ raised-else _ _ _ _ _ _ w.if-value-bound.false w.bound-is w.prices-is
    ]) in
    let a : c.as_slice-in-loop-carried.result.now ≡ c.in_ok-answers.answers = c.as_slice-in-loop-carried.ensures in
    let taken : IsTaken c.args.task.now.case.now c.args.start.now.pairs c.loop-carried.now c.in_ok-answers.answers c.take_round.new.kept.cost =
    subst (λ (x : List Priced). IsTaken c.args.task.now.case.now c.args.start.now.pairs c.loop-carried.now x c.take_round.new.kept.cost) a
    (c.in_ok-take_round.ensures.taken (chunks_for c.args.task.now.limits.now.labels) c.args.start.now.pairs c.loop-carried.now
    (subst (λ (x : List Priced). IsRound (chunks_for c.args.task.now.limits.now.labels) c.args.task.now.case.now c.args.start.now.pairs c.loop-carried.now x) (sym a) round)) in
    let at : (o : ℕ) → o < length c.args.task.now.case.now.week.orders → get_or c.in_ok-carried-2.carried o 0 ≡ carriers o c.in_ok-answers.answers =
    λ o l. c.in_ok-carried-2.ensures.each o l ∙ ap (carriers o) c.as_slice-in-loop-carried-3.ensures in
    let ended : (c.loop-carried.k + 1 ≡ c.args.task.now.limits.now.rounds) ⊎ ((c.is_decided-decided.result ≡ true) ⊎ (c.take_round.new.kept.cost ≤ c.if-value-bound.bound)) =
    elim c.then-k-task.branch [
      | then-k-task-via-then-k-task w ↦ inl w.if-k-task.true
      | then-k-task-via-else-k-task+then-decided w ↦ inr (inl w.if-decided.true)
      | then-k-task-via-else-k-task+else-decided+then-kept-bound w ↦ inr (inr w.if-kept-bound.true)
    ] in
    let ran : HasRan c.args.task.now.case.now c.args.task.now.limits.now c.take_round.new.kept.cost c.args.start.now node c.in_ok-carried-2.carried =
    leave-whole c.args.task.now.case.now c.args.task.now.limits.now c.args.start.now c.loop-carried.k c.loop-carried.kept.cost c.take_round.new.kept.cost
    c.loop-carried.bound c.if-value-bound.bound c.loop-carried.prices c.if-value-bound.prices c.loop-carried.now c.in_ok-answers.answers node c.is_decided-decided.result
    c.loop-carried.carried c.in_ok-carried-2.carried c.loop-carried.invariant.underway c.take_round.ensures.falls round whole taken c.requires.once raised
    c.loop-carried.invariant.few ended refl refl c.state_of-state-then-k-task.ensures refl c.is_decided-decided.ensures.decided c.is_decided-decided.ensures.free
    c.in_ok-carried-2.ensures.length at in
    left-as c.args.task.now.case.now c.args.task.now.limits.now c.take_round.new.kept.cost c.args.start.now node c.leaf_of-then-k-task.result.node c.in_ok-carried-2.carried
    c.leaf_of-then-k-task.result.counts c.leaf_of-then-k-task.ensures.node c.leaf_of-then-k-task.ensures.counts ran

pub loop-carried-preserved : goal.loop-carried-preserved
loop-carried-preserved g c =
    let m = c.loop-carried.invariant.chunks ∙ c.requires.chunks in
    let round : IsRound (chunks_for c.args.task.now.limits.now.labels) c.args.task.now.case.now c.args.start.now.pairs c.loop-carried.now c.in_ok-answers.answers =
    subst (λ (x : ℕ). IsRound x c.args.task.now.case.now c.args.start.now.pairs c.loop-carried.now c.in_ok-answers.answers) m c.in_ok-answers.ensures.round in
    let whole : is_whole c.in_ok-answers.answers ≡ true = ap is_whole (sym c.as_slice.ensures) ∙ (sym c.is_whole.ensures ∙ c.if-not-is_whole.false) in
    let is : c.in_ok-least.least ≡ values_of c.in_ok-answers.answers = c.in_ok-least.ensures ∙ ap values_of c.as_slice-in-loop-carried-2.ensures in
    let value : c.lagrange-value.result ≡ lagrangian c.args.task.now.case.now.week c.args.start.now.pairs c.loop-carried.now (values_of c.in_ok-answers.answers) =
    c.lagrange-value.ensures ∙ ap (lagrangian c.args.task.now.case.now.week c.args.start.now.pairs c.loop-carried.now) is in
    let raised : IsRaised (lagrangian c.args.task.now.case.now.week c.args.start.now.pairs c.loop-carried.now (values_of c.in_ok-answers.answers)) c.loop-carried.bound c.if-value-bound.bound c.loop-carried.now c.loop-carried.prices c.if-value-bound.prices =
    subst (λ (x : ℕ). IsRaised x c.loop-carried.bound c.if-value-bound.bound c.loop-carried.now c.loop-carried.prices c.if-value-bound.prices) value
    (elim c.if-value-bound.branch [
      | then-value-bound+in_ok-prices-2 w ↦ raised-then _ _ _ _ _ _ w.if-value-bound.true w.bound-is (w.prices-is ∙ w.in_ok-prices-2.ensures)
      | else-value-bound w ↦ raised-else _ _ _ _ _ _ w.if-value-bound.false w.bound-is w.prices-is
    ]) in
    let a : c.as_slice-in-loop-carried.result.now ≡ c.in_ok-answers.answers = c.as_slice-in-loop-carried.ensures in
    let taken : IsTaken c.args.task.now.case.now c.args.start.now.pairs c.loop-carried.now c.in_ok-answers.answers c.take_round.new.kept.cost =
    subst (λ (x : List Priced). IsTaken c.args.task.now.case.now c.args.start.now.pairs c.loop-carried.now x c.take_round.new.kept.cost) a
    (c.in_ok-take_round.ensures.taken (chunks_for c.args.task.now.limits.now.labels) c.args.start.now.pairs c.loop-carried.now
    (subst (λ (x : List Priced). IsRound (chunks_for c.args.task.now.limits.now.labels) c.args.task.now.case.now c.args.start.now.pairs c.loop-carried.now x) (sym a) round)) in
    let at : (o : ℕ) → o < length c.args.task.now.case.now.week.orders → get_or c.in_ok-carried-2.carried o 0 ≡ carriers o c.in_ok-answers.answers =
    λ o l. c.in_ok-carried-2.ensures.each o l ∙ ap (carriers o) c.as_slice-in-loop-carried-3.ensures in
    let moved = next-counted c.args.task.now.case.now.week c.loop-carried.k c.loop-carried.now c.next_prices.new.prices c.in_ok-carried-2.carried c.in_ok-answers.answers at c.next_prices.ensures in record {
      underway =
          go-on c.args.task.now.case.now c.args.task.now.limits.now c.args.start.now c.loop-carried.k c.loop-carried.kept.cost c.take_round.new.kept.cost
          c.loop-carried.bound c.if-value-bound.bound c.loop-carried.prices c.if-value-bound.prices c.loop-carried.now c.next_prices.new.prices c.in_ok-answers.answers
          c.loop-carried.carried c.in_ok-carried-2.carried c.loop-carried.invariant.underway c.take_round.ensures.falls round whole taken.beats raised moved
          c.in_ok-carried-2.ensures.length at;
      few = omega (arith, c.loop-carried.invariant.few, c.if-k-task.false);
      now_prices = next-prices c.args.task.now.case.now.week c.loop-carried.k _ c.loop-carried.now c.next_prices.new.prices c.loop-carried.invariant.now_prices c.next_prices.ensures;
      kept_prices = elim c.if-value-bound.branch [
        | then-value-bound+in_ok-prices-2 w ↦ subst (λ (x : Prices). IsPrices c.args.task.now.case.now.week x) (sym (w.prices-is ∙ w.in_ok-prices-2.ensures)) c.loop-carried.invariant.now_prices
        | else-value-bound w ↦ subst (λ (x : Prices). IsPrices c.args.task.now.case.now.week x) (sym w.prices-is) c.loop-carried.invariant.kept_prices
      ];
      keeps = c.take_round.ensures.kept;
      pool = c.take_round.ensures.pool;
      falls = omega (arith, c.take_round.ensures.falls, c.loop-carried.invariant.falls);
      chunks = c.in_ok-answers.ensures.chunks ∙ c.loop-carried.invariant.chunks;
    }

pub take_round-requires-clause-drivers : goal.take_round-requires-clause-drivers
take_round-requires-clause-drivers g c = ap length c.as_slice-in-loop-carried.ensures ∙ c.in_ok-answers.ensures.round.drivers

pub take_round-requires-clause-lawful : goal.take_round-requires-clause-lawful
take_round-requires-clause-lawful g c = λ driver value duty h.
    let there : slice_get c.in_ok-answers.answers driver ≡ Some (Least value duty) = ap (λ (xs : List Priced). slice_get xs driver) (sym c.as_slice-in-loop-carried.ensures) ∙ h in
    (c.in_ok-answers.ensures.round.each driver (Least value duty) there).choice.lawful
