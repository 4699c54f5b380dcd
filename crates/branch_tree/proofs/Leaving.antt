-- The leaf that a node's rounds leave.
use Rattle.std.proofs.Common.{◌≡◌, ◌≢◌, ◌⊎◌, inl, inr, ℕ, suc, pred, ◌+◌, ◌<◌, ◌≤◌, leb, Bool, true, false, List, [], ◌∷◌, ◌++◌, length, get_or, refl, ap, sym, subst, ◌∙◌, arith, Some, slice_get}
use Rattle.std.proofs.lemmas.Bool.Decides.{nat_tests}
use Rattle.duty_plan.specs.declared.plans.Case.{Case}
use Rattle.duty_plan.specs.declared.outcomes.Limits.{Limits}
use Rattle.duty_plan.specs.declared.nodes.Decision.{Decision}
use Rattle.duty_plan.specs.declared.nodes.Node.{Node}
use Rattle.duty_plan.specs.declared.nodes.NodeStart.{NodeStart}
use Rattle.duty_plan.specs.declared.nodes.NodeState.TheVariants.{Branched, Closed, Empty, Open, Spent}
use Rattle.duty_plan.specs.declared.pricing.Prices.{Prices}
use Rattle.duty_plan.specs.declared.pricing.Priced.{Priced}
use Rattle.duty_plan.specs.declared.pricing.Priced.TheVariants.{Least, NoDuty, Spent as spends}
use Rattle.duty_plan.specs.Values.{ArePairsOf, IsDecided, lagrangian}
use Rattle.duty_plan.specs.LabelLists.{chunks_for}
use Rattle.duty_plan.specs.Rounds.{Round, IsRound, ArePricingRounds, AreNextPrices, carriers, is_whole, has_none, has_spent, values_of}
use Rattle.duty_plan.specs.Trees.{BeatsDuties, EndsEmpty}
use Rattle.price_master.specs.Laws.{ForcesOnce}
use Rattle.price_master.proofs.Lookups.{at-most, one-more}
use Rattle.branch_tree.specs.Growth.{IsHeld, IsRanNode}
use Rattle.branch_tree.specs.Running.{IsRaised}
use Rattle.branch_tree.specs.Leaving.{HasFreeIn, leaf_state, BeatsAnswers, IsTaken, IsUnderway, HasRan}
use Rattle.branch_tree.proofs.Lasting.{beats-lasts}
use Rattle.branch_tree.proofs.RoundCounts.{beats-more, beats-part, last-at, counts-begin, counts-whole, counts-part}
use Rattle.branch_tree.proofs.Running.{run_begins, round_adds, part_ends, whole_ends}

-- answers that are not whole, with no NoDuty among them, have a Spent among them
pub part-spent : (answers : List Priced) → is_whole answers ≡ false → has_none answers ≡ false → has_spent answers ≡ true
part-spent [] h n = cc
part-spent (Least v d ∷ rest) h n = part-spent rest h n
part-spent (NoDuty ∷ rest) h n = cc
part-spent (spends s ∷ rest) h n = refl

-- whole answers have neither
pub whole-none : (answers : List Priced) → is_whole answers ≡ true → has_none answers ≡ false
whole-none [] h = refl
whole-none (Least v d ∷ rest) h = whole-none rest h
whole-none (NoDuty ∷ rest) h = cc
whole-none (spends s ∷ rest) h = cc

-- a run with this last round leaves a leaf of that state
ran : (case : Case) (limits : Limits) (cost : ℕ) (path : List Decision) (start : NodeStart) (node : Node) (rounds : List Round) (last : Round)
    (decided : Bool) → ArePairsOf case.week path start.pairs →
    ArePricingRounds (chunks_for limits.labels) case limits.rounds start cost node.bound node.prices rounds → BeatsDuties case cost rounds →
    slice_get rounds (pred (length rounds)) ≡ Some last → node.state ≡ leaf_state (has_none last.answers) (leb cost node.bound) decided →
    (decided ≡ true → IsDecided case.week start.pairs) → (decided ≡ false → HasFreeIn case.week start.pairs) →
    (decided ≡ true → is_whole last.answers ≡ true → cost ≤ node.bound) → node.seen ≡ 0 → IsRanNode case limits cost path start.bound start.prices node rounds
ran case limits cost path start node rounds last decided p run beats at state shut free closes unseen =
    by_tests (has_none last.answers) refl (leb cost node.bound) refl decided refl
  where
    made : IsHeld case.week cost path node rounds → node.state ≢ Branched → IsRanNode case limits cost path start.bound start.prices node rounds
    made held leaf = record { pairs = start.pairs; are_pairs = p; run = run; beats = beats; held = held; leaf = leaf; unseen = unseen }

    full : has_none last.answers ≡ false → EndsEmpty rounds → ⊥
    full n ends =
        let there = ends.1 in
        let same : last ≡ ends.0 = cc in
        let none = ap (λ (x : Round). has_none x.answers) same in
        let h = ends.2 in cc

    by_tests : (n : Bool) → has_none last.answers ≡ n → (c : Bool) → leb cost node.bound ≡ c → (d : Bool) → decided ≡ d →
        IsRanNode case limits cost path start.bound start.prices node rounds
    by_tests true en c ec d ed =
        let s : node.state ≡ Empty = state ∙ rw en refl in
        made (record {
          branched = λ e. cc;
          empty = λ e. (last, at, en);
          closed = λ e. cc;
          spent = λ e. cc;
          open_leaf = λ e. cc;
        }) (λ e. cc)
    by_tests false en true ec d ed =
        let s : node.state ≡ Closed = state ∙ rw (en, ec) refl in
        let reached : cost ≤ node.bound = grind (arith, nat_tests) in
        made (record {
          branched = λ e. cc;
          empty = λ e. cc;
          closed = λ e. (full en, reached);
          spent = λ e. cc;
          open_leaf = λ e. cc;
        }) (λ e. cc)
    by_tests false en false ec true ed =
        let s : node.state ≡ Spent = state ∙ rw (en, ec, ed) refl in
        let low : node.bound < cost = grind (arith, nat_tests) in
        made (record {
          branched = λ e. cc;
          empty = λ e. cc;
          closed = λ e. cc;
          spent = λ e. (
            (λ f. shut ed f.0 f.1 f.2 f.3 (p.each f.0 f.1 f.2 f.3 ∙ f.4)),
            (last, at, en, spent low (is_whole last.answers) refl),
          );
          open_leaf = λ e. cc;
        }) (λ e. cc)
      where
        spent : node.bound < cost → (w : Bool) → is_whole last.answers ≡ w → has_spent last.answers ≡ true
        spent low true w = absurd (omega (arith, closes ed w))
        spent low false w = part-spent last.answers w en
    by_tests false en false ec false ed =
        let s : node.state ≡ Open = state ∙ rw (en, ec, ed) refl in
        let f = free ed in
        made (record {
          branched = λ e. cc;
          empty = λ e. cc;
          closed = λ e. cc;
          spent = λ e. cc;
          open_leaf = λ e. ((f.0, f.1, f.2, f.3, sym (p.each f.0 f.1 f.2 f.3) ∙ f.4), full en);
        }) (λ e. cc)

pub begin : (case : Case) (limits : Limits) (start : NodeStart) (cost : ℕ) (counts : List ℕ) → length counts ≡ length case.week.orders →
    ((o : ℕ) → o < length case.week.orders → get_or counts o 0 ≡ 1) → IsUnderway case limits start 0 cost start.bound start.prices start.prices counts
begin case limits start cost counts e ones = record {
  rounds = [];
  running = run_begins (chunks_for limits.labels) case start;
  beats = λ k driver round value duty h w i. cc;
  number = refl;
  counted = counts-begin case.week counts e ones;
}

-- a whole round, and on to the next one
pub go-on : (case : Case) (limits : Limits) (start : NodeStart) (k cost less bound raised : ℕ) (kept held now next : Prices) (answers : List Priced) (before_counts counts : List ℕ) →
    IsUnderway case limits start k cost bound kept now before_counts → less ≤ cost → IsRound (chunks_for limits.labels) case start.pairs now answers →
    is_whole answers ≡ true → BeatsAnswers case less answers → IsRaised (lagrangian case.week start.pairs now (values_of answers)) bound raised now kept held →
    AreNextPrices case.week k (λ order. carriers order answers) now next → length counts ≡ length case.week.orders →
    ((o : ℕ) → o < length case.week.orders → get_or counts o 0 ≡ carriers o answers) → IsUnderway case limits start (k + 1) less raised held next counts
go-on case limits start k cost less bound raised kept held now next answers before_counts counts u low is w beats up moved e at = record {
  rounds = u.rounds ++ record { prices = now; answers = answers } ∷ [];
  running = round_adds (chunks_for limits.labels) case start bound raised kept held now next u.rounds answers u.running is w up
      (subst (λ (n : ℕ). AreNextPrices case.week n (λ order. carriers order answers) now next) (sym u.number) moved);
  beats = beats-more case less u.rounds now answers (beats-lasts case cost less u.rounds low u.beats) beats;
  number = omega (arith, one-more u.rounds (record { prices = now; answers = answers }), u.number);
  counted = counts-whole case.week u.rounds (record { prices = now; answers = answers }) counts w e at;
}

-- a round that isn't whole leaves the leaf
pub leave-part : (case : Case) (limits : Limits) (start : NodeStart) (k cost bound : ℕ) (kept now : Prices) (answers : List Priced) (node : Node)
    (decided : Bool) (counts : List ℕ) → IsUnderway case limits start k cost bound kept now counts → IsRound (chunks_for limits.labels) case start.pairs now answers →
    is_whole answers ≡ false → k < limits.rounds → node.bound ≡ bound → node.prices ≡ kept →
    node.state ≡ leaf_state (has_none answers) (leb cost node.bound) decided → node.seen ≡ 0 → (decided ≡ true → IsDecided case.week start.pairs) →
    (decided ≡ false → HasFreeIn case.week start.pairs) → HasRan case limits cost start node counts
leave-part case limits start k cost bound kept now answers node decided counts u is part few eb ep es unseen shut free path p =
    let last : Round = record { prices = now; answers = answers } in
    let run = part_ends (chunks_for limits.labels) case limits.rounds start cost bound kept now u.rounds answers u.running is part (omega (arith, u.number)) in (
      u.rounds ++ last ∷ [],
      ran case limits cost path start node (u.rounds ++ last ∷ []) last decided p
          (subst (λ (x : ℕ). ArePricingRounds (chunks_for limits.labels) case limits.rounds start cost x node.prices (u.rounds ++ last ∷ [])) (sym eb)
          (subst (λ (x : Prices). ArePricingRounds (chunks_for limits.labels) case limits.rounds start cost bound x (u.rounds ++ last ∷ [])) (sym ep) run))
          (beats-part case cost u.rounds now answers u.beats part) (last-at u.rounds last) es shut free (λ d w. cc) unseen,
      counts-part case.week u.rounds last counts part u.counted,
    )

-- a whole round leaves the leaf, where it is the last, or all is decided, or the bound has reached the cost
pub leave-whole : (case : Case) (limits : Limits) (start : NodeStart) (k cost less bound raised : ℕ) (kept held now : Prices) (answers : List Priced)
    (node : Node) (decided : Bool) (before_counts counts : List ℕ) → IsUnderway case limits start k cost bound kept now before_counts → less ≤ cost →
    IsRound (chunks_for limits.labels) case start.pairs now answers → is_whole answers ≡ true → IsTaken case start.pairs now answers less → ForcesOnce case.week start.pairs →
    IsRaised (lagrangian case.week start.pairs now (values_of answers)) bound raised now kept held → k < limits.rounds →
    (k + 1 ≡ limits.rounds) ⊎ ((decided ≡ true) ⊎ (less ≤ raised)) → node.bound ≡ raised → node.prices ≡ held →
    node.state ≡ leaf_state false (leb less node.bound) decided → node.seen ≡ 0 → (decided ≡ true → IsDecided case.week start.pairs) →
    (decided ≡ false → HasFreeIn case.week start.pairs) → length counts ≡ length case.week.orders →
    ((o : ℕ) → o < length case.week.orders → get_or counts o 0 ≡ carriers o answers) → HasRan case limits less start node counts
leave-whole case limits start k cost less bound raised kept held now answers node decided before_counts counts u low is w taken once up few ended eb ep es unseen shut free e at path p =
    let last : Round = record { prices = now; answers = answers } in
    let run = whole_ends (chunks_for limits.labels) case limits.rounds start less bound raised kept held now u.rounds answers u.running is w up
    (omega (arith, u.number)) (by_end ended) in (
      u.rounds ++ last ∷ [],
      ran case limits less path start node (u.rounds ++ last ∷ []) last decided p
          (subst (λ (x : ℕ). ArePricingRounds (chunks_for limits.labels) case limits.rounds start less x node.prices (u.rounds ++ last ∷ [])) (sym eb)
          (subst (λ (x : Prices). ArePricingRounds (chunks_for limits.labels) case limits.rounds start less raised x (u.rounds ++ last ∷ [])) (sym ep) run))
          (beats-more case less u.rounds now answers (beats-lasts case cost less u.rounds low u.beats) taken.beats) (last-at u.rounds last)
          (es ∙ ap (λ (b : Bool). leaf_state b (leb less node.bound) decided) (sym (whole-none answers w))) shut free
          (λ d whole. omega (arith, taken.decided (shut d) once, high, eb)) unseen,
      counts-whole case.week u.rounds last counts w e at,
    )
  where
    by_end : (k + 1 ≡ limits.rounds) ⊎ ((decided ≡ true) ⊎ (less ≤ raised)) →
        (suc (length u.rounds) ≡ limits.rounds) ⊎ (IsDecided case.week start.pairs ⊎ (less ≤ raised))
    by_end (inl e) = inl (omega (arith, u.number))
    by_end (inr (inl d)) = inr (inl (shut d))
    by_end (inr (inr l)) = inr (inr l)

    high : lagrangian case.week start.pairs now (values_of answers) ≤ raised
    high = by_value (at-most (lagrangian case.week start.pairs now (values_of answers)) bound)
      where
        by_value : (lagrangian case.week start.pairs now (values_of answers) ≤ bound) ⊎ (bound < lagrangian case.week start.pairs now (values_of answers)) →
            lagrangian case.week start.pairs now (values_of answers) ≤ raised
        by_value (inl l) = omega (arith, (up.below l).0)
        by_value (inr l) = omega (arith, (up.above l).0)

-- the same of a node and counts that are these
pub left-as : (case : Case) (limits : Limits) (cost : ℕ) (start : NodeStart) (node leaf : Node) (counts left : List ℕ) → leaf ≡ node → left ≡ counts →
    HasRan case limits cost start node counts → HasRan case limits cost start leaf left
left-as case limits cost start node leaf counts left e f ran =
    subst (λ (x : List ℕ). HasRan case limits cost start leaf x) (sym f) (subst (λ (x : Node). HasRan case limits cost start x counts) (sym e) ran)
