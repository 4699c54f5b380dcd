-- The rounds of a node, one after another.
use Rattle.std.proofs.Common.{◌≡◌, ◌⊎◌, inl, inr, ℕ, suc, pred, ◌<◌, ◌≤◌, true, List, [], ◌∷◌, ◌++◌, length, refl, ap, sym, subst, ◌∙◌, arith, Some, slice_get}
use Rattle.duty_plan.specs.declared.plans.Case.{Case}
use Rattle.duty_plan.specs.declared.nodes.NodeStart.{NodeStart}
use Rattle.duty_plan.specs.declared.pricing.Prices.{Prices}
use Rattle.duty_plan.specs.Values.{IsDecided}
use Rattle.duty_plan.specs.Rounds.{Round, IsRound, IsBest, IsFirstAt, AreNextPrices, carriers, is_whole, value_of_round}
use Rattle.duty_plan.proofs.Lists.{slice_get-lt}
use Rattle.price_master.proofs.Lookups.{get-before, at-most, split, EarlierOrLast, last-there, one-more}
use Rattle.branch_tree.specs.Running.{ArePricingRoundsSoFar, IsRaised, RunBegins, RoundAdds, PartEnds, WholeEnds}

pub run_begins : RunBegins
run_begins m case start = record {
  begins = λ round h. cc;
  moves = λ k round next h i. cc;
  each = λ k round h. cc;
  whole = λ k round h. cc;
  best = record { above_first = omega arith; above = λ k round h w. cc; from = inl (refl, refl) };
  now_first = λ e. refl;
  now_next = λ k round e h. absurd (omega arith);
}

-- the bound after one whole round more
best-more : (m : ℕ) (case : Case) (start : NodeStart) (bound raised : ℕ) (kept held now : Prices) (rounds : List Round) (last : Round) →
    ArePricingRoundsSoFar m case start bound kept now rounds → last.prices ≡ now → is_whole last.answers ≡ true →
    IsRaised (value_of_round case.week start.pairs last) bound raised now kept held → IsBest case.week start (rounds ++ last ∷ []) raised held
best-more m case start bound raised kept held now rounds last r at whole is = by_value (at-most value bound)
  where
    value : ℕ
    value = value_of_round case.week start.pairs last

    there : (k : ℕ) (round : Round) → slice_get rounds k ≡ Some round → slice_get (rounds ++ last ∷ []) k ≡ Some round
    there k round h = get-before rounds (last ∷ []) k (slice_get-lt rounds k round h) ∙ h

    by_value : (value_of_round case.week start.pairs last ≤ bound) ⊎ (bound < value_of_round case.week start.pairs last) →
        IsBest case.week start (rounds ++ last ∷ []) raised held
    by_value (inl l) =
        let same = is.below l in record {
          above_first = omega (arith, same.0, r.best.above_first);
          above = λ k round h w. above k round h w (split rounds last round k h);
          from = from r.best.from;
        }
      where
        above : (k : ℕ) (round : Round) → slice_get (rounds ++ last ∷ []) k ≡ Some round → is_whole round.answers ≡ true →
            EarlierOrLast rounds last k round → value_of_round case.week start.pairs round ≤ raised
        above k round h w (inl g) = omega (arith, (is.below l).0, r.best.above k round g.1 w)
        above k round h w (inr g) = omega (arith, (is.below l).0, l, ap (value_of_round case.week start.pairs) g.1)

        from : ((bound ≡ start.bound) × (kept ≡ start.prices)) ⊎ IsFirstAt case.week start rounds bound kept →
            ((raised ≡ start.bound) × (held ≡ start.prices)) ⊎ IsFirstAt case.week start (rounds ++ last ∷ []) raised held
        from (inl g) = inl ((is.below l).0 ∙ g.0, (is.below l).1 ∙ g.1)
        from (inr g) = inr (record {
          number = g.number;
          round = g.round;
          is_round = there g.number g.round g.is_round;
          whole = g.whole;
          value = g.value ∙ sym (is.below l).0;
          prices = g.prices ∙ sym (is.below l).1;
          above_first = omega (arith, (is.below l).0, g.above_first);
          earlier = λ k other s h w.
              let old : slice_get rounds k ≡ Some other = sym (get-before rounds (last ∷ []) k (omega (arith, s, slice_get-lt rounds g.number g.round g.is_round))) ∙ h in
              omega (arith, (is.below l).0, g.earlier k other s old w);
        })
    by_value (inr l) =
        let same = is.above l in record {
          above_first = omega (arith, same.0, r.best.above_first);
          above = λ k round h w. above k round h w (split rounds last round k h);
          from = inr (record {
            number = length rounds;
            round = last;
            is_round = last-there rounds last;
            whole = whole;
            value = sym same.0;
            prices = at ∙ sym same.1;
            above_first = omega (arith, same.0, r.best.above_first);
            earlier = λ k other s h w.
                let old : slice_get rounds k ≡ Some other = sym (get-before rounds (last ∷ []) k s) ∙ h in
                omega (arith, same.0, r.best.above k other old w);
          });
        }
      where
        above : (k : ℕ) (round : Round) → slice_get (rounds ++ last ∷ []) k ≡ Some round → is_whole round.answers ≡ true →
            EarlierOrLast rounds last k round → value_of_round case.week start.pairs round ≤ raised
        above k round h w (inl g) = omega (arith, (is.above l).0, l, r.best.above k round g.1 w)
        above k round h w (inr g) = omega (arith, (is.above l).0, ap (value_of_round case.week start.pairs) g.1)

-- what one round more keeps, whole or not
pub record IsLonger (m : ℕ) (case : Case) (start : NodeStart) (rounds : List Round) : Type 0 where
  pub begins : (round : Round) → slice_get rounds 0 ≡ Some round → round.prices ≡ start.prices
  pub moves : (k : ℕ) (round next : Round) → slice_get rounds k ≡ Some round → slice_get rounds (suc k) ≡ Some next →
      AreNextPrices case.week k (λ order. carriers order round.answers) round.prices next.prices
  pub each : (k : ℕ) (round : Round) → slice_get rounds k ≡ Some round → IsRound m case start.pairs round.prices round.answers
  pub whole : (k : ℕ) (round : Round) → suc k < length rounds → slice_get rounds k ≡ Some round → is_whole round.answers ≡ true

longer : (m : ℕ) (case : Case) (start : NodeStart) (bound : ℕ) (kept now : Prices) (rounds : List Round) (last : Round) →
    ArePricingRoundsSoFar m case start bound kept now rounds → last.prices ≡ now → IsRound m case start.pairs last.prices last.answers →
    IsLonger m case start (rounds ++ last ∷ [])
longer m case start bound kept now rounds last r at round_is = record {
  begins = λ round h. begins round (split rounds last round 0 h);
  moves = λ k round next h i. moves k round next (split rounds last round k h) (split rounds last next (suc k) i);
  each = λ k round h. each k round (split rounds last round k h);
  whole = λ k round s h. whole k round (omega (arith, s, one-more rounds last)) (split rounds last round k h);
}
  where
    begins : (round : Round) → EarlierOrLast rounds last 0 round → round.prices ≡ start.prices
    begins round (inl g) = r.begins round g.1
    begins round (inr g) = sym (ap (λ (x : Round). x.prices) g.1) ∙ (at ∙ r.now_first (sym g.0))

    moves : (k : ℕ) (round next : Round) → EarlierOrLast rounds last k round → EarlierOrLast rounds last (suc k) next →
        AreNextPrices case.week k (λ order. carriers order round.answers) round.prices next.prices
    moves k round next (inl g) (inl h) = r.moves k round next g.1 h.1
    moves k round next (inl g) (inr h) =
        subst (λ (x : Prices). AreNextPrices case.week k (λ order. carriers order round.answers) round.prices x)
        (sym at ∙ ap (λ (x : Round). x.prices) h.1) (r.now_next k round h.0 g.1)
    moves k round next (inr g) (inl h) = absurd (omega (arith, g.0, h.0))
    moves k round next (inr g) (inr h) = absurd (omega (arith, g.0, h.0))

    each : (k : ℕ) (round : Round) → EarlierOrLast rounds last k round → IsRound m case start.pairs round.prices round.answers
    each k round (inl g) = r.each k round g.1
    each k round (inr g) = subst (λ (x : Round). IsRound m case start.pairs x.prices x.answers) g.1 round_is

    whole : (k : ℕ) (round : Round) → k < length rounds → EarlierOrLast rounds last k round → is_whole round.answers ≡ true
    whole k round s (inl g) = r.whole k round g.1
    whole k round s (inr g) = absurd (omega (arith, g.0))

pub round_adds : RoundAdds
round_adds m case start bound raised kept held now next rounds answers r is w up moved =
    let last : Round = record { prices = now; answers = answers } in
    let more = longer m case start bound kept now rounds last r refl is in record {
      begins = more.begins;
      moves = more.moves;
      each = more.each;
      whole = λ k round h. whole k round (split rounds (record { prices = now; answers = answers }) round k h);
      best = best-more m case start bound raised kept held now rounds last r refl w up;
      now_first = λ e. absurd (omega (arith, e, one-more rounds last));
      now_next = λ k round e h. now_next k round e (split rounds (record { prices = now; answers = answers }) round k h);
    }
  where
    whole : (k : ℕ) (round : Round) → EarlierOrLast rounds (record { prices = now; answers = answers }) k round → is_whole round.answers ≡ true
    whole k round (inl g) = r.whole k round g.1
    whole k round (inr g) = subst (λ (x : Round). is_whole x.answers ≡ true) g.1 w

    now_next : (k : ℕ) (round : Round) → suc k ≡ length (rounds ++ record { prices = now; answers = answers } ∷ []) →
        EarlierOrLast rounds (record { prices = now; answers = answers }) k round →
        AreNextPrices case.week k (λ order. carriers order round.answers) round.prices next
    now_next k round e (inl g) = absurd (omega (arith, e, g.0, one-more rounds (record { prices = now; answers = answers })))
    now_next k round e (inr g) =
        subst (λ (x : Round). AreNextPrices case.week k (λ order. carriers order x.answers) x.prices next) g.1
        (subst (λ (n : ℕ). AreNextPrices case.week n (λ order. carriers order answers) now next) (sym g.0) moved)

-- the last round of a run
last-is : (rounds : List Round) (last round : Round) → slice_get (rounds ++ last ∷ []) (pred (length (rounds ++ last ∷ []))) ≡ Some round → last ≡ round
last-is rounds last round h =
    let n : pred (length (rounds ++ last ∷ [])) ≡ length rounds = omega (arith, one-more rounds last) in
    let there : slice_get (rounds ++ last ∷ []) (length rounds) ≡ Some round = ap (slice_get (rounds ++ last ∷ [])) (sym n) ∙ h in
    let here = last-there rounds last in cc

pub part_ends : PartEnds
part_ends m case most start cost bound kept now rounds answers r is part few =
    let last : Round = record { prices = now; answers = answers } in
    let more = longer m case start bound kept now rounds last r refl is in record {
      some = (omega (arith, one-more rounds last), omega (arith, one-more rounds last));
      begins = more.begins;
      moves = more.moves;
      each = more.each;
      whole = more.whole;
      ends = λ round h w. absurd (ended round h w);
      best = record {
        above_first = r.best.above_first;
        above = λ k round h w. above k round w (split rounds (record { prices = now; answers = answers }) round k h);
        from = from r.best.from;
      };
    }
  where
    ended : (round : Round) → slice_get (rounds ++ record { prices = now; answers = answers } ∷ []) (pred (length (rounds ++ record { prices = now; answers = answers } ∷ []))) ≡ Some round →
        is_whole round.answers ≡ true → ⊥
    ended round h w =
        let same = ap (λ (x : Round). is_whole x.answers) (last-is rounds (record { prices = now; answers = answers }) round h) in cc

    above : (k : ℕ) (round : Round) → is_whole round.answers ≡ true → EarlierOrLast rounds (record { prices = now; answers = answers }) k round →
        value_of_round case.week start.pairs round ≤ bound
    above k round w (inl g) = r.best.above k round g.1 w
    above k round w (inr g) = let same = ap (λ (x : Round). is_whole x.answers) g.1 in absurd cc

    from : ((bound ≡ start.bound) × (kept ≡ start.prices)) ⊎ IsFirstAt case.week start rounds bound kept →
        ((bound ≡ start.bound) × (kept ≡ start.prices)) ⊎ IsFirstAt case.week start (rounds ++ record { prices = now; answers = answers } ∷ []) bound kept
    from (inl g) = inl g
    from (inr g) = inr (record {
      number = g.number;
      round = g.round;
      is_round = get-before rounds (record { prices = now; answers = answers } ∷ []) g.number (slice_get-lt rounds g.number g.round g.is_round) ∙ g.is_round;
      whole = g.whole;
      value = g.value;
      prices = g.prices;
      above_first = g.above_first;
      earlier = λ k other s h w.
          let old : slice_get rounds k ≡ Some other =
          sym (get-before rounds (record { prices = now; answers = answers } ∷ []) k (omega (arith, s, slice_get-lt rounds g.number g.round g.is_round))) ∙ h in
          g.earlier k other s old w;
    })

pub whole_ends : WholeEnds
whole_ends m case most start cost bound raised kept held now rounds answers r is w up few ended =
    let last : Round = record { prices = now; answers = answers } in
    let more = longer m case start bound kept now rounds last r refl is in record {
      some = (omega (arith, one-more rounds last), omega (arith, one-more rounds last));
      begins = more.begins;
      moves = more.moves;
      each = more.each;
      whole = more.whole;
      ends = λ round h whole. by_end ended;
      best = best-more m case start bound raised kept held now rounds last r refl w up;
    }
  where
    by_end : (suc (length rounds) ≡ most) ⊎ (IsDecided case.week start.pairs ⊎ (cost ≤ raised)) →
        (length (rounds ++ record { prices = now; answers = answers } ∷ []) ≡ most) ⊎ (IsDecided case.week start.pairs ⊎ (cost ≤ raised))
    by_end (inl e) = inl (one-more rounds (record { prices = now; answers = answers }) ∙ e)
    by_end (inr e) = inr e
