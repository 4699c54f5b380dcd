-- What one round more leaves: the duties that no plan betters, and the counts of its carriers.
use Rattle.std.proofs.Common.{◌≡◌, inl, inr, ℕ, pred, ◌<◌, true, false, List, [], ◌∷◌, ◌++◌, length, get_or, ap, sym, ◌∙◌, arith, Some, slice_get}
use Rattle.week_book.specs.declared.weeks.Week.{Week}
use Rattle.duty_plan.specs.declared.plans.Case.{Case}
use Rattle.duty_plan.specs.declared.pricing.Prices.{Prices}
use Rattle.duty_plan.specs.declared.pricing.Priced.{Priced}
use Rattle.duty_plan.specs.declared.pricing.Priced.TheVariants.{Least}
use Rattle.duty_plan.specs.Rounds.{Round, carriers, is_whole}
use Rattle.duty_plan.specs.Trees.{BeatsDuty, BeatsDuties}
use Rattle.duty_plan.specs.Branching.{ViolatesCover}
use Rattle.duty_plan.proofs.Lists.{slice_get-lt}
use Rattle.price_master.proofs.Lookups.{get-before, split, last-there, one-more, EarlierOrLast}
use Rattle.branch_tree.specs.Leaving.{BeatsAnswers, AreCounts}

-- the duties of one round more
pub beats-more : (case : Case) (cost : ℕ) (rounds : List Round) (prices : Prices) (answers : List Priced) → BeatsDuties case cost rounds → BeatsAnswers case cost answers →
    BeatsDuties case cost (rounds ++ record { prices = prices; answers = answers } ∷ [])
beats-more case cost rounds prices answers b a k driver round value duty h w i = by_place (split rounds (record { prices = prices; answers = answers }) round k h)
  where
    by_place : EarlierOrLast rounds (record { prices = prices; answers = answers }) k round → BeatsDuty case cost driver duty
    by_place (inl g) = b k driver round value duty g.1 w i
    by_place (inr g) =
        let there : slice_get answers driver ≡ Some (Least value duty) = ap (λ (x : Round). slice_get x.answers driver) g.1 ∙ i in
        a driver value duty there

-- a round that isn't whole adds no duty
pub beats-part : (case : Case) (cost : ℕ) (rounds : List Round) (prices : Prices) (answers : List Priced) → BeatsDuties case cost rounds → is_whole answers ≡ false →
    BeatsDuties case cost (rounds ++ record { prices = prices; answers = answers } ∷ [])
beats-part case cost rounds prices answers b part k driver round value duty h w i = by_place (split rounds (record { prices = prices; answers = answers }) round k h)
  where
    by_place : EarlierOrLast rounds (record { prices = prices; answers = answers }) k round → BeatsDuty case cost driver duty
    by_place (inl g) = b k driver round value duty g.1 w i
    by_place (inr g) = let same = ap (λ (x : Round). is_whole x.answers) g.1 in absurd cc

pub last-at : (rounds : List Round) (last : Round) → slice_get (rounds ++ last ∷ []) (pred (length (rounds ++ last ∷ []))) ≡ Some last
last-at rounds last =
    let n : pred (length (rounds ++ last ∷ [])) ≡ length rounds = omega (arith, one-more rounds last) in
    ap (slice_get (rounds ++ last ∷ [])) n ∙ last-there rounds last

-- before any round no order is uneven
pub counts-begin : (week : Week) (counts : List ℕ) → length counts ≡ length week.orders → ((o : ℕ) → o < length week.orders → get_or counts o 0 ≡ 1) →
    AreCounts week [] counts
counts-begin week counts e ones = record {
  orders = e;
  uneven = λ o l u. let h = u.2 in absurd cc;
  other = λ o l n. absurd (n (ones o l));
}

-- after a whole round it alone counts
pub counts-whole : (week : Week) (rounds : List Round) (last : Round) (counts : List ℕ) → is_whole last.answers ≡ true → length counts ≡ length week.orders →
    ((o : ℕ) → o < length week.orders → get_or counts o 0 ≡ carriers o last.answers) → AreCounts week (rounds ++ last ∷ []) counts
counts-whole week rounds last counts w e at = record {
  orders = e;
  uneven = λ o l u one. by_place o u (sym (at o l) ∙ one) (split rounds last u.1 u.0 u.2);
  other = λ o l n. (length rounds, last, last-there rounds last, w, later, λ one. n (at o l ∙ one));
}
  where
    by_place : (o : ℕ) (u : ViolatesCover (rounds ++ last ∷ []) o) → carriers o last.answers ≡ 1 → EarlierOrLast rounds last u.0 u.1 → ⊥
    by_place o u one (inl g) = u.4 (length rounds) last g.0 (last-there rounds last) w
    by_place o u one (inr g) = u.5 (sym (ap (λ (x : Round). carriers o x.answers) g.1) ∙ one)

    later : (j : ℕ) (other : Round) → length rounds < j → slice_get (rounds ++ last ∷ []) j ≡ Some other → is_whole other.answers ≡ true → ⊥
    later j other l h whole = omega (arith, slice_get-lt (rounds ++ last ∷ []) j other h, one-more rounds last)

-- a round that isn't whole changes nothing
pub counts-part : (week : Week) (rounds : List Round) (last : Round) (counts : List ℕ) → is_whole last.answers ≡ false → AreCounts week rounds counts →
    AreCounts week (rounds ++ last ∷ []) counts
counts-part week rounds last counts part c = record {
  orders = c.orders;
  uneven = λ o l u. c.uneven o l (older o u (split rounds last u.1 u.0 u.2));
  other = λ o l n. let u = c.other o l n in
      (u.0, u.1, there u.0 u.1 u.2, u.3, (λ j other s h w. u.4 j other s (back j other w (split rounds last other j h)) w), u.5);
}
  where
    there : (k : ℕ) (round : Round) → slice_get rounds k ≡ Some round → slice_get (rounds ++ last ∷ []) k ≡ Some round
    there k round h = get-before rounds (last ∷ []) k (slice_get-lt rounds k round h) ∙ h

    back : (k : ℕ) (round : Round) → is_whole round.answers ≡ true → EarlierOrLast rounds last k round → slice_get rounds k ≡ Some round
    back k round w (inl g) = g.1
    back k round w (inr g) = let same = ap (λ (x : Round). is_whole x.answers) g.1 in absurd cc

    older : (o : ℕ) (u : ViolatesCover (rounds ++ last ∷ []) o) → EarlierOrLast rounds last u.0 u.1 → ViolatesCover rounds o
    older o u (inl g) = (u.0, u.1, g.1, u.3, (λ j other s h w. u.4 j other s (there j other h) w), u.5)
    older o u (inr g) = let w = u.3 in let same = ap (λ (x : Round). is_whole x.answers) g.1 in absurd cc
