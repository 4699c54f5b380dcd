-- In a week without orders the empty duty is each driver's least.
use Rattle.std.proofs.Common.{◌≡◌, ℕ, zero, suc, ◌<◌, cond, eqb, Bool, true, false, List, [], ◌∷◌, length, replicate, get_or, refl, sym, subst, arith, inl, ◌∙◌, Some, slice_get, pos}
use Rattle.std.proofs.lemmas.Int.{ints}
use Rattle.std.proofs.lemmas.Bool.Decides.{nat_tests}
use Rattle.duty_plan.specs.declared.plans.Case.{Case}
use Rattle.duty_plan.specs.declared.deciding.Pairs.{Pairs}
use Rattle.duty_plan.specs.declared.pricing.Prices.{Prices}
use Rattle.duty_plan.specs.declared.pricing.Priced.{Priced}
use Rattle.duty_plan.specs.declared.pricing.Priced.TheVariants.{Least, Spent}
use Rattle.duty_plan.specs.Duties.{worth, partial_of, orders_of}
use Rattle.duty_plan.specs.Values.{IsLeast, IsPrices, price_at}
use Rattle.duty_plan.specs.Rounds.{IsRound, IsAnswer}

-- the answer of the plain pricer
abbrev pub home_answer_of : Case → Priced
home_answer_of case = cond (eqb (length case.week.orders) 0) (Least (pos 0) (record { steps = [] })) (Spent 0)

worth-nothing : (f : ℕ → ℕ) (xs : List ℕ) → ((o : ℕ) → f o ≡ 0) → worth f xs ≡ 0
worth-nothing f [] h = refl
worth-nothing f (x ∷ xs) h = omega (arith, h x, worth-nothing f xs h)

priceless : (cents : List ℕ) (o : ℕ) → length cents ≡ 0 → get_or cents o 0 ≡ 0
priceless [] o h = refl
priceless (c ∷ cents) o h = absurd (omega arith)

pub least_home : (case : Case) (driver : ℕ) (pairs : Pairs) (prices : Prices) → IsPrices case.week prices → length case.week.orders ≡ 0 →
    IsLeast case driver pairs prices (pos 0) (record { steps = [] })
least_home case driver pairs prices p none = record {
  choice = record {
    lawful = record { partial = record { office = tt; hours = refl }; home = refl };
    inside = record { forced = λ o l h. absurd (omega arith); barred = λ o l h. absurd (omega arith) };
  };
  has_value = refl;
  lowest = λ duty c.
      let free : worth (price_at prices) (orders_of (partial_of duty)) ≡ 0 =
      worth-nothing (price_at prices) (orders_of (partial_of duty)) (λ o. priceless prices.cents o (p.orders ∙ none)) in
      omega (arith, ints);
}

home-answer : (case : Case) (driver : ℕ) (pairs : Pairs) (prices : Prices) → IsPrices case.week prices → 0 < length case.week.drivers →
    (n : ℕ) → length case.week.orders ≡ n → IsAnswer 0 case pairs prices driver (home_answer_of case)
home-answer case driver pairs prices p some zero e =
    let test : eqb (length case.week.orders) 0 ≡ true = grind (arith, nat_tests) in
    subst (λ (b : Bool). IsAnswer 0 case pairs prices driver (cond b (Least (pos 0) (record { steps = [] })) (Spent 0))) (sym test) (least_home case driver pairs prices p e)
home-answer case driver pairs prices p some (suc n) e =
    let test : eqb (length case.week.orders) 0 ≡ false = grind (arith, nat_tests) in
    subst (λ (b : Bool). IsAnswer 0 case pairs prices driver (cond b (Least (pos 0) (record { steps = [] })) (Spent 0))) (sym test) (inl some, inl refl)

pub replicate_at : {X : Type 0} (n k : ℕ) (x y : X) → slice_get (replicate n x) k ≡ Some y → (x ≡ y) × (0 < n)
replicate_at zero k x y h = cc
replicate_at (suc n) zero x y h = (cc, omega arith)
replicate_at (suc n) (suc k) x y h = ((replicate_at n k x y h).0, omega arith)

pub length_replicated : {X : Type 0} (n : ℕ) (x : X) → length (replicate n x) ≡ n
length_replicated zero x = refl
length_replicated (suc n) x = omega (arith, length_replicated n x)

-- its round
pub home_round : (case : Case) (pairs : Pairs) (prices : Prices) → IsPrices case.week prices → (n : ℕ) → n ≡ length case.week.drivers →
    IsRound 0 case pairs prices (replicate n (home_answer_of case))
home_round case pairs prices p n same = record {
  drivers = length_replicated n (home_answer_of case) ∙ same;
  each = λ k answer h. let found = replicate_at n k (home_answer_of case) answer h in
      subst (λ (a : Priced). IsAnswer 0 case pairs prices k a) found.0
      (home-answer case k pairs prices p (omega (arith, found.1)) (length case.week.orders) refl);
}
