-- How many turns the choices of bids take: at most one for each way to give the first drivers a pooled duty or the empty one.
use Rattle.std.proofs.Common.{◌≡◌, ℕ, zero, suc, ◌+◌, ◌≤◌, Bool, true, false, cond, List, [], ◌∷◌, length, refl, ap, sym, ◌∙◌, subst, arith, Some, slice_get, bit_or}
use Rattle.std.specs.Int.Bits.{or_zero_r}
use Rattle.std.specs.List.{sum_by}
use Rattle.std.proofs.lemmas.List.Sums.{sum_by-cons, sum_by-le-sum_by}
use Rattle.duty_plan.specs.Sums.{total_below}
use Rattle.duty_plan.proofs.Sums.{total-add, total-same, total-zero}
use Rattle.week_book.specs.declared.weeks.Week.{Week}
use Rattle.price_master.specs.declared.bidding.Bid.{Bid}
use Rattle.price_master.specs.declared.pooling.Pooled.{Pooled}
use Rattle.price_master.specs.Pools.{are_apart, orders_in, ways, ways_of_all}
use Rattle.price_master.specs.Bids.{AreBids, AreBidsOfAll, turns_of}
use Rattle.price_master.proofs.Singles.{zero-apart}

-- the first term of a sum
pub total-first : (f : ℕ → ℕ) (n : ℕ) → total_below f (suc n) ≡ f 0 + total_below (λ k. f (suc k)) n
total-first f zero = refl
total-first f (suc n) = omega (arith, total-first f n)

-- sums of sums
total-sum : {X : Type 0} (f : ℕ → X → ℕ) (xs : List X) (n : ℕ) → total_below (λ k. sum_by (f k) xs) n ≡ sum_by (λ x. total_below (λ k. f k x) n) xs
total-sum f [] n = total-zero (λ k. 0) n (λ k l. refl)
total-sum {X = X} f (x ∷ xs) n =
    total-same (λ k. sum_by (f k) (x ∷ xs)) (λ k. f k x + sum_by (f k) xs) n (λ k l. sum_by-cons (f k) x xs) ∙
    (total-add (λ k. f k x) (λ k. sum_by (f k) xs) n ∙
    (ap (λ (m : ℕ). total_below (λ k. f k x) n + m) (total-sum f xs n) ∙
    sym (sum_by-cons (λ (y : X). total_below (λ k. f k y) n) x xs)))

total-cond : (b : Bool) (f : ℕ → ℕ) (n : ℕ) → total_below (λ k. cond b (f k) 0) n ≡ cond b (total_below f n) 0
total-cond true f n = refl
total-cond false f n = total-zero (λ k. 0) n (λ k l. refl)

pub cond-le : (b : Bool) (m n : ℕ) → m ≤ n → cond b m 0 ≤ cond b n 0
cond-le true m n h = h
cond-le false m n h = omega arith

-- the turns of one bid, and the ways that go on with a duty
abbrev turns_with : List (List Bid) → ℕ → ℕ → ℕ
turns_with bids served more = cond (are_apart served more) (1 + turns_of bids (bit_or served more)) 0

abbrev ways_with : List (List Pooled) → ℕ → ℕ → ℕ → ℕ
ways_with pool served n more = cond (are_apart served more) (ways pool n (bit_or served more)) 0

turns-few : (week : Week) (pool : List (List Pooled)) (bids : List (List Bid)) (served : ℕ) → length bids ≡ length pool →
    ((d : ℕ) (pooled : List Pooled) (of_driver : List Bid) → slice_get pool d ≡ Some pooled → slice_get bids d ≡ Some of_driver → AreBids week pooled of_driver) →
    turns_of bids served ≤ total_below (λ n. ways pool (suc n) served) (length pool)
turns-few week pool [] served same each = omega arith
turns-few week [] (of_driver ∷ bids) served same each = absurd (omega arith)
turns-few week (pooled ∷ pool) (of_driver ∷ bids) served same each =
    let m = length pool in
    let more = λ (s : ℕ). turns-few week pool bids s (omega arith) (λ d p b h i. each (suc d) p b h i) in
    let first : turns_with bids served 0 ≤ total_below (λ n. ways pool n served) (suc m) =
    subst (λ (b : Bool). cond b (1 + turns_of bids (bit_or served 0)) 0 ≤ total_below (λ n. ways pool n served) (suc m)) (sym (zero-apart served))
    (subst (λ (s : ℕ). 1 + turns_of bids s ≤ total_below (λ n. ways pool n served) (suc m)) (sym (or_zero_r served)) (on served more)) in
    let each_duty : sum_by (λ entry. turns_with bids served (orders_in entry.duty)) pooled ≤
    sum_by (λ entry. total_below (λ n. ways_with pool served n (orders_in entry.duty)) (suc m)) pooled =
    sum_by-le-sum_by (λ (entry : Pooled). turns_with bids served (orders_in entry.duty))
    (λ (entry : Pooled). total_below (λ n. ways_with pool served n (orders_in entry.duty)) (suc m)) pooled (λ entry. one (orders_in entry.duty) more) in
    let swap = total-sum (λ n (entry : Pooled). ways_with pool served n (orders_in entry.duty)) pooled (suc m) in
    let parts = total-add (λ n. ways pool n served) (λ n. sum_by (λ (entry : Pooled). ways_with pool served n (orders_in entry.duty)) pooled) (suc m) in
    let few = (each 0 pooled of_driver refl refl).few (turns_with bids served) in
    omega (arith, few, first, each_duty, swap, parts)
  where
    on : (s : ℕ) → ((s : ℕ) → turns_of bids s ≤ total_below (λ n. ways pool (suc n) s) (length pool)) →
        1 + turns_of bids s ≤ total_below (λ n. ways pool n s) (suc (length pool))
    on s more = omega (arith, total-first (λ n. ways pool n s) (length pool), more s)

    one : (with_one : ℕ) → ((s : ℕ) → turns_of bids s ≤ total_below (λ n. ways pool (suc n) s) (length pool)) →
        turns_with bids served with_one ≤ total_below (λ n. ways_with pool served n with_one) (suc (length pool))
    one with_one more =
        let low = cond-le (are_apart served with_one) (1 + turns_of bids (bit_or served with_one)) (total_below (λ n. ways pool n (bit_or served with_one)) (suc (length pool)))
        (on (bit_or served with_one) more) in
        omega (arith, low, total-cond (are_apart served with_one) (λ n. ways pool n (bit_or served with_one)) (suc (length pool)))

-- all choices
pub turns-all_ways : (week : Week) (pool : List (List Pooled)) (bids : List (List Bid)) → AreBidsOfAll week pool bids → turns_of bids 0 ≤ ways_of_all pool
turns-all_ways week pool bids a = turns-few week pool bids 0 a.drivers (λ d p b h i. a.each d p b h i)
