-- How many drivers and orders are Free on a path: a decision about a Free one leaves fewer.
use Rattle.std.proofs.Common.{◌≡◌, ◌≢◌, ◌⊎◌, inl, inr, ℕ, zero, suc, ◌+◌, ◌*◌, ◌<◌, ◌≤◌, Bool, true, false, cond, not, ◌&&◌, ◌||◌, eqb, List, ◌∷◌, length, refl, ap, arith}
use Rattle.std.proofs.lemmas.Bool.Decides.{nat_tests}
use Rattle.week_book.specs.declared.weeks.Week.{Week}
use Rattle.duty_plan.specs.declared.nodes.Decision.{Decision}
use Rattle.duty_plan.specs.declared.nodes.Decision.TheVariants.{Root, Forced as forces, Barred as bars}
use Rattle.duty_plan.specs.declared.deciding.Pair.{Pair}
use Rattle.duty_plan.specs.declared.deciding.Pair.TheVariants.{Free, Forced, Barred}
use Rattle.duty_plan.specs.Sums.{total_below}
use Rattle.duty_plan.specs.Values.{barred_by, decided_by, forced_by, is_pair}
use Rattle.duty_plan.proofs.Sums.{total-mono}
use Rattle.price_master.proofs.Decisions.{is-free}
use Rattle.price_master.proofs.Lookups.{same-or-not}
use Rattle.branch_tree.specs.Reaching.{free_count, free_pairs}

total-const : (c n : ℕ) → total_below (λ k. c) n ≡ n * c
total-const c zero = omega arith
total-const c (suc n) = omega (arith, total-const c n)

-- one term of a sum
total-term : (f : ℕ → ℕ) (n k : ℕ) → k < n → f k ≤ total_below f n
total-term f zero k l = absurd (omega arith)
total-term f (suc n) k l = by_place (same-or-not k n) (λ h. total-term f n k h)
  where
    by_place : (k ≡ n) ⊎ (k ≢ n) → (k < n → f k ≤ total_below f n) → f k ≤ total_below f (suc n)
    by_place (inl e) more = let same : f k ≡ f n = ap f e in omega arith
    by_place (inr d) more = let low = more (omega arith) in omega arith

-- a sum with a smaller term
total-less : (f g : ℕ → ℕ) (n k : ℕ) → ((j : ℕ) → j < n → f j ≤ g j) → k < n → f k + 1 ≤ g k → total_below f n + 1 ≤ total_below g n
total-less f g zero k all l less = absurd (omega arith)
total-less f g (suc n) k all l less = by_place (same-or-not k n) (λ h. total-less f g n k (λ j b. all j (omega arith)) h less)
  where
    by_place : (k ≡ n) ⊎ (k ≢ n) → (k < n → total_below f n + 1 ≤ total_below g n) → total_below f (suc n) + 1 ≤ total_below g (suc n)
    by_place (inl e) more =
        let one : f k ≡ f n = ap f e in
        let two : g k ≡ g n = ap g e in
        omega (arith, total-mono f g n (λ j b. all j (omega arith)))
    by_place (inr d) more = let low = more (omega arith) in omega (arith, all n (omega arith))

free-le_one : (p : Pair) → free_count p ≤ 1
free-le_one Free = omega arith
free-le_one Forced = omega arith
free-le_one Barred = omega arith

-- at most all
pub free-all : (week : Week) (path : List Decision) → free_pairs week path ≤ length week.drivers * length week.orders
free-all week path =
    let row = λ (driver : ℕ). total_below (λ order. free_count (decided_by path driver order)) (length week.orders) in
    let rows : total_below row (length week.drivers) ≤ total_below (λ driver. length week.orders) (length week.drivers) =
    total-mono row (λ driver. length week.orders) (length week.drivers) (λ driver l. one driver) in
    omega (arith, rows, total-const (length week.orders) (length week.drivers))
  where
    one : (driver : ℕ) → total_below (λ order. free_count (decided_by path driver order)) (length week.orders) ≤ length week.orders
    one driver =
        let cells : total_below (λ order. free_count (decided_by path driver order)) (length week.orders) ≤ total_below (λ order. 1) (length week.orders) =
        total-mono (λ order. free_count (decided_by path driver order)) (λ order. 1) (length week.orders) (λ order l. free-le_one (decided_by path driver order)) in
        omega (arith, cells, total-const 1 (length week.orders))

-- some, where one is there
pub free-some : (week : Week) (path : List Decision) (driver order : ℕ) → driver < length week.drivers → order < length week.orders →
    decided_by path driver order ≡ Free → 1 ≤ free_pairs week path
free-some week path driver order ld lo e =
    let here : free_count (decided_by path driver order) ≡ 1 = ap free_count e in
    let cell = total-term (λ o. free_count (decided_by path driver o)) (length week.orders) order lo in
    let row = total-term (λ d. total_below (λ o. free_count (decided_by path d o)) (length week.orders)) (length week.drivers) driver ld in
    omega (arith, here, cell, row)

abbrev pair_by : Bool → Bool → Pair
pair_by forced barred = cond forced Forced (cond barred Barred Free)

more-decided : (a b f g : Bool) → free_count (pair_by (a || f) (b || g)) ≤ free_count (pair_by f g)
more-decided true b f g = omega arith
more-decided false b true g = omega arith
more-decided false true false g = omega arith
more-decided false false false g = omega arith

never-more : (path : List Decision) (decision : Decision) (k q : ℕ) → free_count (decided_by (decision ∷ path) k q) ≤ free_count (decided_by path k q)
never-more path Root k q = more-decided false false (forced_by k q path) (barred_by k q path)
never-more path (forces d o) k q = more-decided (is_pair k q d o) (not (eqb k d) && eqb q o) (forced_by k q path) (barred_by k q path)
never-more path (bars d o) k q = more-decided false (is_pair k q d o) (forced_by k q path) (barred_by k q path)

pair-itself : (d o : ℕ) → is_pair d o d o ≡ true
pair-itself d o = grind (arith, nat_tests)

forced-none : (a b f g : Bool) → a ≡ true → free_count (pair_by (a || f) (b || g)) ≡ 0
forced-none true b f g e = refl
forced-none false b f g e = cc

barred-none : (b f g : Bool) → b ≡ true → f ≡ false → free_count (pair_by f (b || g)) ≡ 0
barred-none true false g e h = refl
barred-none true true g e h = cc
barred-none false f g e h = cc

fewer : (week : Week) (path : List Decision) (decision : Decision) (driver order : ℕ) → driver < length week.drivers → order < length week.orders →
    free_count (decided_by (decision ∷ path) driver order) ≡ 0 → decided_by path driver order ≡ Free → free_pairs week (decision ∷ path) + 1 ≤ free_pairs week path
fewer week path decision driver order ld lo none free =
    total-less (λ d. total_below (λ o. free_count (decided_by (decision ∷ path) d o)) (length week.orders))
    (λ d. total_below (λ o. free_count (decided_by path d o)) (length week.orders)) (length week.drivers) driver
    (λ d l. total-mono (λ o. free_count (decided_by (decision ∷ path) d o)) (λ o. free_count (decided_by path d o)) (length week.orders) (λ o b. never-more path decision d o)) ld
    (total-less (λ o. free_count (decided_by (decision ∷ path) driver o)) (λ o. free_count (decided_by path driver o)) (length week.orders) order
    (λ o b. never-more path decision driver o) lo (let one : free_count (decided_by path driver order) ≡ 1 = ap free_count free in omega (arith, none, one)))

pub fewer-forced : (week : Week) (path : List Decision) (driver order : ℕ) → driver < length week.drivers → order < length week.orders →
    decided_by path driver order ≡ Free → free_pairs week (forces driver order ∷ path) + 1 ≤ free_pairs week path
fewer-forced week path driver order ld lo free =
    fewer week path (forces driver order) driver order ld lo
    (forced-none (is_pair driver order driver order) (not (eqb driver driver) && eqb order order) (forced_by driver order path) (barred_by driver order path) (pair-itself driver order)) free

pub fewer-barred : (week : Week) (path : List Decision) (driver order : ℕ) → driver < length week.drivers → order < length week.orders →
    decided_by path driver order ≡ Free → free_pairs week (bars driver order ∷ path) + 1 ≤ free_pairs week path
fewer-barred week path driver order ld lo free =
    fewer week path (bars driver order) driver order ld lo
    (barred-none (is_pair driver order driver order) (forced_by driver order path) (barred_by driver order path) (pair-itself driver order)
    (is-free (forced_by driver order path) (barred_by driver order path) free).0) free
