-- How often duties carry an order.
use Rattle.std.proofs.Common.{◌≡◌, ◌≢◌, ℕ, zero, suc, ◌+◌, ◌≤◌, ◌<◌, Bool, true, false, not, cond, eqb, ◌||◌, List, [], ◌∷◌, ◌++◌, length, reverse, take, drop, get_or, append_assoc, refl, ap, sym, ◌∙◌, arith, Option, Some, None}
use mir.Val.{bool_byte}
use Rattle.std.proofs.lemmas.Bool.Decides.{nat_tests}
use Rattle.week_book.specs.declared.weeks.Order.{Order}
use Rattle.week_book.specs.declared.weeks.Week.{Week}
use Rattle.week_book.specs.Weeks.{order_of}
use Rattle.duty_plan.specs.declared.duties.Act.{Act}
use Rattle.duty_plan.specs.declared.duties.Act.TheVariants.{Leg, Serve, Load}
use Rattle.duty_plan.specs.declared.duties.Step.{Step}
use Rattle.duty_plan.specs.declared.duties.Duty.{Duty}
use Rattle.duty_plan.specs.Acts.{serves_order, order_of_act, is_at, can_be_done}
use Rattle.duty_plan.specs.PartialDuties.{PartialDuty, serves, is_new, place_after, KeepsOfficeThrough}
use Rattle.duty_plan.specs.Duties.{times, worth, orders_of, carried, partial_of, EachOf}
use Rattle.duty_plan.specs.Sums.{total_below}
use Rattle.duty_plan.proofs.Lists.{reverse-at, reverse-more, take-more, slice_get-lt}
use Rattle.duty_plan.proofs.Sums.{times-append, share, total-share, total-mono, worth-append}

-- an act serves the orders that are said to be its own
act_times : (o : ℕ) (act : Act) → times o (order_of_act act) ≡ cond (serves_order o act) 1 0
act_times o (Leg to) = refl
act_times o (Serve order) = omega arith
act_times o Load = refl

or-false : (a b : Bool) → (a || b) ≡ false → (a ≡ false) × (b ≡ false)
or-false true b h = cc
or-false false b h = (refl, h)

-- a partial duty that doesn't serve an order doesn't carry it
pub unserved : (o : ℕ) (partial : PartialDuty) → serves o partial ≡ false → times o (orders_of partial) ≡ 0
unserved o [] h = refl
unserved o (step ∷ before) h =
    let parts = or-false (serves_order o step.act) (serves o before) h in
    let none : times o (order_of_act step.act) ≡ 0 = act_times o step.act ∙ rw parts.0 refl in
    omega (arith, times-append o (order_of_act step.act) (orders_of before), none, unserved o before parts.1)

-- a partial duty that serves an order carries it
pub is-served : (o : ℕ) (partial : PartialDuty) → serves o partial ≡ true → 1 ≤ times o (orders_of partial)
is-served o [] h = cc
is-served o (step ∷ before) h = by_act (serves_order o step.act) refl h (λ s. is-served o before s)
  where
    by_act : (b : Bool) → serves_order o step.act ≡ b → (b || serves o before) ≡ true → (serves o before ≡ true → 1 ≤ times o (orders_of before)) →
        1 ≤ times o (orders_of (step ∷ before))
    by_act true e t more =
        let one : times o (order_of_act step.act) ≡ 1 = act_times o step.act ∙ rw e refl in
        omega (arith, times-append o (order_of_act step.act) (orders_of before), one)
    by_act false e t more = omega (arith, times-append o (order_of_act step.act) (orders_of before), more t)

once-act : (o : ℕ) (act : Act) (before : PartialDuty) → is_new act before ≡ true → times o (orders_of before) ≤ 1 →
    times o (order_of_act act ++ orders_of before) ≤ 1
once-act o (Leg to) before h more = more
once-act o Load before h more = more
once-act o (Serve order) before h more = by_test (eqb o order) refl
  where
    by_not : (b : Bool) → not b ≡ true → b ≡ false
    by_not true g = cc
    by_not false g = refl

    by_test : (b : Bool) → eqb o order ≡ b → times o (order ∷ orders_of before) ≤ 1
    by_test false e = rw e (omega arith)
    by_test true e =
        let same : o ≡ order = grind (arith, nat_tests) in
        let idle : serves o before ≡ false = ap (λ (x : ℕ). serves x before) same ∙ by_not (serves order before) h in
        rw e (omega (arith, unserved o before idle))

-- a partial duty that keeps the office rules serves an order at most once
pub served-once : (week : Week) (open_off capacity o : ℕ) (partial : PartialDuty) → KeepsOfficeThrough week open_off capacity partial → times o (orders_of partial) ≤ 1
served-once week open_off capacity o [] k = omega arith
served-once week open_off capacity o (step ∷ before) k =
    once-act o step.act before k.0.twice (served-once week open_off capacity o before k.1)

-- an order that is at a place is one of the week
order-in_week : (week : Week) (o p : ℕ) → is_at (order_of week o) p ≡ true → o < length week.orders
order-in_week week o p h = by_order (order_of week o) refl h
  where
    by_order : (found : Option Order) → order_of week o ≡ found → is_at found p ≡ true → o < length week.orders
    by_order None e h = cc
    by_order (Some order) e h = slice_get-lt week.orders o order e

-- an act serves an order of the week
known-act : (week : Week) (o : ℕ) (act : Act) (before : PartialDuty) → can_be_done week (place_after before) act ≡ true →
    (times o (orders_of before) ≢ 0 → o < length week.orders) → times o (order_of_act act ++ orders_of before) ≢ 0 →
    o < length week.orders
known-act week o (Leg to) before r more some = more some
known-act week o Load before r more some = more some
known-act week o (Serve order) before r more some = by_test (eqb o order) refl
  where
    by_test : (b : Bool) → eqb o order ≡ b → o < length week.orders
    by_test true e =
        let same : o ≡ order = grind (arith, nat_tests) in
        rw same (order-in_week week order (place_after before) r)
    by_test false e =
        let t : times o (order ∷ orders_of before) ≡ 0 + times o (orders_of before) = rw e refl in
        more (λ z. some (omega arith))

-- a lawful partial duty serves orders of the week alone
pub served-known : (week : Week) (open_off capacity o : ℕ) (partial : PartialDuty) → KeepsOfficeThrough week open_off capacity partial →
    times o (orders_of partial) ≢ 0 → o < length week.orders
served-known week open_off capacity o [] k some = absurd (some refl)
served-known week open_off capacity o (step ∷ before) k some =
    known-act week o step.act before k.0.road (served-known week open_off capacity o before k.1) some

-- ---- as a loop goes

serves-append : (o : ℕ) (later partial : PartialDuty) → serves o partial ≡ true → serves o (later ++ partial) ≡ true
serves-append o [] partial h = h
serves-append o (step ∷ later) partial h = rw (serves-append o later partial h) (or-true (serves_order o step.act))
  where
    or-true : (b : Bool) → (b || true) ≡ true
    or-true true = refl
    or-true false = refl

pub serves-found : (o : ℕ) (duty : Duty) (steps : List Step) (i : ℕ) (step d : Step) → steps ≡ duty.steps → serves_order o step.act ≡ true →
    i < length steps → step ≡ get_or steps i d → serves o (partial_of duty) ≡ true
serves-found o duty steps i step d same e l g =
    let here : serves o (step ∷ reverse (take i steps)) ≡ true = rw e refl in
    ap (λ (x : List Step). serves o (reverse x)) (sym same)
    ∙ (ap (serves o) (reverse-at steps i step d l g) ∙ serves-append o (reverse (drop (suc i) steps)) (step ∷ reverse (take i steps)) here)

pub serves-passed : (o : ℕ) (steps : List Step) (i : ℕ) (step d : Step) → serves_order o step.act ≡ false → serves o (reverse (take i steps)) ≡ false →
    i < length steps → step ≡ get_or steps i d → serves o (reverse (take (i + 1) steps)) ≡ false
serves-passed o steps i step d e h l g = rw (reverse-more steps i step d l g, e) h

pub carried-append : (xs ys : List Duty) → carried (xs ++ ys) ≡ carried xs ++ carried ys
carried-append [] ys = refl
carried-append (duty ∷ xs) ys = rw (carried-append xs ys) (sym (append_assoc (orders_of (partial_of duty)) (carried xs) (carried ys)))

pub carried-more : (o : ℕ) (duties : List Duty) (i n m : ℕ) (duty d : Duty) → n ≡ times o (carried (take i duties)) → times o (orders_of (partial_of duty)) ≡ m →
    i < length duties → duty ≡ get_or duties i d → n + m ≡ times o (carried (take (i + 1) duties))
carried-more o duties i n m duty d e h l g =
    let more : times o (carried (take (i + 1) duties)) ≡ times o (carried (take i duties) ++ (orders_of (partial_of duty) ++ [])) =
    ap (λ (x : List Duty). times o (carried x)) (take-more duties i duty d l g) ∙ ap (times o) (carried-append (take i duties) (duty ∷ [])) in
    omega (arith, more, times-append o (carried (take i duties)) (orders_of (partial_of duty) ++ []), times-append o (orders_of (partial_of duty)) [])

pub times-more : (o : ℕ) (xs : List ℕ) (i n m x d : ℕ) → n ≡ times o (take i xs) → cond (eqb o x) 1 0 ≡ m → i < length xs → x ≡ get_or xs i d →
    n + m ≡ times o (take (i + 1) xs)
times-more o xs i n m x d e h l g =
    let more : times o (take (i + 1) xs) ≡ times o (take i xs ++ x ∷ []) = ap (times o) (take-more xs i x d l g) in
    omega (arith, more, h, times-append o (take i xs) (x ∷ []))

-- ---- orders that are given away once are no more than the week's

ones : (o : ℕ) (xs : List ℕ) → share (λ x. 1) o xs ≡ times o xs
ones o [] = refl
ones o (x ∷ xs) = omega (arith, ones o xs)

all-ones : (xs : List ℕ) → worth (λ x. 1) xs ≡ length xs
all-ones [] = refl
all-ones (x ∷ xs) = omega (arith, all-ones xs)

total-ones : (n : ℕ) → total_below (λ o. 1) n ≡ n
total-ones zero = refl
total-ones (suc n) = omega (arith, total-ones n)

times-known : (o n : ℕ) (xs : List ℕ) → EachOf (λ k x. x < n) xs → times o xs ≢ 0 → o < n
times-known o n [] h some = absurd (some refl)
times-known o n (x ∷ xs) h some = by_test (eqb o x) refl (λ s. times-known o n xs (λ k y e. h (suc k) y e) s)
  where
    by_test : (b : Bool) → eqb o x ≡ b → (times o xs ≢ 0 → o < n) → o < n
    by_test true e more = let same : o ≡ x = grind (arith, nat_tests) in rw same (h 0 x refl)
    by_test false e more = let t : times o (x ∷ xs) ≡ 0 + times o xs = rw e refl in more (λ z. some (omega arith))

pub few-out : (n : ℕ) (xs : List ℕ) → EachOf (λ k x. x < n) xs → ((o : ℕ) → o < n → times o xs ≤ 1) → length xs ≤ n
few-out n xs known once =
    let all : total_below (λ o. share (λ x. 1) o xs) n ≡ worth (λ x. 1) xs = total-share (λ x. 1) n xs (λ o s. times-known o n xs known s) in
    let most : total_below (λ o. share (λ x. 1) o xs) n ≤ total_below (λ o. 1) n = total-mono (λ o. share (λ x. 1) o xs) (λ o. 1) n (λ o l. omega (arith, ones o xs, once o l)) in
    omega (arith, all, most, all-ones xs, total-ones n)

pub worth-more : (f : ℕ → ℕ) (xs : List ℕ) (i n m x d : ℕ) → n ≡ worth f (take i xs) → m ≡ f x → i < length xs → x ≡ get_or xs i d →
    n + m ≡ worth f (take (i + 1) xs)
worth-more f xs i n m x d e h l g =
    let more : worth f (take (i + 1) xs) ≡ worth f (take i xs ++ x ∷ []) = ap (worth f) (take-more xs i x d l g) in
    omega (arith, more, h, worth-append f (take i xs) (x ∷ []))

-- a duty that serves an order at most once carries it as often as it serves it
pub served-times : (o : ℕ) (duty : Duty) (b : Bool) (n : ℕ) → b ≡ serves o (partial_of duty) → n ≡ cond b 1 0 → times o (orders_of (partial_of duty)) ≤ 1 →
    times o (orders_of (partial_of duty)) ≡ n
served-times o duty true n e h l = omega (arith, is-served o (partial_of duty) (sym e), h)
served-times o duty false n e h l = omega (arith, unserved o (partial_of duty) (sym e), h)

-- a test as a number
pub byte-cond : (b : Bool) (n : ℕ) → n ≡ bool_byte b → (n ≡ cond b 1 0) × (n ≤ 1)
byte-cond true n e = (e, omega arith)
byte-cond false n e = (e, omega arith)
