-- What may follow a partial duty brings in no more than is hoped for.
use Rattle.std.proofs.Common.{◌≡◌, ◌≢◌, ℕ, ◌+◌, ◌<◌, ◌≤◌, Bool, true, false, ◌&&◌, ◌||◌, leb, List, [], ◌∷◌, ◌++◌, length, refl, ap, sym, ◌∙◌, arith, Option, Some, None}
use Rattle.std.proofs.lemmas.Int.{ints}
use Rattle.std.proofs.lemmas.Bool.{leb-true, le-leb}
use Rattle.std.proofs.lemmas.Bool.Decides.{nat_tests}
use Rattle.week_book.specs.declared.weeks.Week.{Week}
use Rattle.week_book.specs.declared.weeks.Order.{Order}
use Rattle.week_book.specs.Weeks.{order_of}
use Rattle.duty_plan.specs.declared.duties.Act.{Act}
use Rattle.duty_plan.specs.declared.duties.Act.TheVariants.{Leg, Serve, Load}
use Rattle.duty_plan.specs.declared.plans.Case.{Case}
use Rattle.duty_plan.specs.declared.deciding.Pair.{Pair}
use Rattle.duty_plan.specs.declared.deciding.Pair.TheVariants.{Free, Forced, Barred}
use Rattle.duty_plan.specs.declared.deciding.Pairs.{Pairs}
use Rattle.duty_plan.specs.declared.pricing.Prices.{Prices}
use Rattle.duty_plan.specs.Acts.{order_of_act, serves_order, is_open, may_start}
use Rattle.duty_plan.specs.PartialDuties.{PartialDuty, at_after, start_of, serves, KeepsOfficeThrough}
use Rattle.duty_plan.specs.Duties.{IsLawfulPartialDuty, open_off_at, capacity_at, cost_after, cents_after, orders_of, times, worth}
use Rattle.duty_plan.specs.Sums.{total_below}
use Rattle.duty_plan.specs.Values.{pair_at, price_at, IsInside, is_barred}
use Rattle.duty_plan.specs.Labels.{closes_of}
use Rattle.duty_plan.specs.LabelLists.{still_open}
use Rattle.duty_plan.specs.PricingLaws.{BoundsCompletions, ServesInTime}
use Rattle.duty_plan.proofs.Sums.{worth-append, times-append, share, share-none, share-one, total-mono, total-share}
use Rattle.duty_plan.proofs.Carrying.{unserved, is-served, served-once, served-known}
use Rattle.duty_plan.proofs.WeekLimits.{at-step}

pub orders-append : (more partial : PartialDuty) → orders_of (more ++ partial) ≡ orders_of more ++ orders_of partial
orders-append [] partial = refl
orders-append (step ∷ more) partial =
    ap (λ (xs : List ℕ). order_of_act step.act ++ xs) (orders-append more partial) ∙ assoc (order_of_act step.act) (orders_of more) (orders_of partial)
  where
    assoc : (xs ys zs : List ℕ) → xs ++ (ys ++ zs) ≡ (xs ++ ys) ++ zs
    assoc [] ys zs = refl
    assoc (x ∷ xs) ys zs = ap (λ (l : List ℕ). x ∷ l) (assoc xs ys zs)

-- a longer partial duty ends no earlier
later : (week : Week) (partial more : PartialDuty) → at_after week partial ≤ at_after week (more ++ partial)
later week partial [] = omega arith
later week partial (step ∷ more) = omega (arith, later week partial more, at-step week step (more ++ partial))

-- a longer partial duty costs no less
more-cents : (week : Week) (partial more : PartialDuty) → cents_after week partial ≤ cents_after week (more ++ partial)
more-cents week partial [] = omega arith
more-cents week partial (step ∷ more) = omega (arith, more-cents week partial more)

costs-more : (case : Case) (driver : ℕ) (partial more : PartialDuty) → cost_after case driver partial ≤ cost_after case driver (more ++ partial)
costs-more case driver [] more = omega arith
costs-more case driver (step ∷ before) [] = omega arith
costs-more case driver (step ∷ before) (last ∷ more) = omega (arith, more-cents case.week (step ∷ before) (last ∷ more))

closes-open : (found : Option Order) (start : ℕ) → is_open found start ≡ true → start ≤ closes_of found
closes-open None start h = cc
closes-open (Some order) start h = leb-true start order.closes (and-right (leb order.opens start) (leb start order.closes) h)
  where
    and-right : (a b : Bool) → (a && b) ≡ true → b ≡ true
    and-right true b h = h
    and-right false b h = cc

-- an order that the later steps serve closes no earlier than the partial duty ends
in-time : (week : Week) (open_off capacity : ℕ) (partial more : PartialDuty) (o : ℕ) → KeepsOfficeThrough week open_off capacity (more ++ partial) →
    serves o more ≡ true → at_after week partial ≤ closes_of (order_of week o)
in-time week open_off capacity partial [] o k h = cc
in-time week open_off capacity partial (step ∷ more) o k h = by_act step.act (serves_order o step.act) refl refl h k.0.window (λ s. in-time week open_off capacity partial more o k.1 s)
  where
    by_act : (act : Act) (b : Bool) → step.act ≡ act → serves_order o act ≡ b → (serves_order o step.act || serves o more) ≡ true →
        may_start week step.act (start_of week step (more ++ partial)) ≡ true →
        (serves o more ≡ true → at_after week partial ≤ closes_of (order_of week o)) → at_after week partial ≤ closes_of (order_of week o)
    by_act act false e t h w rest = let f : serves_order o step.act ≡ false = ap (serves_order o) e ∙ t in rest (sym (rw f refl) ∙ h)
    by_act (Serve p) true e t h w rest =
        let same : o ≡ p = grind (arith, nat_tests) in
        let starts : is_open (order_of week p) (start_of week step (more ++ partial)) ≡ true = ap (λ (x : Act). may_start week x (start_of week step (more ++ partial))) (sym e) ∙ w in
        let closes = closes-open (order_of week p) (start_of week step (more ++ partial)) starts in
        let there : closes_of (order_of week o) ≡ closes_of (order_of week p) = ap (λ (x : ℕ). closes_of (order_of week x)) same in
        omega (arith, later week partial more)
    by_act (Leg to) true e t h w rest = cc
    by_act Load true e t h w rest = cc

pub serves-split : (o : ℕ) (partial more : PartialDuty) → serves o partial ≡ false → serves o (more ++ partial) ≡ true → serves o more ≡ true
serves-split o partial [] f h = cc
serves-split o partial (step ∷ more) f h = by_test (serves_order o step.act) refl h (λ s. serves-split o partial more f s)
  where
    by_test : (b : Bool) → serves_order o step.act ≡ b → (serves_order o step.act || serves o (more ++ partial)) ≡ true →
        (serves o (more ++ partial) ≡ true → serves o more ≡ true) → (serves_order o step.act || serves o more) ≡ true
    by_test true e h rest = rw e refl
    by_test false e h rest = rw e (rest (sym (rw e refl) ∙ h))

pub serves_in_time : ServesInTime
serves_in_time case driver partial more o l f h =
    in-time case.week (open_off_at case driver) (capacity_at case driver) partial more o l.office (serves-split o partial more f h)

-- what later steps serve, the whole serves
pub join-serves : (o : ℕ) (partial more : PartialDuty) → serves o more ≡ true → serves o (more ++ partial) ≡ true
join-serves o partial [] h = cc
join-serves o partial (step ∷ more) h = by_test (serves_order o step.act) refl h (λ s. join-serves o partial more s)
  where
    by_test : (b : Bool) → serves_order o step.act ≡ b → (serves_order o step.act || serves o more) ≡ true →
        (serves o more ≡ true → serves o (more ++ partial) ≡ true) → (serves_order o step.act || serves o (more ++ partial)) ≡ true
    by_test true e h rest = rw e refl
    by_test false e h rest = rw e (rest (sym (rw e refl) ∙ h))

-- an order that the later steps serve may bring in no more than is hoped of it
abbrev pub HopesFor : Case → ℕ → Pairs → Prices → PartialDuty → PartialDuty → (ℕ → ℕ) → Type 0
HopesFor case driver pairs prices partial more hoped = (o : ℕ) → o < length case.week.orders → serves o more ≡ true → serves o partial ≡ false →
    is_barred (pair_at pairs driver o) ≡ false → price_at prices o ≤ hoped o

brings : (case : Case) (driver : ℕ) (pairs : Pairs) (prices : Prices) (partial more : PartialDuty) (hoped : ℕ → ℕ) →
    IsLawfulPartialDuty case driver (more ++ partial) → IsInside case.week pairs driver (more ++ partial) →
    HopesFor case driver pairs prices partial more hoped → (o : ℕ) → o < length case.week.orders → share (price_at prices) o (orders_of more) ≤ hoped o
brings case driver pairs prices partial more hoped l i h o lo = by_more (serves o more) refl
  where
    total : times o (orders_of (more ++ partial)) ≡ times o (orders_of more) + times o (orders_of partial)
    total = ap (times o) (orders-append more partial) ∙ times-append o (orders_of more) (orders_of partial)

    once : times o (orders_of (more ++ partial)) ≤ 1
    once = served-once case.week (open_off_at case driver) (capacity_at case driver) o (more ++ partial) l.office

    fresh : (b : Bool) → serves o partial ≡ b → serves o more ≡ true → serves o partial ≡ false
    fresh false e h = e
    fresh true e h = absurd (omega (arith, total, once, is-served o more h, is-served o partial e))

    free : (p : Pair) → pair_at pairs driver o ≡ p → serves o more ≡ true → is_barred (pair_at pairs driver o) ≡ false
    free Free e h = ap is_barred e
    free Forced e h = ap is_barred e
    free Barred e h = let no = i.barred o lo e in let yes = join-serves o partial more h in cc

    by_more : (b : Bool) → serves o more ≡ b → share (price_at prices) o (orders_of more) ≤ hoped o
    by_more false e = omega (arith, share-none (price_at prices) o (orders_of more) (unserved o more e))
    by_more true e =
        let one : times o (orders_of more) ≡ 1 = omega (arith, total, once, is-served o more e) in
        omega (
          arith,
          share-one (price_at prices) o (orders_of more) one,
          h o lo e (fresh (serves o partial) refl e) (free (pair_at pairs driver o) refl e),
        )

-- the orders of a longer partial duty are worth no more than those of the partial duty and all that is hoped for
pub most-worth : (case : Case) (driver : ℕ) (pairs : Pairs) (prices : Prices) (partial more : PartialDuty) (hoped : ℕ → ℕ) →
    IsLawfulPartialDuty case driver (more ++ partial) → IsInside case.week pairs driver (more ++ partial) →
    HopesFor case driver pairs prices partial more hoped →
    worth (price_at prices) (orders_of (more ++ partial)) ≤ worth (price_at prices) (orders_of partial) + total_below hoped (length case.week.orders)
most-worth case driver pairs prices partial more hoped l i h =
    let n = length case.week.orders in
    let known = total-share (price_at prices) n (orders_of more) (λ o t. in_week o t) in
    let less = total-mono (λ o. share (price_at prices) o (orders_of more)) hoped n
    (λ o lo. brings case driver pairs prices partial more hoped l i h o lo) in
    let worths : worth (price_at prices) (orders_of (more ++ partial)) ≡ worth (price_at prices) (orders_of more) + worth (price_at prices) (orders_of partial) =
    ap (worth (price_at prices)) (orders-append more partial) ∙ worth-append (price_at prices) (orders_of more) (orders_of partial) in
    omega arith
  where
    in_week : (o : ℕ) → times o (orders_of more) ≢ 0 → o < length case.week.orders
    in_week o t =
        served-known case.week (open_off_at case driver) (capacity_at case driver) o (more ++ partial) l.office
        (λ z. t (omega (arith, z, ap (times o) (orders-append more partial) ∙ times-append o (orders_of more) (orders_of partial))))

-- what an order brings in is what was hoped of it
hoped-open : (case : Case) (driver : ℕ) (pairs : Pairs) (prices : Prices) (partial more : PartialDuty) → IsLawfulPartialDuty case driver (more ++ partial) →
    HopesFor case driver pairs prices partial more (still_open case.week driver pairs prices partial)
hoped-open case driver pairs prices partial more l o lo served lacks free =
    let time : leb (at_after case.week partial) (closes_of (order_of case.week o)) ≡ true =
    le-leb _ _ (in-time case.week (open_off_at case driver) (capacity_at case driver) partial more o l.office served) in
    let hoped : still_open case.week driver pairs prices partial o ≡ price_at prices o = rw (lacks, free, time) refl in
    omega (arith, hoped)

pub bounds_completions : BoundsCompletions
bounds_completions case driver pairs prices partial more l i =
    let most = most-worth case driver pairs prices partial more (still_open case.week driver pairs prices partial) l i
    (hoped-open case driver pairs prices partial more l) in
    let cost = costs-more case driver partial more in
    omega (arith, ints)
