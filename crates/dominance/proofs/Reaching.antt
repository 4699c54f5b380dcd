-- Which orders may be served after a partial duty.
use Rattle.std.proofs.Common.{◌≡◌, ℕ, ◌+◌, ◌<◌, Bool, true, ◌++◌, cond, leb, length, refl, ap, sym, subst, ◌∙◌, arith}
use Rattle.std.proofs.lemmas.Nat.Bits.{bit_at_and}
use Rattle.std.specs.Int.{bit_at}
use Rattle.week_book.specs.declared.weeks.Week.{Week}
use Rattle.week_book.specs.Weeks.{order_of}
use Rattle.duty_plan.specs.declared.plans.Case.{Case}
use Rattle.duty_plan.specs.PartialDuties.{PartialDuty, place_after, at_after, serves}
use Rattle.duty_plan.specs.Duties.{IsLawfulPartialDuty, open_off_at, capacity_at}
use Rattle.duty_plan.specs.Labels.{bits_below, closes_of}
use Rattle.duty_plan.proofs.Bits.{test_bits}
use Rattle.duty_plan.proofs.Carrying.{is-served, served-known}
use Rattle.duty_plan.proofs.Hopes.{join-serves}
use Rattle.duty_label.specs.Walks.{AreLeastMinutes, can_reach, reached_from}
use Rattle.duty_label.proofs.Reaching.{reached}
use Rattle.dominance.specs.Reaching.{ServesWithin, ReachesOpen, ReachesByLegs, ReachesBoth, LabelReaches, LabelReachesOpen, open_from}

-- what later steps serve is an order of the week
known-order : (case : Case) (driver : ℕ) (partial more : PartialDuty) (o : ℕ) → IsLawfulPartialDuty case driver (more ++ partial) → serves o more ≡ true →
    o < length case.week.orders
known-order case driver partial more o l s =
    served-known case.week (open_off_at case driver) (capacity_at case driver) o (more ++ partial) l.office
    (λ z. absurd (omega (arith, z, is-served o (more ++ partial) (join-serves o partial more s))))

-- an order that passes a test is in the bits of the test
pub passes : (test : ℕ → Bool) (n o : ℕ) → o < n → test o ≡ true → bit_at (bits_below test n) o ≡ 1
passes test n o l e = test_bits test n o l ∙ ap (λ (b : Bool). cond b 1 0) e

-- all orders of a week
abbrev pub all_orders : Week → ℕ
all_orders week = bits_below (λ order. true) (length week.orders)

-- lawful steps serve none but them
pub serves_known : (case : Case) (driver : ℕ) (partial more : PartialDuty) → IsLawfulPartialDuty case driver (more ++ partial) →
    ServesWithin (all_orders case.week) more
serves_known case driver partial more l o s = passes (λ order. true) (length case.week.orders) o (known-order case driver partial more o l s) refl

-- any lawful steps, also those that don't end at the depot
pub reaches_lawful : (case : Case) (driver : ℕ) (least : ℕ → ℕ → ℕ) (partial more : PartialDuty) → AreLeastMinutes case.week least →
    IsLawfulPartialDuty case driver (more ++ partial) →
    ServesWithin (reached_from case.week least (at_after case.week partial) (place_after partial)) more
reaches_lawful case driver least partial more m l o s =
    let week = case.week in
    passes (can_reach week least (at_after week partial) (place_after partial)) (length week.orders) o (known-order case driver partial more o l s)
    (reached week (open_off_at case driver) (capacity_at case driver) least partial more o m l.office s)

pub reaches_by_legs : ReachesByLegs
reaches_by_legs case driver least partial m more done = reaches_lawful case driver least partial more m done.lawful

pub label_reaches : LabelReaches
label_reaches case driver prices least label partial m la more done o s =
    let at : at_after case.week partial ≡ label.clock.at = omega (arith, la.clock.at) in
    let bit = reaches_lawful case driver least partial more m done.lawful o s in
    subst (λ (x : ℕ). bit_at (reached_from case.week least label.clock.at x) o ≡ 1) (sym la.place)
    (subst (λ (x : ℕ). bit_at (reached_from case.week least x (place_after partial)) o ≡ 1) at bit)

-- ---- windows alone

-- no list of legs takes less than no minute
no-minutes : (week : Week) → AreLeastMinutes week (λ from to. 0)
no-minutes week from places l = omega arith

pub reaches_open : ReachesOpen
reaches_open case driver partial more done o s =
    let week = case.week in
    let in_time = reached week (open_off_at case driver) (capacity_at case driver) (λ from to. 0) partial more o (no-minutes week)
    done.lawful.office s in
    let same : at_after week partial + 0 ≡ at_after week partial = omega arith in
    passes (λ order. leb (at_after week partial) (closes_of (order_of week order))) (length week.orders) o
    (known-order case driver partial more o done.lawful s)
    (ap (λ (x : ℕ). leb x (closes_of (order_of week o))) (sym same) ∙ in_time)

pub label_reaches_open : LabelReachesOpen
label_reaches_open case driver prices label partial la more done o s =
    let at : at_after case.week partial ≡ label.clock.at = omega (arith, la.clock.at) in
    subst (λ (x : ℕ). bit_at (open_from case.week x) o ≡ 1) at (reaches_open case driver partial more done o s)

pub reaches_both : ReachesBoth
reaches_both case driver partial one two r t more done o s =
    let first : bit_at one o ≡ 1 = r more done o s in
    let second : bit_at two o ≡ 1 = t more done o s in
    bit_at_and one two o ∙ omega (arith, first, second)
