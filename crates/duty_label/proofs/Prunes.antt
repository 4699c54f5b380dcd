-- What the prune loses, and what it keeps.
use Rattle.std.proofs.Common.{◌≡◌, inl, inr, ℕ, ◌+◌, ◌<◌, ◌≤◌, Bool, true, false, leb, cond, [], ◌∷◌, ◌++◌, length, refl, ap, sym, ◌∙◌, arith, Option, Some, None, ℤ, ◌≤ℤ◌}
use Rattle.std.proofs.lemmas.Int.{ints, by_lt_z}
use Rattle.std.proofs.lemmas.Bool.{leb-true, le-leb}
use Rattle.std.specs.Int.{bit_at}
use Rattle.week_book.specs.declared.weeks.Week.{Week}
use Rattle.week_book.specs.Weeks.{order_of, road}
use Rattle.duty_plan.specs.declared.duties.Act.{Act}
use Rattle.duty_plan.specs.declared.duties.Act.TheVariants.{Leg, Serve, Load}
use Rattle.duty_plan.specs.declared.plans.Case.{Case}
use Rattle.duty_plan.specs.declared.deciding.Pairs.{Pairs}
use Rattle.duty_plan.specs.declared.pricing.Prices.{Prices}
use Rattle.duty_plan.specs.declared.labels.Label.{Label}
use Rattle.duty_plan.specs.Acts.{cents_of_act, cents_of_road}
use Rattle.duty_plan.specs.PartialDuties.{PartialDuty, place_after, at_after, serves, KeepsOfficeThrough}
use Rattle.duty_plan.specs.Duties.{IsLawfulPartialDuty, open_off_at, capacity_at, cents_after, cost_after}
use Rattle.duty_plan.specs.Values.{is_barred, pair_at, price_at, reduced_cost}
use Rattle.duty_plan.specs.Labels.{IsLabelOf, closes_of}
use Rattle.duty_plan.specs.LabelLists.{still_open}
use Rattle.duty_plan.proofs.Bits.{served_bits}
use Rattle.duty_plan.proofs.Hopes.{most-worth, serves-split}
use Rattle.duty_plan.proofs.Sums.{total-mono}
use Rattle.duty_plan.proofs.WeekLimits.{early}
use Rattle.duty_label.specs.declared.walks.Walks.{Walks}
use Rattle.duty_label.specs.Walks.{end_of, total_of_legs, place_of}
use Rattle.duty_label.specs.Pruning.{AreWalksOf, Knows, IsWayHome, KeepsHopeful, KeepsOnTime, LacksForced, PrunesSoundly, cents_between, completion_value, may_bring, minutes_between, reaches}
use Rattle.duty_label.proofs.Reaching.{leads, legs_of, leg_by, reached}

-- where the label's steps end
at-label : (case : Case) (driver : ℕ) (prices : Prices) (label : Label) (partial : PartialDuty) → IsLabelOf case driver prices label partial →
    label.clock.at ≡ at_after case.week partial
at-label case driver prices label partial l = omega (arith, l.clock.at)

-- a served order's bit
bit-of : (case : Case) (driver : ℕ) (prices : Prices) (label : Label) (partial : PartialDuty) (order : ℕ) → IsLabelOf case driver prices label partial →
    bit_at label.served order ≡ cond (serves order partial) 1 0
bit-of case driver prices label partial order l = ap (λ (x : ℕ). bit_at x order) l.served ∙ served_bits order partial

lacks : (b : Bool) (n : ℕ) → n ≡ cond b 1 0 → n ≡ 0 → b ≡ false
lacks true n e z = absurd (omega arith)
lacks false n e z = refl

-- ---- what is lost

-- an order that later steps serve is reached from the label
reaches-later : (case : Case) (driver : ℕ) (walks : Walks) (prices : Prices) (label : Label) (partial more : PartialDuty) (order : ℕ) →
    AreWalksOf case.week walks → IsLabelOf case driver prices label partial → IsLawfulPartialDuty case driver (more ++ partial) →
    serves order more ≡ true → reaches case.week walks label order ≡ true
reaches-later case driver walks prices label partial more order w l lawful s =
    let there = reached case.week (open_off_at case driver) (capacity_at case driver) (minutes_between walks) partial more order w.minutes lawful.office s in
    ap (λ (at : ℕ). leb (at + minutes_between walks label.place (place_of (order_of case.week order))) (closes_of (order_of case.week order)))
    (at-label case driver prices label partial l)
    ∙ (ap (λ (p : ℕ). leb (at_after case.week partial + minutes_between walks p (place_of (order_of case.week order))) (closes_of (order_of case.week order))) l.place ∙ there)

-- the way home takes at least the least minutes
comes-home : (case : Case) (driver : ℕ) (walks : Walks) (pairs : Pairs) (prices : Prices) (label : Label) (partial more : PartialDuty) →
    AreWalksOf case.week walks → IsLabelOf case driver prices label partial → IsWayHome case driver pairs partial more →
    label.clock.at + minutes_between walks label.place 0 ≤ 10080
comes-home case driver walks pairs prices label partial more w l home =
    let way = leads case.week (open_off_at case driver) (capacity_at case driver) partial more home.lawful.office in
    let least = w.minutes (place_after partial) (legs_of more) way.legs in
    let ends : minutes_between walks (place_after partial) (end_of (place_after partial) (legs_of more)) ≡ minutes_between walks label.place 0 =
    ap (minutes_between walks (place_after partial)) (way.ends ∙ home.home) ∙ ap (λ (p : ℕ). minutes_between walks p 0) (sym l.place) in
    omega (
      arith,
      at-label case driver prices label partial l,
      way.minutes,
      least,
      ends,
      early case.week (open_off_at case driver) (capacity_at case driver) (more ++ partial) home.lawful.office,
    )

-- later steps cost at least their legs
costs-legs : (week : Week) (open_off capacity : ℕ) (partial more : PartialDuty) → KeepsOfficeThrough week open_off capacity (more ++ partial) →
    cents_after week partial + total_of_legs cents_of_road week (place_after partial) (legs_of more) ≤ cents_after week (more ++ partial)
costs-legs week open_off capacity partial [] k = omega arith
costs-legs week open_off capacity partial (step ∷ more) k =
    by_act step.act refl (costs-legs week open_off capacity partial more k.1)
  where
    ends : end_of (place_after partial) (legs_of more) ≡ place_after (more ++ partial)
    ends = (leads week open_off capacity partial more k.1).ends

    by_act : (act : Act) → step.act ≡ act →
        cents_after week partial + total_of_legs cents_of_road week (place_after partial) (legs_of more) ≤ cents_after week (more ++ partial) →
        cents_after week partial + total_of_legs cents_of_road week (place_after partial) (leg_by step.act (legs_of more))
        ≤ cents_after week (step ∷ (more ++ partial))
    by_act (Leg to) e less =
        let leg : leg_by step.act (legs_of more) ≡ to ∷ legs_of more = ap (λ (a : Act). leg_by a (legs_of more)) e in
        let total = ap (total_of_legs cents_of_road week (place_after partial)) leg in
        let cents : cents_of_act week (place_after (more ++ partial)) step.act ≡ cents_of_road (road week (place_after (more ++ partial)) to) =
        ap (cents_of_act week (place_after (more ++ partial))) e in
        let same : cents_of_road (road week (end_of (place_after partial) (legs_of more)) to) ≡ cents_of_road (road week (place_after (more ++ partial)) to) =
        ap (λ (p : ℕ). cents_of_road (road week p to)) ends in
        omega (arith, less, total, cents, same)
    by_act (Serve order) e less =
        let total = ap (λ (a : Act). total_of_legs cents_of_road week (place_after partial) (leg_by a (legs_of more))) e in
        omega (arith, less, total)
    by_act Load e less =
        let total = ap (λ (a : Act). total_of_legs cents_of_road week (place_after partial) (leg_by a (legs_of more))) e in
        omega (arith, less, total)

cost-legs : (case : Case) (driver : ℕ) (partial more : PartialDuty) → IsLawfulPartialDuty case driver (more ++ partial) →
    cost_after case driver partial + total_of_legs cents_of_road case.week (place_after partial) (legs_of more) ≤ cost_after case driver (more ++ partial)
cost-legs case driver [] [] l = omega arith
cost-legs case driver [] (last ∷ more) l =
    omega (arith, costs-legs case.week (open_off_at case driver) (capacity_at case driver) [] (last ∷ more) l.office)
cost-legs case driver (step ∷ before) [] l = omega arith
cost-legs case driver (step ∷ before) (last ∷ more) l =
    omega (arith, costs-legs case.week (open_off_at case driver) (capacity_at case driver) (step ∷ before) (last ∷ more) l.office)

-- no way home makes the label's steps a duty of a smaller value
pub values-more : (case : Case) (driver : ℕ) (walks : Walks) (pairs : Pairs) (prices : Prices) (label : Label) (partial more : PartialDuty) →
    AreWalksOf case.week walks → IsLabelOf case driver prices label partial → IsWayHome case driver pairs partial more →
    completion_value case.week walks driver pairs prices label ≤ℤ reduced_cost case driver prices (more ++ partial)
values-more case driver walks pairs prices label partial more w l home =
    let way = leads case.week (open_off_at case driver) (capacity_at case driver) partial more home.lawful.office in
    let least = w.cents (place_after partial) (legs_of more) way.legs in
    let ends : cents_between walks (place_after partial) (end_of (place_after partial) (legs_of more)) ≡ cents_between walks label.place 0 =
    ap (cents_between walks (place_after partial)) (way.ends ∙ home.home) ∙ ap (λ (p : ℕ). cents_between walks p 0) (sym l.place) in
    let cost = cost-legs case driver partial more home.lawful in
    let most = most-worth case driver pairs prices partial more (may_bring case.week walks driver pairs prices label) home.lawful home.inside brings in
    omega (arith, ints, l.value, least, ends, cost, most)
  where
    brings : (o : ℕ) → o < length case.week.orders → serves o more ≡ true → serves o partial ≡ false → is_barred (pair_at pairs driver o) ≡ false →
        price_at prices o ≤ may_bring case.week walks driver pairs prices label o
    brings o lo served new free =
        let bit : bit_at label.served o ≡ 0 = bit-of case driver prices label partial o l ∙ rw new refl in
        let there = reaches-later case driver walks prices label partial more o w l home.lawful served in
        let hoped : may_bring case.week walks driver pairs prices label o ≡ price_at prices o = rw (bit, free, there) refl in
        omega (arith, hoped)

no-forced : (case : Case) (driver : ℕ) (walks : Walks) (pairs : Pairs) (prices : Prices) (label : Label) (partial more : PartialDuty) →
    AreWalksOf case.week walks → IsLabelOf case driver prices label partial → LacksForced case.week walks driver pairs label →
    IsWayHome case driver pairs partial more → ⊥
no-forced case driver walks pairs prices label partial more w l f home =
    let lacking = lacks (serves f.order partial) (bit_at label.served f.order) (bit-of case driver prices label partial f.order l) f.lost.lacking in
    let later = serves-split f.order partial more lacking (home.inside.forced f.order f.in_week f.lost.forced) in
    let there = reaches-later case driver walks prices label partial more f.order w l home.lawful later in
    let out = f.lost.out in
    cc

known-more : (known : Option ℤ) (x y : ℤ) → x ≤ℤ y → Knows known x → Knows known y
known-more None x y l k = k
known-more (Some b) x y l k = omega (arith, ints)

pub prunes_soundly : PrunesSoundly
prunes_soundly case driver walks pairs prices known label partial more w l (inl far) home =
    absurd (omega (arith, far, comes-home case driver walks pairs prices label partial more w l home))
prunes_soundly case driver walks pairs prices known label partial more w l (inr (inl forced)) home =
    absurd (no-forced case driver walks pairs prices label partial more w l forced home)
prunes_soundly case driver walks pairs prices known label partial more w l (inr (inr better)) home =
    known-more known (completion_value case.week walks driver pairs prices label) (reduced_cost case driver prices (more ++ partial))
    (values-more case driver walks pairs prices label partial more w l home) better

-- ---- what is kept

pub keeps_on_time : KeepsOnTime
keeps_on_time case driver walks pairs prices known label partial l not_hopeless order low forced closed =
    by_bit (serves order partial) refl
  where
    by_bit : (b : Bool) → serves order partial ≡ b → b ≡ true
    by_bit true e = refl
    by_bit false e =
        let bit : bit_at label.served order ≡ 0 = bit-of case driver prices label partial order l ∙ rw e refl in
        by_reach (reaches case.week walks label order) refl bit
      where
        by_reach : (r : Bool) → reaches case.week walks label order ≡ r → bit_at label.served order ≡ 0 → false ≡ true
        by_reach true h bit =
            let reach = leb-true (label.clock.at + minutes_between walks label.place (place_of (order_of case.week order))) (closes_of (order_of case.week order)) h in
            absurd (omega (arith, reach, closed, at-label case driver prices label partial l))
        by_reach false h bit =
            absurd (not_hopeless (inr (inl (record { order = order; in_week = low; lost = record { forced = forced; lacking = bit; out = h } }))))

-- what may be brought in from the label is still open
brings-open : (case : Case) (driver : ℕ) (walks : Walks) (pairs : Pairs) (prices : Prices) (label : Label) (partial : PartialDuty) (o : ℕ) →
    IsLabelOf case driver prices label partial →
    may_bring case.week walks driver pairs prices label o ≤ still_open case.week driver pairs prices partial o
brings-open case driver walks pairs prices label partial o l =
    by_served (serves o partial) refl (is_barred (pair_at pairs driver o)) refl (reaches case.week walks label o) refl
  where
    by_served : (s : Bool) → serves o partial ≡ s → (b : Bool) → is_barred (pair_at pairs driver o) ≡ b → (r : Bool) → reaches case.week walks label o ≡ r →
        may_bring case.week walks driver pairs prices label o ≤ still_open case.week driver pairs prices partial o
    by_served true e b f r g =
        let bit : bit_at label.served o ≡ 1 = bit-of case driver prices label partial o l ∙ rw e refl in
        let none : may_bring case.week walks driver pairs prices label o ≡ 0 = rw bit refl in omega (arith, none)
    by_served false e true f r g =
        let bit : bit_at label.served o ≡ 0 = bit-of case driver prices label partial o l ∙ rw e refl in
        let none : may_bring case.week walks driver pairs prices label o ≡ 0 = rw (bit, f) refl in omega (arith, none)
    by_served false e false f false g =
        let bit : bit_at label.served o ≡ 0 = bit-of case driver prices label partial o l ∙ rw e refl in
        let none : may_bring case.week walks driver pairs prices label o ≡ 0 = rw (bit, f, g) refl in omega (arith, none)
    by_served false e false f true g =
        let bit : bit_at label.served o ≡ 0 = bit-of case driver prices label partial o l ∙ rw e refl in
        let reach = leb-true (label.clock.at + minutes_between walks label.place (place_of (order_of case.week o))) (closes_of (order_of case.week o)) g in
        let time : leb (at_after case.week partial) (closes_of (order_of case.week o)) ≡ true =
        le-leb _ _ (omega (arith, reach, at-label case driver prices label partial l)) in
        let all : still_open case.week driver pairs prices partial o ≡ price_at prices o = rw (e, f, time) refl in
        let here : may_bring case.week walks driver pairs prices label o ≡ price_at prices o = rw (bit, f, g) refl in
        omega (arith, all, here)

pub keeps_hopeful : KeepsHopeful
keeps_hopeful case driver walks pairs prices known label partial l not_hopeless =
    let less = total-mono (may_bring case.week walks driver pairs prices label) (still_open case.week driver pairs prices partial) (length case.week.orders)
    (λ o lo. brings-open case driver walks pairs prices label partial o l) in
    by_lt_z (completion_value case.week walks driver pairs prices label) known
    (λ below. omega (arith, ints, below, less, l.value))
    (λ better. absurd (not_hopeless (inr (inr better))))
