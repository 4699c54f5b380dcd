-- Labels that were tested within reach, all of them done with, show the least value: by the number of steps of a completion, and for
-- one number of steps from the last entry down, since the entry that settles another stands later.
use Rattle.std.proofs.Common.{◌≡◌, ◌≢◌, ◌⊎◌, inl, inr, ℕ, zero, suc, ◌+◌, ◌<◌, ◌≤◌, Bool, true, false, ltb, List, [], ◌∷◌, ◌++◌, length, length-append, refl, ap, sym, subst, ◌∙◌, arith, Option, Some, None, slice_get, ℤ, ◌≤ℤ◌}
use Rattle.std.proofs.lemmas.Bool.Decides.{nat_tests}
use Rattle.std.proofs.lemmas.Int.{ints}
use Rattle.duty_plan.specs.declared.duties.Step.{Step}
use Rattle.duty_plan.specs.declared.plans.Case.{Case}
use Rattle.duty_plan.specs.declared.deciding.Pairs.{Pairs}
use Rattle.duty_plan.specs.declared.pricing.Prices.{Prices}
use Rattle.duty_plan.specs.declared.labels.Label.{Label}
use Rattle.duty_plan.specs.PartialDuties.{PartialDuty, place_after}
use Rattle.duty_plan.specs.Duties.{IsCase, IsLawfulPartialDuty, partial_of}
use Rattle.duty_plan.specs.Values.{IsInside, reduced_cost}
use Rattle.duty_plan.specs.Labels.{is_listed, forced_orders, has_step}
use Rattle.duty_plan.specs.LabelLists.{Entry}
use Rattle.duty_plan.proofs.Lists.{slice_get-lt}
use Rattle.duty_plan.proofs.Hopes.{bounds_completions, serves_in_time}
use Rattle.duty_label.specs.Pruning.{Knows}
use Rattle.dominance.specs.Completions.{IsCompletion, AllListedAfter}
use Rattle.dominance.specs.Reaching.{DominatesWithin, IsLabelListWithin}
use Rattle.dominance.proofs.Simulating.{lawful-before, unserved-before}
use Rattle.dominance.proofs.Shifting.{lists_completions}
use Rattle.dominance.proofs.Forgetting.{may_forget_within, shift_keeps}
use Rattle.dominance.specs.PricedOut.{IsCoveredWithin, IsSparedWithin, IsGrownWithin, IsSettledWithin, ArePricedOut, PricesOut}

-- an entry that betters another one within its reach, neither of them the first, stands later
stands-later : (case : Case) (driver : ℕ) (pairs : Pairs) (prices : Prices) (reach_of : Label → ℕ) (entries : List Entry) →
    IsLabelListWithin case driver pairs prices reach_of entries → (n k : ℕ) (e o : Entry) → 0 < k → k ≢ n → slice_get entries n ≡ Some e →
    slice_get entries k ≡ Some o → DominatesWithin o.label e.label (forced_orders case.week pairs driver) (reach_of e.label) → n < k
stands-later case driver pairs prices reach_of entries list n k e o some other h i b = by_order (ltb k n) refl
  where
    by_order : (t : Bool) → ltb k n ≡ t → n < k
    by_order true t = absurd (list.not_bettered n k e o some (grind (arith, nat_tests)) h i b)
    by_order false t = let l : n ≤ k = grind (arith, nat_tests) in omega (arith, other)

knows-more : (best : Option ℤ) (x y : ℤ) → x ≤ℤ y → Knows best x → Knows best y
knows-more None x y l k = k
knows-more (Some b) x y l k = omega (arith, ints)

-- the oldest of some steps, and those after it
record Split (more : PartialDuty) : Type 0 where
  later : PartialDuty
  step : Step
  is : more ≡ later ++ (step ∷ [])

split : (last : Step) (more : PartialDuty) → Split (last ∷ more)
split last [] = record { later = []; step = last; is = refl }
split last (next ∷ more) = let s = split next more in record { later = last ∷ s.later; step = s.step; is = ap (λ (xs : PartialDuty). last ∷ xs) s.is }

regroup : (later partial : PartialDuty) (step : Step) → (later ++ (step ∷ [])) ++ partial ≡ later ++ (step ∷ partial)
regroup [] partial step = refl
regroup (x ∷ later) partial step = ap (λ (xs : PartialDuty). x ∷ xs) (regroup later partial step)

listed-parts : (case : Case) (partial later : PartialDuty) (step : Step) → AllListedAfter case.week partial (later ++ (step ∷ [])) →
    (is_listed case.week step partial ≡ true) × AllListedAfter case.week (step ∷ partial) later
listed-parts case partial [] step a = (a.0, tt)
listed-parts case partial (x ∷ later) step a =
    let rest = listed-parts case partial later step a.1 in
    (rest.0, (subst (λ (xs : PartialDuty). is_listed case.week x xs ≡ true) (regroup later partial step) a.0, rest.1))

lawful-partial : (case : Case) (driver : ℕ) (partial more : PartialDuty) → IsLawfulPartialDuty case driver (more ++ partial) → IsLawfulPartialDuty case driver partial
lawful-partial case driver partial [] l = l
lawful-partial case driver partial (step ∷ more) l = lawful-partial case driver partial more (lawful-before case driver step (more ++ partial) l)

abbrev Finds : Case → ℕ → Pairs → Prices → List Entry → Option ℤ → ℕ → Type 0
Finds case driver pairs prices entries best s = (n : ℕ) (e : Entry) (more : PartialDuty) → slice_get entries n ≡ Some e → length more ≡ s →
    AllListedAfter case.week e.partial more → IsCompletion case driver e.partial more → IsInside case.week pairs driver (more ++ e.partial) →
    Knows best (reduced_cost case driver prices (more ++ e.partial))

paid : (case : Case) (driver : ℕ) (pairs : Pairs) (prices : Prices) (reach_of : Label → ℕ) (entries : List Entry) → IsLabelListWithin case driver pairs prices reach_of entries →
    (n : ℕ) (e : Entry) → 0 < n → slice_get entries n ≡ Some e → e.label.fee_paid ≡ true
paid case driver pairs prices reach_of entries list n e l h =
    (list.entry n e h).label.fee_paid ∙ ap has_step (list.extended n e l h).is_step

-- a partial duty with a step, covered by an entry
covered : (case : Case) (driver : ℕ) (pairs : Pairs) (prices : Prices) (reach_of : Label → ℕ) (best : Option ℤ) (entries : List Entry) → IsCase case →
    ArePricedOut case driver pairs prices reach_of best entries → (s : ℕ) → Finds case driver pairs prices entries best s → (step : Step) (before more : PartialDuty) →
    IsCoveredWithin case driver pairs prices reach_of entries (step ∷ before) → length more ≡ s → IsCompletion case driver (step ∷ before) more →
    IsInside case.week pairs driver (more ++ (step ∷ before)) → Knows best (reduced_cost case driver prices (more ++ (step ∷ before)))
covered case driver pairs prices reach_of best entries c p s finds step before more h len done inside =
    let entry = p.list.entry h.number h.entry h.is_entry in
    let as_good = may_forget_within case driver pairs prices (reach_of h.label) h.entry.label h.label h.entry.partial (step ∷ before) more c entry.lawful
    (lawful-partial case driver (step ∷ before) more done.lawful) entry.label h.has_label
    (paid case driver pairs prices reach_of entries p.list h.number h.entry h.begun h.is_entry) h.has_label.fee_paid entry.unbarred (p.reaches h.label (step ∷ before) h.has_label) h.better done inside in
    knows-more best _ _ as_good.value (finds h.number h.entry as_good.later h.is_entry (as_good.steps ∙ len) as_good.listed as_good.completes as_good.inside)

finds-none : (case : Case) (driver : ℕ) (pairs : Pairs) (prices : Prices) (reach_of : Label → ℕ) (best : Option ℤ) (entries : List Entry) → IsCase case →
    ArePricedOut case driver pairs prices reach_of best entries → Finds case driver pairs prices entries best 0
finds-none case driver pairs prices reach_of best entries c p n e [] h len a done inside = p.shown n e h done.home inside
finds-none case driver pairs prices reach_of best entries c p n e (x ∷ more) h len a done inside = absurd (omega arith)

-- where the entry was extended
extends : (case : Case) (driver : ℕ) (pairs : Pairs) (prices : Prices) (reach_of : Label → ℕ) (best : Option ℤ) (entries : List Entry) → IsCase case →
    ArePricedOut case driver pairs prices reach_of best entries → (s : ℕ) → Finds case driver pairs prices entries best s → (e : Entry) (more : PartialDuty) →
    length more ≡ suc s → AllListedAfter case.week e.partial more → IsCompletion case driver e.partial more → IsInside case.week pairs driver (more ++ e.partial) →
    IsGrownWithin case driver pairs prices reach_of best entries e.partial →
    Knows best (reduced_cost case driver prices (more ++ e.partial))
extends case driver pairs prices reach_of best entries c p s finds e [] len a done inside all = absurd (omega arith)
extends case driver pairs prices reach_of best entries c p s finds e (x ∷ rest) len a done inside all =
    let t = split x rest in
    let same : (x ∷ rest) ++ e.partial ≡ t.later ++ (t.step ∷ e.partial) = ap (λ (xs : PartialDuty). xs ++ e.partial) t.is ∙ regroup t.later e.partial t.step in
    let listed = listed-parts case e.partial t.later t.step (subst (λ (xs : PartialDuty). AllListedAfter case.week e.partial xs) t.is a) in
    let lawful : IsLawfulPartialDuty case driver (t.later ++ (t.step ∷ e.partial)) = subst (λ (xs : PartialDuty). IsLawfulPartialDuty case driver xs) same done.lawful in
    let home : place_after (t.later ++ (t.step ∷ e.partial)) ≡ 0 = ap place_after (sym same) ∙ done.home in
    let in_pairs : IsInside case.week pairs driver (t.later ++ (t.step ∷ e.partial)) = subst (λ (xs : PartialDuty). IsInside case.week pairs driver xs) same inside in
    let few : length t.later ≡ s = omega (arith, len, ap length t.is, length-append t.later (t.step ∷ [])) in
    subst (λ (xs : PartialDuty). Knows best (reduced_cost case driver prices xs)) (sym same)
    (by_way t.step t.later lawful home in_pairs few
    (all t.step listed.0 (lawful-partial case driver (t.step ∷ e.partial) t.later lawful)
    (λ order l b. unserved-before order (t.step ∷ e.partial) t.later (in_pairs.barred order l b))))
  where
    by_way : (step : Step) (later : PartialDuty) → IsLawfulPartialDuty case driver (later ++ (step ∷ e.partial)) → place_after (later ++ (step ∷ e.partial)) ≡ 0 →
        IsInside case.week pairs driver (later ++ (step ∷ e.partial)) → length later ≡ s → IsSparedWithin case driver pairs prices reach_of best entries (step ∷ e.partial) →
        Knows best (reduced_cost case driver prices (later ++ (step ∷ e.partial)))
    by_way step later lawful home in_pairs few (inl h) =
        covered case driver pairs prices reach_of best entries c p s finds step e.partial later h few (record { lawful = lawful; home = home }) in_pairs
    by_way step later lawful home in_pairs few (inr (inl h)) =
        absurd (omega (arith, h.closed, serves_in_time case driver (step ∷ e.partial) later h.order lawful h.lacks (in_pairs.forced h.order h.in_week h.forced)))
    by_way step later lawful home in_pairs few (inr (inr h)) =
        knows-more best _ _ (bounds_completions case driver pairs prices (step ∷ e.partial) later lawful in_pairs) h

-- where an entry was not extended, the one that betters it stands later, and so on, up to one that was extended
finds-some : (case : Case) (driver : ℕ) (pairs : Pairs) (prices : Prices) (reach_of : Label → ℕ) (best : Option ℤ) (entries : List Entry) → IsCase case →
    ArePricedOut case driver pairs prices reach_of best entries → (s : ℕ) → Finds case driver pairs prices entries best s → Finds case driver pairs prices entries best (suc s)
finds-some case driver pairs prices reach_of best entries c p s finds n e more h len a done inside = by_fuel (length entries) n e more (omega arith) h len a done inside
  where
    by_fuel : (fuel n : ℕ) (e : Entry) (more : PartialDuty) → length entries ≤ n + fuel → slice_get entries n ≡ Some e → length more ≡ suc s →
        AllListedAfter case.week e.partial more → IsCompletion case driver e.partial more → IsInside case.week pairs driver (more ++ e.partial) →
        Knows best (reduced_cost case driver prices (more ++ e.partial))
    by_fuel zero n e more f h len a done inside = absurd (omega (arith, slice_get-lt entries n e h))
    by_fuel (suc fuel) n e more f h len a done inside =
        by_done (p.done n e h) (λ k o m g i t b d q. by_fuel fuel k o m g i t b d q)
      where
        by_done : IsSettledWithin case driver pairs reach_of entries n e ⊎ IsGrownWithin case driver pairs prices reach_of best entries e.partial →
            ((k : ℕ) (o : Entry) (m : PartialDuty) → length entries ≤ k + fuel → slice_get entries k ≡ Some o → length m ≡ suc s → AllListedAfter case.week o.partial m →
            IsCompletion case driver o.partial m → IsInside case.week pairs driver (m ++ o.partial) → Knows best (reduced_cost case driver prices (m ++ o.partial))) →
            Knows best (reduced_cost case driver prices (more ++ e.partial))
        by_done (inr all) next = extends case driver pairs prices reach_of best entries c p s finds e more len a done inside all
        by_done (inl g) next =
            let mine = p.list.entry n e h in
            let entry = p.list.entry g.number g.other g.is_other in
            let later = stands-later case driver pairs prices reach_of entries p.list n g.number e g.other g.begun.1 g.apart h g.is_other g.better in
            let some = g.begun.1 in
            let as_good = may_forget_within case driver pairs prices (reach_of e.label) g.other.label e.label g.other.partial e.partial more c entry.lawful mine.lawful
            entry.label mine.label (paid case driver pairs prices reach_of entries p.list g.number g.other some g.is_other)
            (paid case driver pairs prices reach_of entries p.list n e g.begun.0 h) entry.unbarred (p.reaches e.label e.partial mine.label) g.better done inside in
            knows-more best _ _ as_good.value
            (next g.number g.other as_good.later (omega (arith, f, later)) g.is_other (as_good.steps ∙ len) as_good.listed as_good.completes as_good.inside)

finds-all : (case : Case) (driver : ℕ) (pairs : Pairs) (prices : Prices) (reach_of : Label → ℕ) (best : Option ℤ) (entries : List Entry) → IsCase case →
    ArePricedOut case driver pairs prices reach_of best entries → (s : ℕ) → Finds case driver pairs prices entries best s
finds-all case driver pairs prices reach_of best entries c p zero = finds-none case driver pairs prices reach_of best entries c p
finds-all case driver pairs prices reach_of best entries c p (suc s) =
    finds-some case driver pairs prices reach_of best entries c p s (finds-all case driver pairs prices reach_of best entries c p s)

append-none : (xs : PartialDuty) → xs ++ [] ≡ xs
append-none [] = refl
append-none (x ∷ xs) = ap (λ (ys : PartialDuty). x ∷ ys) (append-none xs)

get-first : (entries : List Entry) → 0 < length entries → (e : Entry) × (slice_get entries 0 ≡ Some e)
get-first [] l = absurd (omega arith)
get-first (e ∷ entries) l = (e, refl)

pub prices_out : PricesOut
prices_out case driver pairs prices reach_of best entries duty c p choice =
    let whole = partial_of duty in
    let none = append-none whole in
    let done : IsCompletion case driver [] whole = record {
      lawful = subst (λ (xs : PartialDuty). IsLawfulPartialDuty case driver xs) (sym none) choice.lawful.partial;
      home = ap place_after none ∙ choice.lawful.home;
    } in
    let t = lists_completions case driver [] whole c done in
    let k = shift_keeps case driver [] whole t.0 t.1 in
    let inside : IsInside case.week pairs driver (whole ++ []) = subst (λ (xs : PartialDuty). IsInside case.week pairs driver xs) (sym none) choice.inside in
    let first = get-first entries p.list.some in
    let empty : first.0.partial ≡ [] = p.list.first first.0 first.1 in
    let found : Knows best (reduced_cost case driver prices (t.0 ++ [])) =
    from_empty first.0.partial (sym empty) t.0 (λ a d i. finds-all case driver pairs prices reach_of best entries c p (length t.0) 0 first.0 t.0 first.1 refl a d i)
    t.1.listed_stays t.2 (k.inside pairs inside) in
    subst (λ (v : ℤ). Knows best v) (k.value prices ∙ ap (reduced_cost case driver prices) none) found
  where
    from_empty : (partial : PartialDuty) → [] ≡ partial → (more : PartialDuty) →
        (AllListedAfter case.week partial more → IsCompletion case driver partial more → IsInside case.week pairs driver (more ++ partial) →
        Knows best (reduced_cost case driver prices (more ++ partial))) →
        AllListedAfter case.week [] more → IsCompletion case driver [] more → IsInside case.week pairs driver (more ++ []) →
        Knows best (reduced_cost case driver prices (more ++ []))
    from_empty partial e more f a d i =
        subst (λ (xs : PartialDuty). Knows best (reduced_cost case driver prices (more ++ xs))) (sym e)
        (f (subst (λ (xs : PartialDuty). AllListedAfter case.week xs more) e a)
        (subst (λ (xs : PartialDuty). IsCompletion case driver xs more) e d)
        (subst (λ (xs : PartialDuty). IsInside case.week pairs driver (more ++ xs)) e i))
