-- In exhausted entries each partial duty is hopeless: by the number of steps of a completion, and for one number of steps from the
-- last entry down, since an entry is settled by a later one alone.
use Rattle.std.proofs.Common.{◌≡◌, inl, inr, ℕ, zero, suc, ◌+◌, ◌-◌, ◌<◌, ◌≤◌, true, List, [], ◌∷◌, ◌++◌, length, refl, ap, sym, subst, ◌∙◌, arith, append_assoc, length-append, Option, Some, None, slice_get, ◌≤ℤ◌}
use Rattle.std.specs.Prelude.{ℤ}
use Rattle.std.proofs.lemmas.List.{append-nil}
use Rattle.std.proofs.lemmas.Int.{ints}
use Rattle.duty_plan.specs.declared.duties.Step.{Step}
use Rattle.duty_plan.specs.declared.plans.Case.{Case}
use Rattle.duty_plan.specs.declared.deciding.Pairs.{Pairs}
use Rattle.duty_plan.specs.declared.pricing.Prices.{Prices}
use Rattle.duty_plan.specs.declared.labels.Label.{Label}
use Rattle.duty_plan.specs.PartialDuties.{PartialDuty, place_after}
use Rattle.duty_plan.specs.Duties.{IsCase, IsLawfulPartialDuty, partial_of}
use Rattle.duty_plan.specs.Values.{IsInside, reduced_cost}
use Rattle.duty_plan.specs.Labels.{IsLabelOf, forced_orders, has_step}
use Rattle.duty_plan.specs.LabelLists.{Entry}
use Rattle.duty_plan.proofs.Lists.{slice_get-lt}
use Rattle.dominance.specs.Completions.{AllListedAfter, IsCompletion, delayed}
use Rattle.dominance.specs.Reaching.{DominatesWithin, IsReach}
use Rattle.dominance.proofs.Simulating.{simulate_within}
use Rattle.dominance.proofs.Shifting.{lists_completions}
use Rattle.duty_label.specs.Pruning.{Knows}
use Rattle.duty_pricing.specs.Exhausting.{MayFollow, IsSpared, IsGrown, IsDone, HaveLabels, AreExhausted, Exhausts, ExhaustsDuties}
use Rattle.duty_pricing.proofs.Completing.{Begins, begins, first-listed, lawful-without, serves-longer, shifted-value, shifted-inside, acts-length}

pub as-low : (known : Option ℤ) (a b : ℤ) → Knows known a → a ≤ℤ b → Knows known b
as-low None a b h l = absurd h
as-low (Some v) a b h l = omega (arith, ints)

-- no lawful duty inside that begins with an entry's partial duty and has so many steps more at most is worth less than what is known
abbrev HopelessFor : Case → ℕ → Pairs → Prices → Option ℤ → List Entry → ℕ → Type 0
HopelessFor case driver pairs prices known entries steps =
    (n : ℕ) (e : Entry) (more : PartialDuty) → slice_get entries n ≡ Some e → length more ≤ steps → IsCompletion case driver e.partial more →
    IsInside case.week pairs driver (more ++ e.partial) → Knows known (reduced_cost case driver prices (more ++ e.partial))

-- what an entry that betters a partial duty's label says of the completions of that partial duty
bettered-low : (case : Case) (driver : ℕ) (pairs : Pairs) (prices : Prices) (known : Option ℤ) (entries : List Entry) → IsCase case →
    HaveLabels case driver pairs prices entries → (k : ℕ) (e : Entry) (label : Label) (reach : ℕ) (worse more : PartialDuty) → 0 < k → slice_get entries k ≡ Some e →
    IsLawfulPartialDuty case driver worse → IsLabelOf case driver prices label worse → has_step worse ≡ true →
    IsReach case driver worse reach → DominatesWithin e.label label (forced_orders case.week pairs driver) reach → IsCompletion case driver worse more →
    IsInside case.week pairs driver (more ++ worse) →
    ((later : PartialDuty) → length later ≡ length more → IsCompletion case driver e.partial later →
    IsInside case.week pairs driver (later ++ e.partial) → Knows known (reduced_cost case driver prices (later ++ e.partial))) →
    Knows known (reduced_cost case driver prices (more ++ worse))
bettered-low case driver pairs prices known entries c labels k e label reach worse more begun is lawful has step in_reach better done inside go =
    let found = labels.each k e is in
    let later = delayed (label.clock.at - e.label.clock.at) more in
    let s = simulate_within case driver prices (forced_orders case.week pairs driver) reach e.label label e.partial worse more c found.lawful lawful
    found.label_of has (found.label_of.fee_paid ∙ labels.begun k e begun is) (has.fee_paid ∙ step) better (in_reach more done) done.lawful in
    as-low known _ _
    (go later (acts-length later more s.acts) (record { lawful = s.lawful; home = s.place ∙ done.home }) (s.inside pairs refl (labels.unbarred k e is) inside))
    s.value

-- the completions of a partial duty after which each step was tried
grown-low : (case : Case) (driver : ℕ) (pairs : Pairs) (prices : Prices) (known : Option ℤ) (entries : List Entry) → IsCase case →
    HaveLabels case driver pairs prices entries → (steps : ℕ) → HopelessFor case driver pairs prices known entries steps → (partial : PartialDuty) →
    IsGrown case driver pairs prices known entries partial → (last : Step) (more : PartialDuty) → length (last ∷ more) ≤ suc steps →
    AllListedAfter case.week partial (last ∷ more) → IsCompletion case driver partial (last ∷ more) →
    IsInside case.week pairs driver ((last ∷ more) ++ partial) → Knows known (reduced_cost case driver prices ((last ∷ more) ++ partial))
grown-low case driver pairs prices known entries c labels steps shorter partial grown last more l listed done inside =
    subst (λ (x : PartialDuty). Knows known (reduced_cost case driver prices x)) (sym path) (by_spared (grown first.step may))
  where
    first : Begins (last ∷ more)
    first = begins last more

    path : (last ∷ more) ++ partial ≡ first.rest ++ (first.step ∷ partial)
    path = ap (λ (x : PartialDuty). x ++ partial) first.is ∙ append_assoc first.rest (first.step ∷ []) partial

    rest-done : IsCompletion case driver (first.step ∷ partial) first.rest
    rest-done = record {
      lawful = subst (λ (x : PartialDuty). IsLawfulPartialDuty case driver x) path done.lawful;
      home = ap place_after (sym path) ∙ done.home;
    }

    rest-inside : IsInside case.week pairs driver (first.rest ++ (first.step ∷ partial))
    rest-inside = subst (λ (x : PartialDuty). IsInside case.week pairs driver x) path inside

    may : MayFollow case driver pairs first.step partial
    may = record {
      listed = first-listed case.week partial first.rest first.step (subst (λ (x : PartialDuty). AllListedAfter case.week partial x) first.is listed);
      lawful = lawful-without case driver first.rest (first.step ∷ partial) rest-done.lawful;
      unbarred = λ o lt p. serves-longer o first.rest (first.step ∷ partial) (rest-inside.barred o lt p);
    }

    fewer : length first.rest ≤ steps
    fewer = let e = ap (λ (x : PartialDuty). length x) first.is ∙ length-append first.rest (first.step ∷ []) in omega arith

    by_spared : IsSpared case driver pairs prices known entries (first.step ∷ partial) →
        Knows known (reduced_cost case driver prices (first.rest ++ (first.step ∷ partial)))
    by_spared (inl covered) =
        bettered-low case driver pairs prices known entries c labels covered.number covered.entry covered.label covered.reach (first.step ∷ partial) first.rest
        covered.begun covered.is_entry may.lawful covered.has_label refl covered.in_reach covered.better rest-done rest-inside
        (λ later e d i. shorter covered.number covered.entry later covered.is_entry (omega (arith, fewer)) d i)
    by_spared (inr hopeless) = hopeless first.rest rest-done rest-inside

-- listed steps, as many as those
shifted-low : (case : Case) (driver : ℕ) (pairs : Pairs) (prices : Prices) (known : Option ℤ) (entries : List Entry) → IsCase case →
    HaveLabels case driver pairs prices entries → (steps : ℕ) → HopelessFor case driver pairs prices known entries steps → (partial : PartialDuty) →
    IsGrown case driver pairs prices known entries partial → (last : Step) (more listed : PartialDuty) → length (last ∷ more) ≤ suc steps →
    length listed ≡ length (last ∷ more) → AllListedAfter case.week partial listed → IsCompletion case driver partial listed →
    IsInside case.week pairs driver (listed ++ partial) → Knows known (reduced_cost case driver prices (listed ++ partial))
shifted-low case driver pairs prices known entries c labels steps shorter partial grown last more [] l e listed done inside =
    absurd (omega arith)
shifted-low case driver pairs prices known entries c labels steps shorter partial grown last more (step ∷ rest) l e listed done inside =
    grown-low case driver pairs prices known entries c labels steps shorter partial grown step rest (omega arith) listed done inside

-- the completions of an entry with one step more than those that are hopeless
one-more : (case : Case) (driver : ℕ) (pairs : Pairs) (prices : Prices) (known : Option ℤ) (entries : List Entry) → IsCase case →
    AreExhausted case driver pairs prices known entries → (steps : ℕ) → HopelessFor case driver pairs prices known entries steps →
    (fuel n : ℕ) (e : Entry) (more : PartialDuty) → length entries ≤ n + fuel → slice_get entries n ≡ Some e → length more ≤ suc steps →
    IsCompletion case driver e.partial more → IsInside case.week pairs driver (more ++ e.partial) →
    Knows known (reduced_cost case driver prices (more ++ e.partial))
one-more case driver pairs prices known entries c x steps shorter zero n e more f is l done inside =
    absurd (omega (arith, slice_get-lt entries n e is))
one-more case driver pairs prices known entries c x steps shorter (suc fuel) n e [] f is l done inside = x.shown n e is done.home inside
one-more case driver pairs prices known entries c x steps shorter (suc fuel) n e (last ∷ more) f is l done inside =
    by_done (x.done n e is) (λ k other later a b d i. one-more case driver pairs prices known entries c x steps shorter fuel k other later a b d i)
  where
    by_done : IsDone case driver pairs prices known entries n e →
        ((k : ℕ) (other : Entry) (later : PartialDuty) → length entries ≤ k + fuel → slice_get entries k ≡ Some other → length later ≤ suc steps →
        IsCompletion case driver other.partial later → IsInside case.week pairs driver (later ++ other.partial) →
        Knows known (reduced_cost case driver prices (later ++ other.partial))) →
        Knows known (reduced_cost case driver prices ((last ∷ more) ++ e.partial))
    by_done (inl settled) go =
        let found = x.labels.each n e is in
        bettered-low case driver pairs prices known entries c x.labels settled.number settled.other e.label settled.reach e.partial (last ∷ more)
        (omega (arith, settled.later)) settled.is_other found.lawful found.label_of (x.labels.begun n e settled.begun is) settled.in_reach settled.better done inside
        (λ later same d i. go settled.number settled.other later (omega (arith, settled.later)) settled.is_other (omega arith) d i)
    by_done (inr grown) go =
        let shifted = lists_completions case driver e.partial (last ∷ more) c done in
        subst (λ (v : ℤ). Knows known v) (shifted-value case driver prices e.partial (last ∷ more) shifted.0 shifted.1)
        (shifted-low case driver pairs prices known entries c x.labels steps shorter e.partial grown last more shifted.0 l
        (acts-length shifted.0 (last ∷ more) shifted.1.acts) shifted.1.listed_stays shifted.2
        (shifted-inside case driver pairs e.partial (last ∷ more) shifted.0 shifted.1 inside))

hopeless-for : (case : Case) (driver : ℕ) (pairs : Pairs) (prices : Prices) (known : Option ℤ) (entries : List Entry) → IsCase case →
    AreExhausted case driver pairs prices known entries → (steps : ℕ) → HopelessFor case driver pairs prices known entries steps
hopeless-for case driver pairs prices known entries c x zero n e [] is l done inside = x.shown n e is done.home inside
hopeless-for case driver pairs prices known entries c x zero n e (step ∷ more) is l done inside = absurd (omega arith)
hopeless-for case driver pairs prices known entries c x (suc steps) n e more is l done inside =
    one-more case driver pairs prices known entries c x steps (hopeless-for case driver pairs prices known entries c x steps)
    (length entries) n e more (omega arith) is l done inside

-- the law
pub exhausts : Exhausts
exhausts case driver pairs prices known entries c x n e is more done inside =
    hopeless-for case driver pairs prices known entries c x (length more) n e more is (omega arith) done inside

-- and of duties
pub exhausts_duties : ExhaustsDuties
exhausts_duties case driver pairs prices known entries first c x is empty duty choice =
    let path : partial_of duty ++ first.partial ≡ partial_of duty = ap (λ (y : PartialDuty). partial_of duty ++ y) empty ∙ append-nil (partial_of duty) in
    subst (λ (y : PartialDuty). Knows known (reduced_cost case driver prices y)) path
    (exhausts case driver pairs prices known entries c x 0 first is (partial_of duty)
    (record {
      lawful = subst (λ (y : PartialDuty). IsLawfulPartialDuty case driver y) (sym path) choice.lawful.partial;
      home = ap place_after path ∙ choice.lawful.home;
    })
    (subst (λ (y : PartialDuty). IsInside case.week pairs driver y) (sym path) choice.inside))
