-- Rests that are too short need not be tried.
use Rattle.std.proofs.Common.{◌≡◌, ◌⊎◌, inl, inr, ℕ, zero, suc, ◌+◌, ◌-◌, ◌*◌, ◌%◌, ◌/◌, ◌<◌, ◌≤◌, min, Bool, true, not, ◌&&◌, ◌||◌, leb, [], ◌∷◌, replicate, refl, ap, sym, subst, ◌∙◌, arith, Option, Some, None, slice_get}
use Rattle.std.proofs.lemmas.Bool.Decides.{nat_tests}
use Rattle.minute_line.specs.declared.lines.History.{History}
use Rattle.minute_line.specs.declared.marks.Mark.{Mark}
use Rattle.minute_line.specs.declared.marks.Mark.TheVariants.{Off}
use Rattle.minute_line.specs.declared.marks.Kind.{Kind}
use Rattle.minute_line.specs.declared.marks.Kind.TheVariants.{Plain}
use Rattle.minute_line.specs.Marks.{is_duty, is_rest}
use Rattle.minute_line.specs.Minutes.{Minute, Minutes, stretch}
use Rattle.hours_rules.specs.declared.clocks.Clock.{Clock}
use Rattle.hours_rules.specs.declared.rules.Rule.TheVariants.{H5}
use Rattle.hours_rules.specs.Counts.{open_run, last_weekly}
use Rattle.hours_rules.specs.Machine.{rested}
use Rattle.hours_rules.specs.Rules.{Past, debt_of, fault, holds, least_rest, whole}
use Rattle.hours_rules.specs.Standing.{Stands}
use Rattle.hours_rules.specs.Verdicts.{past_of}
use Rattle.hours_rules.proofs.Blocks.{stands-off_block}
use Rattle.hours_rules.proofs.Faults.{stretch-add}
use Rattle.hours_rules.proofs.Simulate.{every-minute}
use Rattle.duty_plan.specs.declared.duties.Act.{Act}
use Rattle.duty_plan.specs.declared.duties.Step.{Step}
use Rattle.duty_plan.specs.declared.plans.Case.{Case}
use Rattle.duty_plan.specs.declared.deciding.Pairs.{Pairs}
use Rattle.duty_plan.specs.declared.labels.Label.{Label}
use Rattle.duty_plan.specs.Acts.{mark_of, minutes_of}
use Rattle.duty_plan.specs.PartialDuties.{PartialDuty, KeepsOfficeThrough, has_lawful_length, line_after, place_after}
use Rattle.duty_plan.specs.Duties.{IsCase, IsLawfulPartialDuty, capacity_at, open_off_at, open_or_none, past_at, past_or_none}
use Rattle.duty_plan.proofs.Runs.{duty-act, open_at, open_run-partial, rests-some}
use Rattle.duty_plan.proofs.WeekLimits.{small-act}
use Rattle.duty_pricing.specs.declared.asking.Asked.{Asked}
use Rattle.duty_pricing.specs.declared.stores.LabelStore.{LabelStore}
use Rattle.duty_pricing.specs.Asking.{IsAsked}
use Rattle.duty_pricing.specs.Exhausting.{MayFollow}
use Rattle.duty_pricing.specs.Listing.{rest_stay}
use Rattle.duty_pricing.specs.Searching.{HasTried, IsSearch, MayExtend}
use Rattle.duty_pricing.proofs.Trying.{from-has, tried-none}

-- what the rule on the length of a run says at a minute on duty that ends one
run-asked : (duty : Bool) (run least : ℕ) → duty ≡ true → 0 < run → (not (duty && leb 1 run) || leb least run) ≡ true → least ≤ run
run-asked duty run least d r h = grind (arith, nat_tests)

-- a run that is declared so and breaks no rule is no shorter than the rules ask
run-long : (clock : Clock) (past : Past) (off n : ℕ) (mark : Mark) (kind : Kind) (week : Minutes) → is_duty mark ≡ true → Stands clock past week →
    1 ≤ n → fault past (stretch n mark kind (stretch off Off Plain week)) ≡ None → 0 < clock.off + off →
    least_rest kind clock.prev_weekly clock.owed ≤ clock.off + off
run-long clock past off zero mark kind week d s l h r = absurd (omega arith)
run-long clock past off (suc n) mark kind week d s l h r =
    let before : Minutes = stretch off Off Plain week in
    let m : Minute = record { mark = mark; kind = kind } in
    let stands : Stands (rested clock off) past before = stands-off_block clock past off Plain week s in
    let run : clock.off + off ≡ open_run (whole past before) = stands.off in
    let weekly : clock.prev_weekly ≡ last_weekly past.prev_weekly (whole past before) = stands.prev_weekly in
    let owed : clock.owed ≡ (debt_of past before).owed = stands.owed in
    let more : suc n ≡ n + 1 = omega arith in
    let line : stretch (suc n) mark kind before ≡ stretch n mark kind (m ∷ before) =
    ap (λ (k : ℕ). stretch k mark kind before) more ∙ stretch-add n 1 mark kind before in
    let keeps : holds past m before H5 ≡ true =
    every-minute past (replicate n m) m before (subst (λ (w : Minutes). fault past w ≡ None) line h) H5 in
    let long : least_rest kind (last_weekly past.prev_weekly (whole past before)) (debt_of past before).owed ≤ open_run (whole past before) =
    run-asked (is_duty mark) (open_run (whole past before)) _ d (subst (λ (k : ℕ). 0 < k) run r) keeps in
    subst (λ (k : ℕ). least_rest kind clock.prev_weekly clock.owed ≤ k) (sym run)
    (subst (λ (k : ℕ). least_rest kind k clock.owed ≤ open_run (whole past before)) (sym weekly)
    (subst (λ (k : ℕ). least_rest kind (last_weekly past.prev_weekly (whole past before)) k ≤ open_run (whole past before)) (sym owed) long))

-- without a history no run is open
open-none : (before : PartialDuty) → open_at 0 before ≡ 0
open-none [] = refl
open-none (step ∷ before) = refl

-- the run of a rest has a minute
run-some : (case : Case) (driver : ℕ) (clock : Clock) (step : Step) (before : PartialDuty) → IsCase case →
    IsLawfulPartialDuty case driver (step ∷ before) → Stands clock (past_at case driver) (line_after case.week before) →
    is_rest step.stay.kind ≡ true → 0 < clock.off + step.stay.off
run-some case driver clock step before c l s r = by_history (slice_get case.past driver) refl
  where
    by_history : (found : Option History) → slice_get case.past driver ≡ found → 0 < clock.off + step.stay.off
    by_history None e =
        let none : open_off_at case driver ≡ 0 = ap open_or_none e in
        let stay : has_lawful_length 0 step before ≡ true =
        subst (λ (o : ℕ). has_lawful_length o step before ≡ true) none l.office.0.stay in
        omega (arith, rests-some 0 step before stay r, open-none before)
    by_history (Some history) e =
        let past : past_at case driver ≡ past_of history = ap past_or_none e in
        let open_off : open_off_at case driver ≡ history.open_off = ap open_or_none e in
        let keeps : KeepsOfficeThrough case.week history.open_off (capacity_at case driver) before =
        subst (λ (o : ℕ). KeepsOfficeThrough case.week o (capacity_at case driver) before) open_off l.office.1 in
        let stay : has_lawful_length history.open_off step before ≡ true =
        subst (λ (o : ℕ). has_lawful_length o step before ≡ true) open_off l.office.0.stay in
        let run : open_run (whole (past_of history) (line_after case.week before)) ≡ open_at history.open_off before =
        open_run-partial case.week history (capacity_at case driver) before c.week keeps in
        let off : clock.off ≡ open_run (whole (past_of history) (line_after case.week before)) =
        s.off ∙ ap (λ (p : Past). open_run (whole p (line_after case.week before))) past in
        omega (arith, rests-some history.open_off step before stay r, run, off)

-- a rest that must be tried is no shorter than the rules ask
rest-long : (case : Case) (driver : ℕ) (pairs : Pairs) (clock : Clock) (off : ℕ) (kind : Kind) (act : Act) (before : PartialDuty) → IsCase case →
    Stands clock (past_at case driver) (line_after case.week before) → is_rest kind ≡ true →
    MayFollow case driver pairs (record { stay = record { ready = 0; off = off; kind = kind }; act = act }) before →
    least_rest kind clock.prev_weekly clock.owed ≤ clock.off + off
rest-long case driver pairs clock off kind act before c s r m =
    run-long clock (past_at case driver) off (minutes_of case.week (place_after before) act) (mark_of act) kind (line_after case.week before) (duty-act act) s
    (small-act case.week (place_after before) act c.week m.lawful.office.0.road).some m.lawful.hours
    (run-some case driver clock (record { stay = record { ready = 0; off = off; kind = kind }; act = act }) before c m.lawful s r)

-- a rest that is shorter need not be tried
pub short-tried : (asked : Asked) (store : LabelStore) (n : ℕ) (from : Label) (kind : Kind) (start : ℕ) (act : Act) → IsAsked asked →
    IsSearch asked from.clock.at store → MayExtend asked store n from → is_rest kind ≡ true →
    from.clock.off + (start - from.clock.at) < least_rest kind from.clock.prev_weekly from.clock.owed →
    HasTried asked store n (record { stay = rest_stay from.clock.at kind start; act = act })
short-tried asked store n from kind start act is s x r short =
    let step : Step = record { stay = rest_stay from.clock.at kind start; act = act } in
    let has = from-has asked store n from step is s x in
    tried-none asked store n from step is s x
    (λ m. let long = rest-long asked.case.now asked.driver asked.pairs.now from.clock (start - from.clock.at) kind act x.entry.partial is.is_case
    has.label_of.clock r m in omega (arith, short, long))

-- a turn before one is earlier
pub turn-before : (turn end grid : ℕ) → (grid ≡ 15) ⊎ ((grid ≡ 30) ⊎ (grid ≡ 60)) → turn < end / grid + min 1 (end % grid) → turn * grid < end
turn-before turn end grid (inl e) l = rw e (let x : turn < end / 15 + min 1 (end % 15) = rw (sym e) l in omega arith)
turn-before turn end grid (inr (inl e)) l = rw e (let x : turn < end / 30 + min 1 (end % 30) = rw (sym e) l in omega arith)
turn-before turn end grid (inr (inr e)) l = rw e (let x : turn < end / 60 + min 1 (end % 60) = rw (sym e) l in omega arith)
