-- The stints of a partial duty are a line, and have its minutes.
use Rattle.std.proofs.Common.{◌≡◌, ℕ, zero, suc, ◌+◌, ◌≤◌, Bool, true, false, ◌&&◌, ◌||◌, ltb, List, [], ◌∷◌, ◌++◌, length, fold, refl, ap, ◌∙◌, arith, append_assoc, Option, Some, None, is_some, reverse, take, get_or, ◌<◌}
use Rattle.std.proofs.lemmas.Bool.{le-leb, eqb-true}
use Rattle.std.proofs.lemmas.List.{append-nil}
use Rattle.std.proofs.lemmas.List.Sums.{fold-append}
use Rattle.minute_line.specs.declared.marks.Mark.{Mark}
use Rattle.minute_line.specs.declared.marks.Mark.TheVariants.{Drive, Work, Ready, Off}
use Rattle.minute_line.specs.declared.marks.Kind.{Kind}
use Rattle.minute_line.specs.declared.marks.Kind.TheVariants.{Plain, Daily, Weekly}
use Rattle.minute_line.specs.declared.marks.Stint.{Stint}
use Rattle.minute_line.specs.Marks.{is_duty, is_off}
use Rattle.minute_line.specs.Minutes.{Reached, stretch, add_stint, nothing, reached_by}
use Rattle.minute_line.specs.Stints.{is_line, each_follows, may_follow, only_declares}
use Rattle.hours_rules.specs.declared.clocks.Stay.{Stay}
use Rattle.week_book.specs.declared.weeks.Leg.{Leg as Road}
use Rattle.week_book.specs.declared.weeks.Order.{Order}
use Rattle.week_book.specs.declared.weeks.Week.{Week}
use Rattle.week_book.specs.Weeks.{road, order_of, IsWeek, IsLeg, IsOrder}
use Rattle.duty_plan.specs.declared.duties.Act.{Act}
use Rattle.duty_plan.specs.declared.duties.Act.TheVariants.{Leg, Serve, Load}
use Rattle.duty_plan.specs.declared.duties.Step.{Step}
use Rattle.duty_plan.specs.Acts.{can_be_done, is_at, mark_of, minutes_of, place_by, minutes_of_road, minutes_of_order}
use Rattle.duty_plan.specs.PartialDuties.{PartialDuty, place_after, line_after, has_lengths, is_length, has_lawful_length, KeepsOfficeThrough}
use Rattle.duty_plan.specs.Stints.{ready_stints, off_stints, stay_stints, stints_of, HasLine, is_known}
use Rattle.duty_plan.proofs.Lists.{reverse-more}
use Rattle.duty_plan.proofs.WeekLimits.{all-find, all-slice_get}
use Rattle.duty_plan.proofs.Runs.{both, duty-act}

-- ---- they are a line

known-road : (week : Week) (from to : ℕ) (found : Option Road) → IsWeek week → road week from to ≡ found → is_some found ≡ true → 1 ≤ minutes_of_road found
known-road week from to None w e h = cc
known-road week from to (Some leg) w e h =
    (all-find (IsLeg (length week.places)) _ week.legs leg w.legs e).minutes.0

known-order : (week : Week) (order : ℕ) (found : Option Order) → IsWeek week → order_of week order ≡ found → is_some found ≡ true → 1 ≤ minutes_of_order found
known-order week order None w e h = cc
known-order week order (Some o) w e h =
    (all-slice_get (IsOrder (length week.places)) week.orders order o w.orders e).service.0

known-some : (week : Week) (place : ℕ) (act : Act) → IsWeek week → is_known week place act ≡ true → 1 ≤ minutes_of week place act
known-some week place (Leg to) w h = known-road week place to (road week place to) w refl h
known-some week place (Serve order) w h = known-order week order (order_of week order) w refl h
known-some week place Load w h = w.load.0

abbrev on_duty : Mark → ℕ → Stint
on_duty mark n = record { mark = mark; minutes = n; kind = Plain }

follows-duty : (mark : Mark) (n : ℕ) (rest : List Stint) (after : Bool) → is_duty mark ≡ true → 1 ≤ n → each_follows false rest ≡ true →
    each_follows after (on_duty mark n ∷ rest) ≡ true
follows-duty Off n rest after d l h = cc
follows-duty Drive n rest true d l h = rw (le-leb 1 n l) h
follows-duty Drive n rest false d l h = rw (le-leb 1 n l) h
follows-duty Work n rest true d l h = rw (le-leb 1 n l) h
follows-duty Work n rest false d l h = rw (le-leb 1 n l) h
follows-duty Ready n rest true d l h = rw (le-leb 1 n l) h
follows-duty Ready n rest false d l h = rw (le-leb 1 n l) h

follows-off : (n : ℕ) (kind : Kind) (rest : List Stint) → 1 ≤ n → each_follows true rest ≡ true →
    each_follows false (record { mark = Off; minutes = n; kind = kind } ∷ rest) ≡ true
follows-off n kind rest l h = rw (le-leb 1 n l) h

follows-offs : (off : ℕ) (kind : Kind) (rest : List Stint) → is_length kind off ≡ true → ((after : Bool) → each_follows after rest ≡ true) →
    each_follows false (off_stints off kind ++ rest) ≡ true
follows-offs zero Plain rest e h = h false
follows-offs zero Daily rest e h = cc
follows-offs zero Weekly rest e h = cc
follows-offs (suc n) kind rest e h = follows-off (suc n) kind rest (omega arith) (h true)

follows-stay : (ready off : ℕ) (kind : Kind) (rest : List Stint) → is_length kind off ≡ true → ((after : Bool) → each_follows after rest ≡ true) →
    each_follows false ((ready_stints ready ++ off_stints off kind) ++ rest) ≡ true
follows-stay zero off kind rest e h = follows-offs off kind rest e h
follows-stay (suc n) off kind rest e h =
    follows-duty Ready (suc n) (off_stints off kind ++ rest) false refl (omega arith) (follows-offs off kind rest e h)

line-follows : (stints : List Stint) → each_follows false stints ≡ true → is_line stints ≡ true
line-follows [] h = refl
line-follows (s ∷ rest) h = let b = both (may_follow false s) (each_follows (is_off s.mark) rest) h in rw (b.0, b.1) (by_or (only_declares s))
  where
    by_or : (a : Bool) → ((a || true) && true) ≡ true
    by_or true = refl
    by_or false = refl

line-open : (off : ℕ) (kind : Kind) (rest : List Stint) → ((after : Bool) → each_follows after rest ≡ true) → is_line (off_stints off kind ++ rest) ≡ true
line-open zero Plain rest h = line-follows rest (h false)
line-open zero Daily rest h = h true
line-open zero Weekly rest h = h true
line-open (suc n) kind rest h = line-follows (record { mark = Off; minutes = suc n; kind = kind } ∷ rest) (follows-off (suc n) kind rest (omega arith) (h true))

line-first : (b : Bool) (stay : Stay) (rest : List Stint) → has_lengths b stay ≡ true → ((after : Bool) → each_follows after rest ≡ true) →
    is_line (stay_stints stay ++ rest) ≡ true
line-first false stay rest e h = line-follows (stay_stints stay ++ rest) (follows-stay stay.ready stay.off stay.kind rest e h)
line-first true stay rest e h =
    let none : stay.ready ≡ 0 = eqb-true stay.ready 0 (both _ _ e).0 in rw none (line-open stay.off stay.kind rest h)

-- what may come after a partial duty
abbrev GoesAfter : PartialDuty → List Stint → Type 0
GoesAfter [] rest = is_line rest ≡ true
GoesAfter (step ∷ before) rest = each_follows false rest ≡ true

goes-step : (open_off : ℕ) (step : Step) (before : PartialDuty) (rest : List Stint) → has_lawful_length open_off step before ≡ true →
    ((after : Bool) → each_follows after rest ≡ true) → GoesAfter before (stay_stints step.stay ++ rest)
goes-step open_off step [] rest e h = line-first (ltb 0 open_off) step.stay rest e h
goes-step open_off step (s ∷ before) rest e h = follows-stay step.stay.ready step.stay.off step.stay.kind rest e h

line-more : (week : Week) (open_off : ℕ) (partial : PartialDuty) (rest : List Stint) → IsWeek week → HasLine week open_off partial → GoesAfter partial rest →
    is_line (stints_of week partial ++ rest) ≡ true
line-more week open_off [] rest w g h = h
line-more week open_off (step ∷ before) rest w g h =
    let act : Stint = on_duty (mark_of step.act) (minutes_of week (place_after before) step.act) in
    let next : is_line (stints_of week before ++ (stay_stints step.stay ++ (act ∷ rest))) ≡ true =
    line-more week open_off before (stay_stints step.stay ++ (act ∷ rest)) w g.1
    (goes-step open_off step before (act ∷ rest) g.0.stay
    (λ after. follows-duty (mark_of step.act) (minutes_of week (place_after before) step.act) rest after (duty-act step.act)
    (known-some week (place_after before) step.act w g.0.known) h)) in
    let joined : stints_of week (step ∷ before) ++ rest ≡ stints_of week before ++ (stay_stints step.stay ++ (act ∷ rest)) =
    append_assoc (stints_of week before) (stay_stints step.stay ++ act ∷ []) rest
    ∙ ap (λ (x : List Stint). stints_of week before ++ x) (append_assoc (stay_stints step.stay) (act ∷ []) rest) in
    ap is_line joined ∙ next

pub line-partial : (week : Week) (open_off : ℕ) (partial : PartialDuty) → IsWeek week → HasLine week open_off partial → is_line (stints_of week partial) ≡ true
line-partial week open_off [] w g = refl
line-partial week open_off (step ∷ before) w g =
    rw (← append-nil (stints_of week (step ∷ before))) (line-more week open_off (step ∷ before) [] w g refl)

-- one step more, as a loop goes
pub stints-more : (week : Week) (old next : List Stint) (steps : List Step) (i : ℕ) (step d : Step) (mark : Mark) (place n : ℕ) →
    next ≡ (old ++ stay_stints step.stay) ++ (record { mark = mark; minutes = n; kind = Plain } ∷ []) → old ≡ stints_of week (reverse (take i steps)) →
    place ≡ place_after (reverse (take i steps)) → mark ≡ mark_of step.act → n ≡ minutes_of week place step.act →
    i < length steps → step ≡ get_or steps i d → next ≡ stints_of week (reverse (take (i + 1) steps))
stints-more week old next steps i step d mark place n e o p m k l g =
    let minutes : n ≡ minutes_of week (place_after (reverse (take i steps))) step.act = k ∙ ap (λ (x : ℕ). minutes_of week x step.act) p in
    rw (reverse-more steps i step d l g)
    (e ∙ (append_assoc old (stay_stints step.stay) _ ∙ rw (o, m, minutes) refl))

pub place-more : (steps : List Step) (i : ℕ) (step d : Step) (place next : ℕ) → next ≡ place_by step.act place → place ≡ place_after (reverse (take i steps)) →
    i < length steps → step ≡ get_or steps i d → next ≡ place_after (reverse (take (i + 1) steps))
place-more steps i step d place next e p l g = rw (reverse-more steps i step d l g) (e ∙ ap (place_by step.act) p)

-- ---- they have the partial duty's minutes

after_ready : (n : ℕ) (r : Reached) → r.declared ≡ Plain →
    fold add_stint r (ready_stints n) ≡ record { minutes = stretch n Ready Plain r.minutes; declared = Plain }
after_ready zero r e = rw e refl
after_ready (suc n) r e = rw e refl

after_off : (n : ℕ) (kind : Kind) (r : Reached) → r.declared ≡ Plain →
    fold add_stint r (off_stints n kind) ≡ record { minutes = stretch n Off Plain r.minutes; declared = kind }
after_off zero Plain r e = rw e refl
after_off zero Daily r e = refl
after_off zero Weekly r e = refl
after_off (suc n) Plain r e = refl
after_off (suc n) Daily r e = refl
after_off (suc n) Weekly r e = refl

after_act : (act : Act) (n : ℕ) (r : Reached) →
    add_stint r (on_duty (mark_of act) n) ≡ record { minutes = stretch n (mark_of act) r.declared r.minutes; declared = Plain }
after_act (Leg to) n r = refl
after_act (Serve order) n r = refl
after_act Load n r = refl

pub reached-partial : (week : Week) (partial : PartialDuty) → reached_by (stints_of week partial) ≡ record { minutes = line_after week partial; declared = Plain }
reached-partial week [] = refl
reached-partial week (step ∷ before) =
    let n : ℕ = minutes_of week (place_after before) step.act in
    let act : Stint = on_duty (mark_of step.act) n in
    let start : Reached = record { minutes = line_after week before; declared = Plain } in
    let waited : Reached = record { minutes = stretch step.stay.ready Ready Plain start.minutes; declared = Plain } in
    fold-append add_stint nothing (stints_of week before) (stay_stints step.stay ++ act ∷ [])
    ∙ (ap (λ (r : Reached). fold add_stint r (stay_stints step.stay ++ act ∷ [])) (reached-partial week before)
    ∙ (fold-append add_stint start (stay_stints step.stay) (act ∷ [])
    ∙ (ap (λ (r : Reached). add_stint r act) (fold-append add_stint start (ready_stints step.stay.ready) (off_stints step.stay.off step.stay.kind)
    ∙ (ap (λ (r : Reached). fold add_stint r (off_stints step.stay.off step.stay.kind)) (after_ready step.stay.ready start refl)
    ∙ after_off step.stay.off step.stay.kind waited refl))
    ∙ after_act step.act n _)))

-- ---- a lawful duty has a line

known-done : (week : Week) (place : ℕ) (act : Act) → can_be_done week place act ≡ true → is_known week place act ≡ true
known-done week place (Leg to) h = h
known-done week place Load h = refl
known-done week place (Serve order) h = by_order (order_of week order) h
  where
    by_order : (found : Option Order) → is_at found place ≡ true → is_some found ≡ true
    by_order None t = cc
    by_order (Some o) t = refl

pub keeps-line : (week : Week) (open_off capacity : ℕ) (partial : PartialDuty) → KeepsOfficeThrough week open_off capacity partial → HasLine week open_off partial
keeps-line week open_off capacity [] k = tt
keeps-line week open_off capacity (step ∷ before) k =
    (record { stay = k.0.stay; known = known-done week (place_after before) step.act k.0.road }, keeps-line week open_off capacity before k.1)
