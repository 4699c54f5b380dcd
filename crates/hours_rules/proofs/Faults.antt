-- The first fault in a block of minutes of one mark.
use Rattle.std.proofs.Common.{◌≡◌, ℕ, ◌+◌, ◌-◌, ◌≤◌, ◌<◌, Bool, true, false, not, leb, ltb, List, [], ◌∷◌, length, refl, ap, sym, subst, ◌∙◌, arith, suc, zero, Option, Some, None, find, option_map, le-leb, cond, ⊎_elim, inl, inr, ◌⊎◌}
use Rattle.std.specs.Option.{option_or}
use Rattle.std.proofs.lemmas.Bool.{lt-leb, cases_lt, le-ltb, lt-ltb, not-false}
use Rattle.minute_line.specs.declared.marks.Mark.{Mark}
use Rattle.minute_line.specs.declared.marks.Mark.TheVariants.{Off}
use Rattle.minute_line.specs.declared.marks.Kind.{Kind}
use Rattle.minute_line.specs.Minutes.{Minute, Minutes, stretch}
use Rattle.hours_rules.specs.declared.clocks.Clock.{Clock}
use Rattle.hours_rules.specs.declared.rules.Broken.{Broken}
use Rattle.hours_rules.specs.declared.rules.Rule.{Rule}
use Rattle.hours_rules.specs.declared.rules.Rule.TheVariants.{H1, H2, H3, H4, H5, H6, H7, H8, H9, H10, H11, H12}
use Rattle.minute_line.specs.Marks.{is_duty}
use Rattle.hours_rules.specs.Rules.{Past, holds, failing, fault_at, all_rules, fault_from}
use Rattle.hours_rules.specs.Standing.{Stands}
use Rattle.hours_rules.specs.Machine.{run_ended, ticked, room, least_room, fault_within}
use Rattle.hours_rules.proofs.Rooms.{holds-within, fails-past}
use Rattle.hours_rules.proofs.Blocks.{stands-block}

pub find-none : (test : Rule → Bool) (rs : List Rule) → ((r : Rule) → test r ≡ false) → find test rs ≡ None
find-none test [] h = refl
find-none test (r ∷ rs) h = rw (h r) (find-none test rs h)

pub find-same : (p q : Rule → Bool) (rs : List Rule) → ((r : Rule) → p r ≡ q r) → find p rs ≡ find q rs
find-same p q [] h = refl
find-same p q (r ∷ rs) h = rw (h r, find-same p q rs h) refl

cases_le : (a b : ℕ) → (a ≤ b) ⊎ (b < a)
cases_le a b = ⊎_elim (λ g. inr g) (λ g. inl g) (cases_lt b a)

-- the least room is that of some rule, where it is below n
find-least : (f : Rule → ℕ) (n : ℕ) (rs : List Rule) (k : ℕ) → least_room f n rs ≤ k → k < n →
    (r : Rule) × (find (λ rule. leb (f rule) k) rs ≡ Some r)
find-least f n [] k h l = absurd (omega arith)
find-least f n (r ∷ rs) k h l = by_cases (λ b. find-least f n rs k b l) (cases_le (f r) k)
  where
    by_cases : (least_room f n rs ≤ k → (x : Rule) × (find (λ rule. leb (f rule) k) rs ≡ Some x)) →
        (f r ≤ k) ⊎ (k < f r) → (x : Rule) × (find (λ rule. leb (f rule) k) (r ∷ rs) ≡ Some x)
    by_cases more (inl g) = let e : leb (f r) k ≡ true = le-leb (f r) k g in (r, rw e refl)
    by_cases more (inr g) =
        let e : leb (f r) k ≡ false = lt-leb (f r) k g in
        let below : least_room f n rs ≤ k = omega arith in ((more below).0, rw e (more below).1)

none_first : (test : Rule → Bool) (r : Rule) (rs : List Rule) → find test (r ∷ rs) ≡ None → (test r ≡ false) × (find test rs ≡ None)
none_first test r rs h = by_test (test r) refl
  where
    by_test : (b : Bool) → test r ≡ b → (test r ≡ false) × (find test rs ≡ None)
    by_test true e = let bad : find test (r ∷ rs) ≡ Some r = rw e refl in cc
    by_test false e = let same : find test (r ∷ rs) ≡ find test rs = rw e refl in (e, sym same ∙ h)

nth_rule : List Rule → ℕ → Option Rule
nth_rule [] k = None
nth_rule (r ∷ rs) zero = Some r
nth_rule (r ∷ rs) (suc k) = nth_rule rs k

least_room-nth : (f : Rule → ℕ) (n : ℕ) (rs : List Rule) (k : ℕ) (r : Rule) → nth_rule rs k ≡ Some r → least_room f n rs ≤ f r
unfolding nth_rule
least_room-nth f n [] k r h = cc
least_room-nth f n (x ∷ rs) zero r h = let e : x ≡ r = cc in rw (← e) (omega arith)
least_room-nth f n (x ∷ rs) (suc k) r h = omega (arith, least_room-nth f n rs k r h)

pub least_room-le : (f : Rule → ℕ) (n : ℕ) (r : Rule) → least_room f n all_rules ≤ f r
unfolding nth_rule
least_room-le f n H1 = least_room-nth f n all_rules 0 H1 refl
least_room-le f n H2 = least_room-nth f n all_rules 1 H2 refl
least_room-le f n H3 = least_room-nth f n all_rules 2 H3 refl
least_room-le f n H4 = least_room-nth f n all_rules 3 H4 refl
least_room-le f n H5 = least_room-nth f n all_rules 4 H5 refl
least_room-le f n H6 = least_room-nth f n all_rules 5 H6 refl
least_room-le f n H7 = least_room-nth f n all_rules 6 H7 refl
least_room-le f n H8 = least_room-nth f n all_rules 7 H8 refl
least_room-le f n H9 = least_room-nth f n all_rules 8 H9 refl
least_room-le f n H10 = least_room-nth f n all_rules 9 H10 refl
least_room-le f n H11 = least_room-nth f n all_rules 10 H11 refl
least_room-le f n H12 = least_room-nth f n all_rules 11 H12 refl

pub least_room-at_most : (f : Rule → ℕ) (n : ℕ) (rs : List Rule) → least_room f n rs ≤ n
least_room-at_most f n [] = omega arith
least_room-at_most f n (r ∷ rs) = omega (arith, least_room-at_most f n rs)

-- each rule holds at the minutes that its room allows, and fails at the next one
pub record Allows (past : Past) (mark : Mark) (kind : Kind) (week : Minutes) (f : Rule → ℕ) : Type 0 where
  pub within : (j : ℕ) (r : Rule) → j < f r →
      holds past (record { mark = mark; kind = kind }) (stretch j mark kind week) r ≡ true
  pub beyond : (j : ℕ) (r : Rule) → f r ≡ j → j < 20000 →
      holds past (record { mark = mark; kind = kind }) (stretch j mark kind week) r ≡ false

first_none : (late : Bool) (n : ℕ) → fault_at n (cond late None None) ≡ None
first_none true n = refl
first_none false n = refl

pub no_fault-within : (o : ℕ) (past : Past) (j : ℕ) (mark : Mark) (kind : Kind) (week : Minutes) (f : Rule → ℕ) →
    Allows past mark kind week f → fault_from o past week ≡ None →
    ((r : Rule) → j ≤ f r) → fault_from o past (stretch j mark kind week) ≡ None
no_fault-within o past zero mark kind week f a none h = none
no_fault-within o past (suc j) mark kind week f a none h =
    let before : fault_from o past (stretch j mark kind week) ≡ None = no_fault-within o past j mark kind week f a none (λ r. omega (arith, h r)) in
    let now : failing past (record { mark = mark; kind = kind }) (stretch j mark kind week) ≡ None =
    find-none _ all_rules (λ r. ap not (a.within j r (omega (arith, h r)))) in
    rw (before, now) (first_none (ltb (length (stretch j mark kind week)) o) _)

pub length-stretch : (n : ℕ) (mark : Mark) (kind : Kind) (week : Minutes) → length (stretch n mark kind week) ≡ length week + n
length-stretch zero mark kind week = omega arith
length-stretch (suc n) mark kind week = omega (arith, length-stretch n mark kind week)

pub fault_stays : (o : ℕ) (past : Past) (b : Broken) (k : ℕ) (mark : Mark) (kind : Kind) (week : Minutes) →
    fault_from o past week ≡ Some b → fault_from o past (stretch k mark kind week) ≡ Some b
fault_stays o past b zero mark kind week h = h
fault_stays o past b (suc k) mark kind week h = rw (fault_stays o past b k mark kind week h) refl

pub stretch-add : (k n : ℕ) (mark : Mark) (kind : Kind) (week : Minutes) → stretch (k + n) mark kind week ≡ stretch k mark kind (stretch n mark kind week)
stretch-add zero n mark kind week = let e : 0 + n ≡ n = omega arith in rw e refl
stretch-add (suc k) n mark kind week =
    let e : suc k + n ≡ suc (k + n) = omega arith in
    rw (e, stretch-add k n mark kind week) refl

-- where the least room ends, a rule fails, and it is the least one
fault-at_room : (o : ℕ) (past : Past) (k : ℕ) (mark : Mark) (kind : Kind) (week : Minutes) (f : Rule → ℕ) →
    Allows past mark kind week f → fault_from o past week ≡ None → o ≤ length week → k < 20000 → ((r : Rule) → k ≤ f r) →
    fault_from o past (stretch (suc k) mark kind week) ≡ option_map (λ rule. record { rule = rule; minute = length week + k }) (find (λ rule. leb (f rule) k) all_rules)
fault-at_room o past k mark kind week f a none judged small h =
    let before : fault_from o past (stretch k mark kind week) ≡ None = no_fault-within o past k mark kind week f a none h in
    let now : failing past (record { mark = mark; kind = kind }) (stretch k mark kind week) ≡ find (λ rule. leb (f rule) k) all_rules =
    find-same _ _ all_rules (λ r. at_rule r (cases_le (f r) k)) in
    let late : ltb (length (stretch k mark kind week)) o ≡ false = le-ltb _ _ (omega (arith, length-stretch k mark kind week)) in
    rw (before, now, late, length-stretch k mark kind week) refl
  where
    at_rule : (r : Rule) → (f r ≤ k) ⊎ (k < f r) →
        not (holds past (record { mark = mark; kind = kind }) (stretch k mark kind week) r) ≡ leb (f r) k
    at_rule r (inl g) =
        let e : f r ≡ k = omega (arith, h r) in
        let fails : holds past (record { mark = mark; kind = kind }) (stretch k mark kind week) r ≡ false = a.beyond k r e small in
        rw fails (sym (le-leb (f r) k g))
    at_rule r (inr g) =
        let fine : holds past (record { mark = mark; kind = kind }) (stretch k mark kind week) r ≡ true = a.within k r g in
        rw fine (sym (lt-leb (f r) k g))

-- the first fault in n minutes
fault-block_at : (o : ℕ) (past : Past) (n : ℕ) (mark : Mark) (kind : Kind) (week : Minutes) (f : Rule → ℕ) (k at : ℕ) →
    Allows past mark kind week f → fault_from o past week ≡ None → o ≤ length week → n ≤ 20000 → k ≡ least_room f n all_rules → at ≡ length week →
    fault_from o past (stretch n mark kind week) ≡ cond (leb n k) None
    (option_map (λ rule. record { rule = rule; minute = at + k }) (find (λ rule. leb (f rule) k) all_rules))
fault-block_at o past n mark kind week f k at a none judged small e at_is = rw at_is (by_cases (cases_le n k))
  where
    le : (r : Rule) → k ≤ f r
    le r = rw e (least_room-le f n r)

    by_cases : (n ≤ k) ⊎ (k < n) → fault_from o past (stretch n mark kind week) ≡ cond (leb n k) None
        (option_map (λ rule. record { rule = rule; minute = length week + k }) (find (λ rule. leb (f rule) k) all_rules))
    by_cases (inl g) = let t : leb n k ≡ true = le-leb n k g in
        rw t (no_fault-within o past n mark kind week f a none (λ r. omega (arith, le r)))
    by_cases (inr g) =
        let t : leb n k ≡ false = lt-leb n k g in
        let found = find-least f n all_rules k (rw e (omega arith)) g in
        let b : Broken = record { rule = found.0; minute = length week + k } in
        let there : fault_from o past (stretch (suc k) mark kind week) ≡ Some b =
        fault-at_room o past k mark kind week f a none judged (omega arith) le ∙ rw found.1 refl in
        let sum : n ≡ (n - suc k) + suc k = omega arith in
        let split : stretch n mark kind week ≡ stretch (n - suc k) mark kind (stretch (suc k) mark kind week) =
        ap (λ x. stretch x mark kind week) sum ∙ stretch-add (n - suc k) (suc k) mark kind week in
        rw (t, split, found.1) (fault_stays o past b (n - suc k) mark kind (stretch (suc k) mark kind week) there)

pub allows-clock : (c : Clock) (past : Past) (mark : Mark) (kind : Kind) (week : Minutes) → is_duty mark ≡ true →
    Stands c past week → Allows past mark kind week (room c (run_ended c kind) mark kind)
allows-clock c past mark kind week d s = record {
  within = λ j r h. holds-within c past j mark kind week d s r h;
  beyond = λ j r h l. fails-past c past j mark kind week d s r h l;
}

pub fault-block : (o : ℕ) (c : Clock) (past : Past) (n : ℕ) (mark : Mark) (kind : Kind) (week : Minutes) → is_duty mark ≡ true →
    Stands c past week → fault_from o past week ≡ None → o ≤ length week → n ≤ 20000 →
    fault_from o past (stretch n mark kind week) ≡ fault_within (room c (run_ended c kind) mark kind) c.at n
fault-block o c past n mark kind week d s none judged small =
    fault-block_at o past n mark kind week _ _ _ (allows-clock c past mark kind week d s) none judged small refl s.at

-- the clock after a block of n minutes
pub block-stands : (c : Clock) (past : Past) (n : ℕ) (mark : Mark) (kind : Kind) (week : Minutes) → is_duty mark ≡ true → 0 < n →
    Stands c past week → Stands (ticked (run_ended c kind) mark n) past (stretch n mark kind week)
block-stands c past zero mark kind week d h s = absurd (omega arith)
block-stands c past (suc n) mark kind week d h s = stands-block c past n mark kind week d s

-- the same, by what the code found
pub fault-found : (o : ℕ) (c e : Clock) (past : Past) (n : ℕ) (mark : Mark) (kind : Kind) (week : Minutes) (found : Option Broken) →
    e ≡ run_ended c kind → found ≡ fault_within (room c e mark kind) c.at n →
    is_duty mark ≡ true → Stands c past week → fault_from o past week ≡ None → o ≤ length week → n ≤ 20000 →
    fault_from o past (stretch n mark kind week) ≡ found
fault-found o c e past n mark kind week found is h d s none judged small =
    let Same : Clock → Type 0 = λ x. found ≡ fault_within (room c x mark kind) c.at n in
    fault-block o c past n mark kind week d s none judged small ∙ sym (subst Same is h)

-- no minute before `o` is judged
pub none_judged : (o : ℕ) (past : Past) (week : Minutes) → length week ≤ o → fault_from o past week ≡ None
none_judged o past [] h = refl
none_judged o past (m ∷ week) h =
    let before : fault_from o past week ≡ None = none_judged o past week (omega arith) in
    let early : ltb (length week) o ≡ true = lt-ltb (length week) o (omega arith) in rw (before, early) refl

same_first : (o : Option Broken) (late : Bool) (n : ℕ) → option_or o (fault_at n (cond late None None)) ≡ o
same_first None late n = first_none late n
same_first (Some b) late n = refl

-- Off minutes break no rule
pub fault-off : (o : ℕ) (past : Past) (k : ℕ) (kind : Kind) (week : Minutes) →
    fault_from o past (stretch k Off kind week) ≡ fault_from o past week
fault-off o past zero kind week = refl
fault-off o past (suc k) kind week = same_first _ _ _ ∙ fault-off o past k kind week

-- where no rule of a list fails, each holds
none-nth : (test : Rule → Bool) (rs : List Rule) (k : ℕ) (r : Rule) → nth_rule rs k ≡ Some r → find test rs ≡ None → test r ≡ false
unfolding nth_rule
none-nth test [] k r e h = cc
none-nth test (x ∷ rs) zero r e h = let same : x ≡ r = cc in rw (← same) (none_first test x rs h).0
none-nth test (x ∷ rs) (suc k) r e h = none-nth test rs k r e (none_first test x rs h).1

pub all-hold : (p : Past) (m : Minute) (w : Minutes) → failing p m w ≡ None → (r : Rule) → holds p m w r ≡ true
unfolding nth_rule
all-hold p m w h H1 = not-false _ (none-nth (λ r. not (holds p m w r)) all_rules 0 H1 refl h)
all-hold p m w h H2 = not-false _ (none-nth (λ r. not (holds p m w r)) all_rules 1 H2 refl h)
all-hold p m w h H3 = not-false _ (none-nth (λ r. not (holds p m w r)) all_rules 2 H3 refl h)
all-hold p m w h H4 = not-false _ (none-nth (λ r. not (holds p m w r)) all_rules 3 H4 refl h)
all-hold p m w h H5 = not-false _ (none-nth (λ r. not (holds p m w r)) all_rules 4 H5 refl h)
all-hold p m w h H6 = not-false _ (none-nth (λ r. not (holds p m w r)) all_rules 5 H6 refl h)
all-hold p m w h H7 = not-false _ (none-nth (λ r. not (holds p m w r)) all_rules 6 H7 refl h)
all-hold p m w h H8 = not-false _ (none-nth (λ r. not (holds p m w r)) all_rules 7 H8 refl h)
all-hold p m w h H9 = not-false _ (none-nth (λ r. not (holds p m w r)) all_rules 8 H9 refl h)
all-hold p m w h H10 = not-false _ (none-nth (λ r. not (holds p m w r)) all_rules 9 H10 refl h)
all-hold p m w h H11 = not-false _ (none-nth (λ r. not (holds p m w r)) all_rules 10 H11 refl h)
all-hold p m w h H12 = not-false _ (none-nth (λ r. not (holds p m w r)) all_rules 11 H12 refl h)
