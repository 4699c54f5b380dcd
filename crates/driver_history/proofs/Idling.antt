-- More than sixteen idle weeks give what sixteen give.
use Rattle.std.proofs.Common.{◌≡◌, ℕ, ◌+◌, ◌-◌, ◌*◌, ◌/◌, ◌≤◌, ◌<◌, true, false, cond, nat_eq, List, [], ◌∷◌, ◌++◌, refl, fold, arith, suc, zero, sym, ◌∙◌, ap, min, length, replicate, drop, append_assoc, append-nil, length-drop, ◌⊎◌, inl, inr}
use Rattle.std.proofs.lemmas.Bool.{cases_lt}
use Rattle.std.proofs.lemmas.Bool.Decides.{nat_tests}
use Rattle.std.proofs.lemmas.List.Sums.{fold-append}
use Rattle.minute_line.specs.declared.marks.Kind.TheVariants.{Plain}
use Rattle.minute_line.specs.declared.lines.History.{History}
use Rattle.minute_line.specs.Histories.{Fields, fields_of}
use Rattle.minute_line.specs.Stints.{is_past}
use Rattle.driver_history.specs.Carrying.{SinceWeeklyRestFields, rest, no_line, all_stints, add_off, carry}
use Rattle.hours_rules.specs.Debts.{Debt}
use Rattle.hours_rules.specs.Verdicts.{debt_from}
use Rattle.driver_history.specs.Debts.{weeks_due}
use Rattle.driver_history.specs.Advancing.{left_of, advance_of, idle_of}
use Rattle.driver_history.proofs.Pasts.{uncut-fold, past-fold, open-fold, lasts-past, cuts-past}
use Rattle.driver_history.proofs.Joining.{joined-fold, rerun, all-rerun}
use Rattle.driver_history.proofs.Sixteen.{none_left}
use Rattle.driver_history.proofs.Beginnings.{left-idle}

-- the stints, joined
abbrev pub joined_of : Fields → SinceWeeklyRestFields
joined_of f = fold carry (no_line f.prev_weekly) f.stints

idle-left : (f : Fields) → left_of f [] ≡ add_off (add_off (joined_of f) f.open_off Plain) 10080 Plain
idle-left f = fold-append carry (no_line f.prev_weekly) f.stints (rest f.open_off Plain ∷ rest 10080 Plain ∷ [])

-- a history after one idle week
pub record Idled (f g : Fields) : Type 0 where
  pub past : is_past false g.stints ≡ true
  pub prev : g.prev_weekly ≡ f.prev_weekly
  pub stints : g.stints ≡ all_stints (joined_of f)
  pub open_run : g.open_off ≡ min 20160 (f.open_off + 10080)
  pub drive : g.prev_drive ≡ 0
  pub weeks : g.work16 ≡ drop 1 f.work16 ++ 0 ∷ []
  pub owed : g.owed ≡ f.owed
  pub due : g.due ≡ cond (nat_eq f.owed 0) 0 (f.due - 1)

week_less : (f : Fields) → weeks_due (debt_from f) ≡ cond (nat_eq f.owed 0) 0 (f.due - 1)
week_less f = let same : (f.due * 10080) / 10080 ≡ f.due = omega arith in rw same refl

pub idled : (f : Fields) → is_past false f.stints ≡ true → Idled f (advance_of f [])
idled f h =
    let e = idle-left f in
    let u = uncut-fold f.stints (no_line f.prev_weekly) false (λ x. x) (cuts-past false f.stints h) in
    let o : (joined_of f).open_off ≡ 0 = open-fold false f.stints (no_line f.prev_weekly) h (λ x. refl) in
    let s : (advance_of f []).stints ≡ all_stints (joined_of f) = rw e refl in
    record {
      past = rw s (past-fold f.stints (no_line f.prev_weekly) (lasts-past false f.stints h) refl);
      prev = rw e u.prev;
      stints = s;
      open_run = rw e (omega arith);
      drive = refl;
      weeks = refl;
      owed = ap (λ (d : Debt). d.owed) (left-idle f h);
      due = ap weeks_due (left-idle f h) ∙ week_less f;
    }

-- stints that were joined stay as they are
joined_again : (f g : Fields) → is_past false f.stints ≡ true → Idled f g → all_stints (joined_of g) ≡ g.stints
joined_again f g h i =
    let j = joined-fold f.prev_weekly f.stints (lasts-past false f.stints h) in
    let u = uncut-fold f.stints (no_line f.prev_weekly) false (λ x. x) (cuts-past false f.stints h) in
    let same : joined_of g ≡ fold carry (no_line (joined_of f).prev_weekly) (all_stints (joined_of f)) = rw (i.prev, i.stints, u.prev) refl in
    rw same (ap all_stints (rerun (joined_of f) j) ∙ all-rerun (joined_of f) j ∙ sym i.stints)

-- a history after so many idle weeks
pub record After (n : ℕ) (f g : Fields) : Type 0 where
  pub past : is_past false g.stints ≡ true
  pub stints : 1 ≤ n → all_stints (joined_of g) ≡ g.stints
  pub low : min 20160 (10080 * n) ≤ g.open_off
  pub high : g.open_off ≤ 20160
  pub drive : 1 ≤ n → g.prev_drive ≡ 0
  pub owed : g.owed ≡ f.owed
  pub due : g.due ≡ f.due - n

due-less : (owed due last left n : ℕ) → (owed ≡ 0 → due ≡ 0) → last ≡ owed → left ≡ due - n → cond (nat_eq last 0) 0 (left - 1) ≡ due - suc n
due-less zero due last left n z e f = let none : due ≡ 0 = z refl in rw e (omega arith)
due-less (suc owed) due last left n z e f = let some : nat_eq (suc owed) 0 ≡ false = grind (arith, nat_tests) in rw (e, some) (omega arith)

after : (n : ℕ) (f : Fields) → is_past false f.stints ≡ true → f.open_off ≤ 20160 → (f.owed ≡ 0 → f.due ≡ 0) → After n f (idle_of n f)
after zero f h o z = record { past = h; stints = λ (l : 1 ≤ 0). absurd (omega arith); low = omega arith; high = o; drive = λ (l : 1 ≤ 0). absurd (omega arith); owed = refl; due = omega arith }
after (suc n) f h o z =
    let a = after n f h o z in
    let i = idled (idle_of n f) a.past in
    let run = i.open_run in let low = a.low in record {
      past = i.past;
      stints = λ l. joined_again (idle_of n f) (advance_of (idle_of n f) []) a.past i;
      low = omega arith;
      high = omega arith;
      drive = λ l. i.drive;
      owed = i.owed ∙ a.owed;
      due = i.due ∙ due-less f.owed f.due (idle_of n f).owed (idle_of n f).due n z a.owed a.due;
    }

-- the weeks move on, one 0 each week
next_week : (n : ℕ) (ws : List ℕ) → n < length ws → drop 1 (drop n ws ++ replicate n 0) ++ 0 ∷ [] ≡ drop (suc n) ws ++ replicate (suc n) 0
next_week n [] l = absurd (omega arith)
next_week zero (w ∷ ws) l = rw (append-nil ws) refl
next_week (suc n) (w ∷ ws) l = moved (drop n ws) (uncons_drop n ws (omega arith))
  where
    push_zero : (k : ℕ) → ◌++◌ {A = ℕ} (replicate k 0) (0 ∷ []) ≡ replicate (suc k) 0
    push_zero zero = refl
    push_zero (suc k) = ap (λ (xs : List ℕ). 0 ∷ xs) (push_zero k)

    uncons_drop : (k : ℕ) (xs : List ℕ) → k < length xs → (x : ℕ) × (drop k xs ≡ x ∷ drop (suc k) xs)
    uncons_drop k [] h = absurd (omega arith)
    uncons_drop zero (x ∷ xs) h = (x, refl)
    uncons_drop (suc k) (x ∷ xs) h = uncons_drop k xs (omega arith)

    moved : (xs : List ℕ) → (x : ℕ) × (drop n ws ≡ x ∷ drop (suc n) ws) →
        drop 1 (drop n ws ++ replicate (suc n) 0) ++ 0 ∷ [] ≡ drop (suc n) ws ++ replicate (suc (suc n)) 0
    moved xs (x, e) = rw e (append_assoc (drop (suc n) ws) (replicate (suc n) 0) (0 ∷ []) ∙ ap (λ (t : List ℕ). drop (suc n) ws ++ t) (push_zero (suc n)))

weeks_to : (n : ℕ) (f : Fields) → length f.work16 ≡ 16 → n ≤ 16 → (idle_of n f).work16 ≡ drop n f.work16 ++ replicate n 0
weeks_to zero f e l = sym (append-nil f.work16)
weeks_to (suc n) f e l = ap (λ ws. drop 1 ws ++ 0 ∷ []) (weeks_to n f e (omega arith)) ∙ next_week n f.work16 (omega arith)

same_fields : (f g : Fields) → f.prev_weekly ≡ g.prev_weekly → f.stints ≡ g.stints → f.open_off ≡ g.open_off → f.prev_drive ≡ g.prev_drive →
    f.work16 ≡ g.work16 → f.owed ≡ g.owed → f.due ≡ g.due → f ≡ g
same_fields f g a b c d e p q = λ i. record { prev_weekly = a i; stints = b i; open_off = c i; prev_drive = d i; work16 = e i; owed = p i; due = q i }

-- an idle week after sixteen changes nothing
settled : (n : ℕ) (f : Fields) → is_past false f.stints ≡ true → f.open_off ≤ 20160 → length f.work16 ≡ 16 → (f.owed ≡ 0 → f.due ≡ 0) → f.due ≤ 3 → n ≡ 16 →
    advance_of (idle_of n f) [] ≡ idle_of n f
settled n f h o e z few l =
    let a = after n f h o z in
    let less = (after (suc n) f h o z).due in let left = a.due in
    let i = idled (idle_of n f) a.past in
    let run = i.open_run in let low = a.low in let high = a.high in
    let none : drop n f.work16 ≡ [] = rw l (none_left (drop 16 f.work16) (omega (arith, length-drop {A = ℕ}))) in
    let weeks : (idle_of n f).work16 ≡ replicate 16 0 = weeks_to n f e (omega arith) ∙ rw (none, l) refl in
    same_fields (advance_of (idle_of n f) []) (idle_of n f) i.prev (i.stints ∙ a.stints (omega arith)) (omega arith)
    (i.drive ∙ sym (a.drive (omega arith))) (i.weeks ∙ rw weeks refl) i.owed (omega arith)

stays : (k n : ℕ) (f : Fields) → advance_of (idle_of n f) [] ≡ idle_of n f → idle_of (k + n) f ≡ idle_of n f
stays zero n f h = let e : 0 + n ≡ n = omega arith in rw e refl
stays (suc k) n f h = let e : suc k + n ≡ suc (k + n) = omega arith in rw e (ap (λ x. advance_of x []) (stays k n f h) ∙ h)

-- sixteen idle weeks stand for any more
pub idle-most : (weeks n : ℕ) (f : Fields) → is_past false f.stints ≡ true → f.open_off ≤ 20160 → length f.work16 ≡ 16 → (f.owed ≡ 0 → f.due ≡ 0) → f.due ≤ 3 →
    n ≡ min weeks 16 → idle_of n f ≡ idle_of weeks f
idle-most weeks n f h o e z few m = by_cases (cases_lt 16 weeks)
  where
    by_cases : (16 < weeks) ⊎ (weeks ≤ 16) → idle_of n f ≡ idle_of weeks f
    by_cases (inr l) = let same : n ≡ weeks = omega arith in rw same refl
    by_cases (inl l) =
        let full : n ≡ 16 = omega arith in
        let sum : (weeks - n) + n ≡ weeks = omega arith in
        sym (stays (weeks - n) n f (settled n f h o e z few full)) ∙ ap (λ k. idle_of k f) sum

pub idle_more : (i : ℕ) (f : Fields) → advance_of (idle_of i f) [] ≡ idle_of (i + 1) f
idle_more i f = let k : suc i ≡ i + 1 = omega arith in ap (λ n. idle_of n f) k

pub idle-settles : (h : History) (weeks : ℕ) → 16 ≤ weeks → idle_of weeks (fields_of h) ≡ idle_of 16 (fields_of h)
idle-settles h weeks l = sym (idle-most weeks 16 (fields_of h) h.shape h.run h.sixteen h.no_debt h.deadline (omega arith))

pub idle-advances : (f : Fields) (weeks : ℕ) → (idle_of 0 f ≡ f) × (idle_of (weeks + 1) f ≡ advance_of (idle_of weeks f) [])
idle-advances f weeks = (refl, sym (idle_more weeks f))
