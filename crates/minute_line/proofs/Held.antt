-- The fields of a history, and the histories of fields.
use Rattle.std.proofs.Common.{◌≡◌, ℕ, zero, suc, ◌≤◌, Bool, true, false, ◌&&◌, ◌||◌, not, nat_le, nat_eq, List, [], ◌∷◌, length, refl, arith}
use Rattle.minute_line.specs.declared.lines.History.{History}
use Rattle.minute_line.specs.declared.lines.TheConstants.{WEEK_MINUTES}
use Rattle.minute_line.specs.declared.marks.Stint.{Stint}
use Rattle.minute_line.specs.Marks.{is_off, is_weekly}
use Rattle.minute_line.specs.Minutes.{total_of}
use Rattle.minute_line.specs.Stints.{may_follow, each_follows, only_declares, is_line, is_past, all_up_to}
use Rattle.minute_line.specs.Histories.{Fields, fields_of, has_rests, has_debt, has_sums, has_stints, is_history}

pub and_is : (a b : Bool) → (a && b) ≡ true → (a ≡ true) × (b ≡ true)
and_is true b h = (refl, h)
and_is false b h = absurd cc

pub le_is : (a b : ℕ) → nat_le a b ≡ true → a ≤ b
le_is a b h = grind arith

pub nat_is : (a b : ℕ) → nat_eq a b ≡ true → a ≡ b
nat_is a b h = grind arith

both : (a b : Bool) → a ≡ true → b ≡ true → (a && b) ≡ true
both a b p q = rw (p, q) refl

le_true : (a b : ℕ) → a ≤ b → nat_le a b ≡ true
le_true a b h = grind arith

nat_true : (a b : ℕ) → a ≡ b → nat_eq a b ≡ true
nat_true a b h = grind arith

none_due : (owed due : ℕ) → (nat_le 1 owed || nat_eq due 0) ≡ true → owed ≡ 0 → due ≡ 0
none_due owed due h none = let e = rw none at h in nat_is due 0 e

due_true : (owed due : ℕ) → (owed ≡ 0 → due ≡ 0) → (nat_le 1 owed || nat_eq due 0) ≡ true
due_true zero due h = nat_true due 0 (h refl)
due_true (suc owed) due h = let e : nat_le 1 (suc owed) ≡ true = le_true 1 (suc owed) (omega arith) in rw e refl

-- what fields of a history say, as facts
pub record Holds (f : Fields) : Type 0 where
  pub rest : (1440 ≤ f.prev_weekly) × (f.prev_weekly ≤ 1000000)
  pub run : f.open_off ≤ 20160
  pub drive : f.prev_drive ≤ WEEK_MINUTES
  pub sixteen : length f.work16 ≡ 16
  pub weeks : all_up_to WEEK_MINUTES f.work16 ≡ true
  pub shape : is_past false f.stints ≡ true
  pub total : total_of f.stints ≤ 20160
  pub debt : f.owed ≤ 1260
  pub deadline : f.due ≤ 3
  pub no_debt : f.owed ≡ 0 → f.due ≡ 0

pub holds : (f : Fields) → is_history f ≡ true → Holds f
holds f v =
    let p = and_is (has_rests f && has_debt f) (has_sums f && has_stints f) v in
    let a = and_is (has_rests f) (has_debt f) p.0 in
    let o = and_is (nat_le 1440 f.prev_weekly && nat_le f.prev_weekly 1000000) (nat_le f.open_off 20160) a.0 in
    let b = and_is (nat_le f.owed 1260) (nat_le f.due 3 && (nat_le 1 f.owed || nat_eq f.due 0)) a.1 in
    let e = and_is (nat_le f.due 3) (nat_le 1 f.owed || nat_eq f.due 0) b.1 in
    let r = and_is (nat_le 1440 f.prev_weekly) (nat_le f.prev_weekly 1000000) o.0 in
    let q = and_is (has_sums f) (has_stints f) p.1 in
    let d = and_is (nat_le f.prev_drive WEEK_MINUTES) (nat_eq (length f.work16) 16 && all_up_to WEEK_MINUTES f.work16) q.0 in
    let w = and_is (nat_eq (length f.work16) 16) (all_up_to WEEK_MINUTES f.work16) d.1 in
    let s = and_is (is_past false f.stints) (nat_le (total_of f.stints) 20160) q.1 in
    record {
      rest = (le_is 1440 f.prev_weekly r.0, le_is f.prev_weekly 1000000 r.1);
      run = le_is f.open_off 20160 o.1;
      drive = le_is f.prev_drive WEEK_MINUTES d.0;
      sixteen = nat_is (length f.work16) 16 w.0;
      weeks = w.1;
      shape = s.0;
      total = le_is (total_of f.stints) 20160 s.1;
      debt = le_is f.owed 1260 b.0;
      deadline = le_is f.due 3 e.0;
      no_debt = none_due f.owed f.due e.1;
    }

-- each history has the fields of a history
pub is_history-fields_of : (h : History) → is_history (fields_of h) ≡ true
is_history-fields_of h =
    both (has_rests (fields_of h) && has_debt (fields_of h)) (has_sums (fields_of h) && has_stints (fields_of h))
    (both (has_rests (fields_of h)) (has_debt (fields_of h))
    (both (nat_le 1440 h.prev_weekly && nat_le h.prev_weekly 1000000) (nat_le h.open_off 20160)
    (both (nat_le 1440 h.prev_weekly) (nat_le h.prev_weekly 1000000) (le_true 1440 h.prev_weekly h.rest.0) (le_true h.prev_weekly 1000000 h.rest.1))
    (le_true h.open_off 20160 h.run))
    (both (nat_le h.owed 1260) (nat_le h.due 3 && (nat_le 1 h.owed || nat_eq h.due 0)) (le_true h.owed 1260 h.debt)
    (both (nat_le h.due 3) (nat_le 1 h.owed || nat_eq h.due 0) (le_true h.due 3 h.deadline) (due_true h.owed h.due h.no_debt))))
    (both (has_sums (fields_of h)) (has_stints (fields_of h))
    (both (nat_le h.prev_drive WEEK_MINUTES) (nat_eq (length h.work16) 16 && all_up_to WEEK_MINUTES h.work16) (le_true h.prev_drive WEEK_MINUTES h.drive)
    (both (nat_eq (length h.work16) 16) (all_up_to WEEK_MINUTES h.work16) (nat_true (length h.work16) 16 h.sixteen) h.weeks))
    (both (is_past false h.stints.stints) (nat_le (total_of h.stints.stints) 20160) h.shape (le_true (total_of h.stints.stints) 20160 h.total)))

-- the stints of a history follow one another
past_follows : (after : Bool) (ss : List Stint) → is_past after ss ≡ true → each_follows after ss ≡ true
past_follows after [] h = refl
past_follows after (s ∷ ss) h =
    let p = and_is (may_follow after s && not (is_weekly s.kind)) (is_past (is_off s.mark) ss) h in
    both (may_follow after s) (each_follows (is_off s.mark) ss) (and_is (may_follow after s) (not (is_weekly s.kind)) p.0).0 (past_follows (is_off s.mark) ss p.1)

or_true : (a b : Bool) → b ≡ true → (a || b) ≡ true
or_true true b h = refl
or_true false b h = h

-- the stints of a history are a line
pub past_is_line : (ss : List Stint) → is_past false ss ≡ true → is_line ss ≡ true
past_is_line [] h = refl
past_is_line (s ∷ ss) h =
    let p = and_is (may_follow false s) (each_follows (is_off s.mark) ss) (past_follows false (s ∷ ss) h) in
    both (only_declares s || may_follow false s) (each_follows (is_off s.mark) ss) (or_true (only_declares s) (may_follow false s) p.0) p.1
