-- A completion that is lawful after one line is lawful after a line whose clock is as good.
use Rattle.std.proofs.Common.{◌≡◌, ℕ, ◌≤◌, Bool, true, false, not, ltb, [], ◌∷◌, ◌++◌, length, refl, ap, arith, Option, Some, None, length-append}
use Rattle.std.specs.Option.{option_or}
use Rattle.std.proofs.lemmas.Bool.{le-ltb}
use Rattle.minute_line.specs.declared.marks.Mark.{Mark}
use Rattle.minute_line.specs.declared.marks.Mark.TheVariants.{Drive, Work, Ready, Off}
use Rattle.minute_line.specs.declared.marks.Kind.{Kind}
use Rattle.minute_line.specs.Minutes.{Minute, Minutes}
use Rattle.hours_rules.specs.declared.rules.Broken.{Broken}
use Rattle.hours_rules.specs.declared.rules.Rule.{Rule}
use Rattle.hours_rules.specs.declared.rules.Rule.TheVariants.{H5}
use Rattle.minute_line.specs.Marks.{is_duty}
use Rattle.hours_rules.specs.Rules.{Past, failing, fault_from, fault_at, all_rules, holds}
use Rattle.hours_rules.specs.Order.{Together}
use Rattle.hours_rules.specs.Machine.{run_ended, ticked, rested}
use Rattle.hours_rules.proofs.Steps.{stands-duty, stands-off}
use Rattle.hours_rules.proofs.Better.{holds-by_room, room-as_good, not_short, ended-as_good, ticked-as_good, rested-as_good}
use Rattle.hours_rules.proofs.Faults.{find-none, all-hold, none_judged}

pub off_mark : (mark : Mark) → is_duty mark ≡ false → mark ≡ Off
off_mark Off h = refl
off_mark Drive h = cc
off_mark Work h = cc
off_mark Ready h = cc

split_fault : (o : Option Broken) (next : Option Rule) (n : ℕ) → option_or o (fault_at n next) ≡ None → (o ≡ None) × (next ≡ None)
split_fault None None n h = (refl, refl)
split_fault None (Some r) n h = cc
split_fault (Some b) next n h = cc

-- no fault at a minute and before it
pub judged_parts : (o : ℕ) (p : Past) (m : Minute) (w : Minutes) → o ≤ length w → fault_from o p (m ∷ w) ≡ None →
    (fault_from o p w ≡ None) × (failing p m w ≡ None)
judged_parts o p m w l h =
    let late : ltb (length w) o ≡ false = le-ltb _ _ l in
    split_fault (fault_from o p w) (failing p m w) (length w) (rw late at h)

pub judged_join : (o : ℕ) (p : Past) (m : Minute) (w : Minutes) → o ≤ length w → fault_from o p w ≡ None → failing p m w ≡ None →
    fault_from o p (m ∷ w) ≡ None
judged_join o p m w l h g =
    let late : ltb (length w) o ≡ false = le-ltb _ _ l in rw (h, late, g) refl

pub off_fine : (p : Past) (mark : Mark) (kind : Kind) (w : Minutes) → mark ≡ Off → failing p (record { mark = mark; kind = kind }) w ≡ None
off_fine p Off kind w e = refl
off_fine p Drive kind w e = cc
off_fine p Work kind w e = cc
off_fine p Ready kind w e = cc

one_more : (pa pb : Past) (m : Minute) (wa wb : Minutes) → Together pa pb wa wb → failing pb m wb ≡ None →
    Together pa pb (m ∷ wa) (m ∷ wb) × (failing pa m wa ≡ None)
one_more pa pb m wa wb t h = by_duty (is_duty m.mark) refl
  where
    by_duty : (d : Bool) → is_duty m.mark ≡ d → Together pa pb (m ∷ wa) (m ∷ wb) × (failing pa m wa ≡ None)
    by_duty true d = let long = not_short t.second pb wb m.mark m.kind d t.second_stands (all-hold pb m wb h H5) in (
      record {
        first = ticked (run_ended t.first m.kind) m.mark 1;
        second = ticked (run_ended t.second m.kind) m.mark 1;
        as_good = ticked-as_good _ _ m.mark 1 (ended-as_good _ _ m.kind long t.as_good);
        first_stands = stands-duty t.first pa m wa d t.first_stands;
        second_stands = stands-duty t.second pb m wb d t.second_stands;
      },
      find-none _ all_rules (λ r. ap not (holds-by_room t.first t.second pa pb wa wb m.mark m.kind d t.first_stands t.second_stands r
          (room-as_good t.first t.second m.mark m.kind long t.as_good r)
          (all-hold pb m wb h r))),
    )
    by_duty false d = (
      record {
        first = rested t.first 1;
        second = rested t.second 1;
        as_good = rested-as_good _ _ 1 t.as_good;
        first_stands = stands-off t.first pa m wa (off_mark m.mark d) t.first_stands;
        second_stands = stands-off t.second pb m wb (off_mark m.mark d) t.second_stands;
      },
      off_fine pa m.mark m.kind wa (off_mark m.mark d),
    )

pub simulate_minutes : (pa pb : Past) (wa wb more : Minutes) → Together pa pb wa wb →
    fault_from (length wb) pb (more ++ wb) ≡ None →
    Together pa pb (more ++ wa) (more ++ wb) × (fault_from (length wa) pa (more ++ wa) ≡ None)
simulate_minutes pa pb wa wb [] t h = (t, none_judged (length wa) pa wa (omega arith))
simulate_minutes pa pb wa wb (m ∷ more) t h =
    let parts = judged_parts (length wb) pb m (more ++ wb) (omega (arith, length-append more wb)) h in
    let before = simulate_minutes pa pb wa wb more t parts.0 in
    let next = one_more pa pb m (more ++ wa) (more ++ wb) before.0 parts.1 in
    (next.0, judged_join (length wa) pa m (more ++ wa) (omega (arith, length-append more wa)) before.1 next.1)

-- a line without a fault from a minute on obeys each rule at each minute from there on
pub every-minute_from : (from : ℕ) (past : Past) (later : Minutes) (m : Minute) (earlier : Minutes) → from ≤ length earlier →
    fault_from from past (later ++ m ∷ earlier) ≡ None → (r : Rule) → holds past m earlier r ≡ true
every-minute_from from past [] m earlier l h r = all-hold past m earlier (judged_parts from past m earlier l h).1 r
every-minute_from from past (x ∷ later) m earlier l h r =
    every-minute_from from past later m earlier l
    (judged_parts from past x (later ++ m ∷ earlier) (omega (arith, length-append later (m ∷ earlier))) h).0 r

pub every-minute : (past : Past) (later : Minutes) (m : Minute) (earlier : Minutes) →
    fault_from 0 past (later ++ m ∷ earlier) ≡ None → (r : Rule) → holds past m earlier r ≡ true
every-minute past later m earlier h r = every-minute_from 0 past later m earlier (omega arith) h r
