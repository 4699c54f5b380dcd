-- Two clocks that give each later minute the same verdict.
use Rattle.std.proofs.Common.{◌≡◌, ℕ, ◌+◌, ◌≤◌, Bool, true, false, not, ltb, inl, inr, ◌⊎◌, List, [], ◌∷◌, length, refl, sym, ◌∙◌, ap, arith, suc, zero, Option, Some, None, find, true≢false, option_map}
use Rattle.std.proofs.lemmas.Bool.{le-ltb}
use Rattle.minute_line.specs.declared.marks.Mark.{Mark}
use Rattle.minute_line.specs.declared.marks.Mark.TheVariants.{Drive, Work, Ready, Off}
use Rattle.minute_line.specs.declared.marks.Kind.{Kind}
use Rattle.minute_line.specs.declared.marks.Kind.TheVariants.{Plain, Daily, Weekly}
use Rattle.minute_line.specs.Minutes.{Minute, Minutes}
use Rattle.minute_line.specs.Marks.{is_duty}
use Rattle.hours_rules.specs.declared.clocks.Clock.{Clock}
use Rattle.hours_rules.specs.declared.rules.Broken.{Broken}
use Rattle.hours_rules.specs.declared.rules.Rule.{Rule}
use Rattle.hours_rules.specs.declared.rules.Rule.TheVariants.{H6}
use Rattle.hours_rules.specs.Rules.{Past, holds, failing, fault, all_rules}
use Rattle.hours_rules.specs.Standing.{Stands}
use Rattle.hours_rules.specs.Machine.{run_ended, ticked, rested, room, left_until}
use Rattle.hours_rules.proofs.Rooms.{holds-within, fails-past}
use Rattle.hours_rules.proofs.Faults.{all-hold, fault-off}
use Rattle.hours_rules.proofs.Steps.{stands-duty, stands-off}
use Rattle.driver_history.proofs.Alike.{Alike, alike-room, alike-duty, alike-ticked, alike-off}
use Rattle.driver_history.proofs.LongRuns.{Held, few-other, run-inside, none_left, long-run, held-room, held-rested, held-weekly}

-- equal rooms, equal verdicts
holds-room : (a b : Clock) (pa pb : Past) (w : Minutes) (mark : Mark) (kind : Kind) (r : Rule) → is_duty mark ≡ true → Stands a pa w → Stands b pb w →
    room a (run_ended a kind) mark kind r ≡ room b (run_ended b kind) mark kind r →
    holds pa (record { mark = mark; kind = kind }) w r ≡ holds pb (record { mark = mark; kind = kind }) w r
holds-room a b pa pb w mark kind r d sa sb e = by_room (room b (run_ended b kind) mark kind r) refl
  where
    by_room : (k : ℕ) → room b (run_ended b kind) mark kind r ≡ k → holds pa (record { mark = mark; kind = kind }) w r ≡ holds pb (record { mark = mark; kind = kind }) w r
    by_room zero g = fails-past a pa 0 mark kind w d sa r (e ∙ g) (omega arith) ∙ sym (fails-past b pb 0 mark kind w d sb r g (omega arith))
    by_room (suc k) g = holds-within a pa 0 mark kind w d sa r (omega arith) ∙ sym (holds-within b pb 0 mark kind w d sb r (omega arith))

find-alike : (p q : Rule → Bool) (rs : List Rule) → ((r : Rule) → p r ≡ q r) → find p rs ≡ find q rs
find-alike p q [] h = refl
find-alike p q (r ∷ rs) h = rw (h r, find-alike p q rs h) refl

failing-room : (a b : Clock) (pa pb : Past) (w : Minutes) (m : Minute) → is_duty m.mark ≡ true → Stands a pa w → Stands b pb w →
    ((r : Rule) → room a (run_ended a m.kind) m.mark m.kind r ≡ room b (run_ended b m.kind) m.mark m.kind r) → failing pa m w ≡ failing pb m w
failing-room a b pa pb w m d sa sb e = find-alike _ _ all_rules (λ (r : Rule). ap not (holds-room a b pa pb w m.mark m.kind r d sa sb (e r)))

-- two pasts after which the clocks are alike, or held
pub record Near (pa pb : Past) (w : Minutes) : Type 0 where
  pub first : Clock
  pub second : Clock
  pub first_stands : Stands first pa w
  pub second_stands : Stands second pb w
  pub near : Alike first second ⊎ Held first second

-- a fault was found, the same in both, or none and the clocks are near
pub data Going (pa pb : Past) (w : Minutes) : Type 0 where
  broken : (b : Broken) → fault pa w ≡ Some b → fault pb w ≡ Some b → Going pa pb w
  on : fault pa w ≡ None → fault pb w ≡ None → Near pa pb w → Going pa pb w

next-fault : (p : Past) (m : Minute) (w : Minutes) (o : Option Rule) → fault p w ≡ None → failing p m w ≡ o →
    fault p (m ∷ w) ≡ option_map (λ rule. record { rule = rule; minute = length w }) o
next-fault p m w o n f = let late : ltb (length w) 0 ≡ false = le-ltb (length w) 0 (omega arith) in rw (n, late, f) refl

near-room : (a b : Clock) (pa pb : Past) (w : Minutes) (mark : Mark) (kind : Kind) → Stands a pa w → Stands b pb w → Alike a b ⊎ Held a b → (r : Rule) →
    room a (run_ended a kind) mark kind r ≡ room b (run_ended b kind) mark kind r
near-room a b pa pb w mark kind sa sb (inl h) r = alike-room a b mark kind h r
near-room a b pa pb w mark kind sa sb (inr h) r = held-room a b mark kind h (run-inside a pa w sa) (run-inside b pb w sb) r

-- a held run that is no weekly rest ends past the six days
too_late : (b : Clock) (pb : Past) (w : Minutes) (mark : Mark) (kind : Kind) → is_duty mark ≡ true → Stands b pb w → 20160 + b.at ≤ b.off →
    (run_ended b kind).rest_from ≡ b.rest_from → failing pb (record { mark = mark; kind = kind }) w ≡ None → ⊥
too_late b pb w mark kind d s l e n =
    let none : left_until 8640 (run_ended b kind).rest_from b.at ≡ 0 = rw e (none_left 8640 b.at b.off b.rest_from (run-inside b pb w s).since (omega arith)) in
    true≢false (sym (all-hold pb (record { mark = mark; kind = kind }) w n H6) ∙ fails-past b pb 0 mark kind w d s H6 none (omega arith))

near-duty : (a b : Clock) (pa pb : Past) (w : Minutes) (mark : Mark) (kind : Kind) → is_duty mark ≡ true → Stands a pa w → Stands b pb w → Alike a b ⊎ Held a b →
    failing pb (record { mark = mark; kind = kind }) w ≡ None → Alike (ticked (run_ended a kind) mark 1) (ticked (run_ended b kind) mark 1)
near-duty a b pa pb w mark kind d sa sb (inl h) n = alike-duty a b mark kind h
near-duty a b pa pb w mark Weekly d sa sb (inr h) n = alike-ticked (run_ended a Weekly) (run_ended b Weekly) mark (held-weekly a b h)
near-duty a b pa pb w mark Plain d sa sb (inr h) n = let y = long-run b Plain h.b_off (few-other a b h) in absurd (too_late b pb w mark Plain d sb h.b_off (rw y.one refl) n)
near-duty a b pa pb w mark Daily d sa sb (inr h) n = let y = long-run b Daily h.b_off (few-other a b h) in absurd (too_late b pb w mark Daily d sb h.b_off (rw y.one refl) n)

near-off : (a b : Clock) → Alike a b ⊎ Held a b → Alike (rested a 1) (rested b 1) ⊎ Held (rested a 1) (rested b 1)
near-off a b (inl h) = inl (alike-off a b h)
near-off a b (inr h) = inr (held-rested a b h)

going-duty : (pa pb : Past) (w : Minutes) (mark : Mark) (kind : Kind) → is_duty mark ≡ true → fault pa w ≡ None → fault pb w ≡ None → Near pa pb w →
    Going pa pb (record { mark = mark; kind = kind } ∷ w)
going-duty pa pb w mark kind d na nb n = by_failing (failing pb (record { mark = mark; kind = kind }) w) refl
  where
    same : failing pa (record { mark = mark; kind = kind }) w ≡ failing pb (record { mark = mark; kind = kind }) w
    same = failing-room n.first n.second pa pb w (record { mark = mark; kind = kind }) d n.first_stands n.second_stands
        (near-room n.first n.second pa pb w mark kind n.first_stands n.second_stands n.near)

    by_failing : (o : Option Rule) → failing pb (record { mark = mark; kind = kind }) w ≡ o → Going pa pb (record { mark = mark; kind = kind } ∷ w)
    by_failing (Some r) e = broken (record { rule = r; minute = length w })
        (next-fault pa (record { mark = mark; kind = kind }) w (Some r) na (same ∙ e)) (next-fault pb (record { mark = mark; kind = kind }) w (Some r) nb e)
    by_failing None e = on (next-fault pa (record { mark = mark; kind = kind }) w None na (same ∙ e)) (next-fault pb (record { mark = mark; kind = kind }) w None nb e)
        (record {
          first = ticked (run_ended n.first kind) mark 1;
          second = ticked (run_ended n.second kind) mark 1;
          first_stands = stands-duty n.first pa (record { mark = mark; kind = kind }) w d n.first_stands;
          second_stands = stands-duty n.second pb (record { mark = mark; kind = kind }) w d n.second_stands;
          near = inl (near-duty n.first n.second pa pb w mark kind d n.first_stands n.second_stands n.near e);
        })

going-off : (pa pb : Past) (w : Minutes) (kind : Kind) → fault pa w ≡ None → fault pb w ≡ None → Near pa pb w →
    Going pa pb (record { mark = Off; kind = kind } ∷ w)
going-off pa pb w kind na nb n = on (fault-off 0 pa 1 kind w ∙ na) (fault-off 0 pb 1 kind w ∙ nb)
    (record {
      first = rested n.first 1;
      second = rested n.second 1;
      first_stands = stands-off n.first pa (record { mark = Off; kind = kind }) w refl n.first_stands;
      second_stands = stands-off n.second pb (record { mark = Off; kind = kind }) w refl n.second_stands;
      near = near-off n.first n.second n.near;
    })

going-on : (pa pb : Past) (w : Minutes) (mark : Mark) (kind : Kind) → fault pa w ≡ None → fault pb w ≡ None → Near pa pb w →
    Going pa pb (record { mark = mark; kind = kind } ∷ w)
going-on pa pb w Off kind na nb n = going-off pa pb w kind na nb n
going-on pa pb w Drive kind na nb n = going-duty pa pb w Drive kind refl na nb n
going-on pa pb w Work kind na nb n = going-duty pa pb w Work kind refl na nb n
going-on pa pb w Ready kind na nb n = going-duty pa pb w Ready kind refl na nb n

going-next : (pa pb : Past) (m : Minute) (w : Minutes) → Going pa pb w → Going pa pb (m ∷ w)
going-next pa pb m w (broken b ea eb) = broken b (rw ea refl) (rw eb refl)
going-next pa pb m w (on ea eb n) = going-on pa pb w m.mark m.kind ea eb n

going : (pa pb : Past) (week : Minutes) → Near pa pb [] → Going pa pb week
going pa pb [] n = on refl refl n
going pa pb (m ∷ week) n = going-next pa pb m week (going pa pb week n)

same-going : (pa pb : Past) (w : Minutes) → Going pa pb w → fault pa w ≡ fault pb w
same-going pa pb w (broken b ea eb) = ea ∙ sym eb
same-going pa pb w (on ea eb n) = ea ∙ sym eb

-- where the clocks on Monday are alike, or held, each week has the same fault
pub same-fault : (pa pb : Past) (week : Minutes) → Near pa pb [] → fault pa week ≡ fault pb week
same-fault pa pb week n = same-going pa pb week (going pa pb week n)
