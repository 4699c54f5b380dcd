-- A fault is the least rule of the first minute at which one fails.
use Rattle.std.proofs.Common.{◌≡◌, ℕ, ◌-◌, ◌<◌, ◌≤◌, Bool, true, false, not, ltb, List, [], ◌∷◌, length, refl, ap, sym, ◌∙◌, arith, suc, zero, Option, Some, None, find}
use Rattle.std.proofs.lemmas.Bool.Decides.{nat_tests}
use Rattle.minute_line.specs.Minutes.{Minute, Minutes}
use Rattle.hours_rules.specs.declared.rules.Rule.{Rule}
use Rattle.hours_rules.specs.declared.rules.Rule.TheVariants.{H1, H2, H3, H4, H5, H6, H7, H8, H9, H10, H11, H12}
use Rattle.hours_rules.specs.declared.rules.Broken.{Broken}
use Rattle.hours_rules.specs.Rules.{Past, holds, failing, all_rules, fault_from, rule_number}
use Rattle.hours_rules.specs.Laws.{ObeysAll, FailsFirst, FaultIsFirst}
use Rattle.hours_rules.proofs.Faults.{find-none}
use Rattle.hours_rules.proofs.Simulate.{every-minute_from, judged_join}

abbrev nth : List Rule → ℕ → Option Rule
nth [] k = None
nth (r ∷ rs) zero = Some r
nth (r ∷ rs) (suc k) = nth rs k

-- what is found stands at some place, and no rule at an earlier place meets the test
record IsFound (test : Rule → Bool) (rs : List Rule) (r : Rule) : Type 0 where
  place : ℕ
  there : nth rs place ≡ Some r
  meets : test r ≡ true
  earlier : (j : ℕ) (x : Rule) → j < place → nth rs j ≡ Some x → test x ≡ false

is_found : (test : Rule → Bool) (rs : List Rule) (r : Rule) → find test rs ≡ Some r → IsFound test rs r
is_found test [] r h = cc
is_found test (x ∷ rs) r h = by_test (test x) refl (λ g. is_found test rs r g)
  where
    later : test x ≡ false → (j : ℕ) (y : Rule) (k : ℕ) → j < suc k → nth (x ∷ rs) j ≡ Some y →
        ((i : ℕ) (z : Rule) → i < k → nth rs i ≡ Some z → test z ≡ false) → test y ≡ false
    later e zero y k l at_j g = let same : x ≡ y = cc in rw (← same) e
    later e (suc j) y k l at_j g = g j y (omega arith) at_j

    by_test : (b : Bool) → test x ≡ b → (find test rs ≡ Some r → IsFound test rs r) → IsFound test (x ∷ rs) r
    by_test true e more =
        let hit : find test (x ∷ rs) ≡ Some x = rw e refl in
        let same : x ≡ r = let both : Some x ≡ Some r = sym hit ∙ h in cc in record {
          place = 0;
          there = rw same refl;
          meets = rw (← same) e;
          earlier = λ j y l at_j. absurd (omega arith);
        }
    by_test false e more =
        let skip : find test (x ∷ rs) ≡ find test rs = rw e refl in
        let f = more (sym skip ∙ h) in record {
          place = suc f.place;
          there = f.there;
          meets = f.meets;
          earlier = λ j y l at_j. later e j y f.place l at_j f.earlier;
        }

-- the place of a rule is the number before its own
place_of : (r : Rule) → nth all_rules (rule_number r - 1) ≡ Some r
place_of H1 = refl
place_of H2 = refl
place_of H3 = refl
place_of H4 = refl
place_of H5 = refl
place_of H6 = refl
place_of H7 = refl
place_of H8 = refl
place_of H9 = refl
place_of H10 = refl
place_of H11 = refl
place_of H12 = refl

number_at : (k : ℕ) (r : Rule) → nth all_rules k ≡ Some r → rule_number r ≡ suc k
number_at zero r h = let e : H1 ≡ r = cc in rw (← e) refl
number_at (suc zero) r h = let e : H2 ≡ r = cc in rw (← e) refl
number_at (suc (suc zero)) r h = let e : H3 ≡ r = cc in rw (← e) refl
number_at (suc (suc (suc zero))) r h = let e : H4 ≡ r = cc in rw (← e) refl
number_at (suc (suc (suc (suc zero)))) r h = let e : H5 ≡ r = cc in rw (← e) refl
number_at (suc (suc (suc (suc (suc zero))))) r h = let e : H6 ≡ r = cc in rw (← e) refl
number_at (suc (suc (suc (suc (suc (suc zero)))))) r h = let e : H7 ≡ r = cc in rw (← e) refl
number_at (suc (suc (suc (suc (suc (suc (suc zero))))))) r h = let e : H8 ≡ r = cc in rw (← e) refl
number_at (suc (suc (suc (suc (suc (suc (suc (suc zero)))))))) r h = let e : H9 ≡ r = cc in rw (← e) refl
number_at (suc (suc (suc (suc (suc (suc (suc (suc (suc zero))))))))) r h = let e : H10 ≡ r = cc in rw (← e) refl
number_at (suc (suc (suc (suc (suc (suc (suc (suc (suc (suc zero)))))))))) r h = let e : H11 ≡ r = cc in rw (← e) refl
number_at (suc (suc (suc (suc (suc (suc (suc (suc (suc (suc (suc zero))))))))))) r h = let e : H12 ≡ r = cc in rw (← e) refl
number_at (suc (suc (suc (suc (suc (suc (suc (suc (suc (suc (suc (suc k)))))))))))) r h = cc

number-least : (r : Rule) → 1 ≤ rule_number r
number-least H1 = omega arith
number-least H2 = omega arith
number-least H3 = omega arith
number-least H4 = omega arith
number-least H5 = omega arith
number-least H6 = omega arith
number-least H7 = omega arith
number-least H8 = omega arith
number-least H9 = omega arith
number-least H10 = omega arith
number-least H11 = omega arith
number-least H12 = omega arith

holds-not : (b : Bool) → not b ≡ true → b ≡ false
holds-not true h = cc
holds-not false h = refl

fails-not : (b : Bool) → not b ≡ false → b ≡ true
fails-not true h = refl
fails-not false h = cc

-- a fault of the last minute
at_last : (from : ℕ) (past : Past) (m : Minute) (week : Minutes) (r : Rule) → from ≤ length week → fault_from from past week ≡ None →
    failing past m week ≡ Some r → FailsFirst from past (m ∷ week) (record { rule = r; minute = length week })
at_last from past m week r l none h =
    let f = is_found (λ rule. not (holds past m week rule)) all_rules r h in record {
      later = [];
      m = m;
      earlier = week;
      is = refl;
      minute = refl;
      judged = l;
      fails = holds-not _ f.meets;
      smaller = λ x k. fails-not _ (f.earlier (rule_number x - 1) x (omega (arith, number_at f.place r f.there, number-least x)) (place_of x));
      before = λ later y earlier e k x. every-minute_from from past later y earlier k (rw (← e) none) x;
    }

-- a fault of an earlier minute stays the first
one_later : (from : ℕ) (past : Past) (m : Minute) (week : Minutes) (b : Broken) → FailsFirst from past week b → FailsFirst from past (m ∷ week) b
one_later from past m week b f = record {
  later = m ∷ f.later;
  m = f.m;
  earlier = f.earlier;
  is = ap (λ (x : Minutes). m ∷ x) f.is;
  minute = f.minute;
  judged = f.judged;
  fails = f.fails;
  smaller = f.smaller;
  before = f.before;
}

first_fault : (from : ℕ) (past : Past) (week : Minutes) (b : Broken) → fault_from from past week ≡ Some b → FailsFirst from past week b
first_fault from past [] b h = cc
first_fault from past (m ∷ week) b h = by_fault (fault_from from past week) refl (failing past m week) refl (λ c g. first_fault from past week c g)
  where
    judged_none : (early : Bool) → ltb (length week) from ≡ early → fault_from from past week ≡ None → failing past m week ≡ None →
        fault_from from past (m ∷ week) ≡ None
    judged_none true t e g = rw (e, t) refl
    judged_none false t e g = rw (e, t, g) refl

    at_minute : (early : Bool) (r : Rule) → ltb (length week) from ≡ early → fault_from from past week ≡ None → failing past m week ≡ Some r →
        FailsFirst from past (m ∷ week) b
    at_minute true r t e g = let all : fault_from from past (m ∷ week) ≡ None = rw (e, t) refl in let bad : None ≡ Some b = sym all ∙ h in cc
    at_minute false r t e g =
        let all : fault_from from past (m ∷ week) ≡ Some (record { rule = r; minute = length week }) = rw (e, t, g) refl in
        let same : record { rule = r; minute = length week } ≡ b = let both : Some (record { rule = r; minute = length week }) ≡ Some b = sym all ∙ h in cc in
        rw (← same) (at_last from past m week r (grind (arith, nat_tests)) e g)

    by_fault : (o : Option Broken) → fault_from from past week ≡ o → (n : Option Rule) → failing past m week ≡ n →
        ((c : Broken) → fault_from from past week ≡ Some c → FailsFirst from past week c) → FailsFirst from past (m ∷ week) b
    by_fault (Some c) e n g more =
        let all : fault_from from past (m ∷ week) ≡ Some c = rw e refl in
        let same : c ≡ b = let both : Some c ≡ Some b = sym all ∙ h in cc in
        one_later from past m week b (more b (rw (← same) e))
    by_fault None e None g more = let all = judged_none (ltb (length week) from) refl e g in
        let bad : None ≡ Some b = sym all ∙ h in cc
    by_fault None e (Some r) g more = at_minute (ltb (length week) from) r refl e g

obeyed : (from : ℕ) (past : Past) (week : Minutes) → ObeysAll from past week → fault_from from past week ≡ None
obeyed from past [] h = refl
obeyed from past (m ∷ week) h =
    by_time (ltb (length week) from) refl
    (obeyed from past week (λ later x earlier e k r. h (m ∷ later) x earlier (ap (λ (y : Minutes). m ∷ y) e) k r))
  where
    by_time : (early : Bool) → ltb (length week) from ≡ early → fault_from from past week ≡ None → fault_from from past (m ∷ week) ≡ None
    by_time true t none = rw (none, t) refl
    by_time false t none =
        let l : from ≤ length week = grind (arith, nat_tests) in
        judged_join from past m week l none (find-none _ all_rules (λ r. ap not (h [] m week refl l r)))

pub fault_is_first : FaultIsFirst
fault_is_first = record {
  first = first_fault;
  none = λ from past week. (λ h later m earlier e k r. every-minute_from from past later m earlier k (rw (← e) h) r, obeyed from past week);
}
