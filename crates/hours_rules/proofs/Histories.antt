-- A history keeps its bounds.
use Rattle.std.proofs.Common.{ℕ, ◌≡◌, ◌≤◌, ◌+◌, ◌*◌, true, sum, List, [], ◌∷◌, length, arith}
use Rattle.std.proofs.lemmas.Int.{ints}
use Rattle.std.proofs.Math.Nat.{mul-suc}
use Rattle.std.proofs.lemmas.List.Sums.{sum_by-cons}
use Rattle.minute_line.specs.declared.lines.History.{History}
use Rattle.minute_line.specs.Minutes.{total_of}
use Rattle.minute_line.specs.Stints.{all_up_to}
use Rattle.minute_line.specs.Histories.{fields_of}
use Rattle.hours_rules.specs.Standing.{IsCarried}
use Rattle.hours_rules.specs.Verdicts.{debt_from}

-- what a history's bounds come to
pub record IsHistory (h : History) : Type 0 where
  pub stints : total_of h.stints.stints ≤ 20160
  pub open_off : h.open_off ≤ 20160
  pub prev_drive : h.prev_drive ≤ 10080
  pub work16 : sum h.work16 ≤ 161280

pub sum-all_up_to : (most : ℕ) (ns : List ℕ) → all_up_to most ns ≡ true → sum ns ≤ most * length ns
sum-all_up_to most [] h = omega arith
sum-all_up_to most (n ∷ ns) h =
    let more : sum ns ≤ most * length ns = grind (arith, sum-all_up_to most ns) in
    let first : n ≤ most = grind arith in
    let all : sum (n ∷ ns) ≡ n + sum ns = sum_by-cons (λ m. m) n ns in
    let long : most * length (n ∷ ns) ≡ most * length ns + most = mul-suc most (length ns) in
    omega (arith, more, first, all, long)

pub is_history : (h : History) → IsHistory h
is_history h = record {
  stints = h.total;
  open_off = h.run;
  prev_drive = h.drive;
  work16 = omega (arith, sum-all_up_to 10080 h.work16 h.weeks, h.sixteen);
}

pub carried : (h : History) → IsCarried (debt_from (fields_of h))
carried h = let small = h.deadline in record { owed = h.debt; not_before = omega (arith, ints); due = omega (arith, ints) }
