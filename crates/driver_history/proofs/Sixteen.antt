-- The working minutes of sixteen weeks, and of a week.
use Rattle.std.proofs.Common.{◌≡◌, ℕ, ◌≤◌, true, leb, List, [], ◌∷◌, ◌++◌, length, get_or, drop, refl, arith, suc, zero, le-leb}
use Rattle.std.proofs.lemmas.Bool.Decides.{nat_tests}
use Rattle.std.proofs.lemmas.List.Sums.{sum_by-le-sum_by}
use Rattle.minute_line.specs.declared.marks.Stint.{Stint}
use Rattle.minute_line.specs.Minutes.{total_of}
use Rattle.minute_line.specs.Stints.{all_up_to}
use Rattle.driver_history.specs.Advancing.{drive_in, work_in, drive_total, work_total}

drive_part : (s : Stint) → drive_in s ≤ s.minutes
drive_part s = grind arith

work_part : (s : Stint) → work_in s ≤ s.minutes
work_part s = grind arith

pub drive_most : (ss : List Stint) → drive_total ss ≤ total_of ss
drive_most ss = sum_by-le-sum_by drive_in (λ s. s.minutes) ss drive_part

pub work_most : (ss : List Stint) → work_total ss ≤ total_of ss
work_most ss = sum_by-le-sum_by work_in (λ s. s.minutes) ss work_part

pub uncons : (n : ℕ) (ws : List ℕ) → length ws ≡ suc n → (w : ℕ) × (t : List ℕ) × (ws ≡ w ∷ t) × (length t ≡ n)
uncons n [] e = absurd (omega arith)
uncons n (w ∷ t) e = (w, t, refl, omega arith)

pub none_left : (ws : List ℕ) → length ws ≡ 0 → ws ≡ []
none_left [] e = refl
none_left (w ∷ t) e = absurd (omega arith)

pub sixteen : (ws : List ℕ) → length ws ≡ 16
    → drop 1 ws ≡ get_or ws 1 0 ∷ get_or ws 2 0 ∷ get_or ws 3 0 ∷ get_or ws 4 0 ∷ get_or ws 5 0 ∷ get_or ws 6 0 ∷ get_or ws 7 0 ∷ get_or ws 8 0
    ∷ get_or ws 9 0 ∷ get_or ws 10 0 ∷ get_or ws 11 0 ∷ get_or ws 12 0 ∷ get_or ws 13 0 ∷ get_or ws 14 0 ∷ get_or ws 15 0 ∷ []
sixteen ws e =
    let u0 = uncons 15 ws e in let u1 = uncons 14 u0.1 u0.3 in let u2 = uncons 13 u1.1 u1.3 in let u3 = uncons 12 u2.1 u2.3 in
    let u4 = uncons 11 u3.1 u3.3 in let u5 = uncons 10 u4.1 u4.3 in let u6 = uncons 9 u5.1 u5.3 in let u7 = uncons 8 u6.1 u6.3 in
    let u8 = uncons 7 u7.1 u7.3 in let u9 = uncons 6 u8.1 u8.3 in let u10 = uncons 5 u9.1 u9.3 in let u11 = uncons 4 u10.1 u10.3 in
    let u12 = uncons 3 u11.1 u11.3 in let u13 = uncons 2 u12.1 u12.3 in let u14 = uncons 1 u13.1 u13.3 in let u15 = uncons 0 u14.1 u14.3 in
    rw (u0.2, u1.2, u2.2, u3.2, u4.2, u5.2, u6.2, u7.2, u8.2, u9.2, u10.2, u11.2, u12.2, u13.2, u14.2, u15.2, none_left u15.1 u15.3) refl

more_up_to : (most : ℕ) (ns : List ℕ) (last : ℕ) → all_up_to most ns ≡ true → last ≤ most → all_up_to most (ns ++ last ∷ []) ≡ true
more_up_to most [] last h l = let t : leb last most ≡ true = le-leb last most l in rw t refl
more_up_to most (n ∷ ns) last h l = grind (arith, more_up_to most ns last)

-- the sixteen weeks after one more keep their limit
pub later_up_to : (most : ℕ) (ns : List ℕ) (last : ℕ) → all_up_to most ns ≡ true → last ≤ most → all_up_to most (drop 1 ns ++ last ∷ []) ≡ true
later_up_to most [] last h l = more_up_to most [] last refl l
later_up_to most (n ∷ ns) last h l = more_up_to most ns last (grind arith) l

-- each of the weeks keeps the limit
pub up_to-at : (most : ℕ) (ns : List ℕ) (i : ℕ) → all_up_to most ns ≡ true → get_or ns i 0 ≤ most
up_to-at most [] i h = omega arith
up_to-at most (n ∷ ns) zero h = grind (arith, nat_tests)
up_to-at most (n ∷ ns) (suc i) h = up_to-at most ns i (grind arith)
