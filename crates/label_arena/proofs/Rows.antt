-- A row of slots that is turned until one of them is the first, and on until the row is as before.
use Rattle.std.proofs.Common.{◌≡◌, ℕ, zero, suc, ◌+◌, ◌<◌, List, [], ◌∷◌, ◌++◌, length, get_or, sym, ap, ◌∙◌, refl, arith, append_assoc, append-nil, length-append}
use mathlib.Core.Logic.{dite}
use native.Mathlib.Decide.{ℕ_discrete}
use lib.ListN.{get_or-append}
use lib.Seq.{get_or-append_seam}
use Rattle.atomic_table.specs.Table.{turned}
use Rattle.label_arena.specs.Counting.{times}
use Rattle.label_arena.specs.Holding.{numbers, turned_by}
use Rattle.label_arena.proofs.Counts.{times_else}

-- a number that a list has stands at some place of it
pub stands : (x : ℕ) (xs : List ℕ) → 0 < times x xs → (k : ℕ) × (k < length xs) × (get_or xs k 0 ≡ x)
stands x [] pos = absurd (omega arith)
stands x (y ∷ ys) pos = dite (ℕ_discrete x y)
    (λ e. (0, omega arith, sym e))
    (λ ne. let less = times_else x y ys ne in let rest = stands x ys (omega arith) in let inside = rest.1 in (suc rest.0, omega arith, rest.2))

module _ (S : Type 0) where
  turned_first : (k : ℕ) (xs : List (ℕ × S)) → turned_by (suc k) xs ≡ turned_by k (turned xs)
  turned_first zero xs = refl
  turned_first (suc k) xs = ap turned (turned_first k xs)

  -- as many turns as the first part is long put it behind the second
  turned-append : (xs ys : List (ℕ × S)) → turned_by (length xs) (xs ++ ys) ≡ ys ++ xs
  turned-append [] ys = sym (append-nil ys)
  turned-append (x ∷ xs) ys = turned_first (length xs) ((x ∷ xs) ++ ys)
      ∙ (ap (turned_by (length xs)) (append_assoc xs ys (x ∷ [])) ∙ (turned-append xs (ys ++ x ∷ []) ∙ append_assoc ys (x ∷ []) xs))

  pub length-numbers : (xs : List (ℕ × S)) → length (numbers xs) ≡ length xs
  length-numbers [] = refl
  length-numbers (x ∷ xs) = let here = length-append (numbers xs) (x.0 ∷ []) in let rest = length-numbers xs in omega arith

  -- the row, cut where the slot of that number stands
  pub record Cut (xs : List (ℕ × S)) (turns n : ℕ) : Type 0 where
    pub before : List (ℕ × S)
    pub value : S
    pub after : List (ℕ × S)
    pub whole : xs ≡ before ++ (n, value) ∷ after
    pub long : length before ≡ turns

  pub cut_at : (xs : List (ℕ × S)) (turns place n : ℕ) → place + turns + 1 ≡ length xs → get_or (numbers xs) place 0 ≡ n → Cut xs turns n
  cut_at [] turns place n here is = absurd (omega arith)
  cut_at (x ∷ xs) zero place n here is =
      let last : place ≡ length (numbers xs) = omega (arith, length-numbers xs) in
      let same : x.0 ≡ n = sym (get_or-append_seam (numbers xs) x.0 [] 0) ∙ (ap (λ k. get_or (numbers xs ++ x.0 ∷ []) k 0) (sym last) ∙ is) in record {
        before = [];
        value = x.1;
        after = xs;
        whole = ap (λ z. (z, x.1) ∷ xs) same;
        long = refl;
      }
  cut_at (x ∷ xs) (suc turns) place n here is =
      let inside : place < length (numbers xs) = omega (arith, length-numbers xs) in
      let cut = cut_at xs turns place n (omega arith) (sym (get_or-append (numbers xs) (x.0 ∷ []) 0 place inside) ∙ is) in record {
        before = x ∷ cut.before;
        value = cut.value;
        after = cut.after;
        whole = ap (λ (l : List (ℕ × S)). x ∷ l) cut.whole;
        long = ap suc cut.long;
      }

  pub turned_to : (xs : List (ℕ × S)) (turns n : ℕ) (cut : Cut xs turns n) → turned_by turns xs ≡ (n, cut.value) ∷ (cut.after ++ cut.before)
  turned_to xs turns n cut = ap (turned_by turns) cut.whole ∙ (ap (λ k. turned_by k (cut.before ++ (n, cut.value) ∷ cut.after)) (sym cut.long) ∙ turned-append cut.before ((n, cut.value) ∷ cut.after))

  pub turned_back : (before after : List (ℕ × S)) (n : ℕ) (value : S) (turns : ℕ) → turns ≡ suc (length after) → turned_by turns ((n, value) ∷ (after ++ before)) ≡ before ++ (n, value) ∷ after
  turned_back before after n value turns is = ap (λ k. turned_by k ((n, value) ∷ (after ++ before))) is ∙ turned-append ((n, value) ∷ after) before
