-- What was read before, and what is still to be read.
use Rattle.std.proofs.Common.{◌≡◌, ℕ, suc, ◌+◌, List, [], ◌∷◌, ◌++◌, Result, Ok, Err, refl, sym, ap, ◌∙◌, append_assoc, append-nil}
use Rattle.desk_csv.specs.declared.errors.CsvError.{CsvError}
use Rattle.desk_csv.specs.Fields.{Record, ◌>>=◌, number_at, numbers_at}

-- these numbers, before those that are read
abbrev pub with_front : List ℕ → Result (List ℕ) CsvError → Result (List ℕ) CsvError
with_front front read = read >>= λ x. Ok (front ++ x)

regroup : (front : List ℕ) (x : ℕ) (read : Result (List ℕ) CsvError) → with_front front (read >>= λ xs. Ok (x ∷ xs)) ≡ with_front (front ++ x ∷ []) read
regroup front x (Ok xs) = ap (λ (ys : List ℕ). Ok ys) (sym (append_assoc front (x ∷ []) xs))
regroup front x (Err e) = refl

-- one more number was read
pub goes_on : (front : List ℕ) (row n k : ℕ) (fields : Record) (x : ℕ) (total : Result (List ℕ) CsvError) → number_at row n fields ≡ Ok x
    → with_front front (numbers_at row n (suc k) fields) ≡ total → with_front (front ++ x ∷ []) (numbers_at row (n + 1) k fields) ≡ total
unfolding numbers_at
goes_on front row n k fields x total h so_far =
    let one : with_front front (numbers_at row n (suc k) fields) ≡ with_front (front ++ x ∷ []) (numbers_at row (n + 1) k fields) = rw h (regroup front x (numbers_at row (n + 1) k fields)) in
    sym one ∙ so_far

-- a number is none
pub ends : (front : List ℕ) (row n k : ℕ) (fields : Record) (e : CsvError) (total : Result (List ℕ) CsvError) → number_at row n fields ≡ Err e
    → with_front front (numbers_at row n (suc k) fields) ≡ total → total ≡ Err e
unfolding numbers_at
ends front row n k fields e total h so_far =
    let one : with_front front (numbers_at row n (suc k) fields) ≡ Err e = rw h refl in
    sym so_far ∙ one

-- all numbers were read
pub is_done : (front : List ℕ) (row n : ℕ) (fields : Record) (total : Result (List ℕ) CsvError) → with_front front (numbers_at row n 0 fields) ≡ total → total ≡ Ok front
unfolding numbers_at
is_done front row n fields total so_far = sym so_far ∙ ap (λ (ys : List ℕ). Ok ys) (append-nil front)
