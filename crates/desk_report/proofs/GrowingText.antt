-- A report grows line by line.
use Rattle.std.proofs.Common.{◌≡◌, ℕ, ◌+◌, ◌<◌, List, ◌∷◌, ◌++◌, length, get_or, drop, add-one, drop-cons}
use Rattle.std.proofs.lemmas.List.Sums.{fold-append}
use Rattle.desk_report.specs.Lines.{Line, add_line, with_lines}

-- lines, and then more
pub then-lines : (text : List ℕ) (lines more : List Line) → with_lines text (lines ++ more) ≡ with_lines (with_lines text lines) more
then-lines text lines more = fold-append add_line text lines more

-- what is left at a place is the element there and what is left after it
pub left-at : {X : Type 0} (xs : List X) (i : ℕ) (x d : X) → i < length xs → x ≡ get_or xs i d → drop i xs ≡ x ∷ drop (i + 1) xs
left-at xs i x d l e = rw (add-one, e) (drop-cons xs i d l)
