-- How many drivers a check text may have.
use Rattle.std.proofs.Common.{ℕ, ◌+◌, ◌≤◌, Bool, true, false, if◌then◌else◌, List, [], ◌∷◌, ◌++◌, length, fold, arith, length-append}
use Rattle.week_book.specs.declared.rows.Row.{Row}
use Rattle.week_book.specs.declared.rows.Row.TheVariants as row
use Rattle.week_book.specs.Names.{is_among}
use Rattle.week_book.specs.Driven.{meet}

more_case : (there : Bool) (names : List (List ℕ)) (name : List ℕ) → length (if there then names else names ++ name ∷ []) ≤ length names + 1
more_case true names name = omega arith
more_case false names name = omega (arith, length-append names (name ∷ []))

meet_length : (names : List (List ℕ)) (r : Row) → length (meet names r) ≤ length names + 1
meet_length names (row.Did n driver mark minutes) = more_case (is_among names driver) names driver
meet_length names _ = omega arith

-- no more drivers than rows
pub driven_length : (names : List (List ℕ)) (rows : List Row) → length (fold meet names rows) ≤ length names + length rows
driven_length names [] = omega arith
driven_length names (r ∷ rs) = omega (arith, meet_length names r, driven_length (meet names r) rs)
