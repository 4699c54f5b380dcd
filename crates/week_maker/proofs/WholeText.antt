-- The text of a week, part by part.
use Rattle.std.proofs.Common.{◌≡◌, ℕ, List, ◌++◌, ◌∙◌}
use Rattle.week_maker.specs.Rows.{Row, with_rows}
use Rattle.week_maker.proofs.GrowingText.{then-rows}

-- the parts of a text, one after another
pub six-parts : (text : List ℕ) (a b c d e f : List Row)
    → with_rows text (a ++ (b ++ (c ++ (d ++ (e ++ f)))))
    ≡ with_rows (with_rows (with_rows (with_rows (with_rows (with_rows text a) b) c) d) e) f
six-parts text a b c d e f =
    then-rows text a (b ++ (c ++ (d ++ (e ++ f))))
    ∙ then-rows (with_rows text a) b (c ++ (d ++ (e ++ f)))
    ∙ then-rows (with_rows (with_rows text a) b) c (d ++ (e ++ f))
    ∙ then-rows (with_rows (with_rows (with_rows text a) b) c) d (e ++ f)
    ∙ then-rows (with_rows (with_rows (with_rows (with_rows text a) b) c) d) e f
