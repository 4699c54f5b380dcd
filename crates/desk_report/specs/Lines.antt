-- Lines of a report, as words.
use Rattle.std.specs.Prelude.{ℕ, List, [], ◌∷◌, ◌++◌, fold}
use Rattle.minute_line.specs.Writing.{with_line}

-- the words of a line, each as its bytes
abbrev pub Line : Type 0
Line = List (List ℕ)

-- a text with one more line: its words with a space between each two, and a line feed
abbrev pub add_line : List ℕ → Line → List ℕ
add_line text [] = text ++ 10 ∷ []
add_line text (first ∷ more) = with_line text first more

-- a text with more lines
abbrev pub with_lines : List ℕ → List Line → List ℕ
with_lines text lines = fold add_line text lines
