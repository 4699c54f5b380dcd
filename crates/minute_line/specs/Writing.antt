-- Lines of text, word by word.
use Rattle.std.specs.Prelude.{ℕ, List, [], ◌∷◌, ◌++◌, fold}

-- a text with more words, each after a space
abbrev pub with_words : List ℕ → List (List ℕ) → List ℕ
with_words text words = fold (λ before word. before ++ 32 ∷ word) text words

-- a text with a line of words, ended by a line feed
abbrev pub with_line : List ℕ → List ℕ → List (List ℕ) → List ℕ
with_line text first more = with_words (text ++ first) more ++ 10 ∷ []
