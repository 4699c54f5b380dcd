-- A text says its lines, and a line its words, where no word has a space or a line feed.
use Rattle.std.proofs.Common.{◌≡◌, ℕ, ◌+◌, ◌%◌, ◌<◌, ◌≤◌, ◌^◌, List, [], ◌∷◌, ◌++◌, drop, get_or, refl, ap, sym, ◌∙◌, append_assoc, arith}
use Rattle.std.specs.Fmt.{decimal}
use Rattle.std.proofs.lemmas.Fmt.{decimal_by_steps}
use Rattle.minute_line.specs.Writing.{with_words}
use Rattle.desk_report.specs.Lines.{Line, add_line, with_lines}
use Rattle.desk_report.proofs.OneReport.{words-after, first-line}

-- each byte is above a limit
abbrev pub AllOver : ℕ → List ℕ → Type 0
AllOver limit [] = Unit {0}
AllOver limit (byte ∷ more) = (limit < byte) × AllOver limit more

pub over-more : (limit : ℕ) (a b : List ℕ) → AllOver limit a → AllOver limit b → AllOver limit (a ++ b)
over-more limit [] b p q = q
over-more limit (byte ∷ a) b p q = (p.0, over-more limit a b p.1 q)

pub over-less : (low high : ℕ) (a : List ℕ) → low ≤ high → AllOver high a → AllOver low a
over-less low high [] l p = tt
over-less low high (byte ∷ a) l p = (omega (arith, l, p.0), over-less low high a l p.1)

pub decimal-over : (n : ℕ) → n < 2 ^ 64 → AllOver 32 (decimal n)
decimal-over =
    decimal_by_steps (λ m ds. AllOver 32 ds) (λ m l. (omega arith, tt)) (λ m ds l h. over-more 32 ds ((48 + m % 10) ∷ []) h (omega arith, tt))

-- two texts are the same up to the first byte that is not above the limit, and after it
pub split-at : (limit : ℕ) (a b x y : List ℕ) → AllOver limit a → AllOver limit b → a ++ limit ∷ x ≡ b ++ limit ∷ y → (a ≡ b) × (x ≡ y)
split-at limit [] [] x y p q e = (refl, ap (drop 1) e)
split-at limit [] (d ∷ b) x y p q e = let head : limit ≡ d = ap (λ (t : List ℕ). get_or t 0 0) e in absurd (omega (arith, q.0, head))
split-at limit (c ∷ a) [] x y p q e = let head : c ≡ limit = ap (λ (t : List ℕ). get_or t 0 0) e in absurd (omega (arith, p.0, head))
split-at limit (c ∷ a) (d ∷ b) x y p q e =
    let more = split-at limit a b x y p.1 q.1 (ap (drop 1) e) in
    let head : c ≡ d = ap (λ (t : List ℕ). get_or t 0 0) e in
    (ap (λ (t : List ℕ). c ∷ t) more.0 ∙ ap (λ (h : ℕ). h ∷ b) head, more.1)

-- a text above the limit has no byte at it
none-at : (limit : ℕ) (a b x : List ℕ) → AllOver limit a → a ≡ b ++ limit ∷ x → ⊥
none-at limit [] [] x p e = cc e
none-at limit [] (d ∷ b) x p e = cc e
none-at limit (c ∷ a) [] x p e = let head : c ≡ limit = ap (λ (t : List ℕ). get_or t 0 0) e in omega (arith, p.0, head)
none-at limit (c ∷ a) (d ∷ b) x p e = none-at limit a b x p.1 (ap (drop 1) e)

abbrev pub WordsOver : ℕ → Line → Type 0
WordsOver limit [] = Unit {0}
WordsOver limit (word ∷ words) = AllOver limit word × WordsOver limit words

words-join : (first word : List ℕ) (words : Line) → with_words first (word ∷ words) ≡ first ++ 32 ∷ with_words word words
words-join first word words = words-after first (32 ∷ word) words ∙ ap (λ (t : List ℕ). first ++ t) (words-after (32 ∷ []) word words)

-- words are told by the spaces between them
words-same : (f g : List ℕ) (more others : Line) → AllOver 32 f → AllOver 32 g → WordsOver 32 more → WordsOver 32 others
    → with_words f more ≡ with_words g others → (f ≡ g) × (more ≡ others)
words-same f g [] [] p q k l e = (e, refl)
words-same f g [] (w ∷ others) p q k l e = absurd (none-at 32 f g (with_words w others) p (e ∙ words-join g w others))
words-same f g (v ∷ more) [] p q k l e = absurd (none-at 32 g f (with_words v more) q (sym e ∙ words-join f v more))
words-same f g (v ∷ more) (w ∷ others) p q k l e =
    let two = split-at 32 f g (with_words v more) (with_words w others) p q (sym (words-join f v more) ∙ e ∙ words-join g w others) in
    let rest = words-same v w more others k.0 l.0 k.1 l.1 two.1 in
    (two.0, ap (λ (x : List ℕ). x ∷ more) rest.0 ∙ ap (λ (xs : Line). w ∷ xs) rest.1)

-- a line has no line feed before its end
pub line-over : (first : List ℕ) (words : Line) → AllOver 31 first → WordsOver 31 words → AllOver 31 (with_words first words)
line-over first [] p q = p
line-over first (word ∷ words) p q = rw (words-join first word words) (over-more 31 first (32 ∷ with_words word words) p (omega arith, line-over word words q.0 q.1))

pub words-less : (words : Line) → WordsOver 32 words → WordsOver 31 words
words-less [] p = tt
words-less (word ∷ words) p = (over-less 31 32 word (omega arith) p.0, words-less words p.1)

-- lines of one text have the same bytes, and so has what comes after them
pub one-line : (f g : List ℕ) (more others : Line) (x y : List ℕ) → AllOver 31 f → AllOver 31 g → WordsOver 31 more → WordsOver 31 others
    → add_line [] (f ∷ more) ++ x ≡ add_line [] (g ∷ others) ++ y → (with_words f more ≡ with_words g others) × (x ≡ y)
one-line f g more others x y p q k l e =
    split-at 10 (with_words f more) (with_words g others) x y
    (over-less 10 31 (with_words f more) (omega arith) (line-over f more p k)) (over-less 10 31 (with_words g others) (omega arith) (line-over g others q l))
    (sym (append_assoc (with_words f more) (10 ∷ []) x) ∙ e ∙ append_assoc (with_words g others) (10 ∷ []) y)

-- a line that begins with a stamp: below the byte d, with which the words of the other lines begin or which they are above
abbrev pub IsStamped : Line → Type 0
IsStamped [] = ⊥
IsStamped (first ∷ more) = (get_or first 0 100 < 100) × (AllOver 32 first × WordsOver 32 more)

abbrev pub AreStamped : List Line → Type 0
AreStamped [] = Unit {0}
AreStamped (line ∷ lines) = IsStamped line × AreStamped lines

pub stamped-more : (lines more : List Line) → AreStamped lines → AreStamped more → AreStamped (lines ++ more)
stamped-more [] more p q = q
stamped-more (line ∷ lines) more p q = (p.0, stamped-more lines more p.1 q)

head-of : (first : List ℕ) (more : Line) (x : List ℕ) → get_or first 0 100 < 100 → get_or (add_line [] (first ∷ more) ++ x) 0 100 < 100
head-of [] more x l = absurd (omega (arith, l))
head-of (byte ∷ first) more x l = rw (words-after (byte ∷ []) first more) l

pub lines-split : (line : Line) (lines : List Line) (x : List ℕ) → with_lines [] (line ∷ lines) ++ x ≡ add_line [] line ++ (with_lines [] lines ++ x)
lines-split line lines x = ap (λ (t : List ℕ). t ++ x) (first-line line lines) ∙ append_assoc (add_line [] line) (with_lines [] lines) x

-- stamped lines end where others begin
pub stamped-lines : (lines others : List Line) (x y : List ℕ) → AreStamped lines → AreStamped others → 100 ≤ get_or x 0 100 → 100 ≤ get_or y 0 100
    → with_lines [] lines ++ x ≡ with_lines [] others ++ y → (lines ≡ others) × (x ≡ y)
stamped-lines [] [] x y p q b c e = (refl, e)
stamped-lines [] ([] ∷ others) x y p q b c e = absurd q.0
stamped-lines [] ((g ∷ more) ∷ others) x y p q b c e =
    let same : x ≡ add_line [] (g ∷ more) ++ (with_lines [] others ++ y) = e ∙ lines-split (g ∷ more) others y in
    let head : get_or x 0 100 ≡ get_or (add_line [] (g ∷ more) ++ (with_lines [] others ++ y)) 0 100 = ap (λ (t : List ℕ). get_or t 0 100) same in
    absurd (omega (arith, b, head, head-of g more (with_lines [] others ++ y) q.0.0))
stamped-lines ([] ∷ lines) others x y p q b c e = absurd p.0
stamped-lines ((f ∷ more) ∷ lines) [] x y p q b c e =
    let same : y ≡ add_line [] (f ∷ more) ++ (with_lines [] lines ++ x) = sym e ∙ lines-split (f ∷ more) lines x in
    let head : get_or y 0 100 ≡ get_or (add_line [] (f ∷ more) ++ (with_lines [] lines ++ x)) 0 100 = ap (λ (t : List ℕ). get_or t 0 100) same in
    absurd (omega (arith, c, head, head-of f more (with_lines [] lines ++ x) p.0.0))
stamped-lines ((f ∷ more) ∷ lines) ([] ∷ others) x y p q b c e = absurd q.0
stamped-lines ((f ∷ more) ∷ lines) ((g ∷ words) ∷ others) x y p q b c e =
    let two = one-line f g more words (with_lines [] lines ++ x) (with_lines [] others ++ y) (over-less 31 32 f (omega arith) p.0.1.0) (over-less 31 32 g (omega arith) q.0.1.0)
    (words-less more p.0.1.1) (words-less words q.0.1.1) (sym (lines-split (f ∷ more) lines x) ∙ e ∙ lines-split (g ∷ words) others y) in
    let line = words-same f g more words p.0.1.0 q.0.1.0 p.0.1.1 q.0.1.1 two.0 in
    let rest = stamped-lines lines others x y p.1 q.1 b c two.1 in
    (ap (λ (v : List ℕ). (v ∷ more) ∷ lines) line.0 ∙ ap (λ (ws : Line). (g ∷ ws) ∷ lines) line.1 ∙ ap (λ (ls : List Line). (g ∷ words) ∷ ls) rest.0, rest.1)
