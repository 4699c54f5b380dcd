-- What was written is read again: the tokens of a history's text, and the history of these tokens.
use Rattle.std.proofs.Common.{◌≡◌, ◌∙◌, ℕ, suc, ◌+◌, ◌-◌, ◌*◌, ◌/◌, ◌%◌, ◌<◌, ◌≤◌, true, false, nat_le, List, [], ◌∷◌, ◌++◌, length, map, fold, refl, ap, subst, arith, append_assoc, sym, length-append}
use Rattle.std.proofs.Math.Seq.{take-append_seam, drop-append_seam}
use Rattle.std.specs.Fmt.{decimal}
use Rattle.std.specs.List.{flat_map, AllByRecursion}
use Rattle.std.proofs.lemmas.Fmt.{decimal_by_steps}
use Rattle.std.proofs.lemmas.List.Sums.{fold-append}
use Rattle.std.proofs.lemmas.List.Concat.{flat_map-cons}
use Rattle.minute_line.specs.declared.marks.Mark.{Mark}
use Rattle.minute_line.specs.declared.marks.Mark.TheVariants.{Drive, Work, Ready, Off}
use Rattle.minute_line.specs.declared.marks.Kind.{Kind}
use Rattle.minute_line.specs.declared.marks.Kind.TheVariants.{Plain, Daily, Weekly}
use Rattle.minute_line.specs.declared.lines.TheConstants.{WEEK_MINUTES}
use Rattle.minute_line.specs.declared.marks.Stint.{Stint}
use Rattle.minute_line.specs.declared.tokens.Token.{Token}
use Rattle.minute_line.specs.Minutes.{total_of}
use Rattle.minute_line.specs.Stints.{all_up_to}
use Rattle.minute_line.specs.Histories.{Fields, is_history}
use Rattle.minute_line.specs.Spelling.{letter_of, stint_text, numbers_text, stints_text, older_spelling, spelling}
use Rattle.minute_line.specs.Tokens.{Reading, is_separator, is_digit, take_byte, token_of, nothing_read, finish, tokens_of, stints_of, fields_by, candidate_of, value_at}
use Rattle.minute_line.proofs.Held.{Holds, holds, and_is, le_is}
use Rattle.minute_line.proofs.Letters.{tok, stint_tokens, tokens_back}
use Rattle.minute_line.proofs.Walks.{total_of-cons, took_separator, took_digit, took_letter}

abbrev at_token : List Token → ℕ → ℕ → Reading
at_token done letter value = record { tokens = done; letter = letter; value = value }

abbrev run : Reading → List ℕ → Reading
run r text = fold take_byte r text

run-append : (r : Reading) (xs ys : List ℕ) → run r (xs ++ ys) ≡ run (run r xs) ys
run-append r xs ys = fold-append take_byte r xs ys

run_digit : (done : List Token) (l v n : ℕ) → n < 10 → v ≤ 1000000 → run (at_token done l v) ((48 + n) ∷ []) ≡ at_token done l (10 * v + n)
run_digit done l v n small few =
    let s : is_separator (48 + n) ≡ false = grind arith in
    let d : is_digit (48 + n) ≡ true = grind arith in
    let g : nat_le v 1000000 ≡ true = grind arith in
    let e : 10 * v + (48 + n - 48) ≡ 10 * v + n = omega arith in
    took_digit done l v (48 + n) s d ∙ rw (g, e) refl

run_decimal : (n : ℕ) → n < 10000000 → (done : List Token) (l : ℕ) → run (at_token done l 0) (decimal n) ≡ at_token done l n
run_decimal n lt =
    decimal_by_steps (λ m ds. m < 10000000 → (done : List Token) (l : ℕ) → run (at_token done l 0) ds ≡ at_token done l m)
    (λ m small few done l.
    let same : 10 * 0 + m ≡ m = omega arith in
    subst (λ (k : ℕ). run (at_token done l 0) ((48 + m) ∷ []) ≡ at_token done l k) same (run_digit done l 0 m small (omega arith)))
    (λ m ds big ih few done l.
    let back : 10 * (m / 10) + m % 10 ≡ m = omega arith in
    run-append (at_token done l 0) ds ((48 + m % 10) ∷ [])
    ∙ rw (ih (omega arith) done l) (run_digit done l (m / 10) (m % 10) (omega arith) (omega arith) ∙ rw back refl))
    n (omega arith) lt

-- a space or a comma ends the token
ended : (r : Reading) (b : ℕ) (rest : List ℕ) → is_separator b ≡ true → run r (b ∷ rest) ≡ run (at_token (finish r) 0 0) rest
ended r b rest h = ap (λ (q : Reading). run q rest) (took_separator r.tokens r.letter r.value b h)

run_number : (done : List Token) (n b : ℕ) (rest : List ℕ) → n < 10000000 → is_separator b ≡ true
    → run (at_token done 0 0) (decimal n ++ b ∷ rest) ≡ run (at_token (done ++ token_of 0 n ∷ []) 0 0) rest
run_number done n b rest lt h =
    run-append (at_token done 0 0) (decimal n) (b ∷ rest) ∙ rw (run_decimal n lt done 0) (ended (at_token done 0 n) b rest h)

-- pieces with commas before them
abbrev Reads : {A : Type 0} → (A → List ℕ) → (A → Token) → A → Type 0
Reads piece tok a = (d : List Token) → run (at_token d 0 0) (piece a) ≡ at_token d (tok a).letter (tok a).value

run_pieces : {A : Type 0} (piece : A → List ℕ) (tok : A → Token) (xs : List A) → AllByRecursion (Reads piece tok) xs → (done : List Token) (l v : ℕ)
    → finish (run (at_token done l v) (flat_map (λ a. 44 ∷ piece a) xs)) ≡ done ++ token_of l v ∷ map tok xs
run_pieces piece tok [] all done l v = refl
run_pieces piece tok (x ∷ xs) all done l v =
    let more = flat_map (λ a. 44 ∷ piece a) xs in
    rw (flat_map-cons (λ a. 44 ∷ piece a) x xs, run-append (at_token (done ++ token_of l v ∷ []) 0 0) (piece x) more, all.0 (done ++ token_of l v ∷ []))
    (run_pieces piece tok xs all.1 (done ++ token_of l v ∷ []) (tok x).letter (tok x).value ∙ append_assoc done (token_of l v ∷ []) (tok x ∷ map tok xs))

numbers_read : (ns : List ℕ) → all_up_to WEEK_MINUTES ns ≡ true → AllByRecursion (Reads decimal (token_of 0)) ns
numbers_read [] h = tt
numbers_read (n ∷ ns) h =
    let p = and_is (nat_le n WEEK_MINUTES) (all_up_to WEEK_MINUTES ns) h in
    let le : n ≤ WEEK_MINUTES = le_is n WEEK_MINUTES p.0 in
    (λ d. run_decimal n (omega arith) d 0, numbers_read ns p.1)

letter_free : (m : Mark) (k : Kind) → (is_separator (letter_of m k) ≡ false) × (is_digit (letter_of m k) ≡ false)
letter_free Drive k = (refl, refl)
letter_free Work k = (refl, refl)
letter_free Ready k = (refl, refl)
letter_free Off Plain = (refl, refl)
letter_free Off Daily = (refl, refl)
letter_free Off Weekly = (refl, refl)

stint_read : (s : Stint) → s.minutes < 10000000 → Reads stint_text tok s
stint_read s lt d =
    let f = letter_free s.mark s.kind in
    ap (λ (q : Reading). run q (decimal s.minutes)) (took_letter d 0 0 (letter_of s.mark s.kind) f.0 f.1) ∙ run_decimal s.minutes lt d (letter_of s.mark s.kind)

stints_read : (ss : List Stint) → total_of ss ≤ 20160 → AllByRecursion (Reads stint_text tok) ss
stints_read [] h = tt
stints_read (s ∷ ss) h =
    let sum = total_of-cons s ss in
    (stint_read s (omega arith), stints_read ss (omega arith))

numbers_run : (n : ℕ) (ns : List ℕ) (done : List Token) → all_up_to WEEK_MINUTES (n ∷ ns) ≡ true
    → finish (run (at_token done 0 0) (numbers_text (n ∷ ns))) ≡ done ++ map (token_of 0) (n ∷ ns)
numbers_run n ns done h =
    let p = and_is (nat_le n WEEK_MINUTES) (all_up_to WEEK_MINUTES ns) h in
    let le : n ≤ WEEK_MINUTES = le_is n WEEK_MINUTES p.0 in
    let more = flat_map (λ m. 44 ∷ decimal m) ns in
    rw (run-append (at_token done 0 0) (decimal n) more, run_decimal n (omega arith) done 0) (run_pieces decimal (token_of 0) ns (numbers_read ns p.1) done 0 n)

stints_run : (ss : List Stint) (done : List Token) → total_of ss ≤ 20160
    → finish (run (at_token done 0 0) (stints_text ss)) ≡ done ++ stint_tokens ss
stints_run [] done h = refl
stints_run (s ∷ ss) done h =
    let sum = total_of-cons s ss in
    let more = flat_map (λ t. 44 ∷ stint_text t) ss in
    rw (run-append (at_token done 0 0) (stint_text s) more, stint_read s (omega arith) done) (run_pieces stint_text tok ss (stints_read ss (omega arith)) done (letter_of s.mark s.kind) s.minutes)

uncons : (n : ℕ) (ws : List ℕ) → length ws ≡ suc n → (w : ℕ) × (t : List ℕ) × (ws ≡ w ∷ t) × (length t ≡ n)
uncons n [] e = absurd (omega arith)
uncons n (w ∷ t) e = (w, t, refl, omega arith)

none_left : (ws : List ℕ) → length ws ≡ 0 → ws ≡ []
none_left [] e = refl
none_left (w ∷ t) e = absurd (omega arith)

placed : (ws : List ℕ) → length ws ≡ 16 → (a b o : ℕ) (more debt : List Token)
    → fields_by ((token_of 0 a ∷ token_of 0 b ∷ map (token_of 0) ws) ++ token_of 0 o ∷ more) debt
    ≡ record { prev_weekly = a; stints = stints_of more; open_off = o; prev_drive = b; work16 = ws; owed = value_at debt 0; due = value_at debt 1 }
placed ws e a b o more debt =
    let u0 = uncons 15 ws e in let u1 = uncons 14 u0.1 u0.3 in let u2 = uncons 13 u1.1 u1.3 in let u3 = uncons 12 u2.1 u2.3 in
    let u4 = uncons 11 u3.1 u3.3 in let u5 = uncons 10 u4.1 u4.3 in let u6 = uncons 9 u5.1 u5.3 in let u7 = uncons 8 u6.1 u6.3 in
    let u8 = uncons 7 u7.1 u7.3 in let u9 = uncons 6 u8.1 u8.3 in let u10 = uncons 5 u9.1 u9.3 in let u11 = uncons 4 u10.1 u10.3 in
    let u12 = uncons 3 u11.1 u11.3 in let u13 = uncons 2 u12.1 u12.3 in let u14 = uncons 1 u13.1 u13.3 in let u15 = uncons 0 u14.1 u14.3 in
    rw (u0.2, u1.2, u2.2, u3.2, u4.2, u5.2, u6.2, u7.2, u8.2, u9.2, u10.2, u11.2, u12.2, u13.2, u14.2, u15.2, none_left u15.1 u15.3) refl

numbers_then : (ws : List ℕ) (done : List Token) (rest : List ℕ) → length ws ≡ 16 → all_up_to WEEK_MINUTES ws ≡ true
    → run (at_token done 0 0) (numbers_text ws ++ 32 ∷ rest) ≡ run (at_token (done ++ map (token_of 0) ws) 0 0) rest
numbers_then [] done rest e h = absurd (omega arith)
numbers_then (n ∷ ns) done rest e h =
    run-append (at_token done 0 0) (numbers_text (n ∷ ns)) (32 ∷ rest)
    ∙ ended (run (at_token done 0 0) (numbers_text (n ∷ ns))) 32 rest refl
    ∙ rw (numbers_run n ns done h) refl

-- the tokens of a history's text without its debt
abbrev older_tokens : Fields → List Token
older_tokens h = ((token_of 0 h.prev_weekly ∷ token_of 0 h.prev_drive ∷ map (token_of 0) h.work16) ++ token_of 0 h.open_off ∷ stint_tokens h.stints)

older_read : (h : Fields) → Holds h → tokens_of (older_spelling h) ≡ older_tokens h
older_read h facts =
    let t4 = stints_text h.stints in
    let t3 = decimal h.open_off ++ 32 ∷ t4 in
    let t2 = numbers_text h.work16 ++ 32 ∷ t3 in
    let t1 = decimal h.prev_drive ++ 32 ∷ t2 in
    let d2 = token_of 0 h.prev_weekly ∷ token_of 0 h.prev_drive ∷ [] in
    let d3 = d2 ++ map (token_of 0) h.work16 in
    let d4 = d3 ++ token_of 0 h.open_off ∷ [] in
    let e : run nothing_read (older_spelling h) ≡ run (at_token d4 0 0) t4 =
    run_number [] h.prev_weekly 32 t1 (omega (arith, facts.rest)) refl
    ∙ run_number (token_of 0 h.prev_weekly ∷ []) h.prev_drive 32 t2 (omega (arith, facts.drive)) refl
    ∙ numbers_then h.work16 d2 t3 facts.sixteen facts.weeks
    ∙ run_number d3 h.open_off 32 t4 (omega (arith, facts.run)) refl in
    ap finish e ∙ stints_run h.stints d4 facts.total ∙ append_assoc d3 (token_of 0 h.open_off ∷ []) (stint_tokens h.stints)

-- one more number, after a space
pub number_after : (text : List ℕ) (n : ℕ) → n < 10000000 → tokens_of (text ++ 32 ∷ decimal n) ≡ tokens_of text ++ token_of 0 n ∷ []
number_after text n lt =
    let r = run nothing_read text in
    ap finish (run-append nothing_read text (32 ∷ decimal n) ∙ ended r 32 (decimal n) refl ∙ run_decimal n lt (finish r) 0)

-- two more numbers, each after a space
pub debt_after : (text : List ℕ) (owed due : ℕ) → owed < 10000000 → due < 10000000
    → tokens_of (text ++ 32 ∷ (decimal owed ++ 32 ∷ decimal due)) ≡ tokens_of text ++ token_of 0 owed ∷ token_of 0 due ∷ []
debt_after text owed due few soon =
    let apart : text ++ 32 ∷ (decimal owed ++ 32 ∷ decimal due) ≡ (text ++ 32 ∷ decimal owed) ++ 32 ∷ decimal due =
    sym (append_assoc text (32 ∷ decimal owed) (32 ∷ decimal due)) in
    ap tokens_of apart
    ∙ number_after (text ++ 32 ∷ decimal owed) due soon
    ∙ ap (λ (ts : List Token). ts ++ token_of 0 due ∷ []) (number_after text owed few)
    ∙ append_assoc (tokens_of text) (token_of 0 owed ∷ []) (token_of 0 due ∷ [])

-- the last two tokens are the debt
pub debt_apart : (ts : List Token) (owed due : Token) → candidate_of (ts ++ owed ∷ due ∷ []) ≡ fields_by ts (owed ∷ due ∷ [])
debt_apart ts owed due =
    let cut : length (ts ++ owed ∷ due ∷ []) - 2 ≡ length ts = omega (arith, length-append ts (owed ∷ due ∷ [])) in
    rw (cut, take-append_seam ts (owed ∷ due ∷ []), drop-append_seam ts (owed ∷ due ∷ [])) refl

-- what a history's text is read as
pub read_again : (h : Fields) → is_history h ≡ true → candidate_of (tokens_of (spelling h)) ≡ h
read_again h v =
    let facts = holds h v in
    let debt = token_of 0 h.owed ∷ token_of 0 h.due ∷ [] in
    let read : tokens_of (spelling h) ≡ older_tokens h ++ debt =
    debt_after (older_spelling h) h.owed h.due (omega (arith, facts.debt)) (omega (arith, facts.deadline)) ∙ ap (λ (ts : List Token). ts ++ debt) (older_read h facts) in
    let back : fields_by (older_tokens h) debt ≡ record h { stints = stints_of (stint_tokens h.stints) } =
    placed h.work16 facts.sixteen h.prev_weekly h.prev_drive h.open_off (stint_tokens h.stints) debt in
    ap candidate_of read ∙ debt_apart (older_tokens h) (token_of 0 h.owed) (token_of 0 h.due) ∙ back ∙ rw (tokens_back h.stints false facts.shape) refl
