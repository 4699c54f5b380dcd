-- A text without the debt is one with a debt of nothing, but for its end.
use Rattle.std.proofs.Common.{◌≡◌, ◌∙◌, sym, ap, refl, arith, true, ℕ, List, [], ◌∷◌, ◌++◌}
use Rattle.std.specs.Fmt.{decimal}
use Rattle.std.proofs.lemmas.Fmt.{decimal_digit}
use Rattle.std.proofs.lemmas.List.{append_cancel_right}
use Rattle.minute_line.specs.declared.lines.History.{History}
use Rattle.minute_line.specs.Histories.{Fields, fields_of, is_history}
use Rattle.minute_line.specs.Spelling.{older_spelling, spelling}
use Rattle.minute_line.specs.Tokens.{token_of, tokens_of, fields_by, candidate_of}
use Rattle.minute_line.proofs.Runs.{debt_after, debt_apart, read_again}

-- a history with no debt
abbrev pub debtless : History → History
debtless h = record h { owed = 0; due = 0; debt = omega arith; deadline = omega arith; no_debt = λ none. refl }

-- the two numbers of no debt
abbrev pub no_debt_text : List ℕ
no_debt_text = 32 ∷ 48 ∷ 32 ∷ 48 ∷ []

no_debt_decimals : no_debt_text ≡ 32 ∷ (decimal 0 ++ 32 ∷ decimal 0)
no_debt_decimals = let zero : decimal 0 ≡ 48 ∷ [] = decimal_digit 0 (omega arith) in rw zero refl

-- a text without the debt of a history, with that of none
pub debtless_text : (text : List ℕ) (h : History) → text ≡ older_spelling (fields_of h) → text ++ no_debt_text ≡ spelling (fields_of (debtless h))
debtless_text text h same = ap (λ (t : List ℕ). t ++ no_debt_text) same ∙ ap (λ (t : List ℕ). older_spelling (fields_of h) ++ t) no_debt_decimals

read_debtless : (text : List ℕ) (f : Fields) → is_history f ≡ true → text ++ no_debt_text ≡ spelling f
    → f ≡ fields_by (tokens_of text) (token_of 0 0 ∷ token_of 0 0 ∷ [])
read_debtless text f held same =
    let tokens : tokens_of (spelling f) ≡ tokens_of text ++ token_of 0 0 ∷ token_of 0 0 ∷ [] =
    ap tokens_of (sym same ∙ ap (λ (t : List ℕ). text ++ t) no_debt_decimals) ∙ debt_after text 0 0 (omega arith) (omega arith) in
    sym (read_again f held) ∙ ap candidate_of tokens ∙ debt_apart (tokens_of text) (token_of 0 0) (token_of 0 0)

-- what is left of a history's text before the end of one without a debt
pub older_is : (text : List ℕ) (f : Fields) → is_history f ≡ true → text ++ no_debt_text ≡ spelling f → text ≡ older_spelling f
older_is text f held same =
    let read = read_debtless text f held same in
    let owed : f.owed ≡ 0 = ap (λ (g : Fields). g.owed) read in
    let due : f.due ≡ 0 = ap (λ (g : Fields). g.due) read in
    let ends : spelling f ≡ older_spelling f ++ no_debt_text =
    rw (owed, due) (ap (λ (t : List ℕ). older_spelling f ++ t) (sym no_debt_decimals)) in
    append_cancel_right text (older_spelling f) no_debt_text (same ∙ ends)
