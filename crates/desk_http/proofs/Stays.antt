-- What a request asks for stays as more bytes come, once enough are there.
use Rattle.std.proofs.Common.{◌≡◌, ◌∙◌, ◌⊎◌, inl, inr, sym, ap, subst, refl, ℕ, ◌+◌, ◌-◌, ◌≤◌, List, [], ◌∷◌, ◌++◌, length, map, append_assoc, arith, length-append, Option, None, Some, Result, Ok, Err}
use Rattle.std.proofs.lemmas.Bool.{le-leb}
use Rattle.std.proofs.lemmas.List.{take-append-le}
use Rattle.httparse.specs.Grammar.{RequestHead, print_request}
use Rattle.httparse.specs.Spans.{name_and_value}
use Rattle.httparse.proofs.GrammarLemmas.{request_unique, ReadsRequest-append}
use Rattle.desk_io.specs.Device.{GivesBytes, NothingLeft}
use Rattle.desk_http.specs.declared.early.Early.{Early}
use Rattle.desk_http.specs.declared.requests.Opening.{Opening}
use Rattle.desk_http.specs.Heads.{HasHead, IsHeadSettled}
use Rattle.desk_http.specs.Requests.{opening_of, body_of, command_of, asked_in, asked_by, ◌>>=◌, Asks}
use Rattle.desk_http.specs.Serving.{AsksAs, IsEnough, StandsFor}

head_more : (request more : List ℕ) (head : RequestHead) (rest : List ℕ) → HasHead request head rest → HasHead (request ++ more) head (rest ++ more)
head_more request more head rest has =
    record { reads = ReadsRequest-append request head rest more has.reads; short = has.short; few = has.few }

pub same_asks : (all request : List ℕ) → all ≡ request → AsksAs all request
same_asks all request same asked asks = subst (λ (r : List ℕ). Asks r asked) (sym same) asks

asks_headed : (request more : List ℕ) (head : RequestHead) (rest : List ℕ) → HasHead request head rest → asked_by head (rest ++ more) ≡ asked_by head rest
    → AsksAs (request ++ more) request
asks_headed request more head rest has stays asked (inl (other, left, also, is)) =
    let same = request_unique request head other rest left has.reads also.reads in
    let here : asked ≡ asked_by head rest = is ∙ (ap (λ (h : RequestHead). asked_by h left) (sym same.0) ∙ ap (asked_by head) (sym same.1)) in
    inl (head, rest ++ more, head_more request more head rest has, here ∙ sym stays)
asks_headed request more head rest has stays asked (inr (nowhere, is)) = absurd (nowhere head rest has)

early_stays : (opened : Result Opening Early) (early : Early) (one two : List ℕ) → opened ≡ Err early
    → (opened >>= λ opening. asked_in opening one) ≡ (opened >>= λ opening. asked_in opening two)
early_stays opened early one two is = rw is refl

-- what is answered by the head alone stays
pub enough_early : (request : List ℕ) (n : ℕ) (head : RequestHead) (rest : List ℕ) (early : Early) → HasHead request head rest
    → opening_of head.method head.target (map name_and_value head.fields) ≡ Err early → IsEnough request n
enough_early request n head rest early has opened more later long =
    asks_headed (request ++ more) later head (rest ++ more) (head_more request more head rest has)
    (early_stays (opening_of head.method head.target (map name_and_value head.fields)) early ((rest ++ more) ++ later) (rest ++ more) opened)

body_stays : (n : ℕ) (rest more : List ℕ) → n ≤ length rest → body_of n (rest ++ more) ≡ body_of n rest
body_stays n rest more there =
    let longer : n ≤ length (rest ++ more) = omega (arith, length-append rest more) in
    rw (le-leb n (length (rest ++ more)) longer, le-leb n (length rest) there, take-append-le n rest more there) refl

open_stays : (opened : Result Opening Early) (opening : Opening) (rest more : List ℕ) → opened ≡ Ok opening → opening.length ≤ length rest
    → (opened >>= λ opening. asked_in opening (rest ++ more)) ≡ (opened >>= λ opening. asked_in opening rest)
open_stays opened opening rest more is there =
    rw is (ap (λ (body : Result (List ℕ) Early). body >>= λ b. command_of opening.target b) (body_stays opening.length rest more there))

-- once the body is there, what is asked for stays
pub enough_open : (request : List ℕ) (n : ℕ) (head : RequestHead) (rest : List ℕ) (opening : Opening) → HasHead request head rest
    → opening_of head.method head.target (map name_and_value head.fields) ≡ Ok opening → length request - length rest + opening.length ≤ n
    → IsEnough request n
enough_open request n head rest opening has opened wants more later long =
    let parts : length request ≡ length (print_request head) + length rest = ap length has.reads.1 ∙ length-append (print_request head) rest in
    let there : opening.length ≤ length (rest ++ more) = omega (arith, length-append request more, length-append rest more) in
    asks_headed (request ++ more) later head (rest ++ more) (head_more request more head rest has)
    (open_stays (opening_of head.method head.target (map name_and_value head.fields)) opening (rest ++ more) later opened there)

no_bytes : (xs ys : List ℕ) → xs ++ ys ≡ [] → (xs ≡ []) × (ys ≡ [])
no_bytes [] ys is = (refl, is)
no_bytes (x ∷ xs) ys is = cc

nothing_more : (xs : List ℕ) → xs ++ [] ≡ xs
nothing_more [] = refl
nothing_more (x ∷ xs) = ap (λ (l : List ℕ). x ∷ l) (nothing_more xs)

-- the end of a source: what was given is all
all_given : (first given rest : List ℕ) → rest ≡ [] → first ++ (given ++ rest) ≡ first ++ given
all_given first given rest is = ap (λ (l : List ℕ). first ++ l) (ap (λ (l : List ℕ). given ++ l) is ∙ nothing_more given)

told_stands : (first given rest : List ℕ) (n : ℕ) → IsHeadSettled first ⊎ (given ++ rest ≡ []) → (IsHeadSettled first → IsEnough first n)
    → (n ≤ length (first ++ given)) ⊎ (rest ≡ []) → AsksAs (first ++ (given ++ rest)) (first ++ given)
told_stands first given rest n settled enough (inr ended) = same_asks _ _ (all_given first given rest ended)
told_stands first given rest n (inr ended) enough (inl long) = same_asks _ _ (all_given first given rest (no_bytes given rest ended).1)
told_stands first given rest n (inl settled) enough (inl long) =
    subst (λ (all : List ℕ). AsksAs all (first ++ given)) (append_assoc first given rest) (enough settled given rest long)

-- the bytes of both readings stand for all that was left
pub stands : (left mid end : Option (List ℕ)) (first given : List ℕ) (n : ℕ) → GivesBytes left first mid → GivesBytes mid given end
    → IsHeadSettled first ⊎ NothingLeft mid → (IsHeadSettled first → IsEnough first n) → (n ≤ length (first ++ given)) ⊎ NothingLeft end
    → StandsFor left (first ++ given)
stands left mid None first given n one two settled enough ends = rw (one, two) tt
stands left mid (Some rest) first given n one two settled enough ends =
    let there : IsHeadSettled first ⊎ (given ++ rest ≡ []) = rw two at settled in
    rw (one, two) (told_stands first given rest n there enough ends)
