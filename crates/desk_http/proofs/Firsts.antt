-- A head within the first bytes of a request, and a head of the whole request.
use Rattle.std.proofs.Common.{◌≡◌, ◌∙◌, sym, ap, subst, refl, ℕ, zero, suc, ◌+◌, ◌-◌, ◌≤◌, ◌<◌, List, [], ◌∷◌, ◌++◌, length, take, drop, map, append_assoc, arith, length-take, length-append}
use Rattle.std.proofs.lemmas.List.{drop_at, take-append-le, take-append-drop, take_at}
use Rattle.std.proofs.Math.Seq.{take-append-add}
use Rattle.httparse.specs.Borrowed.{HoldsSomeRequest, HoldsRequest, header_parts}
use Rattle.httparse.specs.Grammar.{RequestHead, ReadsRequest, HasNoRequest, print_request}
use Rattle.httparse.specs.Spans.{name_and_value, RequestOverflows, IsRequestOf}
use Rattle.httparse.specs.declared.borrowed.Request.{Request}
use Rattle.httparse.specs.declared.spans.HeaderSpan.{HeaderSpan}
use Rattle.httparse.specs.declared.spans.RequestSpans.{RequestSpans}
use Rattle.httparse.proofs.GrammarLemmas.{request_unique, request_prefix_free}
use Rattle.desk_http.specs.Heads.{HasHead, HasNoHead, IsHeadSettled}

pub take_all : (n : ℕ) (xs : List ℕ) → length xs ≤ n → take n xs ≡ xs
take_all zero [] le = refl
take_all zero (x ∷ xs) le = absurd (omega arith)
take_all (suc n) [] le = refl
take_all (suc n) (x ∷ xs) le = ap (λ (l : List ℕ). x ∷ l) (take_all n xs (omega arith))

-- what follows a beginning is what is left after it
front_left : (p x r : List ℕ) → r ≡ p ++ x → r ≡ p ++ drop (length p) r
front_left p x r is = is ∙ ap (λ (l : List ℕ). p ++ l) (sym (drop_at p x (length p) refl) ∙ ap (drop (length p)) (sym is))

-- the beginning of the first bytes is that of all
front_of_all : (n : ℕ) (p x r : List ℕ) → take n r ≡ p ++ x → r ≡ p ++ drop (length p) r
front_of_all n p x r is =
    front_left p (x ++ drop n r) r (sym (take-append-drop n r) ∙ (ap (λ (l : List ℕ). l ++ drop n r) is ∙ append_assoc p x (drop n r)))

front_of_more : (k : ℕ) (p x r : List ℕ) → r ≡ p ++ x → take (length p + k) r ≡ p ++ drop (length p) (take (length p + k) r)
front_of_more k p x r is = front_left p (take k x) (take (length p + k) r) (ap (take (length p + k)) is ∙ take-append-add p x k)

-- a beginning that is short enough is one of the first bytes
front_of_first : (n : ℕ) (p x r : List ℕ) → r ≡ p ++ x → length p ≤ n → take n r ≡ p ++ drop (length p) (take n r)
front_of_first n p x r is short =
    let whole : length p + (n - length p) ≡ n = omega arith in
    subst (λ (m : ℕ). take m r ≡ p ++ drop (length p) (take m r)) whole (front_of_more (n - length p) p x r is)

-- a beginning of a text that is longer is one of the text
front_of_part : (p x r more : List ℕ) → r ++ more ≡ p ++ x → length p ≤ length r → r ≡ p ++ drop (length p) r
front_of_part p x r more is short =
    let front : take (length p) r ≡ p = sym (take-append-le (length p) r more short) ∙ (ap (take (length p)) is ∙ take_at p x (length p) refl) in
    sym (take-append-drop (length p) r) ∙ ap (λ (l : List ℕ). l ++ drop (length p) r) front

length_mapped : {A B : Type 0} (f : A → B) (xs : List A) → length (map f xs) ≡ length xs
length_mapped f [] = refl
length_mapped f (x ∷ xs) = ap suc (length_mapped f xs)

-- a head that was read in the first bytes is one of the request
pub has_head : (request buf : List ℕ) (r : Request) (len : ℕ) → buf ≡ take 8192 request → HoldsSomeRequest buf r len → length r.headers.now ≤ 32
    → (head : RequestHead) × HasHead request head (drop len request) × HoldsRequest buf len r head
has_head request buf r len is (head, at) few =
    let first : take 8192 request ≡ print_request head ++ drop len buf = sym is ∙ at.reads.1 in
    let long = ap length first in (
      head,
      record {
        reads = (at.reads.0, rw at.len_is (front_of_all 8192 (print_request head) (drop len buf) request first));
        short = omega (arith, length-take 8192 request, length-append (print_request head) (drop len buf));
        few = omega (arith, ap length at.fields, length_mapped header_parts r.headers.now, length_mapped name_and_value head.fields);
      },
      at,
    )

-- a head of the request is one of its first bytes
pub read_first : (request buf : List ℕ) (head : RequestHead) (rest : List ℕ) → buf ≡ take 8192 request → HasHead request head rest
    → ReadsRequest buf head (drop (length (print_request head)) buf)
read_first request buf head rest is has = rw is (has.reads.0, front_of_first 8192 (print_request head) rest request has.reads.1 has.short)

pub none_read : (request buf : List ℕ) → buf ≡ take 8192 request → HasNoRequest buf → HasNoHead request
none_read request buf is none head rest has = none head _ (read_first request buf head rest is has)

no_more : (buf : List ℕ) → buf ++ [] ≡ buf
no_more [] = refl
no_more (x ∷ buf) = ap (λ (l : List ℕ). x ∷ l) (no_more buf)

pub none_fits : (request buf : List ℕ) (room : ℕ) → buf ≡ take 8192 request → RequestOverflows room buf → 32 ≤ room → HasNoHead request
none_fits request buf room is over wide head rest has =
    let more : room < length head.fields = over [] head (drop (length (print_request head)) buf) (rw no_more (read_first request buf head rest is has)) in
    let few = has.few in absurd (omega arith)

pub too_many : (request buf : List ℕ) (r : Request) (len : ℕ) → buf ≡ take 8192 request → HoldsSomeRequest buf r len → 32 < length r.headers.now → HasNoHead request
too_many request buf r len is (found, at) many head rest has =
    let same = (request_unique buf head found _ _ (read_first request buf head rest is has) at.reads).0 in
    let few : length found.fields ≤ 32 = subst (λ (h : RequestHead). length h.fields ≤ 32) same has.few in
    absurd (omega (arith, ap length at.fields, length_mapped header_parts r.headers.now, length_mapped name_and_value found.fields))

-- past 8,192 bytes no head comes
pub settled_by_length : (request : List ℕ) → 8192 ≤ length request → IsHeadSettled request
settled_by_length request long more head rest has =
    let short = has.short in (
      drop (length (print_request head)) request,
      record {
        reads = (has.reads.0, front_of_part (print_request head) rest request more has.reads.1 (omega arith));
        short = has.short;
        few = has.few;
      },
    )

-- after a head no other comes
pub settled_by_head : (request : List ℕ) (headers : List HeaderSpan) (r : RequestSpans) → IsRequestOf request headers r → IsHeadSettled request
settled_by_head request headers r (found, at) more head rest has =
    let same = (request_prefix_free request more found head _ rest at.reads has.reads).0 in (
      drop r.len request,
      record {
        reads = subst (λ (h : RequestHead). ReadsRequest request h (drop r.len request)) same at.reads;
        short = has.short;
        few = has.few;
      },
    )

-- where no bytes make a head, none comes
pub settled_by_error : (request : List ℕ) → RequestOverflows 32 request → IsHeadSettled request
settled_by_error request over more head rest has =
    let many : 32 < length head.fields = over more head rest has.reads in
    let few = has.few in absurd (omega arith)
