-- Where an element of chunks stands, and one element more.
use Rattle.std.proofs.Common.{◌≡◌, ◌⊎◌, inl, inr, ℕ, zero, suc, ◌+◌, ◌-◌, ◌*◌, ◌/◌, ◌%◌, ◌<◌, ◌≤◌, List, [], ◌∷◌, ◌++◌, length, refl, ap, sym, ◌∙◌, arith, append_assoc, length-append, Option, Some, None, slice_get}
use Rattle.std.proofs.lemmas.Bool.{cases_lt}
use Rattle.std.proofs.lemmas.List.{append-nil}
use Rattle.std.proofs.Common.{get_or}
use Rattle.std.proofs.lemmas.Option.{slice_get-get_or}
use Rattle.duty_pricing.specs.Chunking.{joined, AreFilled}
use Rattle.duty_pricing.proofs.Elements.{get-same, length-push}

get-past : {X : Type 0} (xs ys : List X) (k : ℕ) → length xs ≤ k → slice_get (xs ++ ys) k ≡ slice_get ys (k - length xs)
get-past [] ys k l = let e : k - 0 ≡ k = omega arith in ap (slice_get ys) (sym e)
get-past (x ∷ xs) ys zero l = absurd (omega arith)
get-past (x ∷ xs) ys (suc k) l =
    let e : suc k - length (x ∷ xs) ≡ k - length xs = omega arith in
    get-past xs ys k (omega arith) ∙ ap (slice_get ys) (sym e)

get-none : {X : Type 0} (xs : List X) (k : ℕ) → length xs ≤ k → slice_get xs k ≡ None
get-none [] k l = refl
get-none (x ∷ xs) zero l = absurd (omega arith)
get-none (x ∷ xs) (suc k) l = get-none xs k (omega arith)

-- the element of a chunk, where there is one
abbrev pub in_chunk : {X : Type 0} → Option (List X) → ℕ → Option X
in_chunk None place = None
in_chunk (Some chunk) place = slice_get chunk place

-- number n is place n % 1024 of chunk n / 1024
pub get-joined : {X : Type 0} (chunks : List (List X)) (n : ℕ) → AreFilled chunks → slice_get (joined chunks) n ≡ in_chunk (slice_get chunks (n / 1024)) (n % 1024)
get-joined [] n f = refl
get-joined (chunk ∷ []) n f = by_place (cases_lt n 1024)
  where
    by_place : (n < 1024) ⊎ (1024 ≤ n) → slice_get (chunk ++ []) n ≡ in_chunk (slice_get (chunk ∷ []) (n / 1024)) (n % 1024)
    by_place (inl l) =
        let z : n / 1024 ≡ 0 = omega arith in
        let m : n % 1024 ≡ n = omega arith in
        ap (λ c. slice_get c n) (append-nil chunk)
        ∙ sym (ap (λ (k : ℕ). in_chunk (slice_get (chunk ∷ []) k) (n % 1024)) z ∙ ap (slice_get chunk) m)
    by_place (inr g) =
        let z : n / 1024 ≡ suc ((n - 1024) / 1024) = omega arith in
        let most = f.1 in
        ap (λ c. slice_get c n) (append-nil chunk)
        ∙ (get-none chunk n (omega arith) ∙ sym (ap (λ (k : ℕ). in_chunk (slice_get (chunk ∷ []) k) (n % 1024)) z))
get-joined (chunk ∷ (next ∷ rest)) n f = by_place (cases_lt n 1024) (get-joined (next ∷ rest) (n - 1024) f.1)
  where
    by_place : (n < 1024) ⊎ (1024 ≤ n) →
        slice_get (joined (next ∷ rest)) (n - 1024) ≡ in_chunk (slice_get (next ∷ rest) ((n - 1024) / 1024)) ((n - 1024) % 1024) →
        slice_get (chunk ++ joined (next ∷ rest)) n ≡ in_chunk (slice_get (chunk ∷ (next ∷ rest)) (n / 1024)) (n % 1024)
    by_place (inl l) more =
        let z : n / 1024 ≡ 0 = omega arith in
        let m : n % 1024 ≡ n = omega arith in
        let full = f.0 in
        get-same chunk (joined (next ∷ rest)) n (omega arith)
        ∙ sym (ap (λ (k : ℕ). in_chunk (slice_get (chunk ∷ (next ∷ rest)) k) (n % 1024)) z ∙ ap (slice_get chunk) m)
    by_place (inr g) more =
        let z : n / 1024 ≡ suc ((n - 1024) / 1024) = omega arith in
        let m : n % 1024 ≡ (n - 1024) % 1024 = omega arith in
        let full = f.0 in
        let past : n - length chunk ≡ n - 1024 = omega arith in
        get-past chunk (joined (next ∷ rest)) n (omega arith)
        ∙ (ap (slice_get (joined (next ∷ rest))) past
        ∙ (more ∙ sym (ap (λ (k : ℕ). in_chunk (slice_get (chunk ∷ (next ∷ rest)) k) (n % 1024)) z
        ∙ ap (λ (k : ℕ). in_chunk (slice_get (next ∷ rest) ((n - 1024) / 1024)) k) m)))

pub joined-append : {X : Type 0} (a b : List (List X)) → joined (a ++ b) ≡ joined a ++ joined b
joined-append [] b = refl
joined-append (chunk ∷ a) b = ap (λ xs. chunk ++ xs) (joined-append a b) ∙ sym (append_assoc chunk (joined a) (joined b))

-- one element more in the last chunk
pub joined-more : {X : Type 0} (a : List (List X)) (last : List X) (x : X) → joined (a ++ (last ++ x ∷ []) ∷ []) ≡ joined (a ++ last ∷ []) ++ x ∷ []
joined-more a last x =
    joined-append a ((last ++ x ∷ []) ∷ [])
    ∙ (ap (λ xs. joined a ++ xs) (append-nil (last ++ x ∷ []))
    ∙ (sym (append_assoc (joined a) last (x ∷ []))
    ∙ ap (λ xs. xs ++ x ∷ []) (ap (λ ys. joined a ++ ys) (sym (append-nil last)) ∙ sym (joined-append a (last ∷ [])))))

-- a new chunk of one element
pub joined-new : {X : Type 0} (a : List (List X)) (x : X) → joined (a ++ (x ∷ []) ∷ []) ≡ joined a ++ x ∷ []
joined-new a x = joined-append a ((x ∷ []) ∷ [])

-- the chunks stay filled, where a full last chunk is followed by a new one
pub filled-new : {X : Type 0} (a : List (List X)) (chunk : List X) → AreFilled a → length (joined a) % 1024 ≡ 0 → 1 ≤ length chunk → length chunk ≤ 1024 →
    AreFilled (a ++ chunk ∷ [])
filled-new [] chunk f z s l = (s, l)
filled-new (c ∷ []) chunk f z s l =
    let n = ap (λ xs. length xs) (append-nil c) in
    let some = f.0 in
    let most = f.1 in (omega arith, (s, l))
filled-new (c ∷ (d ∷ a)) chunk f z s l =
    let n = length-append c (joined (d ∷ a)) in
    let full = f.0 in
    let rest : length (joined (d ∷ a)) % 1024 ≡ 0 = omega arith in
    (f.0, filled-new (d ∷ a) chunk f.1 rest s l)

-- or where the last chunk has another element
pub filled-more : {X : Type 0} (a : List (List X)) (last : List X) (x : X) → AreFilled (a ++ last ∷ []) → length last < 1024 →
    AreFilled (a ++ (last ++ x ∷ []) ∷ [])
filled-more [] last x f l = let n = length-push last x in (omega arith, omega arith)
filled-more (c ∷ []) last x f l = let n = length-push last x in (f.0, (omega arith, omega arith))
filled-more (c ∷ (d ∷ a)) last x f l = (f.0, filled-more (d ∷ a) last x f.1 l)

-- a full last chunk ends a row of full chunks
pub full-row : {X : Type 0} (a : List (List X)) (last : List X) → AreFilled (a ++ last ∷ []) → length last ≡ 1024 →
    length (joined (a ++ last ∷ [])) % 1024 ≡ 0
full-row [] last f e = let n = ap (λ xs. length xs) (append-nil last) in omega arith
full-row (c ∷ []) last f e =
    let n = length-append c (joined (last ∷ [])) in
    let m = ap (λ xs. length xs) (append-nil last) in
    let full = f.0 in omega arith
full-row (c ∷ (d ∷ a)) last f e =
    let n = length-append c (joined ((d ∷ a) ++ last ∷ [])) in
    let rest = full-row (d ∷ a) last f.1 e in
    let full = f.0 in omega arith

-- full chunks are as many as there are times 1,024 elements
pub row-length : {X : Type 0} (a : List (List X)) → AreFilled a → length a * 1024 ≤ length (joined a) + 1023
row-length [] f = omega arith
row-length (c ∷ []) f = let n = ap (λ xs. length xs) (append-nil c) in let some = f.0 in omega arith
row-length (c ∷ (d ∷ a)) f =
    let n = length-append c (joined (d ∷ a)) in
    let full = f.0 in
    let rest = row-length (d ∷ a) f.1 in omega arith

-- as a slice of chunks is read
pub get-some : {X : Type 0} (chunks read : List (List X)) (n : ℕ) (chunk : List X) → AreFilled chunks → read ≡ chunks →
    (n / 1024 < length read) × (chunk ≡ get_or read (n / 1024) chunk) → slice_get (joined chunks) n ≡ slice_get chunk (n % 1024)
get-some chunks read n chunk f same l =
    let at : slice_get chunks (n / 1024) ≡ Some chunk =
    ap (λ xs. slice_get xs (n / 1024)) (sym same) ∙ (slice_get-get_or read (n / 1024) chunk l.0 ∙ ap Some (sym l.1)) in
    get-joined chunks n f ∙ ap (λ c. in_chunk c (n % 1024)) at

pub get-past-all : {X : Type 0} (chunks read : List (List X)) (n : ℕ) → AreFilled chunks → read ≡ chunks → length read ≤ n / 1024 →
    slice_get (joined chunks) n ≡ None
get-past-all chunks read n f same l =
    let at : slice_get chunks (n / 1024) ≡ None = ap (λ xs. slice_get xs (n / 1024)) (sym same) ∙ get-none read (n / 1024) l in
    get-joined chunks n f ∙ ap (λ c. in_chunk c (n % 1024)) at
