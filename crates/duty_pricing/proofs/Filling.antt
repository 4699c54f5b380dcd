-- One element more or one chunk less in lists in chunks.
use Rattle.std.proofs.Common.{◌≡◌, Bool, true, false, ◌+◌, ◌*◌, ◌/◌, ◌%◌, ◌<◌, ◌≤◌, List, [], ◌∷◌, ◌++◌, length, refl, ap, sym, subst, ◌∙◌, arith, length-append}
use Rattle.std.proofs.lemmas.List.{append-nil}
use Rattle.duty_pricing.specs.Chunking.{joined, AreFilled}
use Rattle.duty_pricing.proofs.Elements.{length-push}
use Rattle.duty_pricing.proofs.Chunking.{filled-more, filled-new, joined-more, joined-new, row-length}

joined-last : {X : Type 0} (a : List (List X)) (last : List X) → length (joined (a ++ last ∷ [])) ≡ length (joined a) + length last
joined-last [] last = let n = ap (λ xs. length xs) (append-nil last) in omega arith
joined-last (c ∷ a) last =
    let n = length-append c (joined (a ++ last ∷ [])) in
    let m = length-append c (joined a) in
    let rest = joined-last a last in omega arith

-- all chunks before the last are full
rows-full : {X : Type 0} (a : List (List X)) (last : List X) → AreFilled (a ++ last ∷ []) →
    (length (joined a) ≡ length a * 1024) × (1 ≤ length last) × (length last ≤ 1024)
rows-full [] last f = (refl, f.0, f.1)
rows-full (c ∷ []) last f =
    let n = ap (λ xs. length xs) (append-nil c) in
    let full = f.0 in
    let rest = f.1 in (omega arith, rest.0, rest.1)
rows-full (c ∷ (d ∷ a)) last f =
    let n = length-append c (joined (d ∷ a)) in
    let full = f.0 in
    let rest = rows-full (d ∷ a) last f.1 in
    let all = rest.0 in (omega arith, rest.1, rest.2)

filled-before : {X : Type 0} (a : List (List X)) (last : List X) → AreFilled (a ++ last ∷ []) → AreFilled a
filled-before [] last f = tt
filled-before (c ∷ []) last f = let full = f.0 in (omega arith, omega arith)
filled-before (c ∷ (d ∷ a)) last f = (f.0, filled-before (d ∷ a) last f.1)

-- chunks have at most 1,024 times as many elements as they are
pub joined-most : {X : Type 0} (a : List (List X)) → AreFilled a → length (joined a) ≤ length a * 1024
joined-most [] f = omega arith
joined-most (c ∷ []) f = let n = ap (λ xs. length xs) (append-nil c) in let most = f.1 in omega arith
joined-most (c ∷ (d ∷ a)) f =
    let n = length-append c (joined (d ∷ a)) in
    let full = f.0 in
    let rest = joined-most (d ∷ a) f.1 in omega arith

-- an element more in the last chunk
pub pushed-last : {X : Type 0} (a : List (List X)) (last after : List X) (x : X) (old new : List (List X)) → old ≡ a ++ last ∷ [] →
    new ≡ a ++ after ∷ [] → after ≡ last ++ x ∷ [] → length last < 1024 → AreFilled old → length old ≤ 2048 →
    AreFilled new × (length new ≤ 2048) × (joined new ≡ joined old ++ x ∷ [])
    × ((length (joined new) + 1023) / 1024 ≡ (length (joined old) + 1023) / 1024)
pushed-last {X = X} a last after x old new o n p l f few =
    let g : AreFilled (a ++ last ∷ []) = subst (λ (xs : List (List X)). AreFilled xs) o f in
    let m : new ≡ a ++ (last ++ x ∷ []) ∷ [] = n ∙ ap (λ (c : List X). a ++ c ∷ []) p in
    let same : joined new ≡ joined old ++ x ∷ [] =
    ap (λ (xs : List (List X)). joined xs) m ∙ (joined-more a last x ∙ ap (λ (xs : List (List X)). joined xs ++ x ∷ []) (sym o)) in
    let rows = rows-full a last g in
    let all = rows.0 in
    let some = rows.1 in
    let before : length (joined old) ≡ length (joined a) + length last = ap (λ (xs : List (List X)). length (joined xs)) o ∙ joined-last a last in
    let now : length (joined new) ≡ length (joined old) + 1 = ap (λ (xs : List X). length xs) same ∙ (length-push (joined old) x ∙ omega arith) in
    let short : length new ≡ length old =
    ap (λ (xs : List (List X)). length xs) m ∙ (length-push a (last ++ x ∷ []) ∙ (sym (length-push a last) ∙ ap (λ (xs : List (List X)). length xs) (sym o))) in (
      subst (λ (xs : List (List X)). AreFilled xs) (sym m) (filled-more a last x g l),
      omega arith,
      same,
      omega arith,
    )

-- an element in a new chunk
pub pushed-new : {X : Type 0} (x : X) (old new : List (List X)) → new ≡ old ++ (x ∷ []) ∷ [] → AreFilled old → length (joined old) % 1024 ≡ 0 →
    length (joined old) < 2097152 → AreFilled new × (length new ≤ 2048) × (joined new ≡ joined old ++ x ∷ []) × (length old < 2048)
pushed-new {X = X} x old new n f z l =
    let rows = row-length old f in
    let few : length old < 2048 = omega arith in
    let longer : length new ≡ length old + 1 = ap (λ (xs : List (List X)). length xs) n ∙ (length-push old (x ∷ []) ∙ omega arith) in (
      subst (λ (xs : List (List X)). AreFilled xs) (sym n) (filled-new old (x ∷ []) f z (omega arith) (omega arith)),
      omega arith,
      ap (λ (xs : List (List X)). joined xs) n ∙ joined-new old x,
      few,
    )

-- the chunks without the last
pub popped : {X : Type 0} (a : List (List X)) (last : List X) (old : List (List X)) → old ≡ a ++ last ∷ [] → AreFilled old →
    AreFilled a × (length (joined a) + length last ≡ length (joined old)) × (length (joined a) < length (joined old))
    × ((length (joined a) + 1023) / 1024 + 1 ≡ (length (joined old) + 1023) / 1024) × (length old ≡ length a + 1)
popped {X = X} a last old o f =
    let g : AreFilled (a ++ last ∷ []) = subst (λ (xs : List (List X)). AreFilled xs) o f in
    let rows = rows-full a last g in
    let all = rows.0 in
    let some = rows.1 in
    let most = rows.2 in
    let before : length (joined old) ≡ length (joined a) + length last = ap (λ (xs : List (List X)). length (joined xs)) o ∙ joined-last a last in
    let longer : length old ≡ length a + 1 = ap (λ (xs : List (List X)). length xs) o ∙ (length-push a last ∙ omega arith) in
    (filled-before a last g, omega arith, omega arith, omega arith, longer)

-- an empty chunk after a push
pub one-pushed : {X : Type 0} (old new : List X) (x : X) (pushed : Bool) → old ≡ [] → (pushed ≡ true → new ≡ old ++ x ∷ []) →
    (pushed ≡ false → length old ≡ 1024) → new ≡ x ∷ []
one-pushed {X = X} old new x true e p f = p refl ∙ ap (λ (xs : List X). xs ++ x ∷ []) e
one-pushed {X = X} old new x false e p f = let n = f refl in let z = ap (λ (xs : List X). length xs) e in absurd (omega arith)
