-- The headers of a name, one after another.
use Rattle.std.proofs.Common.{◌≡◌, ◌∙◌, ◌↔◌, sym, ap, refl, ℕ, zero, suc, ◌-◌, ◌≤◌, Bool, true, false, IsTrue, List, [], ◌∷◌, length, take, drop, map, get_or, arith}
use Rattle.std.specs.Char.{to_ascii_lowercase}
use Rattle.std.proofs.lemmas.Slice.Eq.{bytes_eq-Decides}
use Rattle.std.proofs.lemmas.Bool.Decides.{same_from_decides}
use Rattle.httparse.specs.Borrowed.{header_parts}
use Rattle.httparse.specs.declared.borrowed.Header.{Header}
use Rattle.desk_http.specs.Bodies.{is_named, values_of}

take_whole : (n : ℕ) (xs : List Header) → n ≡ length xs → take n xs ≡ xs
take_whole zero [] is = refl
take_whole zero (x ∷ xs) is = absurd (omega arith)
take_whole (suc n) [] is = absurd (omega arith)
take_whole (suc n) (x ∷ xs) is = ap (λ (l : List Header). x ∷ l) (take_whole n xs (omega arith))

tested : (r : Bool) (other name : List ℕ) → IsTrue r ↔ (map to_ascii_lowercase other ≡ map to_ascii_lowercase name) → is_named name other ≡ r
tested r other name test = sym (same_from_decides r (is_named name other) test (bytes_eq-Decides (map to_ascii_lowercase other) (map to_ascii_lowercase name)))

-- the first header has the name
pub first_here : (name : List ℕ) (headers : List Header) (d : Header) (r : Bool) → 1 ≤ length headers
    → IsTrue r ↔ (map to_ascii_lowercase (get_or headers 0 d).name.now ≡ map to_ascii_lowercase name) → r ≡ true
    → values_of name (map header_parts headers) ≡ (get_or headers 0 d).value.now ∷ values_of name (map header_parts (take (length headers - 1) (drop 1 headers)))
first_here name [] d r long test is = absurd (omega arith)
first_here name (h ∷ hs) d r long test is =
    let named : is_named name h.name.now ≡ true = tested r h.name.now name test ∙ is in
    let same : take (length (h ∷ hs) - 1) hs ≡ hs = take_whole (length (h ∷ hs) - 1) hs (omega arith) in
    rw named (ap (λ (l : List Header). h.value.now ∷ values_of name (map header_parts l)) (sym same))

-- the first header has another name
pub first_other : (name : List ℕ) (headers : List Header) (d : Header) (r : Bool) → 1 ≤ length headers
    → IsTrue r ↔ (map to_ascii_lowercase (get_or headers 0 d).name.now ≡ map to_ascii_lowercase name) → r ≡ false
    → values_of name (map header_parts (take (length headers - 1) (drop 1 headers))) ≡ values_of name (map header_parts headers)
first_other name [] d r long test is = absurd (omega arith)
first_other name (h ∷ hs) d r long test is =
    let named : is_named name h.name.now ≡ false = tested r h.name.now name test ∙ is in
    let same : take (length (h ∷ hs) - 1) hs ≡ hs = take_whole (length (h ∷ hs) - 1) hs (omega arith) in
    rw named (ap (λ (l : List Header). values_of name (map header_parts l)) same)
