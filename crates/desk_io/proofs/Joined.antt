-- Two calls after one another, as one.
use Rattle.std.proofs.Common.{◌≡◌, ℕ, List, ◌++◌, Option, None, Some, sym, ap, refl, ◌∙◌, append_assoc}
use Rattle.std.proofs.Common.{◌+◌, ◌-◌, ◌≤◌, take, drop, length, arith, drop-drop, length-append}
use Rattle.std.proofs.lemmas.List.{length-take, take_at, take-append-drop}
use Rattle.std.proofs.Math.ListN.{length-drop}
use Rattle.desk_io.specs.Device.{GivesBytes, Takes}

pub gives_more : (before middle after : Option (List ℕ)) (xs ys : List ℕ) → GivesBytes before xs middle → GivesBytes middle ys after → GivesBytes before (xs ++ ys) after
gives_more before middle None xs ys one two = rw (one, two) refl
gives_more before middle (Some rest) xs ys one two = rw (one, two) (ap Some (sym (append_assoc xs ys rest)))

pub takes_more : (before middle after : Option (List ℕ)) (xs ys zs : List ℕ) → Takes before xs middle → Takes middle ys after → xs ++ ys ≡ zs → Takes before zs after
takes_more None middle after xs ys zs one two is = rw (two, one) refl
takes_more (Some held) middle after xs ys zs one two is = rw (two, one) (ap Some (append_assoc held xs ys ∙ ap (λ (l : List ℕ). held ++ l) is))

-- a copied piece and what is behind it are what was left
pub read_more : (at n to : ℕ) (bytes piece buf : List ℕ) → to ≡ at + n → piece ≡ take (to - at) (drop at bytes) → n + at ≤ length bytes
    → (n ≤ length (piece ++ drop n buf)) × (drop at bytes ≡ take n (piece ++ drop n buf) ++ drop (at + n) bytes)
read_more at n to bytes piece buf end is fits =
    let same : to - at ≡ n = omega arith in
    let piece_is : piece ≡ take n (drop at bytes) = is ∙ ap (λ (k : ℕ). take k (drop at bytes)) same in
    let long : length piece ≡ n = ap length piece_is ∙ omega (arith, length-take n (drop at bytes), length-drop at bytes) in
    (omega (arith, long, length-append piece (drop n buf)), rw (take_at piece (drop n buf) n long, piece_is, ← drop-drop n at bytes) (sym (take-append-drop n (drop at bytes))))
