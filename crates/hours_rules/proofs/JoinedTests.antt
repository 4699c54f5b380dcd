-- Tests that are joined.
use Rattle.std.proofs.Common.{◌≡◌, ◌&&◌, Bool, true}
use Rattle.std.proofs.lemmas.Bool.{and_from, and_parts}

-- each of four tests holds where all do
pub all_four : (a b c d : Bool) → (((a && b) && c) && d) ≡ true → (a ≡ true) × (b ≡ true) × (c ≡ true) × (d ≡ true)
all_four a b c d h =
    let to_c = and_parts ((a && b) && c) d h in
    let to_b = and_parts (a && b) c to_c.0 in
    let to_a = and_parts a b to_b.0 in (to_a.0, to_a.1, to_b.1, to_c.1)

-- all hold where each does
pub from_four : (a b c d : Bool) → a ≡ true → b ≡ true → c ≡ true → d ≡ true → (((a && b) && c) && d) ≡ true
from_four a b c d ha hb hc hd = and_from _ d (and_from _ c (and_from a b ha hb) hc) hd
