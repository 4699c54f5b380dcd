-- The token of a stint says the stint.
use Rattle.std.proofs.Common.{◌≡◌, ◌&&◌, ◌||◌, Bool, true, false, not, nat_le, nat_eq, List, [], ◌∷◌, map, refl}
use Rattle.minute_line.specs.declared.marks.Mark.{Mark}
use Rattle.minute_line.specs.declared.marks.Mark.TheVariants.{Drive, Work, Ready, Off}
use Rattle.minute_line.specs.declared.marks.Kind.{Kind}
use Rattle.minute_line.specs.declared.marks.Kind.TheVariants.{Plain, Daily, Weekly}
use Rattle.minute_line.specs.declared.marks.Stint.{Stint}
use Rattle.minute_line.specs.declared.tokens.Token.{Token}
use Rattle.minute_line.specs.Marks.{is_off, is_rest, is_weekly}
use Rattle.minute_line.specs.Stints.{has_own_kind, may_follow, is_past}
use Rattle.minute_line.specs.Spelling.{letter_of}
use Rattle.minute_line.specs.Tokens.{token_of, mark_of, kind_of, stints_of}
use Rattle.minute_line.proofs.Held.{and_is}

-- a stint's token
abbrev pub tok : Stint → Token
tok s = token_of (letter_of s.mark s.kind) s.minutes

-- the tokens of a history's stints
abbrev pub stint_tokens : List Stint → List Token
stint_tokens [] = token_of 45 0 ∷ []
stint_tokens (s ∷ ss) = map tok (s ∷ ss)

letter_back : (m : Mark) (k : Kind) → (is_off m || not (is_rest k)) ≡ true → not (is_weekly k) ≡ true → (nat_eq (letter_of m k) 45 ≡ false) × (mark_of (letter_of m k) ≡ m) × (kind_of (letter_of m k) ≡ k)
letter_back Drive Plain h w = (refl, refl, refl)
letter_back Drive Daily h w = absurd cc
letter_back Drive Weekly h w = absurd cc
letter_back Work Plain h w = (refl, refl, refl)
letter_back Work Daily h w = absurd cc
letter_back Work Weekly h w = absurd cc
letter_back Ready Plain h w = (refl, refl, refl)
letter_back Ready Daily h w = absurd cc
letter_back Ready Weekly h w = absurd cc
letter_back Off Plain h w = (refl, refl, refl)
letter_back Off Daily h w = (refl, refl, refl)
letter_back Off Weekly h w = absurd cc

stint_back : (s : Stint) → has_own_kind s ≡ true → not (is_weekly s.kind) ≡ true → (nat_eq (letter_of s.mark s.kind) 45 ≡ false) × (mark_of (letter_of s.mark s.kind) ≡ s.mark) × (kind_of (letter_of s.mark s.kind) ≡ s.kind)
stint_back s own no_weekly = letter_back s.mark s.kind own no_weekly

stints_back : (ss : List Stint) (after : Bool) → is_past after ss ≡ true → stints_of (map tok ss) ≡ ss
stints_back [] after h = refl
stints_back (s ∷ ss) after h =
    let p = and_is (may_follow after s && not (is_weekly s.kind)) (is_past (is_off s.mark) ss) h in
    let f = and_is (may_follow after s) (not (is_weekly s.kind)) p.0 in
    let q = and_is (nat_le 1 s.minutes) (has_own_kind s && not (after && is_off s.mark)) f.0 in
    let r = and_is (has_own_kind s) (not (after && is_off s.mark)) q.1 in
    let b = stint_back s r.0 f.1 in
    rw (b.0, b.1, b.2, stints_back ss (is_off s.mark) p.1) refl

pub tokens_back : (ss : List Stint) (after : Bool) → is_past after ss ≡ true → stints_of (stint_tokens ss) ≡ ss
tokens_back [] after h = refl
tokens_back (s ∷ ss) after h = stints_back (s ∷ ss) after h
