-- One step of each walk over a list.
use Rattle.std.proofs.Common.{◌≡◌, ◌∙◌, ℕ, zero, suc, ◌+◌, ◌-◌, ◌<◌, ◌≤◌, Bool, true, false, nat_le, List, [], ◌∷◌, ◌++◌, ◌&&◌, not, length, get_or, drop, refl, sym, subst, arith, drop-cons}
use Rattle.minute_line.specs.declared.marks.Stint.{Stint}
use Rattle.minute_line.specs.declared.tokens.Token.{Token}
use Rattle.minute_line.specs.Marks.{is_off, is_weekly}
use Rattle.minute_line.specs.Minutes.{total_of}
use Rattle.minute_line.specs.Stints.{may_follow, each_follows, is_past, all_up_to}
use Rattle.std.proofs.lemmas.List.Sums.{sum_by-cons}
use Rattle.minute_line.specs.Tokens.{is_separator, is_digit, grown, take_byte, token_of, value_at}

-- what is left at i is the item there and what is left after it
pub left_at : {A : Type 0} (xs : List A) (i : ℕ) (d : A) → i < length xs → drop i xs ≡ get_or xs i d ∷ drop (i + 1) xs
left_at xs i d lt =
    let e : suc i ≡ i + 1 = omega arith in
    subst (λ (k : ℕ). drop i xs ≡ get_or xs i d ∷ drop k xs) e (drop-cons xs i d lt)

pub up_to_stop : (most n : ℕ) (ns rest : List ℕ) (whole : Bool) → ns ≡ n ∷ rest → all_up_to most ns ≡ whole → most < n → false ≡ whole
up_to_stop most n ns rest whole e h lt =
    let t : nat_le n most ≡ false = grind arith in
    rw (e, t) at h

pub up_to_on : (most n : ℕ) (ns rest : List ℕ) (whole : Bool) → ns ≡ n ∷ rest → all_up_to most ns ≡ whole → n ≤ most → all_up_to most rest ≡ whole
up_to_on most n ns rest whole e h le =
    let t : nat_le n most ≡ true = grind arith in
    rw (e, t) at h

moved : (a b left : ℕ) → a ≤ left → nat_le (a + b) left ≡ nat_le b (left - a)
moved a b left le = grind arith

pub total_of-cons : (s : Stint) (rest : List Stint) → total_of (s ∷ rest) ≡ s.minutes + total_of rest
total_of-cons s rest = sum_by-cons (λ (t : Stint). t.minutes) s rest

pub few_stop : (ss rest : List Stint) (s : Stint) (left : ℕ) (whole : Bool) → ss ≡ s ∷ rest → nat_le (total_of ss) left ≡ whole → left < s.minutes → false ≡ whole
few_stop ss rest s left whole e h lt =
    let t : nat_le (s.minutes + total_of rest) left ≡ false = grind arith in
    sym t ∙ rw (e, total_of-cons s rest) at h

pub few_on : (ss rest : List Stint) (s : Stint) (left : ℕ) (whole : Bool) → ss ≡ s ∷ rest → nat_le (total_of ss) left ≡ whole → s.minutes ≤ left → nat_le (total_of rest) (left - s.minutes) ≡ whole
few_on ss rest s left whole e h le = sym (moved s.minutes (total_of rest) left le) ∙ rw (e, total_of-cons s rest) at h

pub past_stop : (ss rest : List Stint) (s : Stint) (after whole : Bool) → ss ≡ s ∷ rest → is_past after ss ≡ whole → (may_follow after s && not (is_weekly s.kind)) ≡ false → false ≡ whole
past_stop ss rest s after whole e h f = rw (e, f) at h

pub past_on : (ss rest : List Stint) (s : Stint) (after whole : Bool) → ss ≡ s ∷ rest → is_past after ss ≡ whole → (may_follow after s && not (is_weekly s.kind)) ≡ true → is_past (is_off s.mark) rest ≡ whole
past_on ss rest s after whole e h t = rw (e, t) at h

pub follows_stop : (ss rest : List Stint) (s : Stint) (after whole : Bool) → ss ≡ s ∷ rest → each_follows after ss ≡ whole → may_follow after s ≡ false → false ≡ whole
follows_stop ss rest s after whole e h f = rw (e, f) at h

pub follows_on : (ss rest : List Stint) (s : Stint) (after whole : Bool) → ss ≡ s ∷ rest → each_follows after ss ≡ whole → may_follow after s ≡ true → each_follows (is_off s.mark) rest ≡ whole
follows_on ss rest s after whole e h t = rw (e, t) at h

pub value_at-get : (ts : List Token) (i : ℕ) (d : Token) → i < length ts → (get_or ts i d).value ≡ value_at ts i
value_at-get [] i d lt = absurd (omega arith)
value_at-get (t ∷ ts) zero d lt = refl
value_at-get (t ∷ ts) (suc i) d lt = value_at-get ts i d (omega arith)

pub value_at-past : (ts : List Token) (i : ℕ) → length ts ≤ i → 0 ≡ value_at ts i
value_at-past [] i le = refl
value_at-past (t ∷ ts) zero le = absurd (omega arith)
value_at-past (t ∷ ts) (suc i) le = value_at-past ts i (omega arith)

pub took_separator : (done : List Token) (letter value b : ℕ) → is_separator b ≡ true
    → take_byte (record { tokens = done; letter = letter; value = value }) b ≡ record { tokens = done ++ token_of letter value ∷ []; letter = 0; value = 0 }
took_separator done letter value b h = rw h refl

pub took_digit : (done : List Token) (letter value b : ℕ) → is_separator b ≡ false → is_digit b ≡ true
    → take_byte (record { tokens = done; letter = letter; value = value }) b ≡ record { tokens = done; letter = letter; value = grown value b }
took_digit done letter value b h d = rw (h, d) refl

pub took_letter : (done : List Token) (letter value b : ℕ) → is_separator b ≡ false → is_digit b ≡ false
    → take_byte (record { tokens = done; letter = letter; value = value }) b ≡ record { tokens = done; letter = b; value = value }
took_letter done letter value b h d = rw (h, d) refl
