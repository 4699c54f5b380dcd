-- How many records and fields a text can have, and that the records read in turn are the text's.
use Rattle.std.proofs.Common.{◌≡◌, ◌∙◌, ℕ, zero, suc, ◌+◌, ◌-◌, ◌<◌, ◌≤◌, List, [], ◌∷◌, ◌++◌, length, Bool, true, false, Option, Some, None, if◌then◌else◌, ◌==◌, refl, ap, arith, append-nil, length-append, ◌||◌}
use Rattle.csv.specs.Machine.{Read, next_record, step, in_field, start_field, start_record, after_end, is_end, ends_at_end, fields_after, field_after}
use Rattle.csv.specs.Reading.{Reached, records, records_from, default_config}
use Rattle.csv.specs.declared.parser.State.{State}
use Rattle.csv.specs.declared.parser.State.TheVariants as st
use Rattle.csv.specs.declared.parser.Action.{Action}
use Rattle.csv.specs.declared.parser.Action.TheVariants as act

-- an action that ends a record leads between records
abbrev pub Rests : State × Action → Type 0
Rests (s, act.EndRecord) = ends_at_end s ≡ false
Rests (s, act.Skip) = Unit {0}
Rests (s, act.Copy) = Unit {0}
Rests (s, act.EndField) = Unit {0}

if_rests : (test : Bool) (x y : State × Action) → Rests x → Rests y → Rests (if test then x else y)
if_rests true x y p q = p
if_rests false x y p q = q

rests_end : (test : Bool) → ends_at_end (if test then st.AfterCr else st.StartRecord) ≡ false
rests_end true = refl
rests_end false = refl

rests_field : (c : ℕ) → Rests (in_field default_config c)
rests_field c = if_rests (c == 44) _ _ tt (if_rests ((c == 13) || (c == 10)) (after_end default_config.terminator c, act.EndRecord) _ (rests_end (c == 13)) tt)

rests_start : (c : ℕ) → Rests (start_field default_config c)
rests_start c = if_rests (c == 34) _ _ tt (rests_field c)

rests_record : (c : ℕ) → Rests (start_record default_config c)
rests_record c = if_rests ((c == 13) || (c == 10)) _ _ tt (rests_start c)

rests_step : (s : State) (c : ℕ) → Rests (step default_config s c)
rests_step st.StartRecord c = rests_record c
rests_step st.StartField c = rests_start c
rests_step st.InField c = rests_field c
rests_step st.InQuoted c = if_rests (c == 34) (st.AfterQuote, act.Skip) (st.InQuoted, act.Copy) tt tt
rests_step st.InEscape c = tt
rests_step st.AfterQuote c = if_rests (c == 34) (st.InQuoted, act.Copy) _ tt (rests_field c)
rests_step st.InComment c = if_rests (c == 10) (st.StartRecord, act.Skip) (st.InComment, act.Skip) tt tt
rests_step st.AfterCr c = if_rests (c == 10) (st.StartRecord, act.Skip) _ tt (rests_record c)

some_same : (x y : Read) → ◌≡◌ {A = Option Read} (Some x) (Some y) → x ≡ y
some_same x y h = cc h

none_some : (x : Read) → ◌≡◌ {A = Option Read} None (Some x) → ⊥
none_some x h = cc h

-- a text's end leads between records
ends_last : (test : Bool) (fs : List (List ℕ)) (p : Read) → (if test then Some (fs, st.StartRecord, []) else None) ≡ Some p → ends_at_end p.1 ≡ false
ends_last true fs p h = rw (← some_same (fs, st.StartRecord, []) p h) refl
ends_last false fs p h = absurd (none_some p h)

-- a byte leads between records, or the record goes on
ends_next : (a : Action) (s : State) (fs : List (List ℕ)) (rest : List ℕ) (more : Option Read) (p : Read) → Rests (s, a)
    → (if is_end a then Some (fs, s, rest) else more) ≡ Some p → (more ≡ Some p → ends_at_end p.1 ≡ false) → ends_at_end p.1 ≡ false
ends_next act.EndRecord s fs rest more p rests h go = rw (← some_same (fs, s, rest) p h) rests
ends_next act.Skip s fs rest more p rests h go = go h
ends_next act.Copy s fs rest more p rests h go = go h
ends_next act.EndField s fs rest more p rests h go = go h

-- after a record the reader is between records
pub between : (s : State) (f : List (List ℕ)) (b xs : List ℕ) (p : Read) → next_record default_config s f b xs ≡ Some p → ends_at_end p.1 ≡ false
unfolding next_record
between s f b [] p h = ends_last (ends_at_end s) (f ++ (b ∷ [])) p h
between s f b (c ∷ rest) p h =
    let to = step default_config s c in
    ends_next to.1 to.0 (fields_after to.1 f b) rest (next_record default_config to.0 (fields_after to.1 f b) (field_after to.1 c b) rest) p (rests_step s c) h
    (between to.0 (fields_after to.1 f b) (field_after to.1 c b) rest p)

-- a record takes a byte at least, where the reader is between records
pub shorter : (s : State) (f : List (List ℕ)) (b xs : List ℕ) (p : Read) → next_record default_config s f b xs ≡ Some p → length p.2 ≤ length xs
unfolding next_record
shorter s f b [] p h = grind arith
shorter s f b (c ∷ rest) p h =
    let more = shorter (step default_config s c).0 (fields_after (step default_config s c).1 f b) (field_after (step default_config s c).1 c b) rest p in
    grind (arith, more)

pub takes : (s : State) (f : List (List ℕ)) (b xs : List ℕ) (p : Read) → ends_at_end s ≡ false → next_record default_config s f b xs ≡ Some p → length p.2 < length xs
unfolding next_record
takes s f b [] p rests h = grind arith
takes s f b (c ∷ rest) p rests h =
    let more = shorter (step default_config s c).0 (fields_after (step default_config s c).1 f b) (field_after (step default_config s c).1 c b) rest p in
    grind (arith, more)

length-fields_after : (a : Action) (f : List (List ℕ)) (b : List ℕ) → length (fields_after a f b) ≤ length f + 1
length-fields_after act.EndField f b = omega (arith, length-append f (b ∷ []))
length-fields_after act.EndRecord f b = omega (arith, length-append f (b ∷ []))
length-fields_after act.Skip f b = omega arith
length-fields_after act.Copy f b = omega arith

-- each field but one takes a byte
pub narrow : (s : State) (f : List (List ℕ)) (b xs : List ℕ) (p : Read) → next_record default_config s f b xs ≡ Some p → length p.0 + length p.2 ≤ length f + length xs + 1
unfolding next_record
narrow s f b [] p h = grind (arith, length-append f (b ∷ []))
narrow s f b (c ∷ rest) p h =
    let more = narrow (step default_config s c).0 (fields_after (step default_config s c).1 f b) (field_after (step default_config s c).1 c b) rest p in
    let front = length-fields_after (step default_config s c).1 f b in
    grind (arith, more, front)

-- the records that were read, and the bytes after them, take no more bytes than the text has
pub few : (s s2 : State) (xs ys : List ℕ) (rows : List (List (List ℕ))) → ends_at_end s ≡ false → Reached default_config s xs rows s2 ys
    → (length rows + length ys ≤ length xs) × (ends_at_end s2 ≡ false)
unfolding Reached
few s s2 xs ys [] rests (same, at) = (omega (arith, ap length at), rw (← same) rests)
few s s2 xs ys (r ∷ rs) rests (p, is, first, more) =
    let rest = few p.1 s2 p.2 ys rs (between s [] [] xs p is) more in
    let less = takes s [] [] xs p rests is in
    (omega (arith, rest.0, less), rest.1)

-- the records that were read stand first among those of the text
pub stand_first : (k n : ℕ) (s s2 : State) (xs ys : List ℕ) (rows : List (List (List ℕ))) → n ≡ length rows + k → Reached default_config s xs rows s2 ys
    → records_from default_config n s xs ≡ rows ++ records_from default_config k s2 ys
unfolding Reached records_from
stand_first k n s s2 xs ys [] e (same, at) = let count : n ≡ k = omega (arith, e) in rw (count, same, at) refl
stand_first k zero s s2 xs ys (r ∷ rs) e h = absurd (omega arith)
stand_first k (suc n) s s2 xs ys (r ∷ rs) e (p, is, first, more) =
    rw (is, first, stand_first k n p.1 s2 p.2 ys rs (omega arith) more) refl

-- where no record is left, those that were read are all
pub all_read : (s2 : State) (xs ys : List ℕ) (rows : List (List (List ℕ))) → Reached default_config st.StartRecord xs rows s2 ys
    → next_record default_config s2 [] [] ys ≡ None → records default_config xs ≡ rows
unfolding records_from
all_read s2 xs ys rows h none =
    let bound = (few st.StartRecord s2 xs ys rows refl h).0 in
    stand_first (suc (length xs - length rows)) (length xs + 1) st.StartRecord s2 xs ys rows (omega (arith, bound)) h ∙ rw none (append-nil rows)

-- the next record comes after those that were read
pub next_read : (s2 : State) (xs ys : List ℕ) (rows : List (List (List ℕ))) (p : Read) → Reached default_config st.StartRecord xs rows s2 ys
    → next_record default_config s2 [] [] ys ≡ Some p → (more : List (List (List ℕ))) × (records default_config xs ≡ rows ++ p.0 ∷ more)
unfolding records_from
next_read s2 xs ys rows p h is =
    let bound = (few st.StartRecord s2 xs ys rows refl h).0 in
    let k = length xs - length rows in
    let first = stand_first (suc k) (length xs + 1) st.StartRecord s2 xs ys rows (omega (arith, bound)) h in
    (records_from default_config k p.1 p.2, rw is at first)
