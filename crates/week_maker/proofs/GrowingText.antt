-- A text grows row by row, with the numbers that are drawn for its rows.
use Rattle.std.proofs.Common.{◌≡◌, ◌≢◌, ℕ, suc, ◌+◌, ◌-◌, ◌*◌, List, [], ◌∷◌, ◌++◌, codes, ap, append_assoc, refl, sym, ◌∙◌, add-one, arith}
use Rattle.std.specs.Fmt.{decimal}
use Rattle.std.specs.Prelude.{fold}
use Rattle.std.specs.List.{flat_map}
use Rattle.std.proofs.lemmas.Bool.{ne_eqb}
use Rattle.std.proofs.lemmas.List.{append-nil}
use Rattle.std.proofs.lemmas.List.Sums.{fold-append}
use Rattle.seeded_draws.specs.Draws.{state_after, drawn}
use Rattle.week_maker.specs.Rows.{Row, with_row, with_rows, rows_for_each, place_name}
use Rattle.week_maker.specs.MadeWeeks.{made_order, order_of}

-- rows, and then more
pub then-rows : (text : List ℕ) (rows more : List Row) → with_rows text (rows ++ more) ≡ with_rows (with_rows text rows) more
then-rows text rows more = fold-append with_row text rows more

-- the rows of no number
pub rows-none : (text : List ℕ) (rows_of : ℕ → List Row) → text ≡ with_rows text (rows_for_each 0 rows_of)
unfolding rows_for_each
rows-none text rows_of = refl

-- the rows of one number more
pub rows-more : (text : List ℕ) (rows_of : ℕ → List Row) (i : ℕ) (rows : List Row) (now next : List ℕ)
    → now ≡ with_rows text (rows_for_each i rows_of) → rows ≡ rows_of (i + 1) → next ≡ with_rows now rows
    → next ≡ with_rows text (rows_for_each (i + 1) rows_of)
unfolding rows_for_each
rows-more text rows_of i rows now next t r n = n ∙ rw (t, r, add-one) (sym (then-rows text (rows_for_each i rows_of) (rows_of (suc i))))

-- fields, each after a comma
fields-after : (text : List ℕ) (fields : Row)
    → fold (λ before field. before ++ 44 ∷ field) text fields ≡ text ++ flat_map (λ field. 44 ∷ field) fields
fields-after text [] = sym (append-nil text)
fields-after text (field ∷ fields) =
    fields-after (text ++ 44 ∷ field) fields ∙ append_assoc text (44 ∷ field) (flat_map (λ more. 44 ∷ more) fields)

-- fields that are written at once, as they stand between their commas
pub fields-at-once : (text next word name joined : List ℕ) (fields : Row) → 44 ∷ joined ≡ flat_map (λ field. 44 ∷ field) fields
    → next ≡ with_row text (word ∷ name ∷ joined ∷ []) → next ≡ with_row text (word ∷ name ∷ fields)
fields-at-once text next word name joined fields j n =
    n ∙ ap (λ (t : List ℕ). t ++ 10 ∷ [])
    (ap (λ (t : List ℕ). ((text ++ word) ++ 44 ∷ name) ++ t) j ∙ sym (fields-after ((text ++ word) ++ 44 ∷ name) fields))

-- the state after one draw more
pub state-more : (seed i state next : ℕ) → state ≡ state_after seed i → next ≡ state_after state 1 → next ≡ state_after seed (i + 1)
state-more seed i state next s n = n ∙ rw (s, add-one) refl

-- the number that is drawn next, as the draw of the next number
pub drawn-next : (seed i size state result : ℕ) → state ≡ state_after seed i → result ≡ drawn state 0 size
    → result ≡ drawn seed (i + 1 - 1) size
drawn-next seed i size state result s r =
    let back : i + 1 - 1 ≡ i = omega arith in
    r ∙ rw (s, back) refl

-- the state after one order more
pub order-state-more : (seed i state next : ℕ) → state ≡ state_after seed (7 * i) → next ≡ state_after state 7
    → next ≡ state_after seed (7 * (i + 1))
order-state-more seed i state next s n =
    let seven : 7 * (i + 1) ≡ suc (suc (suc (suc (suc (suc (suc (7 * i))))))) = omega arith in
    n ∙ rw (s, seven) refl

-- the order that is drawn next, as the order of the next number
pub order-next : (seed i state : ℕ) → state ≡ state_after seed (7 * i) → made_order state ≡ order_of seed (i + 1)
order-next seed i state s =
    let back : i + 1 - 1 ≡ i = omega arith in
    rw (s, back) refl

-- the name of a place that is not the depot
pub place-name-other : (place : ℕ) → place ≢ 0 → place_name place ≡ codes "P" ++ decimal place
place-name-other place other = rw (ne_eqb place 0 other) refl
