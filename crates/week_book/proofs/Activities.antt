-- A driver's did rows in their ranges have a minute each, but for a first one that is off.
use Rattle.std.proofs.Common.{◌≡◌, ◌∙◌, ℕ, Bool, true, false, not, ◌&&◌, ◌||◌, if◌then◌else◌, nat_le, Some, None, List, [], ◌∷◌, ◌++◌, refl, sym, ap, subst}
use Rattle.std.proofs.lemmas.Bool.{false≢true, and_parts, and_from, or_left, or_right, or_from}
use Rattle.std.specs.List.{cons_option}
use Rattle.std.specs.Str.{bytes_eq}
use Rattle.std.specs.Cmp.Lexicographic.{bytes_decides}
use Rattle.week_book.specs.declared.rows.Row.{Row}
use Rattle.week_book.specs.declared.rows.Word.{Word}
use Rattle.week_book.specs.declared.rows.Row.TheVariants as row
use Rattle.week_book.specs.Names.{is_name, is_among}
use Rattle.week_book.specs.Faults.{first_fault}
use Rattle.week_book.specs.Ranges.{did_name, did_names, is_did_span, fields_in_range, range_of}
use Rattle.week_book.specs.Pasts.{Activity, is_off_word, each_lasts, zero_first, did_activities}
use Rattle.week_book.proofs.Seen.{among_some, among_none}
use Rattle.week_book.proofs.Faultless.{neither, none_outside}

-- a did row's minutes, where no field is outside its range
did_fits : (before : List Row) (n : ℕ) (driver : List ℕ) (mark : Word) (minutes : ℕ)
    → range_of before (row.Did n driver mark minutes) ≡ None
    → is_did_span (is_among (did_names before) driver) mark minutes ≡ true
did_fits before n driver mark minutes none =
    let begun = is_among (did_names before) driver in
    let all = none_outside n 2 (fields_in_range begun (row.Did n driver mark minutes)) none in
    (and_parts (is_did_span begun mark minutes) true (and_parts (is_name driver) (is_did_span begun mark minutes && true) all).1).0

lasts_span : (short lasts off : Bool) → (short && (lasts || (off && false))) ≡ true → lasts ≡ true
lasts_span true true off fits = refl
lasts_span true false true fits = fits
lasts_span true false false fits = fits
lasts_span false lasts off fits = absurd (false≢true fits)

first_span : (short lasts off begun : Bool) → (short && (lasts || (off && not begun))) ≡ true → (if off then true else lasts) ≡ true
first_span true lasts true begun fits = refl
first_span true true false begun fits = refl
first_span true false false begun fits = fits
first_span false lasts off begun fits = absurd (false≢true fits)

lasts_case : (same : Bool) (mark : Word) (n minutes : ℕ) (begun : Bool) (rest : List Activity) → (same ≡ true → begun ≡ true)
    → is_did_span begun mark minutes ≡ true → each_lasts rest ≡ true
    → each_lasts (cons_option (if same then Some (record { row = n; word = mark; minutes = minutes }) else None) rest) ≡ true
lasts_case true mark n minutes begun rest is_begun fits others =
    and_from _ _ (lasts_span (nat_le minutes 10080) (nat_le 1 minutes) (is_off_word mark)
    (subst (λ (b : Bool). is_did_span b mark minutes ≡ true) (is_begun refl) fits)) others
lasts_case false mark n minutes begun rest is_begun fits others = others

zero_case : (same : Bool) (mark : Word) (n minutes : ℕ) (begun : Bool) (rest : List Activity) → is_did_span begun mark minutes ≡ true
    → (same ≡ true → each_lasts rest ≡ true) → (same ≡ false → zero_first rest ≡ true)
    → zero_first (cons_option (if same then Some (record { row = n; word = mark; minutes = minutes }) else None) rest) ≡ true
zero_case true mark n minutes begun rest fits others later =
    and_from _ _ (first_span (nat_le minutes 10080) (nat_le 1 minutes) (is_off_word mark) begun fits) (others refl)
zero_case false mark n minutes begun rest fits others later = later refl

-- once a driver has begun, each did row has a minute
lasting : (name : List ℕ) (before rows : List Row) → first_fault range_of before rows ≡ None → is_among (did_names before) name ≡ true
    → each_lasts (did_activities name rows) ≡ true
lasting name before [] none begun = refl
lasting name before (row.Did n driver mark minutes ∷ rs) none begun =
    let did = row.Did n driver mark minutes in
    let here = neither (range_of before did) _ none in
    let after = among_some did_name before did driver name refl ∙ or_left _ (bytes_eq name driver) begun in
    lasts_case (bytes_eq driver name) mark n minutes _ (did_activities name rs)
    (λ same. ap (is_among (did_names before)) ((bytes_decides driver name).0 same) ∙ begun)
    (did_fits before n driver mark minutes here.0) (lasting name (before ++ did ∷ []) rs here.1 after)
lasting name before (r ∷ rs) none begun =
    lasting name (before ++ r ∷ []) rs (neither (range_of before r) _ none).1 (among_none did_name before r name refl ∙ begun)

flipped : (p q : List ℕ) → bytes_eq p q ≡ true → bytes_eq q p ≡ true
flipped p q same = (bytes_decides q p).1 (sym ((bytes_decides p q).0 same))

unlike : (p q : List ℕ) (b : Bool) → bytes_eq q p ≡ b → bytes_eq p q ≡ false → b ≡ false
unlike p q true is new = absurd (false≢true (sym new ∙ flipped q p is))
unlike p q false is new = refl

-- a driver's did rows have a minute each, but for a first one that is off
pub zeros : (name : List ℕ) (before rows : List Row) → first_fault range_of before rows ≡ None → is_among (did_names before) name ≡ false
    → zero_first (did_activities name rows) ≡ true
zeros name before [] none new = refl
zeros name before (row.Did n driver mark minutes ∷ rs) none new =
    let did = row.Did n driver mark minutes in
    let here = neither (range_of before did) _ none in
    let after = among_some did_name before did driver name refl in
    zero_case (bytes_eq driver name) mark n minutes _ (did_activities name rs) (did_fits before n driver mark minutes here.0)
    (λ same. lasting name (before ++ did ∷ []) rs here.1 (after ∙ or_right _ _ (flipped driver name same)))
    (λ other. zeros name (before ++ did ∷ []) rs here.1 (after ∙ or_from _ _ new (unlike driver name (bytes_eq name driver) refl other)))
zeros name before (r ∷ rs) none new =
    zeros name (before ++ r ∷ []) rs (neither (range_of before r) _ none).1 (among_none did_name before r name refl ∙ new)
