-- What the rows so far map to, with one more row.
use Rattle.std.proofs.Common.{◌≡◌, ◌∙◌, ℕ, ◌+◌, ◌<◌, ◌||◌, Option, Some, None, option_to_list, List, [], ◌∷◌, ◌++◌, length, get_or, take, filter_map, refl, ap, rules}
use Rattle.std.proofs.lemmas.List.{take_more}
use Rattle.std.proofs.lemmas.List.Elements.{filter_map-append}
use Rattle.std.specs.Str.{bytes_eq}
use Rattle.week_book.specs.Names.{is_among}
use Rattle.week_book.proofs.Maps.{any_more}

-- one more row that maps to something
pub mapped_some : {A B : Type 0} (f : A → Option B) (before : List A) (r : A) (b : B) → f r ≡ Some b
    → filter_map f (before ++ r ∷ []) ≡ filter_map f before ++ b ∷ []
mapped_some f before r b e = filter_map-append f before (r ∷ []) ∙ rw e refl

-- one more row that maps to nothing
pub mapped_none : {A B : Type 0} (f : A → Option B) (before : List A) (r : A) → f r ≡ None
    → filter_map f (before ++ r ∷ []) ≡ filter_map f before
mapped_none f before r e = filter_map-append f before (r ∷ []) ∙ rw e (search rules)

-- a name is one of those so far, or that of the one more row
pub among_some : {A : Type 0} (f : A → Option (List ℕ)) (before : List A) (r : A) (last name : List ℕ) → f r ≡ Some last
    → is_among (filter_map f (before ++ r ∷ [])) name ≡ (is_among (filter_map f before) name || bytes_eq name last)
among_some f before r last name is =
    ap (λ (names : List (List ℕ)). is_among names name) (mapped_some f before r last is) ∙ any_more (bytes_eq name) (filter_map f before) last

pub among_none : {A : Type 0} (f : A → Option (List ℕ)) (before : List A) (r : A) (name : List ℕ) → f r ≡ None
    → is_among (filter_map f (before ++ r ∷ [])) name ≡ is_among (filter_map f before) name
among_none f before r name none = ap (λ (names : List (List ℕ)). is_among names name) (mapped_none f before r none)

-- one more row
mapped_one : {A B : Type 0} (f : A → Option B) (before : List A) (r : A) (o : Option B) → f r ≡ o
    → filter_map f (before ++ r ∷ []) ≡ filter_map f before ++ option_to_list o
mapped_one f before r None e = mapped_none f before r e ∙ search rules
mapped_one f before r (Some b) e = mapped_some f before r b e

-- the row at i, after those before it
pub mapped_taken : {A B : Type 0} (f : A → Option B) (rows : List A) (i : ℕ) (r : A) → i < length rows → r ≡ get_or rows i r
    → filter_map f (take (i + 1) rows) ≡ filter_map f (take i rows) ++ option_to_list (f r)
mapped_taken f rows i r lt e = rw (take_more rows i r lt, ← e) (mapped_one f (take i rows) r (f r) refl)
