-- The drivers of whom a text has a history are planned with that one, one driver after another.
use Rattle.std.proofs.Common.{◌≡◌, ◌∙◌, ℕ, ◌+◌, ◌<◌, ap, sym, arith, List, [], ◌∷◌, ◌++◌, map, length, get_or, Option, Some, None, IfSome, option_map}
use Rattle.std.specs.Prelude.{slice_get}
use Rattle.std.proofs.lemmas.List.{length-map}
use borrow.Author.Count.{below_more}
use Rattle.minute_line.specs.Histories.{Fields, fields_of}
use Rattle.minute_line.specs.declared.lines.History.{History}
use Rattle.desk_core.specs.Answering.{HoldsTheTexts}
use Rattle.desk_core.proofs.DraftDrivers.{front, last, some_same}
use Rattle.desk_core.proofs.Histories.{viewed-more}
use Rattle.desk_core.proofs.Seeing.{at_place, within}

-- the driver of that number is planned with the text's history, if the text has one
abbrev pub HoldsAt : List (Option Fields) → List Fields → ℕ → Type 0
HoldsAt texts past k = (history : Fields) → slice_get texts k ≡ Some (Some history) → slice_get past k ≡ Some history

-- so are the drivers before a number
abbrev pub HoldsBelow : List (Option Fields) → List Fields → ℕ → Type 0
HoldsBelow texts past n = (k : ℕ) → k < n → HoldsAt texts past k

own_last : (past : Option History) (x : History) (history : Fields) → IfSome past (λ own. fields_of x ≡ fields_of own) → option_map fields_of past ≡ Some history → fields_of x ≡ history
own_last (Some own) x history same is = same ∙ some_same (fields_of own) history is
own_last None x history same is = cc is

-- one more driver
pub holds_more : (pasts : List (Option History)) (with more : List History) (i : ℕ) (past d : Option History) (x : History) → i < length pasts → past ≡ get_or pasts i d
    → length with ≡ i → more ≡ with ++ x ∷ [] → IfSome past (λ own. fields_of x ≡ fields_of own)
    → HoldsBelow (map (option_map fields_of) pasts) (map fields_of with) i → HoldsBelow (map (option_map fields_of) pasts) (map fields_of more) (i + 1)
holds_more pasts with more i past d x l is long e own before =
    let view = viewed-more fields_of with more x e in
    let each : length (map fields_of with) ≡ i = length-map with fields_of ∙ long in
    below_more (HoldsAt (map (option_map fields_of) pasts) (map fields_of more)) i
    (λ k below history there.
    ap (λ s. slice_get s k) view ∙ (front (map fields_of with) (fields_of x ∷ []) k (omega (arith, below, each)) ∙ before k below history there))
    (λ history there.
    let same : option_map fields_of past ≡ Some history =
    some_same (option_map fields_of past) (Some history) (sym (at_place (option_map fields_of) pasts i past d l is) ∙ there) in
    ap (λ s. slice_get s i) view ∙ (last (map fields_of with) (fields_of x) i each ∙ ap Some (own_last past x history own same)))

-- all drivers
pub all_hold : (pasts : List (Option History)) (past : List Fields) → HoldsBelow (map (option_map fields_of) pasts) past (length pasts) → HoldsTheTexts (map (option_map fields_of) pasts) past
all_hold pasts past below = λ k history there. below k (within (option_map fields_of) pasts k (Some history) there) history there
