-- What the items of rows have, from what their rows have: the items of rows that are apart are distinct.
use Rattle.std.proofs.Common.{◌≡◌, ◌∙◌, ℕ, Bool, true, false, Option, Some, None, List, [], ◌∷◌, map, filter_map, All, sym, ap}
use Rattle.std.proofs.lemmas.Bool.{false_from_ne_true}
use Rattle.std.proofs.lemmas.Option.{IfSome_then}
use Rattle.std.proofs.lemmas.List.Elements.{All-map, All-from_recursion, recursion_from_All}
use Rattle.std.specs.List.{IsDistinct, AllByRecursion, cons_option}
use Rattle.std.specs.Option.{IfSome}
use Rattle.std.specs.Str.{bytes_eq}
use Rattle.std.specs.Cmp.Lexicographic.{bytes_decides}
use Rattle.week_book.specs.declared.rows.Row.{Row}
use Rattle.week_book.specs.Keys.{key_of}
use Rattle.week_book.proofs.Apart.{IsApart, AreApart}

item_case : {X : Type 0} (P : X → Type 0) (o : Option X) (xs : List X) → IfSome o P → AllByRecursion P xs
    → AllByRecursion P (cons_option o xs)
item_case P None xs here others = others
item_case P (Some x) xs here others = (here, others)

each_item : {X : Type 0} (Q : Row → Type 0) (h : Row → Option X) (P : X → Type 0) → ((r : Row) → Q r → IfSome (h r) P)
    → (rows : List Row) → AllByRecursion Q rows → AllByRecursion P (filter_map h rows)
each_item Q h P each [] all = tt
each_item Q h P each (r ∷ rs) all = item_case P (h r) (filter_map h rs) (each r all.0) (each_item Q h P each rs all.1)

-- what each item has, from what each row has
pub all_items : {X : Type 0} (Q : Row → Type 0) (h : Row → Option X) (P : X → Type 0) → ((r : Row) → Q r → IfSome (h r) P)
    → (rows : List Row) → AllByRecursion Q rows → All P (filter_map h rows)
all_items Q h P each rows all = All-from_recursion P (filter_map h rows) (each_item Q h P each rows all)

each_both : (P Q : Row → Type 0) (rows : List Row) → AllByRecursion P rows → AllByRecursion Q rows → AllByRecursion (λ r. P r × Q r) rows
each_both P Q [] p q = tt
each_both P Q (r ∷ rs) p q = ((p.0, q.0), each_both P Q rs p.1 q.1)

-- two items that are the same come from rows with a common key; what an item has of its row shows it
abbrev pub Links : {X : Type 0} (Of : Row → X → Type 0) (same : X → X → Bool) → Type 0
Links {X} Of same = (r s : Row) (x y : X) → Of r x → Of s y → same x y ≡ true
    → (key : List ℕ) × (key_of r ≡ Some key) × (key_of s ≡ Some key)

-- an item is none of the items of rows that its own row is apart from
item_apart : {X : Type 0} (P : Row → Type 0) (h : Row → Option X) (Of : Row → X → Type 0) (same : X → X → Bool)
    → ((r : Row) → P r → IfSome (h r) (Of r)) → Links Of same → (r : Row) (x : X) → Of r x
    → (rows : List Row) → AllByRecursion P rows → AllByRecursion (IsApart r) rows
    → AllByRecursion (λ y. same x y ≡ false) (filter_map h rows)
item_apart P h Of same own links r x of_r rows all far =
    each_item (λ s. P s × IsApart r s) h (λ y. same x y ≡ false) differ rows (each_both P (IsApart r) rows all far)
  where
    differ : (s : Row) → P s × IsApart r s → IfSome (h s) (λ y. same x y ≡ false)
    differ s is = IfSome_then (h s) (own s is.0)
        (λ y of_s. false_from_ne_true (same x y) (λ e. let k = links r s x y of_r of_s e in is.1 k.0 k.1 k.2))

distinct_case : {X : Type 0} (same : X → X → Bool) (o : Option X) (ys : List X)
    → IfSome o (λ x. AllByRecursion (λ y. same x y ≡ false) ys) → IsDistinct same ys → IsDistinct same (cons_option o ys)
unfolding IsDistinct
distinct_case same None ys new others = others
distinct_case same (Some x) ys new others = (new, others)

-- the items of rows that are apart are distinct
pub distinct_items : {X : Type 0} (P : Row → Type 0) (h : Row → Option X) (Of : Row → X → Type 0) (same : X → X → Bool)
    → ((r : Row) → P r → IfSome (h r) (Of r)) → Links Of same
    → (rows : List Row) → AllByRecursion P rows → AreApart rows → IsDistinct same (filter_map h rows)
unfolding IsDistinct
distinct_items P h Of same own links [] all far = tt
distinct_items P h Of same own links (r ∷ rs) all far =
    distinct_case same (h r) (filter_map h rs)
    (IfSome_then (h r) (own r all.0) (λ x of_r. item_apart P h Of same own links r x of_r rs all.1 far.0))
    (distinct_items P h Of same own links rs all.1 far.1)

-- items that have names, where a row's key is its kind and the name
pub distinct_names : {X : Type 0} (P : Row → Type 0) (h : Row → Option X) (kind : ℕ) (name : X → List ℕ)
    → ((r : Row) → IfSome (h r) (λ x. key_of r ≡ Some (kind ∷ name x)))
    → (rows : List Row) → AllByRecursion P rows → AreApart rows → IsDistinct (λ x y. bytes_eq (name x) (name y)) (filter_map h rows)
distinct_names {X} P h kind name key =
    distinct_items P h (λ r x. key_of r ≡ Some (kind ∷ name x)) (λ x y. bytes_eq (name x) (name y)) (λ r is. key r) links
  where
    links : Links (λ (r : Row) (x : X). key_of r ≡ Some (kind ∷ name x)) (λ (x y : X). bytes_eq (name x) (name y))
    links r s x y of_r of_s same =
        (kind ∷ name x, of_r, of_s ∙ ap (λ (who : List ℕ). Some (kind ∷ who)) (sym ((bytes_decides (name x) (name y)).0 same)))

-- distinct by a part, so the parts are distinct
pub distinct_parts : {X Y : Type 0} (f : X → Y) (same : Y → Y → Bool) (xs : List X) → IsDistinct (λ x y. same (f x) (f y)) xs
    → IsDistinct same (map f xs)
unfolding IsDistinct
distinct_parts f same [] h = tt
distinct_parts f same (x ∷ xs) h =
    let P : _ → Type 0 = λ y. same (f x) y ≡ false in
    (recursion_from_All P (map f xs) (All-map P f xs (All-from_recursion (λ y. P (f y)) xs h.0)), distinct_parts f same xs h.1)
