-- Labels in lists, one for each place: what a longer list adds, and where a label that betters another can stand.
use Rattle.std.proofs.Common.{◌≡◌, ◌≢◌, ◌↔◌, ◌⊎◌, inl, inr, ℕ, zero, suc, ◌<◌, List, [], ◌∷◌, ◌++◌, length, get_or, set, refl, ap, sym, subst, ◌∙◌, arith, replicate, Result, Ok, Err, OnOk, OnErr}
use Rattle.std.specs.List.{Contains, All}
use Rattle.std.proofs.lemmas.Bool.{cases_eq}
use Rattle.std.proofs.lemmas.Option.{slice_get-get_or, get_or_from_slice_get}
use Rattle.std.proofs.lemmas.List.{get_or-set_same, get_or-set_other, set-get_or}
use Rattle.std.proofs.lemmas.List.Elements.{Contains-append_left, Contains-push, Contains-push_cases, All-push}
use Rattle.std.proofs.lemmas.Result.{on_ok_weaker, on_err_weaker}
use Rattle.minute_line.specs.declared.many.Memory.{Memory}
use Rattle.duty_plan.specs.declared.labels.Label.{Label}
use Rattle.dominance.specs.Filing.{list_at, AreFiled}

-- a label stands in one of the lists
abbrev pub StandsIn : List (List Label) → Label → Type 0
StandsIn lists label = (place : ℕ) × Contains (list_at lists place) label

-- one list longer: the labels that stood in the lists, and the one that was added
module _ (lists : List (List Label)) (place : ℕ) (added : Label) (within : place < length lists) where
  abbrev longer : List Label
  longer = list_at lists place ++ added ∷ []

  at_place : list_at (set lists place longer) place ≡ longer
  at_place = get_or-set_same lists place longer [] within

  elsewhere : (k : ℕ) → k ≢ place → list_at (set lists place longer) k ≡ list_at lists k
  elsewhere k other = get_or-set_other lists place k longer [] other

  after : (label : Label) → StandsIn (set lists place longer) label → StandsIn lists label ⊎ (label ≡ added)
  after label h = elim (cases_eq h.0 place) [
    | inl same ↦
        let here : Contains longer label = subst (λ (xs : List Label). Contains xs label) (ap (list_at (set lists place longer)) same ∙ at_place) h.1 in
        elim (Contains-push_cases (list_at lists place) added label here) [
          | inl before ↦ inl (place, before)
          | inr e ↦ inr (sym e)
        ]
    | inr other ↦ inl (h.0, subst (λ (xs : List Label). Contains xs label) (elsewhere h.0 other) h.1)
  ]

  before : (label : Label) → StandsIn lists label ⊎ (label ≡ added) → StandsIn (set lists place longer) label
  before label (inr e) = (
    place,
    subst (λ (xs : List Label). Contains xs label) (sym at_place)
        (subst (Contains longer) (sym e) (Contains-push (list_at lists place) added)),
  )
  before label (inl h) = elim (cases_eq h.0 place) [
    | inl same ↦
        let here : Contains (list_at lists place) label = subst (λ (k : ℕ). Contains (list_at lists k) label) same h.1 in (
          place,
          subst (λ (xs : List Label). Contains xs label) (sym at_place)
              (Contains-append_left (list_at lists place) (added ∷ []) label here),
        )
    | inr other ↦ (h.0, subst (λ (xs : List Label). Contains xs label) (sym (elsewhere h.0 other)) h.1)
  ]

  pub adds : (label : Label) → StandsIn (set lists place longer) label ↔ (StandsIn lists label ⊎ (label ≡ added))
  adds label = (after label, before label)

-- inside a list any default gives the same element
at_any : {X : Type 0} (xs : List X) (k : ℕ) (d e : X) → k < length xs → get_or xs k d ≡ get_or xs k e
at_any xs k d e within = get_or_from_slice_get xs k (get_or xs k e) d (slice_get-get_or xs k e within)

-- the same where the list that was found at the place is given
stored : (lists : List (List Label)) (place : ℕ) (old new : List Label) (added : Label) → place < length lists →
    old ≡ get_or lists place old → new ≡ old ++ added ∷ [] →
    (label : Label) → StandsIn (set lists place new) label ↔ (StandsIn lists label ⊎ (label ≡ added))
stored lists place old new added within found e label =
    let list : old ≡ list_at lists place = found ∙ at_any lists place old [] within in
    let same : longer lists place added within ≡ new = ap (λ (xs : List Label). xs ++ added ∷ []) (sym list) ∙ sym e in
    subst (λ (xs : List Label). StandsIn (set lists place xs) label ↔ (StandsIn lists label ⊎ (label ≡ added))) same
    (adds lists place added within label)

-- a list that stayed
unchanged : (lists : List (List Label)) (place : ℕ) (old new : List Label) → place < length lists →
    old ≡ get_or lists place old → new ≡ old → (label : Label) → StandsIn (set lists place new) label ↔ StandsIn lists label
unchanged lists place old new within found e label =
    let same : lists ≡ set lists place new = sym (ap (set lists place) (e ∙ found) ∙ set-get_or lists place old) in
    subst (λ (ls : List (List Label)). StandsIn ls label ↔ StandsIn lists label) same ((λ h. h), (λ h. h))

-- what a push into the list that was found at the place makes of the lists
module _ (r : Result (Unit {0}) Memory) (lists : List (List Label)) (place : ℕ) (old new : List Label) (within : place < length lists)
    (found : old ≡ get_or lists place old) where
  pub stored-ok : (added : Label) → OnOk r (new ≡ old ++ added ∷ []) →
      OnOk r ((label : Label) → StandsIn (set lists place new) label ↔ (StandsIn lists label ⊎ (label ≡ added)))
  stored-ok added h = on_ok_weaker r (stored lists place old new added within found) h

  pub stored-err : OnErr r (new ≡ old) → OnErr r ((label : Label) → StandsIn (set lists place new) label ↔ StandsIn lists label)
  stored-err h = on_err_weaker r (unchanged lists place old new within found) h

  -- each label still stands in the list of its own place
  pub stored-filed : (added : Label) → added.place ≡ place → OnOk r (new ≡ old ++ added ∷ []) → OnErr r (new ≡ old) →
      AreFiled lists → AreFiled (set lists place new)
  stored-filed added at_place ok err filed k = elim (cases_eq k place) [
    | inl same ↦
        let list : list_at (set lists place new) k ≡ new = ap (list_at (set lists place new)) same ∙ get_or-set_same lists place new [] within in
        subst (λ (xs : List Label). All (λ label. label.place ≡ k) xs) (sym list)
        (subst (λ (p : ℕ). All (λ label. label.place ≡ p) new) (sym same) (each r ok err))
    | inr other ↦
        subst (λ (xs : List Label). All (λ label. label.place ≡ k) xs) (sym (get_or-set_other lists place k new [] other)) (filed k)
  ]
    where
      were : All (λ label. label.place ≡ place) old
      were = subst (λ (xs : List Label). All (λ label. label.place ≡ place) xs)
          (sym (found ∙ at_any lists place old [] within)) (filed place)

      each : (s : Result (Unit {0}) Memory) → OnOk s (new ≡ old ++ added ∷ []) → OnErr s (new ≡ old) →
          All (λ label. label.place ≡ place) new
      each (Ok _) e _ = subst (λ (xs : List Label). All (λ label. label.place ≡ place) xs) (sym e)
          (All-push (λ (label : Label). label.place ≡ place) old added were at_place)
      each (Err _) _ e = subst (λ (xs : List Label). All (λ label. label.place ≡ place) xs) (sym e) were

-- what is read from the list of a place stands there
pub read : (lists : List (List Label)) (place k : ℕ) (list items : List Label) (d : Label) → place < length lists →
    list ≡ get_or lists place list → items ≡ list → k < length items → StandsIn lists (get_or items k d)
read lists place k list items d within found e low =
    let same : items ≡ list_at lists place = e ∙ (found ∙ at_any lists place list [] within) in
    (place, subst (λ (xs : List Label). Contains xs (get_or items k d)) same (k, low, at_any items k (get_or items k d) d low))

-- empty lists have no label
pub empty : (n place : ℕ) → list_at (replicate n []) place ≡ []
empty zero place = refl
empty (suc n) zero = refl
empty (suc n) (suc place) = empty n place

pub empty-filed : (lists : List (List Label)) (n : ℕ) → lists ≡ replicate n [] → AreFiled lists
empty-filed lists n e = subst AreFiled (sym e) (λ place k d low. absurd (omega (arith, ap (λ (xs : List Label). length xs) (empty n place))))
