-- The entries of slots: one slot more, and what an entry shares with its slot.
use Rattle.std.proofs.Common.{◌≡◌, ℕ, zero, suc, ◌+◌, ◌<◌, ◌≤◌, List, [], ◌∷◌, ◌++◌, length, map, refl, ap, sym, subst, ◌∙◌, arith, append_assoc, length-append, Option, Some, None, option_map, slice_get}
use Rattle.std.specs.List.{fold}
use Rattle.std.proofs.lemmas.List.{map-append, append-nil}
use Rattle.std.proofs.lemmas.List.Sums.{fold-append}
use Rattle.std.proofs.lemmas.Option.{slice_get-map}
use Rattle.duty_plan.specs.declared.duties.Step.{Step}
use Rattle.duty_plan.specs.declared.labels.Label.{Label}
use Rattle.duty_plan.specs.PartialDuties.{PartialDuty}
use Rattle.duty_plan.specs.LabelLists.{Entry}
use Rattle.duty_pricing.specs.declared.slots.Slot.{Slot}
use Rattle.duty_pricing.specs.Slots.{entry_after, add_entry, entries_of, partial_at, partial_or_none}
use Rattle.duty_pricing.proofs.Elements.{get-last, get-longer, get-same, length-push}

some-same : {X : Type 0} (a b : X) → Some a ≡ Some b → a ≡ b
some-same a b h = cc

-- what an entry shares with its slot
record Shared : Type 0 where
  pub label : Label
  pub parent : ℕ

abbrev of_entry : Entry → Shared
of_entry e = record { label = e.label; parent = e.parent }

abbrev of_slot : Slot → Shared
of_slot s = record { label = s.label; parent = s.parent }

after-shares : (entries : List Entry) (slot : Slot) → of_entry (entry_after entries slot) ≡ of_slot slot
after-shares [] slot = refl
after-shares (e ∷ es) slot = refl

shares : (entries : List Entry) (slots : List Slot) → map of_entry (fold add_entry entries slots) ≡ map of_entry entries ++ map of_slot slots
shares entries [] = sym (append-nil (map of_entry entries))
shares entries (slot ∷ slots) =
    shares (add_entry entries slot) slots
    ∙ (ap (λ (xs : List Shared). xs ++ map of_slot slots) (map-append of_entry entries (entry_after entries slot ∷ []))
    ∙ (append_assoc (map of_entry entries) (of_entry (entry_after entries slot) ∷ []) (map of_slot slots)
    ∙ ap (λ (x : Shared). map of_entry entries ++ (x ∷ map of_slot slots)) (after-shares entries slot)))

pub entries-push : (slots : List Slot) (slot : Slot) → entries_of (slots ++ slot ∷ []) ≡ entries_of slots ++ entry_after (entries_of slots) slot ∷ []
entries-push slots slot = fold-append add_entry [] slots (slot ∷ [])

more-entries : (entries : List Entry) (slots : List Slot) → (more : List Entry) × (fold add_entry entries slots ≡ entries ++ more)
more-entries entries [] = ([], sym (append-nil entries))
more-entries entries (slot ∷ slots) =
    let m = more-entries (add_entry entries slot) slots in
    (entry_after entries slot ∷ m.0, m.1 ∙ append_assoc entries (entry_after entries slot ∷ []) m.0)

-- more slots are more entries
pub entries-more : (slots more : List Slot) → (added : List Entry) × (entries_of (slots ++ more) ≡ entries_of slots ++ added)
entries-more slots more =
    let m = more-entries (entries_of slots) more in (m.0, fold-append add_entry [] slots more ∙ m.1)

length-map : {X Y : Type 0} (f : X → Y) (xs : List X) → length (map f xs) ≡ length xs
length-map f [] = refl
length-map f (x ∷ xs) = omega (arith, length-map f xs)

pub length-entries : (slots : List Slot) → length (entries_of slots) ≡ length slots
length-entries slots =
    sym (length-map of_entry (entries_of slots)) ∙ (ap (λ (xs : List Shared). length xs) (shares [] slots) ∙ length-map of_slot slots)

shared-at : (slots : List Slot) (n : ℕ) → option_map of_entry (slice_get (entries_of slots) n) ≡ option_map of_slot (slice_get slots n)
shared-at slots n =
    sym (slice_get-map of_entry (entries_of slots) n) ∙ (ap (λ (xs : List Shared). slice_get xs n) (shares [] slots) ∙ slice_get-map of_slot slots n)

-- the slot of an entry
pub slot-of : (slots : List Slot) (n : ℕ) (e : Entry) → slice_get (entries_of slots) n ≡ Some e →
    (s : Slot) × (slice_get slots n ≡ Some s) × (e.label ≡ s.label) × (e.parent ≡ s.parent)
slot-of slots n e h = by_slot (slice_get slots n) refl (sym (ap (option_map of_entry) h) ∙ shared-at slots n)
  where
    by_slot : (o : Option Slot) → slice_get slots n ≡ o → Some (of_entry e) ≡ option_map of_slot o →
        (s : Slot) × (slice_get slots n ≡ Some s) × (e.label ≡ s.label) × (e.parent ≡ s.parent)
    by_slot None g x = cc
    by_slot (Some s) g x =
        let same : of_entry e ≡ of_slot s = cc in
        (s, g, ap (λ (y : Shared). y.label) same, ap (λ (y : Shared). y.parent) same)

-- the entry of a slot
pub entry-of : (slots : List Slot) (n : ℕ) (s : Slot) → slice_get slots n ≡ Some s →
    (e : Entry) × (slice_get (entries_of slots) n ≡ Some e) × (e.label ≡ s.label) × (e.parent ≡ s.parent)
entry-of slots n s h = by_entry (slice_get (entries_of slots) n) refl (shared-at slots n ∙ ap (option_map of_slot) h)
  where
    by_entry : (o : Option Entry) → slice_get (entries_of slots) n ≡ o → option_map of_entry o ≡ Some (of_slot s) →
        (e : Entry) × (slice_get (entries_of slots) n ≡ Some e) × (e.label ≡ s.label) × (e.parent ≡ s.parent)
    by_entry None g x = cc
    by_entry (Some e) g x =
        let same : of_entry e ≡ of_slot s = cc in
        (e, g, ap (λ (y : Shared). y.label) same, ap (λ (y : Shared). y.parent) same)

-- the entry of a slot that is not the first
pub later-entry : (entries : List Entry) (slot : Slot) (parent : Entry) → slice_get entries slot.parent ≡ Some parent →
    entry_after entries slot ≡ record { label = slot.label; partial = slot.step ∷ parent.partial; parent = slot.parent }
later-entry [] slot parent h = cc
later-entry (e ∷ es) slot parent h =
    ap (λ (o : Option Entry). record { label = slot.label; partial = slot.step ∷ partial_or_none o; parent = slot.parent }) h

-- the partial duty of a slot that is not the first
entry-partial : (entries : List Entry) (slots : List Slot) (n m : ℕ) (s : Slot) (e : Entry) → m ≡ length entries + n → 0 < m →
    slice_get slots n ≡ Some s → slice_get (fold add_entry entries slots) m ≡ Some e → s.parent < m →
    e.partial ≡ s.step ∷ partial_at (fold add_entry entries slots) s.parent
entry-partial entries [] n m s e k l h i p = cc
entry-partial [] (x ∷ xs) zero m s e k l h i p = absurd (omega arith)
entry-partial (a ∷ bs) (x ∷ xs) zero m s e k l h i p =
    let more = more-entries (add_entry (a ∷ bs) x) xs in
    let same : x ≡ s = some-same x s h in
    let last : slice_get (fold add_entry (a ∷ bs) (x ∷ xs)) m ≡ Some (entry_after (a ∷ bs) x) =
    ap (λ (es : List Entry). slice_get es m) more.1
    ∙ get-longer (add_entry (a ∷ bs) x) more.0 m (entry_after (a ∷ bs) x)
    (subst (λ (j : ℕ). slice_get (add_entry (a ∷ bs) x) j ≡ Some (entry_after (a ∷ bs) x)) (sym (by_zero (length (a ∷ bs)) m k))
    (get-last (a ∷ bs) (entry_after (a ∷ bs) x))) in
    let mine : entry_after (a ∷ bs) x ≡ e = some-same (entry_after (a ∷ bs) x) e (sym last ∙ i) in
    let below : s.parent < length (a ∷ bs) = omega arith in
    let parent : slice_get (fold add_entry (a ∷ bs) (x ∷ xs)) s.parent ≡ slice_get (a ∷ bs) s.parent =
    ap (λ (es : List Entry). slice_get es s.parent) (more.1 ∙ append_assoc (a ∷ bs) (entry_after (a ∷ bs) x ∷ []) more.0)
    ∙ get-same (a ∷ bs) (entry_after (a ∷ bs) x ∷ more.0) s.parent below in
    ap (λ (y : Entry). y.partial) (sym mine)
    ∙ (ap (λ (y : Slot). y.step ∷ partial_at (a ∷ bs) y.parent) same ∙ ap (λ (o : Option Entry). s.step ∷ partial_or_none o) (sym parent))
  where
    by_zero : (a m : ℕ) → m ≡ a + 0 → m ≡ a
    by_zero a m k = omega arith
entry-partial entries (x ∷ xs) (suc n) m s e k l h i p =
    entry-partial (add_entry entries x) xs n m s e (omega (arith, length-push entries (entry_after entries x))) l h i p

pub slot-partial : (slots : List Slot) (n : ℕ) (s : Slot) → slice_get slots n ≡ Some s → 0 < n → s.parent < n →
    partial_at (entries_of slots) n ≡ s.step ∷ partial_at (entries_of slots) s.parent
slot-partial slots n s h l p =
    let found = entry-of slots n s h in
    ap partial_or_none found.1 ∙ entry-partial [] slots n n s found.0 (omega arith) l h found.1 p

-- the first entry is the empty partial duty's
pub first-partial : (slots : List Slot) → partial_at (entries_of slots) 0 ≡ []
first-partial [] = refl
first-partial (x ∷ xs) =
    let more = more-entries (add_entry [] x) xs in
    ap (λ (es : List Entry). partial_at es 0) more.1

-- the steps of a slot: one step more, and those of the slot that it goes on from
pub path-step : (slots : List Slot) (steps : List Step) (at : ℕ) (slot : Slot) (partial : PartialDuty) → slice_get slots at ≡ Some slot → 0 < at → slot.parent < at →
    steps ++ partial_at (entries_of slots) at ≡ partial → (steps ++ slot.step ∷ []) ++ partial_at (entries_of slots) slot.parent ≡ partial
path-step slots steps at slot partial h l p e =
    append_assoc steps (slot.step ∷ []) (partial_at (entries_of slots) slot.parent)
    ∙ (ap (λ (f : PartialDuty). steps ++ f) (sym (slot-partial slots at slot h l p)) ∙ e)

pub path-room : (slots : List Slot) (steps : List Step) (at : ℕ) (slot : Slot) (partial : PartialDuty) → slice_get slots at ≡ Some slot → 0 < at → slot.parent < at →
    steps ++ partial_at (entries_of slots) at ≡ partial → length steps + 1 ≤ length partial
path-room slots steps at slot partial h l p e =
    let n = ap (λ (f : PartialDuty). length f) (slot-partial slots at slot h l p) in
    let m = ap (λ (f : PartialDuty). length f) e in
    omega (arith, length-append steps (partial_at (entries_of slots) at))

pub path-end : (slots : List Slot) (steps : List Step) (at : ℕ) (partial : PartialDuty) → at ≡ 0 → steps ++ partial_at (entries_of slots) at ≡ partial → steps ≡ partial
path-end slots steps at partial z e =
    sym (append-nil steps) ∙ (ap (λ (f : PartialDuty). steps ++ f) (sym (ap (partial_at (entries_of slots)) z ∙ first-partial slots)) ∙ e)
