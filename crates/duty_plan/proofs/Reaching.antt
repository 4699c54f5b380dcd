-- A label list is no longer than its driver's reach.
use Rattle.std.proofs.Common.{◌≡◌, ◌≢◌, ℕ, zero, suc, ◌<◌, ◌≤◌, List, [], ◌∷◌, length, map, refl, ap, sym, ◌∙◌, arith, Some, slice_get}
use Rattle.duty_plan.specs.declared.labels.Label.{Label}
use Rattle.duty_plan.specs.LabelLists.{Entry}
use Rattle.duty_plan.specs.PricingLaws.{ListsStayInReach}
use Rattle.duty_plan.proofs.LabelLists.{no_repeat}

abbrev without : {X : Type 0} → ℕ → List X → List X
without k [] = []
without zero (y ∷ ys) = ys
without (suc k) (y ∷ ys) = y ∷ without k ys

shorter : {X : Type 0} (ys : List X) (k : ℕ) (x : X) → slice_get ys k ≡ Some x → length ys ≡ suc (length (without k ys))
shorter [] k x e = cc
shorter (y ∷ ys) zero x e = omega arith
shorter (y ∷ ys) (suc k) x e = omega (arith, shorter ys k x e)

still : {X : Type 0} (ys : List X) (k j : ℕ) (y : X) → j ≢ k → slice_get ys j ≡ Some y → (i : ℕ) × (slice_get (without k ys) i ≡ Some y)
still [] k j y n e = cc
still (z ∷ ys) zero zero y n e = absurd (n refl)
still (z ∷ ys) zero (suc j) y n e = (j, e)
still (z ∷ ys) (suc k) zero y n e = (0, e)
still (z ∷ ys) (suc k) (suc j) y n e = let found = still ys k j y (λ h. n (ap suc h)) e in (suc found.0, found.1)

-- different things that all stand in a list are no more than the list has
pub no-more : {X : Type 0} (xs ys : List X) → ((n : ℕ) (x : X) → slice_get xs n ≡ Some x → (k : ℕ) × (slice_get ys k ≡ Some x)) →
    ((n k : ℕ) (x y : X) → k < n → slice_get xs n ≡ Some x → slice_get xs k ≡ Some y → x ≢ y) → length xs ≤ length ys
no-more {X = X} [] ys there apart = omega arith
no-more {X = X} (x ∷ xs) ys there apart =
    let first = there 0 x refl in
    let rest = no-more xs (without first.0 ys)
    (λ n z e. let found = there (suc n) z e in still ys first.0 found.0 z (λ h. clash n z e found.0 found.1 h) found.1)
    (λ n k a b l e f. apart (suc n) (suc k) a b (omega arith) e f) in
    omega (arith, shorter ys first.0 x first.1)
  where
    clash : (n : ℕ) (z : X) → slice_get xs n ≡ Some z → (j : ℕ) → slice_get ys j ≡ Some z → j ≡ (there 0 x refl).0 → ⊥
    clash n z e j f h =
        let same : slice_get ys j ≡ Some x = ap (slice_get ys) h ∙ (there 0 x refl).1 in
        apart (suc n) 0 z x (omega arith) e refl cc

labels-at : (entries : List Entry) (n : ℕ) (label : Label) → slice_get (map (λ e. e.label) entries) n ≡ Some label →
    (e : Entry) × (slice_get entries n ≡ Some e) × (e.label ≡ label)
labels-at [] n label h = cc
labels-at (e ∷ entries) zero label h = (e, refl, cc)
labels-at (e ∷ entries) (suc n) label h = labels-at entries n label h

as-many : (entries : List Entry) → length (map (λ e. e.label) entries) ≡ length entries
as-many [] = refl
as-many (e ∷ entries) = omega (arith, as-many entries)

pub lists_stay_in_reach : ListsStayInReach
lists_stay_in_reach case driver pairs prices labels entries r list =
    let few = no-more (map (λ e. e.label) entries) labels (λ n label h. there n label h) (λ n k a b l h i. apart n k a b l h i) in
    omega (arith, as-many entries)
  where
    there : (n : ℕ) (label : Label) → slice_get (map (λ e. e.label) entries) n ≡ Some label → (k : ℕ) × (slice_get labels k ≡ Some label)
    there n label h =
        let at = labels-at entries n label h in
        let e = list.entry n at.0 at.1 in
        let found = r.all at.0.label (at.0.partial, record { label = e.label; lawful = e.lawful; listed = e.listed; unbarred = e.unbarred }) in
        (found.0, found.1 ∙ ap (λ (x : Label). Some x) at.2)

    apart : (n k : ℕ) (a b : Label) → k < n → slice_get (map (λ e. e.label) entries) n ≡ Some a → slice_get (map (λ e. e.label) entries) k ≡ Some b → a ≢ b
    apart n k a b l h i same =
        let x = labels-at entries n a h in
        let y = labels-at entries k b i in
        no_repeat case driver pairs prices entries list n k x.0 y.0 l x.1 y.1 (x.2 ∙ (same ∙ sym y.2))
