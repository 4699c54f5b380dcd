-- A bid more, in its place among falling savings.
use Rattle.std.proofs.Common.{◌≡◌, ◌⊎◌, inl, inr, ℕ, zero, suc, ◌<◌, ◌≤◌, List, [], ◌∷◌, length, refl, ap, sym, ◌∙◌, subst, arith, Some, slice_get}
use Rattle.std.specs.List.{insert}
use Rattle.std.proofs.lemmas.Option.{slice_get_within}
use Rattle.price_master.specs.declared.alike.ClassBid.{ClassBid}
use Rattle.price_master.specs.Classes.{AreFalling}
use Rattle.price_master.proofs.Carried.{get-below}

abbrev pub InsertedPlace : {X : Type 0} → List X → ℕ → X → ℕ → X → Type 0
InsertedPlace xs i x k y = ((k < i) × (slice_get xs k ≡ Some y)) ⊎ (((k ≡ i) × (x ≡ y)) ⊎ ((j : ℕ) × (i ≤ j) × (k ≡ suc j) × (slice_get xs j ≡ Some y)))

pub inserted-place : {X : Type 0} (xs : List X) (i : ℕ) (x : X) (k : ℕ) (y : X) → i ≤ length xs → slice_get (insert xs i x) k ≡ Some y → InsertedPlace xs i x k y
inserted-place xs zero x zero y l h = inr (inl (refl, let g = h in cc))
inserted-place xs zero x (suc k) y l h = inr (inr (k, omega arith, refl, h))
inserted-place [] (suc i) x k y l h = absurd (omega arith)
inserted-place (z ∷ zs) (suc i) x zero y l h = inl (omega arith, h)
inserted-place {X = X} (z ∷ zs) (suc i) x (suc k) y l h = by_rest (inserted-place zs i x k y (omega arith) h)
  where
    by_rest : InsertedPlace zs i x k y → InsertedPlace (z ∷ zs) (suc i) x (suc k) y
    by_rest (inl g) = inl (omega (arith, g.0), g.1)
    by_rest (inr (inl g)) = inr (inl (ap suc g.0, g.1))
    by_rest (inr (inr g)) = inr (inr (suc g.0, omega (arith, g.1), ap suc g.2, g.3))

pub falling-insert : (list : List ClassBid) (p : ℕ) (x : ClassBid) → p ≤ length list → AreFalling list →
    ((k : ℕ) (one : ClassBid) → k < p → slice_get list k ≡ Some one → x.bid.saving ≤ one.bid.saving) →
    ((one : ClassBid) → slice_get list p ≡ Some one → one.bid.saving ≤ x.bid.saving) → AreFalling (insert list p x)
falling-insert list p x room falls before here i k one later l at is =
    by_places (inserted-place list p x i one room at) (inserted-place list p x k later room is)
  where
    by_places : InsertedPlace list p x i one → InsertedPlace list p x k later → later.bid.saving ≤ one.bid.saving
    by_places (inl a) (inl b) = falls i k one later l a.1 b.1
    by_places (inl a) (inr (inl b)) = subst (λ (y : ClassBid). y.bid.saving ≤ one.bid.saving) b.1 (before i one a.0 a.1)
    by_places (inl a) (inr (inr (j, low, e, there))) = falls i j one later (omega (arith, a.0, low)) a.1 there
    by_places (inr (inl a)) (inl b) = absurd (omega (arith, a.0, b.0, l))
    by_places (inr (inl a)) (inr (inl b)) = let same : one ≡ later = sym a.1 ∙ b.1 in subst (λ (y : ClassBid). y.bid.saving ≤ one.bid.saving) same (omega arith)
    by_places (inr (inl a)) (inr (inr (j, low, e, there))) =
        let found = get-below list p (omega (arith, low, slice_get_within list j later there)) in
        let first = falls p j found.0 later low found.1 there in
        let top = here found.0 found.1 in
        subst (λ (y : ClassBid). later.bid.saving ≤ y.bid.saving) a.1 (omega (arith, first, top))
    by_places (inr (inr (j, low, e, there))) (inl b) = absurd (omega (arith, b.0, low, e, l))
    by_places (inr (inr (j, low, e, there))) (inr (inl b)) = absurd (omega (arith, b.0, low, e, l))
    by_places (inr (inr (j, low, e, there))) (inr (inr (m, high, f, where_it))) = falls j m one later (omega (arith, e, f, l)) there where_it
