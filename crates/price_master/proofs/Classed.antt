-- The first driver with the same bids, for each driver.
use Rattle.std.proofs.Common.{◌≡◌, ◌≢◌, ◌⊎◌, inl, inr, ℕ, ◌<◌, ◌≤◌, List, length, get_or, ◌∙◌, arith}
use Rattle.price_master.specs.declared.bidding.Bid.{Bid}
use Rattle.price_master.specs.Classes.{AreClasses, IsFirstAlike}
use Rattle.price_master.proofs.Lookups.{same-or-not}

-- the classes of the first n drivers
pub record AreClassesTo (bids : List (List Bid)) (classes : List ℕ) (n : ℕ) : Type 0 where
  pub size : length classes ≡ 16
  pub firsts : (d : ℕ) → d < n → IsFirstAlike bids d (get_or classes d 0)

-- a class is its own
pub class-own : (bids : List (List Bid)) (classes : List ℕ) (d : ℕ) → AreClasses bids classes → d < length bids →
    get_or classes (get_or classes d 0) 0 ≡ get_or classes d 0
class-own bids classes d a l =
    let mine = a d l in
    let low = mine.low in
    let its = a (get_or classes d 0) (omega (arith, low, l)) in
    by_place (same-or-not (get_or classes (get_or classes d 0) 0) (get_or classes d 0)) its.low
    (λ below. mine.earlier (get_or classes (get_or classes d 0) 0) below (its.same ∙ mine.same))
  where
    by_place : {a b : ℕ} → (a ≡ b) ⊎ (a ≢ b) → a ≤ b → (a < b → ⊥) → a ≡ b
    by_place (inl e) low never = e
    by_place (inr d) low never = absurd (never (omega (arith, d, low)))
