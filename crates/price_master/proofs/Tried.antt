-- Choices of listed bids, tried one after another.
use Rattle.std.proofs.Common.{◌≡◌, ◌⊎◌, inl, inr, ℕ, ◌+◌, ◌≤◌, Bool, true, cond, List, ◌∷◌, drop, ap, ◌∙◌, subst, arith, Some, slice_get, bit_or}
use Rattle.price_master.specs.declared.alike.ClassBid.{ClassBid}
use Rattle.price_master.specs.Classes.{CanTake, can_take, taken, tries_of}
use Rattle.price_master.proofs.Lookups.{drop-at}

-- ---- what is tried

-- each choice with bids from the first number on saves no more than the best, or has none before the second number
abbrev pub AreTried : List ClassBid → (ℕ → ℕ) → ℕ → ℕ → ℕ → ℕ → ℕ → Type 0
AreTried list free served saving from number best = (more : ℕ) → CanTake (drop from list) free served more →
    (saving + more ≤ best) ⊎ CanTake (drop number list) free served more

-- one bid more
pub tried-next : (list : List ClassBid) (free : ℕ → ℕ) (served saving from n best better : ℕ) (one : ClassBid) → AreTried list free served saving from n best →
    best ≤ better → slice_get list n ≡ Some one →
    ((more : ℕ) → can_take free served one ≡ true → CanTake (drop (n + 1) list) (taken free one.class) (bit_or served one.bid.served) more →
    saving + (one.bid.saving + more) ≤ better) → AreTried list free served saving from (n + 1) better
tried-next list free served saving from n best better one tried low at here more can = by_old (tried more can)
  where
    split : CanTake (one ∷ drop (n + 1) list) free served more → (saving + more ≤ better) ⊎ CanTake (drop (n + 1) list) free served more
    split (inl next) = inr next
    split (inr (less, c, e, next)) = inl (omega (arith, here less c next, e))

    by_old : (saving + more ≤ best) ⊎ CanTake (drop n list) free served more → (saving + more ≤ better) ⊎ CanTake (drop (n + 1) list) free served more
    by_old (inl g) = inl (omega (arith, g, low))
    by_old (inr c) = split (subst (λ (l : List ClassBid). CanTake l free served more) (drop-at list n one at) c)

-- all that are left save no more
pub tried-all : (list : List ClassBid) (free : ℕ → ℕ) (served saving from n best : ℕ) → AreTried list free served saving from n best →
    ((more : ℕ) → CanTake (drop n list) free served more → saving + more ≤ best) →
    (more : ℕ) → CanTake (drop from list) free served more → saving + more ≤ best
tried-all list free served saving from n best tried last more can = by_kind (tried more can)
  where
    by_kind : (saving + more ≤ best) ⊎ CanTake (drop n list) free served more → saving + more ≤ best
    by_kind (inl g) = g
    by_kind (inr c) = last more c

-- the turns of one bid more
pub tries-here : (list : List ClassBid) (n : ℕ) (free : ℕ → ℕ) (served : ℕ) (one : ClassBid) → slice_get list n ≡ Some one →
    tries_of (drop n list) free served ≡
    tries_of (drop (n + 1) list) free served + cond (can_take free served one) (1 + tries_of (drop (n + 1) list) (taken free one.class) (bit_or served one.bid.served)) 0
tries-here list n free served one at = ap (λ (l : List ClassBid). tries_of l free served) (drop-at list n one at)

-- the turns of a bid that is taken
pub tries-taken : (list : List ClassBid) (n : ℕ) (free : ℕ → ℕ) (served : ℕ) (one : ClassBid) → slice_get list n ≡ Some one → can_take free served one ≡ true →
    tries_of (drop n list) free served ≡
    tries_of (drop (n + 1) list) free served + (1 + tries_of (drop (n + 1) list) (taken free one.class) (bit_or served one.bid.served))
tries-taken list n free served one at can =
    tries-here list n free served one at ∙
    ap (λ (b : Bool). tries_of (drop (n + 1) list) free served + cond b (1 + tries_of (drop (n + 1) list) (taken free one.class) (bit_or served one.bid.served)) 0) can
