-- What the listed bids from a number on can save at most.
use Rattle.std.proofs.Common.{◌≡◌, ℕ, zero, suc, ◌+◌, ◌*◌, ◌≤◌, Bool, true, false, cond, eqb, List, [], ◌∷◌, length, drop, get_or, refl, ap, sym, ◌∙◌, arith, Some, slice_get}
use Rattle.std.proofs.lemmas.Bool.Decides.{nat_tests}
use Rattle.price_master.specs.declared.alike.ClassBid.{ClassBid}
use Rattle.price_master.specs.Pools.{are_apart}
use Rattle.price_master.specs.Classes.{AreFalling, CanTake, first_saving, free_of, sum_free}
use Rattle.price_master.proofs.Free.{free-times}
use Rattle.price_master.proofs.Taking.{take-hope}

get-drop : {X : Type 0} (xs : List X) (n k : ℕ) (x : X) → slice_get (drop n xs) k ≡ Some x → slice_get xs (n + k) ≡ Some x
get-drop xs zero k x h = let e : 0 + k ≡ k = omega arith in ap (slice_get xs) e ∙ h
get-drop [] (suc n) k x h = cc
get-drop (y ∷ ys) (suc n) k x h = let e : suc n + k ≡ suc (n + k) = omega arith in ap (slice_get (y ∷ ys)) e ∙ get-drop ys n k x h

falling-drop : (list : List ClassBid) (n : ℕ) → AreFalling list → AreFalling (drop n list)
falling-drop list n falls i k one later l at is = falls (n + i) (n + k) one later (omega (arith, l)) (get-drop list n i one at) (get-drop list n k later is)

-- the first bid of the class that serves none of these orders saves most
first-most : (list : List ClassBid) (served : ℕ) → AreFalling list → (k : ℕ) (one : ClassBid) → slice_get list k ≡ Some one →
    are_apart served one.bid.served ≡ true → one.bid.saving ≤ first_saving list one.class served
first-most [] served falls k one at apart = cc
first-most (x ∷ rest) served falls k one at apart =
    by_place k at (eqb x.class one.class) refl (are_apart served x.bid.served) refl
    (λ j is. first-most rest served (λ i m a b l h g. falls (suc i) (suc m) a b (omega arith) h g) j one is apart)
  where
    by_place : (k : ℕ) → slice_get (x ∷ rest) k ≡ Some one → (t : Bool) → eqb x.class one.class ≡ t → (u : Bool) → are_apart served x.bid.served ≡ u →
        ((j : ℕ) → slice_get rest j ≡ Some one → one.bid.saving ≤ first_saving rest one.class served) →
        one.bid.saving ≤ cond t (cond u x.bid.saving (first_saving rest one.class served)) (first_saving rest one.class served)
    by_place k h true e true f later = falls 0 k x one (omega arith) refl h
    by_place (suc j) h true e false f later = later j h
    by_place (suc j) h false e u f later = later j h
    by_place zero h true e false f later =
        let same : x ≡ one = cc in
        let its : are_apart served x.bid.served ≡ true = ap (λ (y : ClassBid). are_apart served y.bid.served) same ∙ apart in cc
    by_place zero h false e u f later =
        let same : x ≡ one = cc in
        let yes : eqb x.class one.class ≡ true = ap (λ (y : ClassBid). eqb y.class one.class) same ∙ grind (arith, nat_tests) in cc

-- the bids from a number on
pub hope-holds : (list : List ClassBid) (classes places : List ℕ) (from n served more : ℕ) → AreFalling list → n ≤ length places →
    CanTake (drop from list) (free_of classes places n) served more →
    more ≤ sum_free (λ driver. first_saving (drop from list) (get_or classes driver 0) served) places n
hope-holds list classes places from n served more falls room can =
    take-hope classes n (λ class. first_saving (drop from list) class served) (drop from list) (free_of classes places n) places served more room (λ c. omega arith)
    (λ k one at apart. first-most (drop from list) served (falling-drop list from falls) k one at apart) can

-- no driver saves more than the next bid
pub top-holds : (list : List ClassBid) (classes places : List ℕ) (from n served more free : ℕ) (one : ClassBid) → AreFalling list → n ≤ length places →
    slice_get list from ≡ Some one → free ≡ sum_free (λ driver. 1) places n → CanTake (drop from list) (free_of classes places n) served more →
    more ≤ free * one.bid.saving
top-holds list classes places from n served more free one falls room at count can =
    let low = take-hope classes n (λ class. one.bid.saving) (drop from list) (free_of classes places n) places served more room (λ c. omega arith)
    (λ k later is apart. falls from (from + k) one later (omega arith) at (get-drop list from k later is)) can in
    let times = free-times one.bid.saving places n in
    let same : sum_free (λ driver. 1) places n * one.bid.saving ≡ free * one.bid.saving = ap (λ (x : ℕ). x * one.bid.saving) (sym count) in
    omega (arith, low, times, same)
