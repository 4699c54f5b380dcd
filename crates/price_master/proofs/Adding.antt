-- A pool with one duty more.
use Rattle.std.proofs.Common.{◌≡◌, ◌≢◌, ◌⊎◌, inl, inr, ℕ, zero, suc, ◌+◌, ◌-◌, ◌<◌, ◌≤◌, List, [], ◌∷◌, ◌++◌, length, map, set, replicate, drop, get_or, refl, ap, sym, ◌∙◌, subst, arith, Some, slice_get, length-drop}
use Rattle.std.specs.Prelude.{Result, Ok, Err, OnOk, OnErr}
use Rattle.duty_plan.specs.declared.duties.Duty.{Duty}
use Rattle.duty_plan.specs.declared.plans.Case.{Case}
use Rattle.duty_plan.specs.Duties.{EachOf}
use Rattle.duty_plan.proofs.Home.{length_replicated, replicate_at}
use Rattle.price_master.specs.declared.pooling.Pooled.{Pooled}
use Rattle.price_master.specs.Pools.{AddsDuty, AddsTo, IsAmong, IsEntry, IsPool, IsPooled, newest}
use Rattle.price_master.proofs.Lookups.{EarlierOrLast, element-at, get-map, get-set_other, get-set_same, last-there, length-map_lem, length-set_lem, one-more, same-or-not, split}
use Rattle.price_master.proofs.Carried.{get-below}

map-set_lem : {X Y : Type 0} (f : X → Y) (xs : List X) (i : ℕ) (x : X) → map f (set xs i x) ≡ set (map f xs) i (f x)
map-set_lem f [] i x = refl
map-set_lem f (y ∷ ys) zero x = refl
map-set_lem {Y = Y} f (y ∷ ys) (suc i) x = ap (λ (zs : List Y). f y ∷ zs) (map-set_lem f ys i x)

set-same_lem : {X : Type 0} (xs : List X) (i : ℕ) (x : X) → slice_get xs i ≡ Some x → set xs i x ≡ xs
set-same_lem [] i x e = refl
set-same_lem {X = X} (y ∷ ys) zero x e = let same : x ≡ y = cc in ap (λ (z : X). z ∷ ys) same
set-same_lem {X = X} (y ∷ ys) (suc i) x e = ap (λ (zs : List X). y ∷ zs) (set-same_lem ys i x e)

get-drop_lem : {X : Type 0} (xs : List X) (k n : ℕ) (x : X) → slice_get (drop k xs) n ≡ Some x → (j : ℕ) × (slice_get xs j ≡ Some x)
get-drop_lem xs zero n x e = (n, e)
get-drop_lem [] (suc k) n x e = (n, let g = e in cc)
get-drop_lem (y ∷ ys) (suc k) n x e = let more = get-drop_lem ys k n x e in (suc more.0, more.1)

-- what the driver had before
pub had : {V : Type 0} (f : V → List Pooled) (xs : List V) (pool : List (List Pooled)) (driver : ℕ) (old : V) → map f xs ≡ pool → driver < length pool →
    old ≡ get_or xs driver old → slice_get pool driver ≡ Some (f old)
had {V = V} f xs pool driver old view l e =
    let many : length (map f xs) ≡ length xs = length-map_lem f xs in
    let seen : length (map f xs) ≡ length pool = ap length view in
    let there : slice_get xs driver ≡ Some old = element-at xs driver old old (omega arith) e refl in
    ap (λ (ys : List (List Pooled)). slice_get ys driver) (sym view) ∙ get-map f xs driver old there

pub on-ok : {T E P Q : Type 0} (r : Result T E) → (P → Q) → OnOk r P → OnOk r Q
on-ok (Ok x) f p = f p
on-ok (Err e) f p = tt

pub on-err : {T E P Q : Type 0} (r : Result T E) → (P → Q) → OnErr r P → OnErr r Q
on-err (Ok x) f p = tt
on-err (Err e) f p = f p

pub adds-to : {V : Type 0} (f : V → List Pooled) (xs : List V) (pool : List (List Pooled)) (driver cost : ℕ) (old new : V) (entry : Pooled) → map f xs ≡ pool →
    slice_get pool driver ≡ Some (f old) → entry.cost ≡ cost → AddsDuty entry (f old) (f new) →
    AddsTo driver (record { duty = entry.duty; cost = cost }) pool (map f (set xs driver new))
adds-to {V = V} f xs pool driver cost old new entry view there same adds = record {
  pooled = f new;
  adds = λ before at.
      let its : f old ≡ before = cc in
      subst (λ (ys : List Pooled). AddsDuty (record { duty = entry.duty; cost = cost }) ys (f new)) its
      (subst (λ (c : ℕ). AddsDuty (record { duty = entry.duty; cost = c }) (f old) (f new)) same adds);
  others = map-set_lem f xs driver new ∙ ap (λ (ys : List (List Pooled)). set ys driver (f new)) view;
}

pub stays-so : {V : Type 0} (f : V → List Pooled) (xs : List V) (pool : List (List Pooled)) (driver : ℕ) (old new : V) → map f xs ≡ pool →
    slice_get pool driver ≡ Some (f old) → f new ≡ f old → map f (set xs driver new) ≡ pool
stays-so f xs pool driver old new view there same =
    map-set_lem f xs driver new ∙
    (ap (λ (ys : List (List Pooled)). set ys driver (f new)) view ∙
    (ap (λ (x : List Pooled). set pool driver x) same ∙ set-same_lem pool driver (f old) there))

-- at most 64, and each an older one or the new one
few-newest : (xs : List Pooled) → length (newest xs) ≤ 64
few-newest xs = omega (arith, length-drop (length xs - 64) xs)

few-added : (entry : Pooled) (old new : List Pooled) → length old ≤ 64 → AddsDuty entry old new → length new ≤ 64
few-added entry old new l (inl g) = let e : length new ≡ length old = ap length g.1 in omega arith
few-added entry old new l (inr g) = let e : length new ≡ length (newest (old ++ entry ∷ [])) = ap length g.1 in omega (arith, few-newest (old ++ entry ∷ []))

entries-added : (case : Case) (driver : ℕ) (entry : Pooled) (old new : List Pooled) → EachOf (λ n e. IsEntry case driver e) old → IsEntry case driver entry →
    AddsDuty entry old new → EachOf (λ n e. IsEntry case driver e) new
entries-added case driver entry old new each one (inl g) n e h = each n e (ap (λ (xs : List Pooled). slice_get xs n) (sym g.1) ∙ h)
entries-added case driver entry old new each one (inr g) n e h =
    let all : List Pooled = old ++ entry ∷ [] in
    let old_place = get-drop_lem all (length all - 64) n e (ap (λ (xs : List Pooled). slice_get xs n) (sym g.1) ∙ h) in
    by_place old_place.0 (split old entry e old_place.0 old_place.1)
  where
    by_place : (k : ℕ) → EarlierOrLast old entry k e → IsEntry case driver e
    by_place k (inl a) = each k e a.1
    by_place k (inr a) = subst (λ (x : Pooled). IsEntry case driver x) a.1 one

adds-pool : (case : Case) (driver : ℕ) (entry : Pooled) (old new : List (List Pooled)) → IsPool case old → driver < length old → IsEntry case driver entry →
    AddsTo driver entry old new → IsPool case new
adds-pool case driver entry old new p l one a = subst (λ (x : List (List Pooled)). IsPool case x) (sym a.others) (record {
  drivers = length-set_lem old driver a.pooled ∙ p.drivers;
  few = λ k pooled h. few k pooled h (same-or-not k driver);
  entries = λ k pooled h. entries k pooled h (same-or-not k driver);
})
  where
    here : (k : ℕ) (pooled : List Pooled) → slice_get (set old driver a.pooled) k ≡ Some pooled → k ≡ driver → a.pooled ≡ pooled
    here k pooled h e =
        let now : slice_get (set old driver a.pooled) driver ≡ Some pooled = ap (slice_get (set old driver a.pooled)) (sym e) ∙ h in
        let set_there = get-set_same old driver a.pooled l in cc

    few : (k : ℕ) (pooled : List Pooled) → slice_get (set old driver a.pooled) k ≡ Some pooled → (k ≡ driver) ⊎ (k ≢ driver) → length pooled ≤ 64
    few k pooled h (inr d) = p.few k pooled (sym (get-set_other old driver k a.pooled d) ∙ h)
    few k pooled h (inl e) =
        let was = get-below old driver l in
        subst (λ (x : List Pooled). length x ≤ 64) (here k pooled h e) (few-added entry was.0 a.pooled (p.few driver was.0 was.1) (a.adds was.0 was.1))

    entries : (k : ℕ) (pooled : List Pooled) → slice_get (set old driver a.pooled) k ≡ Some pooled → (k ≡ driver) ⊎ (k ≢ driver) →
        EachOf (λ n e. IsEntry case k e) pooled
    entries k pooled h (inr d) = p.entries k pooled (sym (get-set_other old driver k a.pooled d) ∙ h)
    entries k pooled h (inl e) =
        let was = get-below old driver l in
        subst (λ (m : ℕ). EachOf (λ n x. IsEntry case m x) pooled) (sym e)
        (subst (λ (x : List Pooled). EachOf (λ n y. IsEntry case driver y) x) (here k pooled h e)
        (entries-added case driver entry was.0 a.pooled (p.entries driver was.0 was.1) one (a.adds was.0 was.1)))

pub pool-after : {T E : Type 0} (r : Result T E) (case : Case) (driver : ℕ) (entry : Pooled) (old new : List (List Pooled)) → IsPool case old → driver < length old →
    IsEntry case driver entry → OnOk r (AddsTo driver entry old new) → OnErr r (new ≡ old) → IsPool case new
pool-after (Ok x) case driver entry old new p l one a s = adds-pool case driver entry old new p l one a
pool-after (Err e) case driver entry old new p l one a s = subst (λ (x : List (List Pooled)). IsPool case x) (sym s) p

-- ---- what a pool holds after it

get-drop_at : {X : Type 0} (xs : List X) (k n m : ℕ) (x : X) → m ≡ k + n → slice_get xs m ≡ Some x → slice_get (drop k xs) n ≡ Some x
get-drop_at xs zero n m x e h = let same : m ≡ n = omega arith in ap (slice_get xs) (sym same) ∙ h
get-drop_at [] (suc k) n m x e h = cc
get-drop_at (y ∷ ys) (suc k) n zero x e h = absurd (omega arith)
get-drop_at (y ∷ ys) (suc k) n (suc m) x e h = get-drop_at ys k n m x (omega arith) h

among-after : (entry : Pooled) (old new : List Pooled) → AddsDuty entry old new → IsAmong new entry.duty
among-after entry old new (inl g) = subst (λ (xs : List Pooled). IsAmong xs entry.duty) (sym g.1) g.0
among-after entry old new (inr g) =
    let all : List Pooled = old ++ entry ∷ [] in
    let size : length all ≡ suc (length old) = one-more old entry in
    let there = get-drop_at all (length all - 64) (length old - (length all - 64)) (length old) entry (omega arith) (last-there old entry) in
    subst (λ (xs : List Pooled). IsAmong xs entry.duty) (sym g.1) (length old - (length all - 64), entry, there, refl)

pub added-pooled : (driver : ℕ) (entry : Pooled) (old new : List (List Pooled)) → driver < length old → AddsTo driver entry old new → IsPooled new driver entry.duty
added-pooled driver entry old new l a =
    let was = get-below old driver l in
    subst (λ (x : List (List Pooled)). IsPooled x driver entry.duty) (sym a.others)
    (a.pooled, get-set_same old driver a.pooled l, among-after entry was.0 a.pooled (a.adds was.0 was.1))

pub others-pooled : (driver other : ℕ) (entry : Pooled) (duty : Duty) (old new : List (List Pooled)) → other ≢ driver → AddsTo driver entry old new →
    IsPooled old other duty → IsPooled new other duty
others-pooled driver other entry duty old new d a p =
    subst (λ (x : List (List Pooled)). IsPooled x other duty) (sym a.others) (p.0, get-set_other old driver other a.pooled d ∙ p.1, p.2)

-- a pool without duties
pub empty-pool_lem : (case : Case) (drivers : ℕ) (pool : List (List Pooled)) → pool ≡ replicate drivers [] → length case.week.drivers ≡ drivers → IsPool case pool
empty-pool_lem case drivers pool e many = record {
  drivers = ap length e ∙ (length_replicated drivers [] ∙ sym many);
  few = λ k pooled h. subst (λ (x : List Pooled). length x ≤ 64) (none k pooled h) (omega arith);
  entries = λ k pooled h. subst (λ (x : List Pooled). EachOf (λ n entry. IsEntry case k entry) x) (none k pooled h) (λ n entry g. cc);
}
  where
    none : (k : ℕ) (pooled : List Pooled) → slice_get pool k ≡ Some pooled → [] ≡ pooled
    none k pooled h = (replicate_at drivers k [] pooled (ap (λ (xs : List (List Pooled)). slice_get xs k) (sym e) ∙ h)).0
