-- What is kept of the drivers of a draft, one driver after another.
use Rattle.std.proofs.Common.{◌≡◌, ◌≢◌, ◌∙◌, ℕ, zero, suc, ◌+◌, ◌<◌, ap, sym, refl, arith, List, [], ◌∷◌, map, length, get_or, Option, Some, None, IfSome, option_map, Err}
use Rattle.std.specs.Prelude.{slice_get}
use borrow.Author.Count.{below_more}
use Rattle.desk_keeper.specs.declared.records.DraftDriver.{DraftDriver}
use Rattle.desk_keeper.specs.Tables.{Tables, KeptFields, DriverFields, kept_fields, driver_fields}
use Rattle.desk_keeper.specs.Entries.{history_in}
use Rattle.desk_core.specs.declared.refusals.Refusal.TheVariants as because
use Rattle.desk_core.specs.Issuing.{AreAsSeen, ExpectsAsSeen}

pub at_place : {X Y : Type 0} (f : X → Y) (xs : List X) (i : ℕ) (x d : X) → i < length xs → x ≡ get_or xs i d → slice_get (map f xs) i ≡ Some (f x)
at_place f [] i x d l e = absurd (omega arith)
at_place f (y ∷ ys) zero x d l e = ap (λ z. Some (f z)) (sym e)
at_place f (y ∷ ys) (suc i) x d l e = at_place f ys i x d (omega arith) e

pub within : {X Y : Type 0} (f : X → Y) (xs : List X) (k : ℕ) (y : Y) → slice_get (map f xs) k ≡ Some y → k < length xs
within f [] k y e = cc
within f (x ∷ xs) zero y e = omega arith
within f (x ∷ xs) (suc k) y e = omega (arith, within f xs k y e)

-- the driver of that number is as seen
abbrev pub IsSeenAt : Tables → List DraftDriver → ℕ → Type 0
IsSeenAt t drivers k = (driver : DriverFields) → slice_get (map driver_fields drivers) k ≡ Some driver → history_in t driver.name ≡ driver.seen

-- so are the drivers before a number
abbrev pub AreSeenBelow : List DraftDriver → ℕ → Tables → Type 0
AreSeenBelow drivers n t = (k : ℕ) → k < n → IsSeenAt t drivers k

pub seen_more : (told : Option Tables) (drivers : List DraftDriver) (i : ℕ) (driver d : DraftDriver) (kept : Option KeptFields) → i < length drivers → driver ≡ get_or drivers i d
    → IfSome told (AreSeenBelow drivers i) → IfSome told (λ t. kept ≡ history_in t driver.name) → kept ≡ option_map kept_fields driver.seen → IfSome told (AreSeenBelow drivers (i + 1))
seen_more None drivers i driver d kept here is below now same = tt
seen_more (Some t) drivers i driver d kept here is below now same =
    below_more (IsSeenAt t drivers) i below
    (λ other there.
    let found : Some other ≡ Some (driver_fields driver) = sym there ∙ at_place driver_fields drivers i driver d here is in
    let it : other ≡ driver_fields driver = cc in
    rw it (sym now ∙ same))

pub all_seen : (told : Option Tables) (drivers : List DraftDriver) → IfSome told (AreSeenBelow drivers (length drivers)) → IfSome told (λ t. AreAsSeen t (map driver_fields drivers))
all_seen None drivers below = tt
all_seen (Some t) drivers below = λ k driver there. below k (within driver_fields drivers k driver there) driver there

pub first_moved : (told : Option Tables) (drivers : List DraftDriver) (i : ℕ) (driver d : DraftDriver) (kept : Option KeptFields) (name : List ℕ) → i < length drivers
    → driver ≡ get_or drivers i d → IfSome told (AreSeenBelow drivers i) → IfSome told (λ t. kept ≡ history_in t driver.name) → kept ≢ option_map kept_fields driver.seen
    → name ≡ driver.name → IfSome told (λ t. ExpectsAsSeen t (map driver_fields drivers) (Err (because.Moved name)))
first_moved None drivers i driver d kept name here is below now differs named = tt
first_moved (Some t) drivers i driver d kept name here is below now differs named = (
  name,
  refl,
  record {
    number = i;
    driver = driver_fields driver;
    there = at_place driver_fields drivers i driver d here is;
    named = sym named;
    moved = λ same. differs (now ∙ (ap (history_in t) (sym named) ∙ same));
    before = λ k other below_it there. below k below_it other there;
  },
)
