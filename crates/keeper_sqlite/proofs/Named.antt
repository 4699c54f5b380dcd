-- A driver added to drivers of whom none has the name.
use Rattle.std.proofs.Common.{◌≡◌, Bool, true, false, ◌||◌, refl, ℕ, List, [], ◌∷◌, ◌++◌, map}
use Rattle.std.specs.List.{IsDistinct, AllByRecursion, list_any}
use Rattle.std.specs.Str.{bytes_eq}
use Rattle.desk_keeper.specs.declared.records.DraftDriver.{DraftDriver}
use Rattle.desk_keeper.specs.Tables.{driver_fields, AreNamedOnce}

neither : (a b : Bool) → (a || b) ≡ false → (a ≡ false) × (b ≡ false)
neither false b e = (refl, e)
neither true b e = cc

-- a name that differs from the names of the drivers and of one more
other_more : (name : List ℕ) (drivers : List DraftDriver) (driver : DraftDriver) → AllByRecursion (λ y. bytes_eq name y ≡ false) (map (λ d. d.name) (map driver_fields drivers))
    → bytes_eq name driver.name ≡ false → AllByRecursion (λ y. bytes_eq name y ≡ false) (map (λ d. d.name) (map driver_fields (drivers ++ driver ∷ [])))
other_more name [] driver others other = (other, tt)
other_more name (first ∷ drivers) driver others other = (others.0, other_more name drivers driver others.1 other)

pub named_more : (drivers : List DraftDriver) (driver : DraftDriver) → AreNamedOnce (map driver_fields drivers) → list_any (λ d. bytes_eq d.name driver.name) drivers ≡ false
    → AreNamedOnce (map driver_fields (drivers ++ driver ∷ []))
unfolding IsDistinct
named_more [] driver once new = (tt, tt)
named_more (first ∷ drivers) driver once new =
    let both = neither (bytes_eq first.name driver.name) (list_any (λ d. bytes_eq d.name driver.name) drivers) new in
    (other_more first.name drivers driver once.0 both.0, named_more drivers driver once.1 both.1)

-- no driver is named twice where there is none
pub none_named : (drivers : List DraftDriver) → drivers ≡ [] → AreNamedOnce (map driver_fields drivers)
unfolding IsDistinct
none_named [] e = tt
none_named (driver ∷ drivers) e = cc
