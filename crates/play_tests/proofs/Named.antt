-- A draft without drivers names each once.
use Rattle.std.proofs.Common.{◌≡◌, List, [], ◌∷◌, map}
use Rattle.std.specs.List.{IsDistinct}
use Rattle.desk_keeper.specs.declared.records.DraftDriver.{DraftDriver}
use Rattle.desk_keeper.specs.Tables.{driver_fields, AreNamedOnce}

pub none_named : (drivers : List DraftDriver) → drivers ≡ [] → AreNamedOnce (map driver_fields drivers)
unfolding IsDistinct
none_named [] none = tt
none_named (driver ∷ drivers) none = absurd cc
