-- The version that the rows tell is the stored one.
use Rattle.std.proofs.Common.{◌≡◌, ℕ, ℤ, List, [], codes, Option, Some, None, IfSome, Result, Ok, Err, IfOk, subst}
use Rattle.sqlite_value.specs.Order.{Row}
use Rattle.sqlite.specs.Effect.{Database}
use Rattle.keeper_sqlite.specs.declared.causes.Cause.{Cause}
use Rattle.keeper_sqlite.specs.Commits.{Answers}
use Rattle.keeper_sqlite.specs.Versions.{TellVersion, IsStoredVersion}

pub version_stored : (r : Result (Option ℤ) Cause) (told rows : List Row) (shown now : Database) (sql : List ℕ) → told ≡ rows → shown ≡ now → sql ≡ codes "SELECT version FROM format" → Answers sql [] shown rows
    → IfOk r (λ version. IfSome version (TellVersion told)) → IfOk r (λ version. IfSome version (IsStoredVersion now))
version_stored (Err e) told rows shown now sql same unchanged asked answers tells = tt
version_stored (Ok None) told rows shown now sql same unchanged asked answers tells = tt
version_stored (Ok (Some n)) told rows shown now sql same unchanged asked answers tells =
    let by_text = subst (λ text. Answers text [] shown rows) asked answers in
    (rows, subst (λ db. Answers (codes "SELECT version FROM format") [] db rows) unchanged by_text, subst (λ xs. TellVersion xs n) same tells)
