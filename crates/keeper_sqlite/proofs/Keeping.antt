-- Calls within a transaction, one after another, commit nothing.
use Rattle.std.proofs.Common.{refl, arith}
use Rattle.sqlite.specs.State.{State, HasCleanDisk}
use Rattle.sqlite.proofs.InsideLemmas.{keeps_then}
use Rattle.keeper_sqlite.specs.Commits.{CommitsNothing}

pub nothing : (s : State) → CommitsNothing s s
nothing s = record { clean = omega arith; kept = λ _. record { was_open = λ h. h; committed = λ _. refl }; crash = λ _ db left. left }

pub then : (a b c : State) → CommitsNothing a b → CommitsNothing b c → CommitsNothing a c
then a b c one two =
    let early : HasCleanDisk c → HasCleanDisk b = λ late. omega (arith, two.clean) in
    record {
      clean = omega (arith, one.clean, two.clean);
      kept = λ late. keeps_then a b c (one.kept (early late)) (two.kept late);
      crash = λ late db left. one.crash (early late) db (two.crash late db left);
    }
