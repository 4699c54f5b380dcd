-- A commit that fails leaves what was committed before its transaction.
use Rattle.std.proofs.Common.{◌≤◌, ◌⊎◌, inl, inr, true, ◌≡◌, subst, Result, Ok, Err, arith}
use Rattle.sqlite_trees.specs.declared.store.Store.{Ghosts}
use Rattle.sqlite_trees.specs.View.{doubt}
use Rattle.sqlite.specs.declared.error.Error.{Error}
use Rattle.sqlite.specs.State.{State, HasCleanDisk, KeepsCommit, IsUnchanged, IsRolledBack}
use Rattle.sqlite.specs.Steps.{FailsToCommit}
use Rattle.sqlite.specs.Held.{Held, state}
use Rattle.sqlite.proofs.InsideLemmas.{unchanged_keeps, keeps_then}
use Rattle.keeper_sqlite.specs.Commits.{CommitsNothing, KeepsCommitted}

fails_whole : (old new : State) (e : Error) → FailsToCommit old new e → IsUnchanged old new ⊎ IsRolledBack old new
fails_whole old new e (inl failed) = inr failed.3
fails_whole old new e (inr ended) = inl ended.2

-- a transaction that begins does nothing to the store
from_begin : {S : Type 0} (g : Ghosts S) (old : Held S) (mid : State) → CommitsNothing (state g (record old { in_transaction = true })) mid → CommitsNothing (state g old) mid
from_begin g old mid kept = record {
  clean = kept.clean;
  kept = λ late. record { was_open = (kept.kept late).was_open; committed = (kept.kept late).committed };
  crash = kept.crash;
}

whatever : {A E : Type 0} (r : Result A E) (old new : State) → (HasCleanDisk new → KeepsCommit old new) → KeepsCommitted r old new
whatever (Ok answer) old new kept = tt
whatever (Err error) old new kept = kept

pub commit_failed : {A E S : Type 0} (g : Ghosts S) (old begun : Held S) (mid new : State) (e : Error) (r : Result A E) → begun ≡ record old { in_transaction = true }
    → CommitsNothing (state g begun) mid → doubt mid.is_clean ≤ doubt new.is_clean → (HasCleanDisk new → FailsToCommit mid new e) → KeepsCommitted r (state g old) new
commit_failed g old begun mid new e r begins before clean failed =
    let within = from_begin g old mid (subst (λ h. CommitsNothing (state g h) mid) begins before) in
    whatever r (state g old) new (λ late. keeps_then (state g old) mid new (within.kept (omega (arith, clean))) (unchanged_keeps mid new (fails_whole mid new e (failed late))))
