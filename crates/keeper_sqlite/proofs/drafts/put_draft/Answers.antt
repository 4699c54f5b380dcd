use Rattle.std.proofs.Common.{◌≡◌, subst, rules}
use Rattle.sqlite.specs.Held.{state}
use Rattle.keeper_sqlite.specs.Commits.{KeepsCommitted}
use Rattle.keeper_sqlite.proofs.Failing.{commit_failed}
use Rattle.keeper_sqlite.proofs.drafts.put_draft.Goals as goal

pub returns-in_err-commit-clause-kept : goal.returns-in_err-commit-clause-kept
returns-in_err-commit-clause-kept g c =
    let end = c.commit.new.self.0 in
    let same : end ≡ c.connection-2-1.given.0 = search rules in
    subst (λ h. KeepsCommitted c.from_residual-in_err-commit.result (state g.S.Store c.args.connection.now) (state g.S.Store h)) same
    (commit_failed g.S.Store c.args.connection.now c.transaction-tx.result.conn.now (state g.S.Store c.write_draft.new.tx.conn.now) (state g.S.Store end) c.in_err-commit.field-0.0
    c.from_residual-in_err-commit.result c.transaction-tx.ensures.begun c.write_draft.ensures.kept c.commit.ensures.survives.clean c.in_err-commit.ensures.err)
