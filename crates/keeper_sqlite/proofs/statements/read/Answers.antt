use Rattle.sqlite.specs.Held.{state}
use Rattle.sqlite.specs.Values.{bound}
use Rattle.keeper_sqlite.proofs.Reading.{refused, queried, shown_plainly}
use Rattle.keeper_sqlite.proofs.statements.read.Goals as goal

pub returns-in_err-query_all-clause-kept : goal.returns-in_err-query_all-clause-kept
returns-in_err-query_all-clause-kept g c =
    refused g.S.Store c.args.tx.now.conn.now c.query_all.new.self.conn.now c.query_all.ensures.survives c.args.sql.now (bound c.args.values.now) c.in_err-query_all.field-0.0
    c.in_err-query_all.ensures.err

pub returns-clause-kept : goal.returns-clause-kept
returns-clause-kept g c =
    queried g.S.Store c.args.tx.now.conn.now c.query_all.new.self.conn.now c.query_all.ensures.survives c.args.sql.now (bound c.args.values.now) c.in_ok-query_all.field-0.items
    c.requires.reads c.in_ok-query_all.ensures.ok

pub returns-clause-unchanged : goal.returns-clause-unchanged
returns-clause-unchanged g c late =
    (shown_plainly c.args.sql.now (bound c.args.values.now) (state g.S.Store c.args.tx.now.conn.now) (state g.S.Store c.query_all.new.self.conn.now) c.in_ok-query_all.field-0.items
    c.requires.reads (c.in_ok-query_all.ensures.ok late)).0.0.now_is

pub returns-clause-answers : goal.returns-clause-answers
returns-clause-answers g c late =
    (shown_plainly c.args.sql.now (bound c.args.values.now) (state g.S.Store c.args.tx.now.conn.now) (state g.S.Store c.query_all.new.self.conn.now) c.in_ok-query_all.field-0.items
    c.requires.reads (c.in_ok-query_all.ensures.ok late)).1
