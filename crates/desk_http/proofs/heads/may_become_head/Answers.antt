use Rattle.std.proofs.Common.{arith, rules}
use Rattle.httparse.specs.Spans.{IsRequestOf, RequestOverflows}
use Rattle.desk_http.proofs.Firsts.{settled_by_length, settled_by_head, settled_by_error}
use Rattle.desk_http.proofs.heads.may_become_head.Goals as goal

pub returns-then-request-ge-HEAD_LIMIT-clause-settled : goal.returns-then-request-ge-HEAD_LIMIT-clause-settled
returns-then-request-ge-HEAD_LIMIT-clause-settled c = λ _. settled_by_length c.args.request.now (omega arith)

pub returns-in-Ok-Complete-clause-settled : goal.returns-in-Ok-Complete-clause-settled
returns-in-Ok-Complete-clause-settled c =
    let found : IsRequestOf c.args.request.now c.parse_request.new.headers c.in-Ok-Complete.field-0-0 = search rules in
    λ _. settled_by_head c.args.request.now c.parse_request.new.headers c.in-Ok-Complete.field-0-0 found

pub returns-in-Err-clause-settled : goal.returns-in-Err-clause-settled
returns-in-Err-clause-settled c =
    let over : RequestOverflows 32 c.args.request.now = search rules in
    λ _. settled_by_error c.args.request.now over
