use Rattle.std.proofs.Common.{◌+◌, ◌-◌, length, Ok, Err, arith}
use Rattle.desk_http.proofs.Asked.{opened_parts}
use Rattle.desk_http.proofs.Stays.{enough_open, enough_early}
use Rattle.desk_http.proofs.waiting.wanted.Goals as goal

pub returns-in-Ok : goal.returns-in-Ok
returns-in-Ok c =
    let has = c.in-Some.ensures.some in
    λ settled. enough_open c.args.bytes.now (length c.args.bytes.now - length c.in-Some.head.rest.now + c.in-Ok.opening.length) has.0 c.in-Some.head.rest.now
    c.in-Ok.opening has.1 (opened_parts has.0 c.in-Some.head (Ok c.in-Ok.opening) has.2 c.in-Ok.ensures.opening) (omega arith)

pub returns-in-Err-Early : goal.returns-in-Err-Early
returns-in-Err-Early c =
    let has = c.in-Some.ensures.some in
    let said = rw c.in-Err-Early.field-0-is at c.in-Err-Early.ensures.opening in
    λ settled. enough_early c.args.bytes.now 0 has.0 c.in-Some.head.rest.now c.in-Err-Early.field-0-0 has.1
    (opened_parts has.0 c.in-Some.head (Err c.in-Err-Early.field-0-0) has.2 said)
