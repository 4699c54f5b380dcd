use Rattle.std.proofs.Common.{◌≡◌, List, ℕ, Option, Some, option_copied, Bor, arith, rules}
use Rattle.httparse.specs.Borrowed.{HoldsSomeRequest}
use Rattle.httparse.specs.Grammar.{HasNoRequest}
use Rattle.httparse.specs.Spans.{RequestOverflows}
use Rattle.desk_http.proofs.Firsts.{has_head, none_read, none_fits, too_many}
use Rattle.desk_http.proofs.heads.read_head.Goals as goal

same_text : (o : Option (Bor (List ℕ))) (m : Bor (List ℕ)) (t : List ℕ) → o ≡ Some m → option_copied o ≡ Some t → m.now ≡ t
same_text o m t is copied = let all = rw is at copied in cc all

pub returns-in-Ok-Partial-clause-none : goal.returns-in-Ok-Partial-clause-none
returns-in-Ok-Partial-clause-none c =
    let none : HasNoRequest c.first_bytes.result.now = search rules in
    none_read c.args.request.now c.first_bytes.result.now c.first_bytes.ensures none

pub returns-in-Err-clause-none : goal.returns-in-Err-clause-none
returns-in-Err-clause-none c =
    let over : RequestOverflows 33 c.first_bytes.result.now = search rules in
    none_fits c.args.request.now c.first_bytes.result.now 33 c.first_bytes.ensures over (omega arith)

pub returns-then-headers-gt-HEADER_LIMIT-clause-none : goal.returns-then-headers-gt-HEADER_LIMIT-clause-none
returns-then-headers-gt-HEADER_LIMIT-clause-none c =
    let held : HoldsSomeRequest c.first_bytes.result.now c.parse.new.self c.in-Ok-Complete.len = search rules in
    too_many c.args.request.now c.first_bytes.result.now c.parse.new.self c.in-Ok-Complete.len c.first_bytes.ensures held (omega arith)

pub returns-clause-some : goal.returns-clause-some
returns-clause-some c =
    let held : HoldsSomeRequest c.first_bytes.result.now c.parse.new.self c.in-Ok-Complete.len = search rules in
    let has = has_head c.args.request.now c.first_bytes.result.now c.parse.new.self c.in-Ok-Complete.len c.first_bytes.ensures held (omega arith) in (
      has.0,
      rw c.after.ensures has.1,
      record {
        method = same_text _ _ _ c.in-Some-Some.is-0 has.2.method;
        target = same_text _ _ _ c.in-Some-Some.is-1 has.2.path;
        headers = has.2.fields;
      },
    )
