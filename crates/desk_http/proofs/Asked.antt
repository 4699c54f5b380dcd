-- What the parts of a head ask for is what the head does.
use Rattle.std.proofs.Common.{◌≡◌, map, Result}
use Rattle.httparse.specs.Borrowed.{header_parts}
use Rattle.httparse.specs.Grammar.{RequestHead}
use Rattle.httparse.specs.Spans.{name_and_value}
use Rattle.desk_http.specs.declared.early.Early.{Early}
use Rattle.desk_http.specs.declared.heads.Head.{Head}
use Rattle.desk_http.specs.declared.requests.Opening.{Opening}
use Rattle.desk_http.specs.Heads.{IsPartsOf}
use Rattle.desk_http.specs.Requests.{opening_of}

pub opened_parts : (head : RequestHead) (parts : Head) (opened : Result Opening Early) → IsPartsOf head parts
    → opening_of parts.method.now parts.target.now (map header_parts parts.headers.now) ≡ opened
    → opening_of head.method head.target (map name_and_value head.fields) ≡ opened
opened_parts head parts opened is says = rw (← is.method, ← is.target, ← is.headers) says
