use Rattle.std.proofs.Common.{◌≡◌, subst, List, ℕ, [], ◌∷◌, map, MatchOption, arith}
use Rattle.httparse.specs.Borrowed.{header_parts}
use Rattle.desk_http.specs.Bodies.{values_of}
use Rattle.desk_http.proofs.Named.{first_here, first_other}
use Rattle.desk_http.proofs.bodies.+first_value.Goals as goal

pub returns-then-eq_ignore_ascii_case : goal.returns-then-eq_ignore_ascii_case
returns-then-eq_ignore_ascii_case t c =
    first_here c.args.name.now c.args.headers.now _ c.eq_ignore_ascii_case.result (omega arith) c.eq_ignore_ascii_case.ensures.test c.if-eq_ignore_ascii_case.true

pub returns-else-eq_ignore_ascii_case : goal.returns-else-eq_ignore_ascii_case
returns-else-eq_ignore_ascii_case t c =
    subst (λ (v : List (List ℕ)). MatchOption c.first_value.result (v ≡ []) (λ found. v ≡ found.0.now ∷ values_of c.args.name.now (map header_parts found.1.now)))
    (first_other c.args.name.now c.args.headers.now _ c.eq_ignore_ascii_case.result (omega arith) c.eq_ignore_ascii_case.ensures.test c.if-eq_ignore_ascii_case.false)
    c.first_value.ensures
