use Rattle.std.proofs.Common.{◌≡◌, ℕ, ◌≤◌, List, ◌++◌, take, length, Result, Ok, Err, IsErrAnd, arith, length-append, length-take}
use Rattle.desk_io.specs.Whole.{ReadsUpTo}
use Rattle.desk_io.specs.declared.whole.ReadError.{ReadError}
use Rattle.desk_io.specs.declared.whole.ReadError.TheVariants.{Memory}
use Rattle.desk_io.proofs.Joined.{gives_more}
use Rattle.desk_io.proofs.whole.read_all.Goals as goal

-- want of memory came before more than the limit were given
want_of_memory : (limit : ℕ) (given : List ℕ) (r : Result (List ℕ) ReadError) → IsErrAnd r (λ e. e ≡ Memory) → length given ≤ limit → ReadsUpTo limit given r
want_of_memory limit given (Ok bytes) said fits = absurd said
want_of_memory limit given (Err e) said fits = rw said fits

pub returns-then-n-limit-clause-given : goal.returns-then-n-limit-clause-given
returns-then-n-limit-clause-given g c = (
  c.loop-bytes.bytes ++ take c.in-Bytes.n c.read.new.buf,
  gives_more _ _ _ _ _ c.loop-bytes.invariant.given c.in-Bytes.ensures.bytes.2,
  (
    omega (arith, length-append {A = ℕ}, length-take {A = ℕ}, c.in-Bytes.ensures.bytes, c.read.auto.buf),
    omega (arith, length-append {A = ℕ}, length-take {A = ℕ}, c.in-Bytes.ensures.bytes, c.read.auto.buf, c.loop-bytes.invariant.in_range),
  ),
)

pub returns-in_err-extend_from_slice-in-Bytes-clause-given : goal.returns-in_err-extend_from_slice-in-Bytes-clause-given
returns-in_err-extend_from_slice-in-Bytes-clause-given g c =
    let given = c.loop-bytes.bytes ++ take c.in-Bytes.n c.read.new.buf in
    let fits : length given ≤ c.args.limit = omega (arith, length-append {A = ℕ}, length-take {A = ℕ}, c.in-Bytes.ensures.bytes, c.read.auto.buf) in
    (given, gives_more _ _ _ _ _ c.loop-bytes.invariant.given c.in-Bytes.ensures.bytes.2, want_of_memory c.args.limit given _ c.from_residual.ensures.1 fits)
