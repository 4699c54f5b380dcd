use Rattle.std.proofs.Common.{◌≡◌, ◌+◌, ◌-◌, suc, take, arith}
use Rattle.std.proofs.Math.ListN.{length-set}
use Rattle.std.proofs.lemmas.Result.{err_from_is_err_and}
use Rattle.std.proofs.lemmas.List.{take_more_set, take_all}
use Rattle.csv.specs.Records.{fields_of}
use Rattle.desk_csv.specs.Fields.{numbers_at}
use Rattle.desk_csv.proofs.Fronts.{goes_on, ends, is_done}
use Rattle.desk_csv.proofs.fields.sixteen.Goals as goal

pub returns-in_err-numbers : goal.returns-in_err-numbers
returns-in_err-numbers c =
    let p = err_from_is_err_and c.from_residual.result c.from_residual.ensures.1 in
    let i = c.loop-i.i in
    let fields = fields_of c.args.fields.now in
    let left : 16 - i ≡ suc (16 - (i + 1)) = omega arith in
    rw (p.1, p.2) (λ told_apart. ends (take i c.loop-i.numbers) c.args.row (i + 4) (16 - (i + 1)) fields c.in_err-numbers.field-0.0 (numbers_at c.args.row 4 16 fields)
    (c.in_err-numbers.ensures told_apart) (rw left at c.loop-i.invariant.left))

pub loop-i-preserved : goal.loop-i-preserved
loop-i-preserved c =
    let i = c.loop-i.i in
    let fields = fields_of c.args.fields.now in
    let left : 16 - i ≡ suc (16 - (i + 1)) = omega arith in
    let next : i + 1 + 4 ≡ i + 4 + 1 = omega arith in
    record {
      left = rw (take_more_set c.loop-i.numbers i c.in_ok-numbers.field-0 (omega (arith, c.loop-i.invariant.long)), next) (
          goes_on (take i c.loop-i.numbers) c.args.row (i + 4) (16 - (i + 1)) fields c.in_ok-numbers.field-0 (numbers_at c.args.row 4 16 fields)
          c.in_ok-numbers.ensures (rw left at c.loop-i.invariant.left)
          );
      long = simp length-set c.loop-i.invariant.long;
    }

pub returns : goal.returns
returns c =
    let i = c.loop-i.i in
    let fields = fields_of c.args.fields.now in
    let none : 16 - i ≡ 0 = omega arith in
    let all : take i c.loop-i.numbers ≡ c.loop-i.numbers = take_all i c.loop-i.numbers (omega (arith, c.loop-i.invariant.long)) in
    is_done c.loop-i.numbers c.args.row (i + 4) fields (numbers_at c.args.row 4 16 fields) (rw (none, all) at c.loop-i.invariant.left)
