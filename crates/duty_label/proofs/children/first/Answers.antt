use Rattle.std.proofs.Common.{length, sym}
use Rattle.std.proofs.lemmas.Option.{slice_get_read}
use Rattle.duty_label.proofs.Growing.{first-label}
use Rattle.duty_label.proofs.children.first.Goals as goal

pub returns-clause-some : goal.returns-clause-some
returns-clause-some c = λ prices. record {
  partial = _;
  has_label = first-label c.args.case.now c.args.driver prices c.index-as_slice-driver.result c.start.result
      (slice_get_read c.args.case.now.past (length c.args.case.now.week.drivers) c.args.driver c.index-as_slice-driver.result (sym
      c.requires.case.drivers) c.requires.driver
      (rw c.as_slice.ensures at c.index-as_slice-driver.is)) c.start.ensures.line;
}
