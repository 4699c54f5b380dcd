use Rattle.std.proofs.Common.{◌≤◌, ◌+◌, Some, Err, arith}
use Rattle.duty_label.proofs.Brought.{names, fault-hours}
use Rattle.duty_label.proofs.Growing.{goes-label, goes-line, label-value, longer-label, small-label, takes-label}
use Rattle.duty_label.proofs.Values.{due-small, fits, fits-step, lorry-fee}
use Rattle.duty_label.proofs.children.longer.Goals as goal

pub go-requires-clause-clock : goal.go-requires-clause-clock
go-requires-clause-clock c =
    let n = names c.args.case.now c.args.driver c.index-as_slice-driver-2.result c.index-as_slice-driver.result c.requires.case
    c.requires.driver
    (rw c.as_slice-2.ensures at c.index-as_slice-driver-2.is) (rw c.as_slice.ensures at c.index-as_slice-driver.is) in
    (goes-label c.args.case.now c.args.driver c.args.prices.now c.index-as_slice-driver-2.result c.index-as_slice-driver.result
    c.args.label.now c.args.step.now c.in-Ok.taken c.requires.case n c.requires.label
    (rw c.position.ensures at c.in-Ok.ensures)).clock_stands

pub go-requires-clause-end : goal.go-requires-clause-end
go-requires-clause-end c =
    let n = names c.args.case.now c.args.driver c.index-as_slice-driver-2.result c.index-as_slice-driver.result c.requires.case
    c.requires.driver
    (rw c.as_slice-2.ensures at c.index-as_slice-driver-2.is) (rw c.as_slice.ensures at c.index-as_slice-driver.is) in
    (goes-label c.args.case.now c.args.driver c.args.prices.now c.index-as_slice-driver-2.result c.index-as_slice-driver.result
    c.args.label.now c.args.step.now c.in-Ok.taken c.requires.case n c.requires.label
    (rw c.position.ensures at c.in-Ok.ensures)).end

pub go-requires-clause-ready : goal.go-requires-clause-ready
go-requires-clause-ready c =
    let n = names c.args.case.now c.args.driver c.index-as_slice-driver-2.result c.index-as_slice-driver.result c.requires.case
    c.requires.driver
    (rw c.as_slice-2.ensures at c.index-as_slice-driver-2.is) (rw c.as_slice.ensures at c.index-as_slice-driver.is) in
    (goes-label c.args.case.now c.args.driver c.args.prices.now c.index-as_slice-driver-2.result c.index-as_slice-driver.result
    c.args.label.now c.args.step.now c.in-Ok.taken c.requires.case n c.requires.label
    (rw c.position.ensures at c.in-Ok.ensures)).ready

pub go-requires-clause-run : goal.go-requires-clause-run
go-requires-clause-run c =
    let n = names c.args.case.now c.args.driver c.index-as_slice-driver-2.result c.index-as_slice-driver.result c.requires.case
    c.requires.driver
    (rw c.as_slice-2.ensures at c.index-as_slice-driver-2.is) (rw c.as_slice.ensures at c.index-as_slice-driver.is) in
    (goes-label c.args.case.now c.args.driver c.args.prices.now c.index-as_slice-driver-2.result c.index-as_slice-driver.result
    c.args.label.now c.args.step.now c.in-Ok.taken c.requires.case n c.requires.label
    (rw c.position.ensures at c.in-Ok.ensures)).run

pub go-requires-clause-some : goal.go-requires-clause-some
go-requires-clause-some c =
    let n = names c.args.case.now c.args.driver c.index-as_slice-driver-2.result c.index-as_slice-driver.result c.requires.case
    c.requires.driver
    (rw c.as_slice-2.ensures at c.index-as_slice-driver-2.is) (rw c.as_slice.ensures at c.index-as_slice-driver.is) in
    omega (
      arith,
      (small-label c.args.case.now c.args.driver c.args.prices.now c.index-as_slice-driver-2.result c.index-as_slice-driver.result
          c.args.label.now c.args.step.now c.in-Ok.taken c.requires.case n c.requires.label
          (rw c.position.ensures at c.in-Ok.ensures)).some,
    )

pub returns-in-Err-go : goal.returns-in-Err-go
returns-in-Err-go c = λ before h.
    let n = names c.args.case.now c.args.driver c.index-as_slice-driver-2.result c.index-as_slice-driver.result c.requires.case
    c.requires.driver
    (rw c.as_slice-2.ensures at c.index-as_slice-driver-2.is) (rw c.as_slice.ensures at c.index-as_slice-driver.is) in
    let t = takes-label c.args.case.now c.args.driver c.args.prices.now c.index-as_slice-driver-2.result c.index-as_slice-driver.result
    before c.args.label.now c.args.step.now c.in-Ok.taken n h
    (rw c.position.ensures at c.in-Ok.ensures) in
    fault-hours c.args.case.now c.args.driver c.index-as_slice-driver-2.result c.index-as_slice-driver.result before c.args.step.now (Some
    c.in-Err-go.broken) n t.office
    (goes-line c.args.case.now c.args.driver c.args.prices.now c.index-as_slice-driver-2.result c.index-as_slice-driver.result before
    c.args.label.now c.args.step.now c.in-Ok.taken (Err c.in-Err-go.broken) n h (rw c.position.ensures at c.in-Ok.ensures)
    (rw c.mark.ensures.mark at c.in-Err-go.ensures.line))

pub overflow_add-fee_due : goal.overflow_add-fee_due
overflow_add-fee_due c =
    let n = names c.args.case.now c.args.driver c.index-as_slice-driver-2.result c.index-as_slice-driver.result c.requires.case
    c.requires.driver
    (rw c.as_slice-2.ensures at c.index-as_slice-driver-2.is) (rw c.as_slice.ensures at c.index-as_slice-driver.is) in
    let fee = lorry-fee c.args.case.now.week c.args.driver c.index-as_slice-driver-2.result c.requires.case.week n.lorry_is in
    omega (
      arith,
      (small-label c.args.case.now c.args.driver c.args.prices.now c.index-as_slice-driver-2.result c.index-as_slice-driver.result
          c.args.label.now c.args.step.now c.in-Ok.taken c.requires.case n c.requires.label
          (rw c.position.ensures at c.in-Ok.ensures)).cheap,
      due-small c.args.label.now.fee_paid c.index-as_slice-driver-2.result.fee c.fee_due.result fee c.fee_due.ensures,
    )

pub value_with-requires-clause-value : goal.value_with-requires-clause-value
value_with-requires-clause-value c =
    let n = names c.args.case.now c.args.driver c.index-as_slice-driver-2.result c.index-as_slice-driver.result c.requires.case
    c.requires.driver
    (rw c.as_slice-2.ensures at c.index-as_slice-driver-2.is) (rw c.as_slice.ensures at c.index-as_slice-driver.is) in
    let small = label-value c.args.case.now c.args.driver c.args.prices.now c.index-as_slice-driver-2.result c.index-as_slice-driver.result
    c.args.label.now c.requires.case c.requires.prices n c.requires.label in
    rw (fits c.args.label.now.value small) small

pub value_with-requires-clause-cents : goal.value_with-requires-clause-cents
value_with-requires-clause-cents c =
    let n = names c.args.case.now c.args.driver c.index-as_slice-driver-2.result c.index-as_slice-driver.result c.requires.case
    c.requires.driver
    (rw c.as_slice-2.ensures at c.index-as_slice-driver-2.is) (rw c.as_slice.ensures at c.index-as_slice-driver.is) in
    let fee = lorry-fee c.args.case.now.week c.args.driver c.index-as_slice-driver-2.result c.requires.case.week n.lorry_is in
    omega (
      arith,
      (small-label c.args.case.now c.args.driver c.args.prices.now c.index-as_slice-driver-2.result c.index-as_slice-driver.result
          c.args.label.now c.args.step.now c.in-Ok.taken c.requires.case n c.requires.label
          (rw c.position.ensures at c.in-Ok.ensures)).cheap,
      due-small c.args.label.now.fee_paid c.index-as_slice-driver-2.result.fee c.fee_due.result fee c.fee_due.ensures,
    )

pub returns : goal.returns
returns c = λ before h.
    let n = names c.args.case.now c.args.driver c.index-as_slice-driver-2.result c.index-as_slice-driver.result c.requires.case
    c.requires.driver
    (rw c.as_slice-2.ensures at c.index-as_slice-driver-2.is) (rw c.as_slice.ensures at c.index-as_slice-driver.is) in
    let small = label-value c.args.case.now c.args.driver c.args.prices.now c.index-as_slice-driver-2.result c.index-as_slice-driver.result
    c.args.label.now c.requires.case c.requires.prices n c.requires.label in
    let fee = lorry-fee c.args.case.now.week c.args.driver c.index-as_slice-driver-2.result c.requires.case.week n.lorry_is in
    let cents : c.fee_due.result + c.in-Ok.taken.cents ≤ 100000000 =
    omega (
      arith,
      (small-label c.args.case.now c.args.driver c.args.prices.now c.index-as_slice-driver-2.result c.index-as_slice-driver.result
          c.args.label.now c.args.step.now c.in-Ok.taken c.requires.case n c.requires.label
          (rw c.position.ensures at c.in-Ok.ensures)).cheap,
      due-small c.args.label.now.fee_paid c.index-as_slice-driver-2.result.fee c.fee_due.result fee c.fee_due.ensures,
    ) in
    longer-label c.args.case.now c.args.driver c.args.prices.now c.index-as_slice-driver-2.result c.index-as_slice-driver.result before
    c.args.label.now c.args.step.now c.in-Ok.taken c.in-Ok-go.clock c.fee_due.result c.price_of_act.result _ n h
    (rw c.position.ensures at c.in-Ok.ensures) (rw c.mark.ensures.mark at c.in-Ok-go.ensures.line) c.fee_due.ensures c.price_of_act.ensures.price
    (fits-step c.args.label.now.value c.value_with.result (c.fee_due.result + c.in-Ok.taken.cents) c.price_of_act.result small cents
    c.price_of_act.ensures.bound c.value_with.ensures)
