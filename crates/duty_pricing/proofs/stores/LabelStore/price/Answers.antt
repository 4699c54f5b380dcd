-- Each answer rests on the stored labels.
use Rattle.std.proofs.Common.{◌≡◌, inl, inr, ap, arith, rules, w64, of_z, to_z}
use Rattle.std.proofs.lemmas.Int.{ints}
use mir.Val.{SFits}
use Rattle.duty_pricing.specs.Slots.{entries_of}
use Rattle.duty_pricing.proofs.Holding.{seat-of, spent-seat}
use Rattle.duty_pricing.proofs.Answering.{all-parents, best-few, best-number, found-few, least-found, least-steps, no-duty, same-least}
use Rattle.duty_pricing.proofs.stores.LabelStore.price.Goals as goal

pub returns-then-not-begin-clause-found : goal.returns-then-not-begin-clause-found
returns-then-not-begin-clause-found c =
    (spent-seat c.args.asked.now c.begin.new.seat c.begin.new.self (c.begin.ensures.full c.if-not-begin.true), c.len.ensures.count)

pub returns-then-not-begin-clause-seat : goal.returns-then-not-begin-clause-seat
returns-then-not-begin-clause-seat c =
    seat-of c.args.asked.now c.begin.new.seat c.begin.new.self (c.begin.ensures.full c.if-not-begin.true).holds
    (inl (ap entries_of (c.begin.ensures.unchanged c.if-not-begin.true)))

pub returns-then-not-exhaust-clause-found : goal.returns-then-not-exhaust-clause-found
returns-then-not-exhaust-clause-found c =
    (spent-seat c.args.asked.now c.exhaust.new.seat c.exhaust.new.self (c.exhaust.ensures.full c.if-not-exhaust.true), c.len-then-not-exhaust.ensures.count)

pub returns-then-not-exhaust-clause-seat : goal.returns-then-not-exhaust-clause-seat
returns-then-not-exhaust-clause-seat c =
    seat-of c.args.asked.now c.exhaust.new.seat c.exhaust.new.self (c.exhaust.ensures.full c.if-not-exhaust.true).holds
    (inr c.exhaust.ensures.search.list)

pub returns-in_default-clause-found : goal.returns-in_default-clause-found
returns-in_default-clause-found c =
    no-duty c.args.asked.now 10081 c.exhaust.new.self c.requires.asked c.exhaust.ensures.search (c.exhaust.ensures.done c.if-not-exhaust.false) c.in_default.is

pub trace-requires-clause-parents : goal.trace-requires-clause-parents
trace-requires-clause-parents c = all-parents c.args.asked.now 10081 c.exhaust.new.self c.requires.asked c.exhaust.ensures.search

pub trace-requires-clause-number : goal.trace-requires-clause-number
trace-requires-clause-number c =
    best-number c.args.asked.now 10081 c.exhaust.new.self c.requires.asked c.exhaust.ensures.search c.in-Some.value c.in-Some.is c.in-Some-best.best c.in-Some-best.is

pub trace-requires-clause-few : goal.trace-requires-clause-few
trace-requires-clause-few c =
    best-few c.args.asked.now 10081 c.exhaust.new.self c.requires.asked c.exhaust.ensures.search c.in-Some.value c.in-Some.is c.in-Some-best.best c.in-Some-best.is

pub returns-clause-found : goal.returns-clause-found
returns-clause-found c =
    let f : SFits w64 c.in-Some.value = search rules in
    let same : to_z w64 (of_z w64 c.in-Some.value) ≡ c.in-Some.value = omega (arith, ints) in
    same-least c.args.asked.now _ c.in-Some.value _ same
    (least-steps c.args.asked.now 10081 c.exhaust.new.self c.requires.asked c.exhaust.ensures.search c.in-Some.value c.in-Some.is c.in-Some-best.best c.in-Some-best.is
    (c.exhaust.ensures.done c.if-not-exhaust.false) _ c.trace.ensures)

pub returns-in_default-clause-seat : goal.returns-in_default-clause-seat
returns-in_default-clause-seat c =
    seat-of c.args.asked.now c.exhaust.new.seat c.exhaust.new.self (c.exhaust.ensures.open c.if-not-exhaust.false).holds
    (inr c.exhaust.ensures.search.list)

pub returns-clause-seat : goal.returns-clause-seat
returns-clause-seat c =
    seat-of c.args.asked.now c.exhaust.new.seat c.exhaust.new.self (c.exhaust.ensures.open c.if-not-exhaust.false).holds (inr c.exhaust.ensures.search.list)

pub copy-requires : goal.copy-requires
copy-requires c =
    found-few c.args.asked.now 10081 c.exhaust.new.self c.requires.asked c.exhaust.ensures.search c.in-Some.value c.in-Some.is c.in_default-best.is

pub returns-in_default-best-clause-found : goal.returns-in_default-best-clause-found
returns-in_default-best-clause-found c =
    let f : SFits w64 c.in-Some.value = search rules in
    let same : to_z w64 (of_z w64 c.in-Some.value) ≡ c.in-Some.value = omega (arith, ints) in
    same-least c.args.asked.now _ c.in-Some.value _ same
    (least-found c.args.asked.now 10081 c.exhaust.new.self c.requires.asked c.exhaust.ensures.search c.in-Some.value c.in-Some.is c.in_default-best.is
    (c.exhaust.ensures.done c.if-not-exhaust.false) _ c.copy.ensures)

pub returns-in_default-best-clause-seat : goal.returns-in_default-best-clause-seat
returns-in_default-best-clause-seat c =
    seat-of c.args.asked.now c.exhaust.new.seat c.exhaust.new.self (c.exhaust.ensures.open c.if-not-exhaust.false).holds (inr c.exhaust.ensures.search.list)
