use Rattle.std.proofs.Common.{arith, subst, All}
use Rattle.label_arena.specs.Views.{IsNew}
use Rattle.duty_pricing.specs.Finding.{IsEmpty}
use Rattle.pricing_pool.proofs.Elements.{all-front}
use Rattle.pricing_pool.proofs.Staffing.{one-fewer, staffed, may-all}
use Rattle.pricing_pool.proofs.workers.staff.Goals as goal

pub staffing-preserved : goal.staffing-preserved
staffing-preserved c =
    let inv = c.staffing.invariant in
    let got = c.in-Some-Some in
    let push = c.push_reserved.ensures in
    let asked = c.args.asked.now in
    let classes = c.args.classes.now in
    let seats = got.ensures.items in
    let scratches = got.ensures'.items in
    let workers = one-fewer c.push_reserved.new.self.items c.staffing.workers.items _ push.items in
    let seats_fewer = one-fewer c.staffing.seats.items c.pop.new.self.items got.seat seats in
    let scratches_fewer = one-fewer c.staffing.scratches.items c.pop-in-staffing.new.self.items got.scratch scratches in
    record {
      count = omega (arith, workers, inv.count);
      room = omega (arith, push.capacity, inv.room);
      seats = omega (arith, seats_fewer, inv.seats);
      scratches = omega (arith, scratches_fewer, inv.scratches);
      new = all-front (IsNew asked.round.now.name) c.pop.new.self.items got.seat (subst (All (IsNew asked.round.now.name)) seats inv.new);
      empty = all-front IsEmpty c.pop-in-staffing.new.self.items got.scratch (subst (All IsEmpty) scratches inv.empty);
      staff = staffed asked classes c.staffing.driver got.seat got.scratch c.staffing.workers.items c.push_reserved.new.self.items push.items inv.count inv.staff;
      may = may-all asked classes c.staffing.driver got.seat got.scratch c.staffing.workers.items c.push_reserved.new.self.items push.items
          (omega (arith, c.staffing-test.true)) c.staffing.seats.items c.pop.new.self.items seats inv.new
          c.staffing.scratches.items c.pop-in-staffing.new.self.items scratches inv.empty inv.may;
    }
