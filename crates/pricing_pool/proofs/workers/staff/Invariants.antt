use Rattle.std.proofs.Common.{◌≡◌, ◌+◌, ◌≤◌, All, length, vec_capacity}
use Rattle.label_arena.specs.Views.{IsNew}
use Rattle.duty_plan.specs.Duties.{EachOf}
use Rattle.duty_pricing.specs.Finding.{IsEmpty}
use Rattle.pricing_pool.specs.Working.{IsStaffed, MayWork}
use Rattle.pricing_pool.proofs.workers.staff.Given as goal

abbrev pub invariant-staffing : goal.invariant-staffing
invariant-staffing l = record {
  count : length l.workers.items ≡ l.driver;
  room : length l.classes ≤ vec_capacity l.workers;
  seats : length l.seats.items + l.driver ≡ length l.classes;
  scratches : length l.classes ≤ length l.scratches.items + l.driver;
  new : All (IsNew l.asked.round.now.name) l.seats.items;
  empty : All IsEmpty l.scratches.items;
  staff : EachOf (IsStaffed l.classes) l.workers.items;
  may : All (MayWork l.asked) l.workers.items;
}
