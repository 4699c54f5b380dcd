use Rattle.std.proofs.Common.{arith, ◌≡◌, refl, ◌∙◌, to_z, of_z, w32}
use Rattle.std.proofs.lemmas.Int.{ints}
use Rattle.hours_rules.proofs.Same.{clock_ext}
use Rattle.hours_rules.proofs.clocks.Clock.end_run.Goals as goal

pub returns : goal.returns
returns c = clock_ext _ _ (record {
  at = grind arith;
  off = grind arith;
  day_from = let e : to_z w32 (of_z w32 c.day_start.result) ≡ c.day_start.result = omega (arith, ints) in e ∙ c.day_start.ensures ∙ rw c.ends_rest-rest.ensures refl;
  rest_from = let e : to_z w32 (of_z w32 c.rest_start.result) ≡ c.rest_start.result = omega (arith, ints) in e ∙ c.rest_start.ensures ∙ rw c.ends_weekly-weekly.ensures refl;
  period = grind arith;
  half = grind arith;
  drive_day = grind arith;
  long_days = grind arith;
  split = grind arith;
  reduced = grind arith;
  prev_weekly = grind arith;
  work_run = grind arith;
  work_day = grind arith;
  pause_day = grind arith;
  drive_week = grind arith;
  work_week = grind arith;
  prev_drive = grind arith;
  work_before = grind arith;
  owed = c.owed_after.ensures ∙ rw (c.ends_paying-paying.ensures, c.ends_owing-owing.ensures) refl;
  due = let e : to_z w32 (of_z w32 c.due_after.result) ≡ c.due_after.result = omega (arith, ints) in e ∙ c.due_after.ensures ∙ rw (c.ends_paying-paying.ensures, c.ends_owing-owing.ensures) refl;
})
