-- Two clocks with equal fields are equal.
use Rattle.std.proofs.Common.{◌≡◌}
use Rattle.hours_rules.specs.declared.clocks.Clock.{Clock}

pub record SameFields (x y : Clock) : Type 0 where
  pub at : x.at ≡ y.at
  pub off : x.off ≡ y.off
  pub day_from : x.day_from ≡ y.day_from
  pub rest_from : x.rest_from ≡ y.rest_from
  pub period : x.period ≡ y.period
  pub half : x.half ≡ y.half
  pub drive_day : x.drive_day ≡ y.drive_day
  pub long_days : x.long_days ≡ y.long_days
  pub split : x.split ≡ y.split
  pub reduced : x.reduced ≡ y.reduced
  pub prev_weekly : x.prev_weekly ≡ y.prev_weekly
  pub work_run : x.work_run ≡ y.work_run
  pub work_day : x.work_day ≡ y.work_day
  pub pause_day : x.pause_day ≡ y.pause_day
  pub drive_week : x.drive_week ≡ y.drive_week
  pub work_week : x.work_week ≡ y.work_week
  pub prev_drive : x.prev_drive ≡ y.prev_drive
  pub work_before : x.work_before ≡ y.work_before
  pub owed : x.owed ≡ y.owed
  pub due : x.due ≡ y.due

pub clock_ext : (x y : Clock) → SameFields x y → x ≡ y
clock_ext x y s = λ i. record { at = s.at i; off = s.off i; day_from = s.day_from i; rest_from = s.rest_from i; period = s.period i; half = s.half i; drive_day = s.drive_day i; long_days = s.long_days i; split = s.split i; reduced = s.reduced i; prev_weekly = s.prev_weekly i; work_run = s.work_run i; work_day = s.work_day i; pause_day = s.pause_day i; drive_week = s.drive_week i; work_week = s.work_week i; prev_drive = s.prev_drive i; work_before = s.work_before i; owed = s.owed i; due = s.due i }
