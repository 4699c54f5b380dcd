-- Who serves an order, and when.
use Rattle.std.specs.Prelude.{ℕ, ◌+◌, if◌then◌else◌, List, [], ◌∷◌, Option, Some, None}
use Rattle.week_book.specs.declared.weeks.Week.{Week}
use Rattle.duty_plan.specs.declared.duties.Duty.{Duty}
use Rattle.duty_plan.specs.Acts.{serves_order}
use Rattle.duty_plan.specs.PartialDuties.{PartialDuty, start_of}
use Rattle.duty_plan.specs.Duties.{partial_of}
use Rattle.desk_report.specs.declared.services.Service.{Service}

-- the week minute at which a partial duty starts to serve an order, or none where it does not
abbrev pub service_start : Week → ℕ → PartialDuty → Option ℕ
service_start week order [] = None
service_start week order (step ∷ before) =
    if serves_order order step.act then Some (start_of week step before) else service_start week order before

-- a service by that driver, where one was found, or a later one
abbrev pub service_or : ℕ → Option ℕ → Option Service → Option Service
service_or driver (Some start) later = Some (record { driver = driver; start = start })
service_or driver None later = later

-- the service of an order by the first of these duties that serves it, where the first duty is that driver's
abbrev pub service_from : Week → ℕ → List Duty → ℕ → Option Service
service_from week driver [] order = None
service_from week driver (duty ∷ rest) order =
    service_or driver (service_start week order (partial_of duty)) (service_from week (driver + 1) rest order)
