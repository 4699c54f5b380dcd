-- What the desk holds of a week text, as it is said.
use Rattle.std.specs.Prelude.{map}
use Rattle.duty_plan.specs.declared.plans.Case.{Case}
use Rattle.minute_line.specs.Histories.{fields_of}
use Rattle.desk_core.specs.declared.planning.Pasts.{Pasts}
use Rattle.desk_core.specs.Planning.{Book, Gathered}

-- a case as it is said
abbrev pub book : Case → Book
book case = record { week = case.week; past = map fields_of case.past }

-- the histories so far as they are said
abbrev pub gathered : Pasts → Gathered
gathered pasts = record { past = map fields_of pasts.past; missing = pasts.missing }
