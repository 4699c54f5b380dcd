-- The ranges of what the desk is asked for.
use Rattle.std.specs.Prelude.{◌≤◌}
use Rattle.duty_plan.specs.Trees.{IsLimits}
use Rattle.desk_words.specs.declared.asks.Ask.{Ask}
use Rattle.desk_words.specs.declared.asks.Ask.TheVariants.{Plan, Check, Publish, Show, Export, Make, Serve}

-- each number lies in its range
abbrev pub IsAsked : Ask → Type 0
IsAsked (Plan limits) = IsLimits limits
IsAsked Check = Unit {0}
IsAsked (Publish monday revision) = (1 ≤ revision) × (revision ≤ 1000000)
IsAsked (Show monday) = Unit {0}
IsAsked (Export monday) = Unit {0}
IsAsked (Make seed limits) = (seed ≤ 999999999) × IsLimits limits
IsAsked (Serve port count) = ((1 ≤ port) × (port ≤ 65535)) × ((1 ≤ count) × (count ≤ 10000))
