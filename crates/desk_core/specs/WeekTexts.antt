-- A week text that was read, as it is said.
use Rattle.std.specs.Prelude.{map, option_map}
use Rattle.minute_line.specs.Histories.{fields_of}
use Rattle.desk_core.specs.declared.drafting.WeekText.{WeekText as Read}
use Rattle.desk_core.specs.Drafting.{WeekText}

-- a week text as it is said
abbrev pub week_text : Read → WeekText
week_text read = record { week = read.week; past = map (option_map fields_of) read.past }
