-- A line as a list of marked minutes (Art. 4; Directive, Art. 3). The newest minute stands first.
use Rattle.std.specs.Prelude.{ℕ, List, [], ◌++◌, replicate, fold, sum_by}
use Rattle.minute_line.specs.declared.marks.Mark.{Mark}
use Rattle.minute_line.specs.declared.marks.Mark.TheVariants.{Drive, Work, Ready, Off}
use Rattle.minute_line.specs.declared.marks.Kind.{Kind}
use Rattle.minute_line.specs.declared.marks.Kind.TheVariants.{Plain}
use Rattle.minute_line.specs.declared.marks.Stint.{Stint}

-- a minute, and what the off run that it ends was declared to be; its kind means nothing where it ends no off run
pub record Minute : Type 0 where
  pub mark : Mark
  pub kind : Kind

-- a list of minutes, the newest first
abbrev pub Minutes : Type 0
Minutes = List Minute

-- n minutes of one mark, added to a list
abbrev pub stretch : ℕ → Mark → Kind → Minutes → Minutes
stretch n mark kind before = replicate n (record { mark = mark; kind = kind }) ++ before

-- a list of minutes, and what the off run at its newest end is declared to be
pub record Reached : Type 0 where
  pub minutes : Minutes
  pub declared : Kind

-- n more minutes of one mark; an off run's kind goes to the minutes that follow it
abbrev pub add_block : Mark → ℕ → Kind → Reached → Reached
add_block Off n kind r = record { minutes = stretch n Off Plain r.minutes; declared = kind }
add_block Drive n kind r = record { minutes = stretch n Drive r.declared r.minutes; declared = Plain }
add_block Work n kind r = record { minutes = stretch n Work r.declared r.minutes; declared = Plain }
add_block Ready n kind r = record { minutes = stretch n Ready r.declared r.minutes; declared = Plain }

-- the minutes of one more stint
abbrev pub add_stint : Reached → Stint → Reached
add_stint r s = add_block s.mark s.minutes s.kind r

-- no minute, and no off run declared
abbrev pub nothing : Reached
nothing = record { minutes = []; declared = Plain }

-- the minutes of a list of stints
abbrev pub reached_by : List Stint → Reached
reached_by stints = fold add_stint nothing stints

-- how many minutes a list of stints has
abbrev pub total_of : List Stint → ℕ
total_of stints = sum_by (λ s. s.minutes) stints
