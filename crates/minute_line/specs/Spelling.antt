-- The text of a history.
use Rattle.std.specs.Prelude.{◌≡◌, ℕ, List, [], ◌∷◌, ◌++◌, Result, Ok, Err}
use Rattle.std.specs.Fmt.{decimal}
use Rattle.std.specs.List.{flat_map}
use Rattle.minute_line.specs.declared.marks.Mark.{Mark}
use Rattle.minute_line.specs.declared.marks.Mark.TheVariants.{Drive, Work, Ready, Off}
use Rattle.minute_line.specs.declared.marks.Kind.{Kind}
use Rattle.minute_line.specs.declared.marks.Kind.TheVariants.{Plain, Daily, Weekly}
use Rattle.minute_line.specs.declared.marks.Stint.{Stint}
use Rattle.minute_line.specs.declared.lines.History.{History}
use Rattle.minute_line.specs.declared.errors.TextError.{TextError}
use Rattle.minute_line.specs.declared.errors.TextError.TheVariants.{Bad, Memory}
use Rattle.minute_line.specs.Histories.{Fields, fields_of}

-- the letter of a stint: D, W and R on duty, P plain, N (night) a daily rest; no history has a weekly one, for which ? stands
abbrev pub letter_of : Mark → Kind → ℕ
letter_of Drive kind = 68
letter_of Work kind = 87
letter_of Ready kind = 82
letter_of Off Plain = 80
letter_of Off Daily = 78
letter_of Off Weekly = 63

-- a stint: its letter and its minutes
abbrev pub stint_text : Stint → List ℕ
stint_text s = letter_of s.mark s.kind ∷ decimal s.minutes

-- numbers, with a comma between each two
abbrev pub numbers_text : List ℕ → List ℕ
numbers_text [] = []
numbers_text (n ∷ ns) = decimal n ++ flat_map (λ m. 44 ∷ decimal m) ns

-- stints, with a comma between each two; a minus sign for none
abbrev pub stints_text : List Stint → List ℕ
stints_text [] = 45 ∷ []
stints_text (s ∷ ss) = stint_text s ++ flat_map (λ t. 44 ∷ stint_text t) ss

-- a history's text without its debt: five parts, with a space between each two
abbrev pub older_spelling : Fields → List ℕ
older_spelling f =
    decimal f.prev_weekly
    ++ (32 ∷ (decimal f.prev_drive
    ++ (32 ∷ (numbers_text f.work16
    ++ (32 ∷ (decimal f.open_off
    ++ (32 ∷ stints_text f.stints)))))))

-- the seven parts of a history's text, with a space between each two
abbrev pub spelling : Fields → List ℕ
spelling f = older_spelling f ++ (32 ∷ (decimal f.owed ++ (32 ∷ decimal f.due)))

-- the answer is a history with these fields, or memory was wanted
abbrev pub GivesBack : Fields → Result History TextError → Type 0
GivesBack f (Ok history) = fields_of history ≡ f
GivesBack f (Err Memory) = Unit {0}
GivesBack f (Err Bad) = ⊥
