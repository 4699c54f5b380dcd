-- What a mark and a kind are.
use Rattle.std.specs.Prelude.{Bool, true, false}
use Rattle.minute_line.specs.declared.marks.Mark.{Mark}
use Rattle.minute_line.specs.declared.marks.Mark.TheVariants.{Drive, Work, Ready, Off}
use Rattle.minute_line.specs.declared.marks.Kind.{Kind}
use Rattle.minute_line.specs.declared.marks.Kind.TheVariants.{Plain, Daily, Weekly}

-- a break or a rest
abbrev pub is_off : Mark → Bool
is_off Off = true
is_off Drive = false
is_off Work = false
is_off Ready = false

-- Drive, Work and Ready are on duty
abbrev pub is_duty : Mark → Bool
is_duty Off = false
is_duty Drive = true
is_duty Work = true
is_duty Ready = true

-- driving time (Art. 4)
abbrev pub is_drive : Mark → Bool
is_drive Drive = true
is_drive Work = false
is_drive Ready = false
is_drive Off = false

-- Drive and Work are working time (Directive, Art. 3)
abbrev pub is_working : Mark → Bool
is_working Drive = true
is_working Work = true
is_working Ready = false
is_working Off = false

-- a daily rest (Art. 4, 8)
abbrev pub is_daily : Kind → Bool
is_daily Daily = true
is_daily Plain = false
is_daily Weekly = false

-- a weekly rest (Art. 4, 8)
abbrev pub is_weekly : Kind → Bool
is_weekly Weekly = true
is_weekly Plain = false
is_weekly Daily = false

-- a daily or a weekly rest
abbrev pub is_rest : Kind → Bool
is_rest Plain = false
is_rest Daily = true
is_rest Weekly = true
