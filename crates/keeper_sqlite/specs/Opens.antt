-- Which causes keep a store from being opened.
use Rattle.keeper_sqlite.specs.declared.causes.Cause.{Cause}
use Rattle.keeper_sqlite.specs.declared.causes.Cause.TheVariants.{Refused, Unreadable, Memory as NoMemory}
use Rattle.keeper_sqlite.specs.declared.errors.OpenError.{OpenError}
use Rattle.keeper_sqlite.specs.declared.errors.OpenError.TheVariants.{Fault, Memory as WantOfMemory}

-- every cause but want of memory is a fault
abbrev pub refusal_of : Cause → OpenError
refusal_of Refused = Fault
refusal_of Unreadable = Fault
refusal_of NoMemory = WantOfMemory
