use Rattle.std.proofs.Common.{arith, ◌≡◌, FitsSigned, w32, w64, to_z-of_z}
use Rattle.jiff_core.specs.Date.{epoch_day}
use Rattle.jiff_core.proofs.SignedLemmas.{signed_arith}
use Rattle.minute_line.proofs.Years.{years_of}
use Rattle.minute_line.proofs.stamps.date_of.Goals as goal

pub returns-clause-low : goal.returns-clause-low
returns-clause-low c =
    let fits : FitsSigned w64 c.args.day = omega (arith, signed_arith, c.requires.0, c.requires.1) in
    let fits32 : FitsSigned w32 c.args.day = c.ranges.day in
    let is : epoch_day c.in-Ok.date ≡ c.args.day = simp to_z-of_z at c.in-Ok.ensures.value in
    rw c.from_plain.ensures (years_of c.in-Ok.date (rw is c.requires.0) (rw is c.requires.1)).0

pub returns-clause-high : goal.returns-clause-high
returns-clause-high c =
    let fits : FitsSigned w64 c.args.day = omega (arith, signed_arith, c.requires.0, c.requires.1) in
    let fits32 : FitsSigned w32 c.args.day = c.ranges.day in
    let is : epoch_day c.in-Ok.date ≡ c.args.day = simp to_z-of_z at c.in-Ok.ensures.value in
    rw c.from_plain.ensures (years_of c.in-Ok.date (rw is c.requires.0) (rw is c.requires.1)).1
