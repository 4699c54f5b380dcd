-- A stint is a block of minutes.
use Rattle.std.proofs.Common.{◌≡◌, ℕ, ◌+◌, true, false, List, [], ◌∷◌, length, refl, fold, sym, Some}
use Rattle.minute_line.specs.declared.marks.Mark.{Mark}
use Rattle.minute_line.specs.declared.marks.Mark.TheVariants.{Drive, Work, Ready, Off}
use Rattle.minute_line.specs.declared.marks.Kind.{Kind}
use Rattle.minute_line.specs.declared.marks.Kind.TheVariants.{Plain}
use Rattle.minute_line.specs.declared.marks.Stint.{Stint}
use Rattle.minute_line.specs.Minutes.{Reached, stretch, add_block, add_stint}
use Rattle.hours_rules.specs.declared.rules.Broken.{Broken}
use Rattle.minute_line.specs.Marks.{is_duty, is_off}
use Rattle.hours_rules.specs.Rules.{Past, fault_from}
use Rattle.hours_rules.proofs.Faults.{fault_stays, length-stretch}

pub off_mark : (mark : Mark) → is_off mark ≡ true → mark ≡ Off
off_mark Off h = refl
off_mark Drive h = cc
off_mark Work h = cc
off_mark Ready h = cc

pub duty_mark : (mark : Mark) → is_off mark ≡ false → is_duty mark ≡ true
duty_mark Off h = cc
duty_mark Drive h = refl
duty_mark Work h = refl
duty_mark Ready h = refl

pub block-off : (mark : Mark) (n : ℕ) (kind : Kind) (r : Reached) → mark ≡ Off →
    (add_block mark n kind r).minutes ≡ stretch n Off Plain r.minutes
block-off Off n kind r e = refl
block-off Drive n kind r e = cc
block-off Work n kind r e = cc
block-off Ready n kind r e = cc

pub block-duty : (mark : Mark) (n : ℕ) (kind : Kind) (r : Reached) → is_duty mark ≡ true →
    (add_block mark n kind r).minutes ≡ stretch n mark r.declared r.minutes
block-duty Off n kind r e = cc
block-duty Drive n kind r e = refl
block-duty Work n kind r e = refl
block-duty Ready n kind r e = refl

pub length-block : (mark : Mark) (n : ℕ) (kind : Kind) (r : Reached) →
    length (add_block mark n kind r).minutes ≡ length r.minutes + n
length-block Off n kind r = length-stretch n Off Plain r.minutes
length-block Drive n kind r = length-stretch n Drive r.declared r.minutes
length-block Work n kind r = length-stretch n Work r.declared r.minutes
length-block Ready n kind r = length-stretch n Ready r.declared r.minutes

pub fault_stays-block : (o : ℕ) (past : Past) (b : Broken) (mark : Mark) (n : ℕ) (kind : Kind) (r : Reached) →
    fault_from o past r.minutes ≡ Some b → fault_from o past (add_block mark n kind r).minutes ≡ Some b
fault_stays-block o past b Off n kind r h = fault_stays o past b n Off Plain r.minutes h
fault_stays-block o past b Drive n kind r h = fault_stays o past b n Drive r.declared r.minutes h
fault_stays-block o past b Work n kind r h = fault_stays o past b n Work r.declared r.minutes h
fault_stays-block o past b Ready n kind r h = fault_stays o past b n Ready r.declared r.minutes h

pub fault_stays-stints : (o : ℕ) (past : Past) (b : Broken) (stints : List Stint) (r : Reached) →
    fault_from o past r.minutes ≡ Some b → fault_from o past (fold add_stint r stints).minutes ≡ Some b
fault_stays-stints o past b [] r h = h
fault_stays-stints o past b (s ∷ rest) r h =
    fault_stays-stints o past b rest (add_stint r s) (fault_stays-block o past b s.mark s.minutes s.kind r h)

pub length-stints : (stints : List Stint) (r : Reached) (n : ℕ) → n ≡ length r.minutes →
    length (fold add_stint r stints).minutes ≡ fold (λ a s. a + s.minutes) n stints
length-stints [] r n e = sym e
length-stints (s ∷ rest) r n e =
    length-stints rest (add_stint r s) (n + s.minutes) (rw e (sym (length-block s.mark s.minutes s.kind r)))
