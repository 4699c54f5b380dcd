-- A walk over drivers stops at the first refusal.
use Rattle.std.proofs.Common.{◌≡◌, ◌∙◌, ℕ, ◌+◌, ◌<◌, sym, ap, refl, List, [], ◌∷◌, drop, drop-cons, add-one, length, get_or, Option, Result, Ok, Err, IsErr, IsErrAnd}
use Rattle.minute_line.specs.Histories.{Fields}
use Rattle.week_book.specs.declared.rows.Row.{Row}
use Rattle.week_book.specs.declared.weeks.Driver.{Driver}
use Rattle.desk_core.specs.declared.refusals.Refusal.{Refusal}
use Rattle.desk_core.specs.declared.refusals.Stop.{Stop}
use Rattle.desk_core.specs.declared.refusals.Stop.TheVariants.{Refused, Fault, Memory}
use Rattle.desk_core.specs.Refusing.{Meets, ◌>>=◌}
use Rattle.desk_core.specs.Planning.{Gathered, nobody, with_driver, past_or_refusal, pasts_said}
use Rattle.desk_core.specs.Checking.{driver_said, drivers_said}

-- what is said before is said, where the whole is refused for it
pub meets-stop : {A B C D : Type 0} (view : A → B) (other : C → D) (stop : Stop) (said : Result B Refusal) (whole : Result D Refusal)
    → ((refusal : Refusal) → said ≡ Err refusal → whole ≡ Err refusal) → Meets view (Err stop) said → Meets other (Err stop) whole
meets-stop view other (Refused refusal) said whole more h = more refusal h
meets-stop view other Fault said whole more h = h
meets-stop view other Memory said whole more h = tt

-- what a `?` hands on is what stopped
pub handed-on : {C D : Type 0} (other : C → D) (answer : Result C Stop) (stop : Stop) (whole : Result D Refusal)
    → IsErr answer × IsErrAnd answer (λ e. e ≡ stop) → Meets other (Err stop) whole → Meets other answer whole
handed-on other (Ok value) stop whole h meets = absurd (cc h.0)
handed-on other (Err e) stop whole h meets = rw h.1 meets

-- what is left at a place is the element there and what is left after it
pub left-at : {X : Type 0} (xs : List X) (i : ℕ) (x d : X) → i < length xs → x ≡ get_or xs i d → drop i xs ≡ x ∷ drop (i + 1) xs
left-at xs i x d l e = rw (add-one, e) (drop-cons xs i d l)

pub then-stop : {A B : Type 0} (said : Result A Refusal) (next : A → Result B Refusal) (refusal : Refusal) → said ≡ Err refusal → (said >>= next) ≡ Err refusal
then-stop said next refusal e = rw e refl

pub then-on : {A B : Type 0} (said : Result A Refusal) (next : A → Result B Refusal) (x : A) → said ≡ Ok x → (said >>= next) ≡ next x
then-on said next x e = rw e refl

-- a driver whose rows are refused
pub pasts-stop : (rows : List Row) (g : Gathered) (drivers : List Driver) (i : ℕ) (driver d : Driver) (refusal : Refusal) → i < length drivers → driver ≡ get_or drivers i d
    → pasts_said rows g (drop i drivers) ≡ pasts_said rows nobody drivers → past_or_refusal rows driver.name ≡ Err refusal → pasts_said rows nobody drivers ≡ Err refusal
pasts-stop rows g drivers i driver d refusal l e all refused =
    sym all ∙ (ap (pasts_said rows g) (left-at drivers i driver d l e)
    ∙ then-stop (past_or_refusal rows driver.name) (λ past. pasts_said rows (with_driver g driver.name past) (drop (i + 1) drivers)) refusal refused)

-- a driver whose rows are read
pub pasts-on : (rows : List Row) (g next : Gathered) (drivers : List Driver) (i : ℕ) (driver d : Driver) (past : Option Fields) → i < length drivers → driver ≡ get_or drivers i d
    → pasts_said rows g (drop i drivers) ≡ pasts_said rows nobody drivers → past_or_refusal rows driver.name ≡ Ok past → next ≡ with_driver g driver.name past
    → pasts_said rows next (drop (i + 1) drivers) ≡ pasts_said rows nobody drivers
pasts-on rows g next drivers i driver d past l e all read n =
    ap (λ (h : Gathered). pasts_said rows h (drop (i + 1) drivers)) n
    ∙ (sym (then-on (past_or_refusal rows driver.name) (λ past. pasts_said rows (with_driver g driver.name past) (drop (i + 1) drivers)) past read)
    ∙ (sym (ap (pasts_said rows g) (left-at drivers i driver d l e)) ∙ all))

-- a driver who is refused a line
pub lines-stop : (rows : List Row) (text : List ℕ) (names : List (List ℕ)) (i : ℕ) (name d : List ℕ) (refusal : Refusal) → i < length names → name ≡ get_or names i d
    → drivers_said rows text (drop i names) ≡ drivers_said rows [] names → driver_said rows text name ≡ Err refusal → drivers_said rows [] names ≡ Err refusal
lines-stop rows text names i name d refusal l e all refused =
    sym all ∙ (ap (drivers_said rows text) (left-at names i name d l e)
    ∙ then-stop (driver_said rows text name) (λ longer. drivers_said rows longer (drop (i + 1) names)) refusal refused)

-- a driver who has a line
pub lines-on : (rows : List Row) (text next : List ℕ) (names : List (List ℕ)) (i : ℕ) (name d : List ℕ) → i < length names → name ≡ get_or names i d
    → drivers_said rows text (drop i names) ≡ drivers_said rows [] names → driver_said rows text name ≡ Ok next
    → drivers_said rows next (drop (i + 1) names) ≡ drivers_said rows [] names
lines-on rows text next names i name d l e all said =
    sym (then-on (driver_said rows text name) (λ longer. drivers_said rows longer (drop (i + 1) names)) next said)
    ∙ (sym (ap (drivers_said rows text) (left-at names i name d l e)) ∙ all)
