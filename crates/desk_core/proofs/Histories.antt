-- A walk over the drivers of a week text: their history rows are read, or it stops at the first refusal.
use Rattle.std.proofs.Common.{◌≡◌, ◌∙◌, ℕ, ◌+◌, ◌<◌, sym, ap, List, [], ◌∷◌, ◌++◌, drop, map, length, get_or, Option, Ok, Err}
use Rattle.std.proofs.lemmas.List.{map-append}
use Rattle.minute_line.specs.Histories.{Fields}
use Rattle.week_book.specs.declared.rows.Row.{Row}
use Rattle.week_book.specs.declared.weeks.Driver.{Driver}
use Rattle.desk_core.specs.declared.refusals.Refusal.{Refusal}
use Rattle.desk_core.specs.Planning.{past_or_refusal}
use Rattle.desk_core.specs.Drafting.{pasts_read}
use Rattle.desk_core.proofs.Stopping.{left-at, then-stop, then-on}

-- a driver whose rows are refused
pub read-stop : (rows : List Row) (before : List (Option Fields)) (drivers : List Driver) (i : ℕ) (driver d : Driver) (refusal : Refusal) → i < length drivers → driver ≡ get_or drivers i d
    → pasts_read rows before (drop i drivers) ≡ pasts_read rows [] drivers → past_or_refusal rows driver.name ≡ Err refusal → pasts_read rows [] drivers ≡ Err refusal
read-stop rows before drivers i driver d refusal l e all refused =
    sym all ∙ (ap (pasts_read rows before) (left-at drivers i driver d l e)
    ∙ then-stop (past_or_refusal rows driver.name) (λ past. pasts_read rows (before ++ past ∷ []) (drop (i + 1) drivers)) refusal refused)

-- a driver whose rows are read
pub read-on : (rows : List Row) (before next : List (Option Fields)) (drivers : List Driver) (i : ℕ) (driver d : Driver) (past : Option Fields) → i < length drivers → driver ≡ get_or drivers i d
    → pasts_read rows before (drop i drivers) ≡ pasts_read rows [] drivers → past_or_refusal rows driver.name ≡ Ok past → next ≡ before ++ past ∷ []
    → pasts_read rows next (drop (i + 1) drivers) ≡ pasts_read rows [] drivers
read-on rows before next drivers i driver d past l e all read n =
    ap (λ (h : List (Option Fields)). pasts_read rows h (drop (i + 1) drivers)) n
    ∙ (sym (then-on (past_or_refusal rows driver.name) (λ past. pasts_read rows (before ++ past ∷ []) (drop (i + 1) drivers)) past read)
    ∙ (sym (ap (pasts_read rows before) (left-at drivers i driver d l e)) ∙ all))

-- one more element, seen through a view
pub viewed-more : {X Y : Type 0} (f : X → Y) (xs more : List X) (x : X) → more ≡ xs ++ x ∷ [] → map f more ≡ map f xs ++ f x ∷ []
viewed-more f xs more x e = ap (map f) e ∙ map-append f xs (x ∷ [])
