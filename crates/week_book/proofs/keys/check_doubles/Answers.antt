use Rattle.std.proofs.Common.{◌≡◌, ◌∙◌, ℕ, Option, Some, None, option_map, List, [], filter_map, sym, ap}
use Rattle.week_book.specs.declared.rows.Row.{Row}
use Rattle.week_book.specs.declared.keys.Keyed.{Keyed}
use Rattle.week_book.specs.declared.errors.WeekError.TheVariants.{Double}
use Rattle.week_book.specs.Keys.{keyed_of, repeat_after, double_fault}
use Rattle.week_book.proofs.Doubles.{double_is}
use Rattle.week_book.proofs.keys.check_doubles.Goals as goal

found : (rows : List Row) (keys seen : List Keyed) (first row : Option ℕ) → keys ≡ filter_map keyed_of rows → seen ≡ keys
    → first ≡ repeat_after [] seen → first ≡ row
    → double_fault rows ≡ option_map Double row
found rows keys seen first row all same is was =
    double_is [] rows ∙ ap (λ (ks : List Keyed). option_map Double (repeat_after [] ks)) (sym all ∙ sym same) ∙ ap (option_map Double) (sym is ∙ was)

pub returns-in-None : goal.returns-in-None
returns-in-None c = found c.args.rows.now _ _ _ None c.in_ok-keys.ensures c.as_slice.ensures.value c.in_ok-first_repeat.ensures c.in-None.is

pub returns : goal.returns
returns c = λ other. found c.args.rows.now _ _ _ (Some c.in-Some.row) c.in_ok-keys.ensures c.as_slice.ensures.value c.in_ok-first_repeat.ensures c.in-Some.is
