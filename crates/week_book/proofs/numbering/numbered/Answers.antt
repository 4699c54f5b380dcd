use Rattle.std.proofs.Common.{◌≡◌, ◌∙◌, ℕ, Some, None, false, true, List, refl, sym, ap, arith}
use Rattle.std.specs.Option.{is_some}
use Rattle.week_book.specs.declared.errors.WeekError.TheVariants.{Unknown}
use Rattle.week_book.specs.Names.{is_among, number_of}
use Rattle.week_book.specs.Numbers.{unknown_name}
use Rattle.week_book.proofs.Maps.{number_among, number_below}
use Rattle.week_book.proofs.numbering.numbered.Goals as goal

missing : (names : List (List ℕ)) (n field : ℕ) (name : List ℕ) → number_of names name ≡ None
    → unknown_name names n field name ≡ Some (Unknown n field)
missing names n field name none =
    let among : is_among names name ≡ false = sym (number_among 0 names name) ∙ ap is_some none in rw among refl

there : (names : List (List ℕ)) (n field : ℕ) (name : List ℕ) (number : ℕ) → number_of names name ≡ Some number
    → unknown_name names n field name ≡ None
there names n field name number is =
    let among : is_among names name ≡ true = sym (number_among 0 names name) ∙ ap is_some is in rw among refl

pub returns-in-None-clause-known : goal.returns-in-None-clause-known
returns-in-None-clause-known c = λ other. missing c.args.names.now c.args.row c.args.field c.args.name.now (sym c.number.ensures ∙ c.in-None.is)

pub returns-in-Some-clause-known : goal.returns-in-Some-clause-known
returns-in-Some-clause-known c = there c.args.names.now c.args.row c.args.field c.args.name.now _ (sym c.number.ensures ∙ c.in-Some.is)

pub overflow_cast-result : goal.overflow_cast-result
overflow_cast-result c = omega (arith, number_below 0 c.args.names.now c.args.name.now c.in-Some.number (sym c.number.ensures ∙ c.in-Some.is))
