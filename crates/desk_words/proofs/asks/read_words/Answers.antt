use Rattle.std.proofs.Common.{◌≡◌, ◌∙◌, ap, sym, subst, map, string_bytes, false, Some, None, MatchResult}
use Rattle.desk_words.specs.Asks.{has_dashes, command_asked, asked_by}
use Rattle.desk_words.specs.declared.words_error.WordsError.TheVariants.{Usage as IsUsage}
use Rattle.desk_words.proofs.BareWords.{bare}
use Rattle.desk_words.proofs.asks.read_words.Goals as goal

pub returns-clause-ask : goal.returns-clause-ask
returns-clause-ask c =
    let items = c.args.words.now.items in
    let none : has_dashes (map string_bytes items) ≡ false =
    ap (λ ws. has_dashes (map string_bytes ws)) (sym c.as_slice.ensures.value) ∙ sym c.has_dashes.ensures ∙ c.if-has_dashes.false in
    let same : command_asked (map string_bytes c.as_slice-2.result.now) ≡ asked_by (map string_bytes items) =
    ap (λ ws. command_asked (map string_bytes ws)) c.as_slice-2.ensures.value ∙ sym (bare (map string_bytes items) none) in
    subst (λ o. MatchResult c.command_asked.result (λ ask. o ≡ Some ask) (λ error. error ≡ IsUsage → o ≡ None)) same c.command_asked.ensures.ask
