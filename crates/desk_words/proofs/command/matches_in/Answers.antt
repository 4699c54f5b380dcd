use Rattle.std.proofs.Common.{◌≡◌, ◌∙◌, ap, sym, map, string_bytes, List, ℕ, []}
use Rattle.clap.specs.Words.{App, found_of, is_simple, matches_of, rows_of, fault_of, is_simple_and_free}
use Rattle.clap.specs.Walk.{is_empty}
use Rattle.desk_words.specs.Words.{desk_app}
use Rattle.desk_words.proofs.DeskCommand.{desk-free, desk-simple, refused}
use Rattle.desk_words.proofs.command.matches_in.Goals as goal

pub returns-in-Ok-try_get_matches_from : goal.returns-in-Ok-try_get_matches_from
returns-in-Ok-try_get_matches_from c =
    let words : List (List ℕ) = map string_bytes c.args.words.now in
    let app_is = c.in-Ok.ensures in
    let p = c.in-Ok-try_get_matches_from.ensures in
    let m = c.in-Ok-try_get_matches_from.matches in
    let rows : rows_of (found_of m) ≡ matches_of desk_app words =
    (p.matches (ap is_simple app_is ∙ desk-simple)).0 ∙ ap (λ (a : App). matches_of a words) app_is in
    let none : fault_of desk_app words ≡ [] =
    ap (λ (a : App). fault_of a words) (sym app_is) ∙ p.kinds (ap is_simple_and_free app_is ∙ desk-free) in
    (ap is_empty none, rows)

pub returns : goal.returns
returns c = λ usage.
    let words : List (List ℕ) = map string_bytes c.args.words.now in
    let app_is = c.in-Ok.ensures in
    refused _ words _ app_is (λ memory. c.in_default-kind.not-OutOfMemory (c.kind.ensures ∙ memory))
    (c.in-Err.ensures.kinds (ap is_simple_and_free app_is ∙ desk-free))
