use Rattle.std.proofs.Common.{rules, ap, ap₂, ◌≡◌, ◌∙◌, true}
use Rattle.std.proofs.lemmas.Result.{IfOk-weaker}
use Rattle.clap.specs.Words.{app_of, rule_of, with_rule}
use Rattle.clap.specs.Simple.{app_of_fields, on_top}
use Rattle.desk_words.specs.Words.{action_rule, bare_app}
use Rattle.desk_words.proofs.command.action_alone.Goals as goal

pub returns : goal.returns
returns c =
    let action_is : rule_of c.required-action.result ≡ action_rule = search rules in
    let bare_is : app_of c.disable_version_flag.result ≡ bare_app =
    ap app_of_fields c.disable_version_flag.ensures
    ∙ ap (on_top (λ s. record s { disable_version_flag = true })) (ap app_of_fields c.disable_help_flag.ensures
    ∙ ap (on_top (λ s. record s { disable_help_flag = true })) (ap app_of_fields c.no_binary_name.ensures
    ∙ ap (on_top (λ s. record s { no_binary_name = true })) c.new-2.ensures.app)) in
    IfOk-weaker c.arg.result _ _ (λ r h. h.shape (search rules) ∙ ap₂ with_rule bare_is action_is) c.arg.ensures
