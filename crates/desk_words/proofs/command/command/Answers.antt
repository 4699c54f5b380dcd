use Rattle.std.proofs.Common.{ap, ◌∙◌, codes}
use Rattle.std.proofs.lemmas.Result.{IfOk-weaker}
use Rattle.clap.specs.Words.{App, with_rule}
use Rattle.desk_words.specs.Words.{option_rule}
use Rattle.desk_words.proofs.command.command.Goals as goal

pub returns : goal.returns
returns c =
    let k0 = c.in_ok-command.ensures in
    let k1 = c.in_ok-command-2.ensures ∙ ap (λ (a : App). with_rule a (option_rule (codes "labels"))) k0 in
    let k2 = c.in_ok-command-3.ensures ∙ ap (λ (a : App). with_rule a (option_rule (codes "nodes"))) k1 in
    let k3 = c.in_ok-command-4.ensures ∙ ap (λ (a : App). with_rule a (option_rule (codes "rounds"))) k2 in
    let k4 = c.in_ok-command-5.ensures ∙ ap (λ (a : App). with_rule a (option_rule (codes "seed"))) k3 in
    let k5 = c.in_ok-command-6.ensures ∙ ap (λ (a : App). with_rule a (option_rule (codes "monday"))) k4 in
    let k6 = c.in_ok-command-7.ensures ∙ ap (λ (a : App). with_rule a (option_rule (codes "rev"))) k5 in
    let k7 = c.in_ok-command-8.ensures ∙ ap (λ (a : App). with_rule a (option_rule (codes "port"))) k6 in
    IfOk-weaker c.with_option-8.result _ _ (λ r h. h ∙ ap (λ (a : App). with_rule a (option_rule (codes "count"))) k7) c.with_option-8.ensures
