use Rattle.std.proofs.Common.{subst, List, ℕ}
use Rattle.desk_http.specs.Answers.{HasBody}
use Rattle.desk_http.specs.declared.answers.Kind.{Kind}
use Rattle.desk_http.specs.declared.answers.Kind.TheVariants.{Fault}
use Rattle.desk_http.proofs.replies.reply_answer.Goals as goal

pub returns-in_ok-line-in-Refused-clause-ok : goal.returns-in_ok-line-in-Refused-clause-ok
returns-in_ok-line-in-Refused-clause-ok c =
    rw c.in-Refused.is (
      c.in_ok-line-in-Refused.line,
      c.in_ok-line-in-Refused.ensures,
      subst (λ (kind : Kind). HasBody kind c.in_ok-line-in-Refused.line c.answer_with-in-Refused.result) c.refused_kind.ensures c.answer_with-in-Refused.ensures,
    )

pub returns-in-KeeperFault-clause-ok : goal.returns-in-KeeperFault-clause-ok
returns-in-KeeperFault-clause-ok c =
    rw c.in-KeeperFault.is (subst (λ (text : List ℕ). HasBody Fault text c.answer_with-in-KeeperFault.result) c.requires.fault c.answer_with-in-KeeperFault.ensures)
