use Rattle.std.proofs.Common.{sym, ◌∙◌}
use Rattle.virtiofs_map.proofs.AuditAddedLemmas.{hidden_iff}
use Rattle.virtiofs_map.proofs.audit.AuditPassLemmas.{not_iff, some_is}
use Rattle.virtiofs_map.proofs.audit.AuditSharedLemmas.{reached_at}
use Rattle.virtiofs_map.proofs.audit.question.Question.fails_as.Goals as goal

pub returns-in-Seen : goal.returns-in-Seen
returns-in-Seen c = λ rules others asked is.
    let host = c.args.host.now in
    rw c.in-Seen.is
    (not_iff c.is_hidden.result _ _ (hidden_iff others host c.is_hidden.result (c.is_hidden.ensures others asked.other)) (
      λ shown. (is, some_is host (sym c.is_empty.ensures ∙ c.if-is_empty.false), shown),
      λ fails. fails.2,
    ))

pub returns-in-Shared : goal.returns-in-Shared
returns-in-Shared c = λ rules others asked is.
    let host = c.args.host.now in
    let found = c.is_reached.ensures others asked.other in
    let reached = reached_at others host is (some_is host (sym c.is_empty.ensures ∙ c.if-is_empty.false)) in
    rw c.in-Shared.is (λ yes. reached.0 (found.0 yes), λ reaches. found.1 (reached.1 reaches))
