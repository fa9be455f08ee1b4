use Rattle.std.proofs.Common.{sym, ◌∙◌, arith}
use Rattle.virtiofs_map.proofs.AuditAddedLemmas.{cut_begins}
use Rattle.virtiofs_map.proofs.BeginsLemmas.{begins_length}
use Rattle.virtiofs_map.proofs.audit.AuditPassLemmas.{not_iff, some_is}
use Rattle.virtiofs_map.proofs.audit.AuditStrayLemmas.{stray_as}
use Rattle.virtiofs_map.proofs.audit.passing.is_stray.Goals as goal

pub returns-then-host-cut : goal.returns-then-host-cut
returns-then-host-cut c = λ rules map is.
    (let host = c.args.host.now in
    let within = begins_length c.in-Some.cut.now host (cut_begins rules host _ (c.in-Some.ensures rules map)) in
    absurd (omega (arith, within, c.if-host-cut.true)))

pub returns : goal.returns
returns c = λ rules map is.
    let host = c.args.host.now in
    not_iff c.is_put_at.result _ _ (c.is_put_at.ensures rules map)
    (stray_as rules host c.in-Some.cut.now is (some_is host (sym c.is_empty.ensures ∙ c.if-is_empty.false))
    (c.in-Some.ensures rules map))
