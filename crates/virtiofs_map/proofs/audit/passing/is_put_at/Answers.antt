use Rattle.std.proofs.Common.{drop, sym, ap, ◌∙◌}
use Rattle.std.proofs.lemmas.List.{take_rest}
use Rattle.virtiofs_map.specs.AuditParts.{PutsAt, added_prefix}
use Rattle.virtiofs_map.specs.declared.xattrmap.scopes.Side.TheVariants.{Client}
use Rattle.virtiofs_map.proofs.audit.AuditPassLemmas.{never, not_passing}
use Rattle.virtiofs_map.proofs.audit.AuditSharedLemmas.{puts_at}
use Rattle.virtiofs_map.proofs.audit.AuditStrayLemmas.{bytes_same}
use Rattle.virtiofs_map.proofs.audit.passing.is_put_at.Goals as goal

pub returns-in_default : goal.returns-in_default
returns-in_default c = λ rules is.
    let host = c.args.host.now in
    let at = c.args.at in
    never (PutsAt rules host at)
    (not_passing rules (drop at host) host
    (ap (added_prefix Client rules) (sym (take_rest host at)) ∙ c.in_default.ensures rules is))

pub returns : goal.returns
returns c = λ rules is.
    let host = c.args.host.now in
    let at = c.args.at in
    let added = c.in-Some.added.now in
    let puts =
    puts_at rules host added at
    (ap (added_prefix Client rules) (sym (take_rest host at)) ∙ c.in-Some.ensures rules is) in
    let same = bytes_same added _ in (
      λ yes. puts.1 (same.0 (sym c.eq.ensures ∙ yes)),
      λ passes. c.eq.ensures ∙ same.1 (puts.0 passes),
    )
