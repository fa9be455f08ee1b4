use Rattle.std.proofs.Common.{◌<◌, sym, arith}
use Rattle.std.proofs.lemmas.Bool.{true≢false}
use Rattle.virtiofs_findings.proofs.IdLemmas.{goes_here}
use Rattle.virtiofs_findings.proofs.ids.audits.goes_to.Goals as goal

pub returns-in_default : goal.returns-in_default
returns-in_default g c = (
  (λ yes. absurd (true≢false (sym yes))),
  (λ goes. absurd (c.in_default.ensures.looks_up.complete _ goes.becomes)),
)

pub returns : goal.returns
returns g c =
    let small : c.args.guest < 4294967295 =
    omega (arith, c.into_inner.ensures, c.into_inner.type_inv, c.if-into_inner-eq4294967295.false) in
    goes_here c.args.map.now c.args.guest c.args.host c.in-Ok.there _ _ c.into_inner-2.ensures c.into_inner-3.ensures
    small c.in-Ok.ensures.looks_up.value c.in-Ok.ensures.looks_up.complete
