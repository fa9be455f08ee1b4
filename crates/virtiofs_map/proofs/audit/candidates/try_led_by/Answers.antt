use Rattle.std.proofs.Common.{sym, ◌∙◌, subst, arith}
use Rattle.std.proofs.lemmas.Bool.{false≢true}
use Rattle.std.proofs.lemmas.Result.{on_ok_weaker}
use Rattle.virtiofs_map.specs.AuditParts.{IsBad}
use Rattle.virtiofs_map.proofs.audit.AuditLeastLemmas.{tries_none, tries_fewer}
use Rattle.virtiofs_map.proofs.audit.candidates.try_led_by.Goals as goal

pub returns-in-Client : goal.returns-in-Client
returns-in-Client g c = rw (sym c.side.ensures ∙ c.in-Client.is) c.try_rests.ensures

pub returns-then-not-is_cut : goal.returns-then-not-is_cut
returns-then-not-is_cut g c =
    rw (sym c.side.ensures ∙ c.in-Server.is)
    (λ rules others asked. tries_none c.args.tried.now
    (λ name (cut, whole) bad. absurd
    (false≢true (sym c.if-not-is_cut.true ∙ (c.is_cut.ensures rules asked.map).1 cut))))

pub returns-then-not-may_begin_with : goal.returns-then-not-may_begin_with
returns-then-not-may_begin_with g c =
    rw (sym c.side.ensures ∙ c.in-Server.is)
    (λ rules others asked. tries_none c.args.tried.now
    (λ name (cut, (end, among, whole)) bad. absurd
    (c.may_begin_with.ensures c.if-not-may_begin_with.true rules others end
    (subst (IsBad c.args.question.now rules others) whole bad))))

pub returns-else-not-may_begin_with : goal.returns-else-not-may_begin_with
returns-else-not-may_begin_with g c =
    rw (sym c.side.ensures ∙ c.in-Server.is)
    (on_ok_weaker c.try_wholes.result
    (λ tries rules others asked. tries_fewer (tries rules others asked) (λ name led. led.1) (omega arith))
    c.try_wholes.ensures)
