use Rattle.std.proofs.Common.{ap, ◌∙◌}
use Rattle.std.proofs.lemmas.Result.{on_ok_weaker}
use Rattle.virtiofs_map.specs.Steps.{count_after}
use Rattle.virtiofs_map.proofs.audit.AuditLeastLemmas.{tries_counted}
use Rattle.virtiofs_map.proofs.audit.least.Tried.try_name.Goals as goal

pub returns : goal.returns
returns g c =
    let counted = c.tick.ensures ∙ ap (λ t. count_after t.count 1) c.self.view_is in
    record {
      tried = on_ok_weaker c.look_at.result
          (λ h rules others asked.
          tries_counted (ap (λ t. t.least) c.self.view_is) counted (h rules others asked))
          c.look_at.ensures.tried;
      counted = on_ok_weaker c.look_at.result (λ h. h ∙ counted) c.look_at.ensures.uncounted;
    }
