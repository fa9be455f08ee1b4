use Rattle.std.proofs.Common.{refl}
use Rattle.virtiofs_map.specs.Audit.{IsLost, Sound}
use Rattle.virtiofs_map.proofs.audit.AuditLeastLemmas.{answers_ok, holds_ok}
use Rattle.virtiofs_map.proofs.audit.AuditLostLemmas.{sound_where_none}
use Rattle.virtiofs_map.proofs.audit.audit_counted.Goals as goal

pub returns : goal.returns
returns g c =
    let map = c.args.map.now in
    let is = c.as_ref-map.ensures in
    let r = c.least_bad_name.result in
    let least = c.least_bad_name.ensures.answer map map (record { map = is; other = is }) in
    record {
      answer = answers_ok r (IsLost map) least;
      sound = holds_ok r (IsLost map) (Sound map) (sound_where_none map is.no_zero)
          (λ sound name lost. lost.not_back (sound name lost.host lost.is_name lost.not_empty lost.passes)) least;
      counted = c.least_bad_name.ensures.counted map map (record { map = is; other = is }) refl;
      uncounted = c.least_bad_name.ensures.uncounted;
    }
