use Rattle.virtiofs_findings.specs.PairFindings.{passes_all, passes_others}
use Rattle.virtiofs_findings.proofs.PassingLemmas.{says_passes_all, says_passes_others}
use Rattle.virtiofs_findings.proofs.pairs.passing_rules.Goals as goal

pub returns-in-Ok-Ok : goal.returns-in-Ok-Ok
returns-in-Ok-Ok g c = record {
  all = c.in-Ok-Ok.ensures.complete passes_all says_passes_all;
  others = c.in-Ok-Ok.ensures'.complete passes_others says_passes_others;
}
