use Rattle.std.proofs.Common.{◌≡◌, length, rules}
use Rattle.virtiofs_host.proofs.IdMapLemmas.{BeginsRange-read}
use Rattle.virtiofs_host.proofs.SequenceLemmas.{stops_here, all_here, AreAll-not_wrong, StopsAfter-one}
use Rattle.virtiofs_host.proofs.id_map.read_id_map.Goals as goal

pub returns-in_default-clause-complete : goal.returns-in_default-clause-complete
returns-in_default-clause-complete g c =
    let counted : length c.loop-rest.ranges.items ≡ c.len.result = search rules in
    let stops = stops_here _ _ _ _ _ c.loop-rest.invariant counted c.loop-rest-test.ensures c.in_default.ensures.none in
    λ ranges all. absurd (AreAll-not_wrong _ BeginsRange-read _ _ _ all stops)

pub returns-in_default-clause-faulty : goal.returns-in_default-clause-faulty
returns-in_default-clause-faulty g c =
    let counted : length c.loop-rest.ranges.items ≡ c.len.result = search rules in
    let stops = stops_here _ _ _ _ _ c.loop-rest.invariant counted c.loop-rest-test.ensures c.in_default.ensures.none in
    λ place wrong. StopsAfter-one _ BeginsRange-read _ _ _ stops wrong

pub returns-clause-faulty : goal.returns-clause-faulty
returns-clause-faulty g c =
    let all = all_here _ _ _ _ c.loop-rest.invariant c.loop-rest-test.ensures in
    λ place wrong. AreAll-not_wrong _ BeginsRange-read _ _ _ all wrong
