use Rattle.std.proofs.Common.{◌≡◌, ◌∙◌, length, rules}
use Rattle.std.proofs.lemmas.List.{length-map}
use Rattle.virtiofs_host.proofs.CommandLineLemmas.{BeginsWord-read}
use Rattle.virtiofs_host.proofs.SequenceLemmas.{stops_here, all_here, AreAll-not_wrong, StopsAfter-one}
use Rattle.virtiofs_host.proofs.command_line.read_command_line.Goals as goal

pub returns-in_default-clause-complete : goal.returns-in_default-clause-complete
returns-in_default-clause-complete g c =
    let counted : length c.loop-rest.words.items ≡ c.len.result = search rules in
    let stops = stops_here _ _ _ _ _ c.loop-rest.invariant
    (length-map c.loop-rest.words.items _ ∙ counted) c.loop-rest-test.ensures c.in_default.ensures.none in
    λ words all. absurd (AreAll-not_wrong _ BeginsWord-read _ _ _ all stops)

pub returns-in_default-clause-faulty : goal.returns-in_default-clause-faulty
returns-in_default-clause-faulty g c =
    let counted : length c.loop-rest.words.items ≡ c.len.result = search rules in
    let stops = stops_here _ _ _ _ _ c.loop-rest.invariant
    (length-map c.loop-rest.words.items _ ∙ counted) c.loop-rest-test.ensures c.in_default.ensures.none in
    λ place wrong. StopsAfter-one _ BeginsWord-read _ _ _ stops wrong

pub returns-clause-faulty : goal.returns-clause-faulty
returns-clause-faulty g c =
    let all = all_here _ _ _ _ c.loop-rest.invariant c.loop-rest-test.ensures in
    λ place wrong. AreAll-not_wrong _ BeginsWord-read _ _ _ all wrong
