use Rattle.std.proofs.lemmas.Result.{err_from_is_err_and}
use Rattle.std.proofs.Common.{chars, [], ◌∷◌, ◌∙◌, ap}
use Rattle.virtiofs_map.specs.RuleText.{expanded}
use Rattle.virtiofs_map.specs.MapRule.{map_rule}
use Rattle.virtiofs_map.proofs.NoZeroLemmas.{read_no_zero}
use Rattle.virtiofs_map.proofs.MapRuleLemmas.{map_rule_means}
use Rattle.virtiofs_map.proofs.ReaderLemmas.{out_of_memory, told_fault}
use Rattle.virtiofs_map.proofs.RuleTextLemmas.{one_reading, one_value, no_fault, one_fault}
use Rattle.virtiofs_map.proofs.RulesInLemmas.{of_its_own, rules_in_image}
use Rattle.virtiofs_map.proofs.xattrmap.XattrMap.try_from.Goals as goal

pub image_of-requires : goal.image_of-requires
image_of-requires g c = read_no_zero (chars c.args.text.now) c.in_ok-rules.rules.list c.in_ok-rules.ensures.read

pub invariant_of-result : goal.invariant_of-result
invariant_of-result g c = of_its_own c.in_ok-rules.rules.list c.in_ok-bytes.bytes.items c.in_ok-bytes.ensures

pub returns-in_err-rules-clause-complete : goal.returns-in_err-rules-clause-complete
returns-in_err-rules-clause-complete g c = λ rules says.
    (let p = err_from_is_err_and c.from_residual.result c.from_residual.ensures.1 in
    rw (p.1, p.2) (out_of_memory _ _ c.in_err-rules.ensures.refused (λ fault. no_fault _ rules fault says)))

pub returns-in_err-rules-clause-faulty : goal.returns-in_err-rules-clause-faulty
returns-in_err-rules-clause-faulty g c = λ fault wrong.
    (let p = err_from_is_err_and c.from_residual.result c.from_residual.ensures.1 in
    rw (p.1, p.2)
    (told_fault _ _ fault c.in_err-rules.ensures.refused
    (λ told is. one_fault (chars c.args.text.now) told fault is wrong)))

pub returns-clause-complete : goal.returns-clause-complete
returns-clause-complete g c = λ rules says.
    rules_in_image c.in_ok-rules.rules.list c.in_ok-bytes.bytes.items c.in_ok-bytes.ensures.image
    ∙ one_value _ _ rules c.in_ok-rules.ensures.read says

pub returns-clause-faulty : goal.returns-clause-faulty
returns-clause-faulty g c = λ fault wrong. no_fault _ _ fault c.in_ok-rules.ensures.read wrong

pub returns-clause-map_rule : goal.returns-clause-map_rule
returns-clause-map_rule g c = λ key prepend text.
    (let (written, read, are) = c.in_ok-rules.ensures.read in
    let one = one_reading _ _ (map_rule key prepend ∷ []) read text in
    rw (rules_in_image c.in_ok-rules.rules.list c.in_ok-bytes.bytes.items c.in_ok-bytes.ensures.image)
    (map_rule_means (chars c.args.text.now) key prepend c.in_ok-rules.rules.list text (are ∙ ap expanded one)))

pub returns-in_err-rules-clause-refused : goal.returns-in_err-rules-clause-refused
returns-in_err-rules-clause-refused g c =
    let p = err_from_is_err_and c.from_residual.result c.from_residual.ensures.1 in
    rw (p.1, p.2) c.in_err-rules.ensures.refused

pub returns-clause-read : goal.returns-clause-read
returns-clause-read g c =
    rw (rules_in_image c.in_ok-rules.rules.list c.in_ok-bytes.bytes.items c.in_ok-bytes.ensures.image)
    c.in_ok-rules.ensures.read
