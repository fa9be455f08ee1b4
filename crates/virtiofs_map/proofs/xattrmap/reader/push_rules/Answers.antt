use Rattle.std.proofs.Common.{◌++◌, ap, append_assoc, sym}
use Rattle.virtiofs_map.specs.RuleParts.{KeptRules}
use Rattle.virtiofs_map.proofs.xattrmap.MadeRuleLemmas.{made-typed, made-all, made-some, same_then}
use Rattle.virtiofs_map.proofs.xattrmap.RuleWordLemmas.{chars_empty, chars_nonempty}
use Rattle.virtiofs_map.proofs.xattrmap.reader.push_rules.Goals as goal

pub returns-in-Typed : goal.returns-in-Typed
returns-in-Typed g c =
    let made =
    made-typed _ _ _ _ c.as_bytes-key.ensures.value c.as_bytes-prepend.ensures.value c.requires.0 c.requires.1
    c.in-Typed.kind c.in-Typed.scope c.from.result c.from.ensures in
    rw c.in-Typed.is
    (same_then c.extended.result (λ (more : KeptRules). more.list) _ _ c.extended.ensures
    (ap (λ made. c.args.rules.list ++ made) made))

pub returns-in_ok-extended-in-Map : goal.returns-in_ok-extended-in-Map
returns-in_ok-extended-in-Map g c =
    let made =
    made-all _ _ _ _ c.as_bytes-key.ensures.value c.as_bytes-prepend.ensures.value c.requires.0 c.requires.1
    c.from-all.result c.from-all.ensures (chars_empty _ _ c.is_empty.ensures c.if-is_empty.true) in
    rw c.in-Map.is
    (same_then c.extended-in-Map-2.result (λ (more : KeptRules). more.list) _ _ c.extended-in-Map-2.ensures
    (rw (c.in_ok-extended-in-Map.ensures, sym made) (search append_assoc)))

pub returns-in_ok-extended-in-Map-2-2 : goal.returns-in_ok-extended-in-Map-2-2
returns-in_ok-extended-in-Map-2-2 g c =
    let made =
    made-some _ _ _ _ c.as_bytes-key.ensures.value c.as_bytes-prepend.ensures.value c.requires.0 c.requires.1
    c.from-all.result c.from-all.ensures
    (chars_nonempty _ c.as_bytes-key.ensures.utf8 _ c.is_empty.ensures c.if-is_empty.false) in
    rw c.in-Map-2.is
    (same_then c.extended-in-Map-2-4.result (λ (more : KeptRules). more.list) _ _ c.extended-in-Map-2-4.ensures
    (rw (c.in_ok-extended-in-Map-2-2.ensures, c.in_ok-extended-in-Map-2.ensures, sym made) (search append_assoc)))
