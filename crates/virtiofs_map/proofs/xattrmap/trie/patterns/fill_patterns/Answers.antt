use Rattle.std.proofs.Common.{ℕ, arith, length, rules, nat_cmp, is_lt, subst}
use Rattle.std.specs.Cmp.Lexicographic.{slice_cmp, nat_list_cmp_total}
use Rattle.std.proofs.lemmas.List.Elements.{All-push}
use Rattle.std.proofs.lemmas.List.Sorted.{All-permutation, answers_always, ranks_by}
use Rattle.virtiofs_map.specs.KeyedParts.{key_of}
use Rattle.virtiofs_map.specs.NodeParts.{ArePatterns}
use Rattle.virtiofs_map.specs.TrieBuildParts.{IsReady}
use Rattle.virtiofs_map.specs.declared.xattrmap.trie.patterns.Pattern.{Pattern}
use Rattle.virtiofs_map.proofs.xattrmap.trie.KeyedLemmas.{AreReady-keyed}
use Rattle.virtiofs_map.proofs.xattrmap.trie.PatternLemmas.{patterns-permutation, patterns_more, patterns_same}
use Rattle.virtiofs_map.proofs.xattrmap.trie.patterns.fill_patterns.Goals as goal

pub loop-place-preserved-in_default : goal.loop-place-preserved-in_default
loop-place-preserved-in_default g c =
    (patterns_same _ _ _ _ _ c.loop-place.invariant.0 c.in_default.ensures.none, c.loop-place.invariant.1)

pub loop-place-preserved : goal.loop-place-preserved
loop-place-preserved g c =
    rw c.in_ok-push.ensures.items (
      patterns_more _ _ _ _ _ _ c.loop-place.invariant.0 c.in-Some.ensures.found,
      All-push (IsReady (length c.args.rules.now.bytes)) _ _ c.loop-place.invariant.1 c.in-Some.ensures.ready,
    )

pub returns-clause-patterns : goal.returns-clause-patterns
returns-clause-patterns g c =
    patterns-permutation _ _ _ _ _ _ c.sort_unstable_by.ensures.permutation
    (subst (λ n. ArePatterns c.args.side c.args.rules.now.list c.args.rules.now.bytes n c.loop-place.patterns.items)
    (omega arith) c.loop-place.invariant.0)

pub returns-clause-ready : goal.returns-clause-ready
returns-clause-ready g c =
    let most : ℕ = length c.args.rules.now.bytes in
    AreReady-keyed most _
    (All-permutation (IsReady most) _ _ c.sort_unstable_by.ensures.permutation c.loop-place.invariant.1)
    (c.sort_unstable_by.ensures.sorted
    (λ (one other : Pattern). is_lt (slice_cmp nat_cmp (key_of one) (key_of other)))
    (ranks_by nat_list_cmp_total key_of)
    (answers_always _ _ _ (λ f a r q k. search rules)))
