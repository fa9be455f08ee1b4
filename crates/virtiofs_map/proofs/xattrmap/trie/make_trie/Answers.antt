use Rattle.std.proofs.Common.{List, arith, length}
use Rattle.std.proofs.lemmas.Result.{on_ok_weaker}
use Rattle.virtiofs_map.specs.NodeParts.{AreFew, ArePatterns, AreTrieRows}
use Rattle.virtiofs_map.specs.Rule.{MappingRule}
use Rattle.virtiofs_map.specs.declared.xattrmap.scopes.Side.{Side}
use Rattle.virtiofs_map.proofs.xattrmap.trie.make_trie.Goals as goal

pub build_trie-requires : goal.build_trie-requires
build_trie-requires g c =
    rw (c.as_slice.ensures.value, c.bytes.ensures.bytes) c.in_ok-fill_patterns.ensures.ready

pub returns : goal.returns
returns g c =
    let few : AreFew c.args.rules.now.list = omega (arith, c.len.ensures, c.if-len-ge-TOO_MANY_RULES.false) in
    on_ok_weaker c.build_trie.result
    (λ (makes : (side : Side) (rules : List MappingRule)
    → ArePatterns side rules c.args.rules.now.bytes (length rules) c.fill_patterns.new.patterns.items → AreFew rules
    → AreTrieRows side rules c.args.rules.now.bytes c.build_trie.new.rows.items c.args.first).
    makes c.args.side c.args.rules.now.list c.in_ok-fill_patterns.ensures.patterns few)
    (rw (c.as_slice.ensures.value, c.bytes.ensures.bytes) at c.build_trie.ensures)
