use Rattle.std.proofs.Common.{◌≡◌, ◌≢◌, All, Some, arith, slice_get, subst, sym}
use Rattle.std.proofs.lemmas.Grind.{common_steps}
use Rattle.virtiofs_map.specs.RuleParts.{rule_meant}
use Rattle.virtiofs_map.proofs.xattrmap.trie.PatternLemmas.{no_zero_at}
use Rattle.virtiofs_map.proofs.xattrmap.trie.patterns.pattern_at.Goals as goal

pub returns-clause-ready : goal.returns-clause-ready
returns-clause-ready g c =
    let here : slice_get c.args.rules.now.list c.args.place ≡ Some (rule_meant c.in_ok-rule.rule) =
    sym c.in_ok-rule.ensures in
    record {
      within = grind (arith, common_steps);
      full = subst (All (λ byte. byte ≢ 0)) (sym c.pattern-bytes.ensures)
          (no_zero_at c.args.side c.args.rules.now.list c.args.place (rule_meant c.in_ok-rule.rule) here c.requires.plain);
      small = c.words_of-first.ensures.bytes;
      first = c.words_of-first.ensures.first;
      second = c.words_of-first.ensures.second;
    }
