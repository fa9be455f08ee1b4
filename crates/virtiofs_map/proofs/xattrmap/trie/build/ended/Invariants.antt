use Rattle.std.proofs.Common.{◌≡◌, ◌≤◌, ◌<◌, ℕ, length}
use Rattle.virtiofs_map.specs.TrieBuildParts.{text, IsLeast}
use Rattle.virtiofs_map.proofs.xattrmap.trie.build.TrieBuildLemmas.{IsMet}
use Rattle.virtiofs_map.proofs.xattrmap.trie.build.ended.Given as goal

-- the patterns so far have ended
abbrev pub invariant-loop-at : goal.invariant-loop-at
invariant-loop-at l = record {
  ended : (i : ℕ) → l.range.low ≤ i → i < l.at → length (text l.patterns i) ≡ l.range.depth;
  least : IsLeast l.patterns (IsMet l.patterns l.range l.at) l.answer;
}
