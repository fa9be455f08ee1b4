use Rattle.std.proofs.Common.{string_bytes}
use Rattle.std.specs.Str.Iter.{chars_rest}
use Rattle.virtiofs_map.proofs.SpecificationLemmas.{IsPrefixSoFar}
use Rattle.virtiofs_map.proofs.cmdline.reader.cut_prefix.Given as goal

-- the characters so far are word characters, and the word is these in lower case
abbrev pub invariant-loop-c : goal.invariant-loop-c
invariant-loop-c g l =
    (goal.iterator-loop-c g).can_next l.chars
    × (goal.iterator-loop-c g).is_finite l.chars
    × IsPrefixSoFar l.text (chars_rest l.chars) (string_bytes l.word)
