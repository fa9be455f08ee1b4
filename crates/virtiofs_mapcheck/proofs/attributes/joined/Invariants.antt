use Rattle.std.proofs.Common.{◌≡◌, take}
use Rattle.virtiofs_mapcheck.specs.AttributesAnswer.{list_of}
use Rattle.virtiofs_mapcheck.specs.Words.{words_of}
use Rattle.virtiofs_mapcheck.proofs.attributes.joined.Given as goal

-- the names so far, with a zero after each
abbrev pub invariant-loop-name : goal.invariant-loop-name
invariant-loop-name g l = l.list.items ≡ list_of (words_of (take l.name-index l.names))
