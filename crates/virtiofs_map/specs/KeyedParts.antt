-- The numbers by which patterns are compared. Only private functions cite these definitions.
use Rattle.std.specs.Int.{w64, from_be_bytes}
use Rattle.std.specs.Prelude.{ℕ, ◌<◌, List, ◌∷◌, slice_index}
use Rattle.virtiofs_map.specs.declared.xattrmap.trie.patterns.Pattern.{Pattern}

-- the number of the first eight bytes, the first one the highest; zeros stand for those that are missing
unfoldable pub word_of : List ℕ → ℕ
word_of bytes = from_be_bytes w64 bytes

abbrev pub AreBytes : List ℕ → Type 0
AreBytes bytes = (k : ℕ) → slice_index bytes k < 256

-- what a pattern is compared by
abbrev pub key_of : Pattern → List ℕ
key_of one = one.first ∷ one.second ∷ one.bytes.now
