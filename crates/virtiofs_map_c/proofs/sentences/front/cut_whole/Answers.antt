use Rattle.std.proofs.Common.{◌≡◌, ℕ, List, append-nil, take_all, arith, rules}
use Rattle.std.specs.Str.{IsUtf8}
use Rattle.std.proofs.lemmas.Str.{utf8_valid_len_le, utf8_valid_len-IsUtf8}
use Rattle.virtiofs_map_c.specs.Replies.{cut_text}
use Rattle.virtiofs_map_c.proofs.sentences.front.cut_whole.Goals as goal

-- a text is whole
whole : (bytes : List ℕ) → IsUtf8 bytes → bytes ≡ cut_text bytes
whole bytes text = grind (arith, utf8_valid_len-IsUtf8, take_all, append-nil)

pub returns-in-Ok : goal.returns-in-Ok
returns-in-Ok c = whole _ c.in-Ok.ensures.cases.1

pub split_at_mut-rest-requires : goal.split_at_mut-rest-requires
split_at_mut-rest-requires c = search (rules, utf8_valid_len_le)
