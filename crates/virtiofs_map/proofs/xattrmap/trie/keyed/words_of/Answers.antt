use Rattle.std.proofs.Common.{◌∙◌, drop, ap}
use Rattle.std.proofs.Math.Facts.{Fits-lt-pow}
use Rattle.std.proofs.lemmas.List.{drop_min, take_rest}
use Rattle.virtiofs_map.specs.KeyedParts.{word_of}
use Rattle.virtiofs_map.proofs.xattrmap.trie.keyed.words_of.Goals as goal

pub returns-clause-second : goal.returns-clause-second
returns-clause-second c =
    let bytes = c.args.bytes.now in
    c.word_of-2.ensures
    ∙ ap word_of (take_rest bytes c.min.result ∙ ap (λ n. drop n bytes) c.min.ensures ∙ drop_min 8 bytes)

pub returns-clause-bytes : goal.returns-clause-bytes
returns-clause-bytes c = λ k. Fits-lt-pow (c.type_inv.bytes k)
