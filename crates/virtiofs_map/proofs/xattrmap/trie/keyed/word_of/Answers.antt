use Rattle.std.proofs.Common.{◌∙◌, arith}
use Rattle.virtiofs_map.specs.KeyedParts.{word_of}
use Rattle.virtiofs_map.proofs.xattrmap.trie.KeyedLemmas.{front_word}
use Rattle.virtiofs_map.proofs.xattrmap.trie.keyed.word_of.Goals as goal

pub returns-in-Some : goal.returns-in-Some
returns-in-Some c =
    c.from_be_bytes.ensures ∙ front_word c.in-Some.front.now c.args.bytes.now c.in-Some.ensures.cases.same

pub returns : goal.returns
unfolding word_of
returns c =
    omega (arith, c.from_be_bytes-2.ensures, c.byte_at.ensures, c.byte_at-2.ensures, c.byte_at-3.ensures, c.byte_at-4.ensures, c.byte_at-5.ensures, c.byte_at-6.ensures, c.byte_at-7.ensures, c.byte_at-8.ensures)
