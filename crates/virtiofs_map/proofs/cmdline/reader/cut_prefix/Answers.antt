use Rattle.std.proofs.Common.{sym, ◌∙◌}
use Rattle.std.proofs.lemmas.Str.{IsUtf8-string_bytes}
use Rattle.virtiofs_map.proofs.SpecificationLemmas.{IsPrefixSoFar-more, AllPass-prefix}
use Rattle.virtiofs_map.proofs.cmdline.reader.cut_prefix.Goals as goal

pub loop-c-preserved : goal.loop-c-preserved
loop-c-preserved g c =
    let n = c.in-Some.ensures.steps in
    let lower = c.to_ascii_lowercase.ensures.value in (
      tt,
      tt,
      rw c.in_ok-push.ensures.bytes
          (IsPrefixSoFar-more _ _ _ _ _ _ (IsUtf8-string_bytes c.loop-c.word) lower n.0
          (sym c.is_word_character.ensures ∙ c.if-not-is_word_character.false) c.loop-c.invariant.2),
    )

pub returns-clause-none : goal.returns-clause-none
returns-clause-none g c = let n = c.in_default.ensures.steps in AllPass-prefix _ _ _ n.0.0 c.loop-c.invariant.2
