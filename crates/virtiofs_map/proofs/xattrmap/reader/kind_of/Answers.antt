use Rattle.std.proofs.Common.{◌≡◌, refl}
use Rattle.std.specs.Char.{encode_utf8}
use Rattle.std.specs.Str.{chars}
use Rattle.virtiofs_map.specs.Rule.{Prefix, Okay, Bad, Unsupported}
use Rattle.virtiofs_map.specs.RuleText.{type_word}
use Rattle.virtiofs_map.proofs.xattrmap.RuleWordLemmas.{chars_word, word_from_chars}
use Rattle.virtiofs_map.proofs.xattrmap.reader.kind_of.Goals as goal

pub returns-in-prefix-clause-found : goal.returns-in-prefix-clause-found
unfolding chars
returns-in-prefix-clause-found c = chars_word _ _ refl c.in-prefix.is

pub returns-in-ok-clause-found : goal.returns-in-ok-clause-found
unfolding chars
returns-in-ok-clause-found c = chars_word _ _ refl c.in-ok.is

pub returns-in-bad-clause-found : goal.returns-in-bad-clause-found
unfolding chars
returns-in-bad-clause-found c = chars_word _ _ refl c.in-bad.is

pub returns-in-unsupported-clause-found : goal.returns-in-unsupported-clause-found
unfolding chars
returns-in-unsupported-clause-found c = chars_word _ _ refl c.in-unsupported.is

pub returns-in_default-clause-none : goal.returns-in_default-clause-none
unfolding encode_utf8
returns-in_default-clause-none c = λ kind e. elim kind as (λ k. chars c.args.word.now ≡ type_word k → ⊥) [
  | Prefix ↦ (λ p. c.in_default.not-prefix (word_from_chars _ _ c.utf8.word refl p))
  | Okay ↦ (λ p. c.in_default.not-ok (word_from_chars _ _ c.utf8.word refl p))
  | Bad ↦ (λ p. c.in_default.not-bad (word_from_chars _ _ c.utf8.word refl p))
  | Unsupported ↦ (λ p. c.in_default.not-unsupported (word_from_chars _ _ c.utf8.word refl p))
] e
