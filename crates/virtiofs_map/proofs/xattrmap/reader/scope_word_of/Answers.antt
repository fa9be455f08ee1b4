use Rattle.std.proofs.Common.{◌≡◌, refl}
use Rattle.std.specs.Char.{encode_utf8}
use Rattle.std.specs.Str.{chars}
use Rattle.virtiofs_map.specs.RuleText.{All, Client, Server, scope_word}
use Rattle.virtiofs_map.proofs.xattrmap.RuleWordLemmas.{chars_word, word_from_chars}
use Rattle.virtiofs_map.proofs.xattrmap.reader.scope_word_of.Goals as goal

pub returns-in-all-clause-found : goal.returns-in-all-clause-found
unfolding chars
returns-in-all-clause-found c = chars_word _ _ refl c.in-all.is

pub returns-in-client-clause-found : goal.returns-in-client-clause-found
unfolding chars
returns-in-client-clause-found c = chars_word _ _ refl c.in-client.is

pub returns-in-server-clause-found : goal.returns-in-server-clause-found
unfolding chars
returns-in-server-clause-found c = chars_word _ _ refl c.in-server.is

pub returns-in_default-clause-none : goal.returns-in_default-clause-none
unfolding encode_utf8
returns-in_default-clause-none c = λ scope e. elim scope as (λ s. chars c.args.word.now ≡ scope_word s → ⊥) [
  | All ↦ (λ p. c.in_default.not-all (word_from_chars _ _ c.utf8.word refl p))
  | Client ↦ (λ p. c.in_default.not-client (word_from_chars _ _ c.utf8.word refl p))
  | Server ↦ (λ p. c.in_default.not-server (word_from_chars _ _ c.utf8.word refl p))
] e
