use Rattle.std.proofs.Common.{Some, refl, rules}
use Rattle.virtiofs_map_c.specs.Texts.{NotUtf8}
use Rattle.virtiofs_map_c.proofs.TextsLemmas.{unquoted}
use Rattle.virtiofs_map_c.proofs.names.made.Goals as goal

pub returns-in-Err-clause-refused : goal.returns-in-Err-clause-refused
returns-in-Err-clause-refused c =
    (Some NotUtf8, search rules, record { code_told = refl; numbers = c.at.ensures; bytes = unquoted _ })
