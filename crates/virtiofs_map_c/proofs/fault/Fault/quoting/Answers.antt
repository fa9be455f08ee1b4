use Rattle.std.proofs.Common.{rules}
use Rattle.std.proofs.lemmas.Str.{encodes-chars}
use Rattle.virtiofs_map_c.proofs.fault.Fault.quoting.Goals.{then-room-wanted, else-room-wanted}
use Rattle.virtiofs_map_c.proofs.fault.Fault.quoting.Goals as goal

pub returns-clause-told : goal.returns-clause-told
returns-clause-told c =
    elim c.if-room-wanted.branch [
      | then-room-wanted w ↦ search (rules, encodes-chars)
      | else-room-wanted w ↦ search (rules, encodes-chars)
    ]

pub returns-clause-quoted : goal.returns-clause-quoted
returns-clause-quoted c = search (rules, encodes-chars)
