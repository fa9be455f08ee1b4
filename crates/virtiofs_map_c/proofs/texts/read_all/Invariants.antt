use Rattle.std.proofs.Common.{◌≡◌, take}
use Rattle.virtiofs_map_c.specs.Texts.{AllSaySpecs}
use Rattle.virtiofs_map_c.proofs.texts.read_all.Given as goal

-- the texts so far say the specifications of the list, and nothing is quoted
abbrev pub invariant-loop-place : goal.invariant-loop-place
invariant-loop-place l = record { are : AllSaySpecs (take l.place l.texts) l.list.items; same : l.quoted ≡ l.initial.quoted }
