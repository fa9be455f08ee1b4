-- What is said of a number by words that are, or may not be, the image of a map of ids.
use Rattle.std.specs.Prelude.{◌≡◌, ℕ, List, Option, Some, None}
use Rattle.virtiofs_map.specs.Mapping.{Becomes}
use Rattle.virtiofs_map.specs.MappingLaws.{LeadsBack}
use Rattle.virtiofs_map.specs.declared.cmdline.IdMap.{IdMap}
use Rattle.virtiofs_map.specs.declared.soft_idmap.entry.Direction.{Direction}
use Rattle.virtiofs_map.specs.declared.soft_idmap.row.Answer.{Answer}
use Rattle.virtiofs_map.specs.declared.soft_idmap.row.Answer.TheVariants as answers

-- the answer says that the number becomes that
abbrev pub SaysValue : Option ℕ → Answer → Type 0
SaysValue value (answers.Becomes n) = value ≡ Some n
SaysValue value answers.Fails = value ≡ None
SaysValue value answers.NoImage = ⊥

-- the answer says what the specifications make of a number
abbrev pub SaysIn : List IdMap → Direction → ℕ → Answer → Type 0
SaysIn specs direction n answer = (value : Option ℕ) × Becomes specs direction n value × SaysValue value answer

-- the answer says that the number becomes one that leads back
abbrev pub SaysLeadsBack : List IdMap → Direction → ℕ → Answer → Type 0
SaysLeadsBack specs direction n (answers.Becomes value) = LeadsBack specs direction n value
SaysLeadsBack specs direction n answers.Fails = ⊥
SaysLeadsBack specs direction n answers.NoImage = ⊥
