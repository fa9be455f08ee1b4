-- What is told of an id is what the image of its map says of it.
use Rattle.std.proofs.Common.{◌≡◌, ◌≢◌, ℕ, Option, arith}
use Rattle.virtiofs_map.specs.ImageAnswer.{SaysValue}
use Rattle.virtiofs_map.specs.declared.soft_idmap.row.Answer.{Answer}
use Rattle.virtiofs_map_c.specs.Faults.{ok}
use Rattle.virtiofs_map_c.specs.Ids.{TellsId, IsIdCode, IsAnswerTold}

-- the value
pub tells_value : (id : ℕ) (value : Option ℕ) (answer : Answer) (old code new : ℕ)
    → IsAnswerTold answer id old code new → SaysValue value answer → TellsId id value old code new
tells_value id value answer old code new told is = grind arith

pub tells_code : (id : ℕ) (answer : Answer) (old code new : ℕ) → IsAnswerTold answer id old code new
    → IsIdCode old code new
tells_code id answer old code new told = grind arith

-- an id that is none is never answered
pub tells_none : (id : ℕ) (answer : Answer) (old code new : ℕ) → IsAnswerTold answer id old code new
    → id ≡ 4294967295 → code ≢ ok
tells_none id answer old code new told is done = grind arith
