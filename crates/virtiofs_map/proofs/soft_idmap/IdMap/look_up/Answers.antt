use Rattle.std.proofs.Common.{ℕ, List, Some, None, Ok, Err, refl}
use Rattle.virtiofs_map.specs.Build.{Accepted}
use Rattle.virtiofs_map.specs.Lookup.{LooksUp}
use Rattle.virtiofs_map.specs.Mapping.{Becomes}
use Rattle.virtiofs_map.specs.declared.cmdline.IdMap.{IdMap}
use Rattle.virtiofs_map.specs.declared.soft_idmap.entry.Direction.{Direction}
use Rattle.virtiofs_map.proofs.MappingLawLemmas.{LeadsBack-mapped, Becomes-one, Becomes-forbidden}
use Rattle.virtiofs_map.proofs.soft_idmap.IdMap.look_up.Goals as goal

-- the answer where the number becomes that of an id
found : {T E : Type 0} (specs : List IdMap) (direction : Direction) (n : ℕ) (number : T → ℕ) (failed : E) (id : T)
    → Accepted specs → Becomes specs direction n (Some (number id)) → LooksUp specs direction n number failed (Ok id)
found specs direction n number failed id accepted becomes = record {
  value = becomes;
  complete = λ m other. Becomes-one specs direction n (number id) m accepted becomes other;
  fails = tt;
  forbidden = λ forbidden. Becomes-forbidden specs direction n (number id) accepted becomes forbidden;
  names = tt;
}

-- the answer where its use is forbidden
refused : {T E : Type 0} (specs : List IdMap) (direction : Direction) (n : ℕ) (number : T → ℕ) (failed : E)
    → Accepted specs → Becomes specs direction n None → LooksUp specs direction n number failed (Err failed)
refused specs direction n number failed accepted forbidden = record {
  value = tt;
  complete = λ m becomes. Becomes-forbidden specs direction n m accepted becomes forbidden;
  fails = forbidden;
  forbidden = λ _. refl;
  names = refl;
}

pub returns-in-Some-clause-looks_up : goal.returns-in-Some-clause-looks_up
returns-in-Some-clause-looks_up g c =
    found c.args.self.now c.args.direction _ _ _ c.id_of.result c.becomes.ensures.accepted
    (rw c.id_of.ensures (rw c.number_of-n.ensures at c.in-Some.ensures.becomes))

pub returns-in-Some-clause-leads_back : goal.returns-in-Some-clause-leads_back
returns-in-Some-clause-leads_back g c = λ mapped.
    let found = rw c.number_of-n.ensures at c.in-Some.ensures.becomes in
    rw c.id_of.ensures
    (LeadsBack-mapped c.args.self.now c.args.direction _ (Some c.in-Some.target) c.becomes.ensures.accepted mapped
    found)

pub returns-in-None-clause-looks_up : goal.returns-in-None-clause-looks_up
returns-in-None-clause-looks_up g c =
    refused c.args.self.now c.args.direction _ _ _ c.becomes.ensures.accepted
    (rw c.number_of-n.ensures at c.in-None.ensures.becomes)

pub returns-in-None-clause-mapped : goal.returns-in-None-clause-mapped
returns-in-None-clause-mapped g c = λ mapped.
    let found = rw c.number_of-n.ensures at c.in-None.ensures.becomes in
    absurd (LeadsBack-mapped c.args.self.now c.args.direction _ None c.becomes.ensures.accepted mapped found)
