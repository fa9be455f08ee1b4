use Rattle.std.proofs.Common.{List, ℕ, subst, sym}
use Rattle.virtiofs_map.specs.NamesImage.{IsImage}
use Rattle.virtiofs_map.specs.NamesImageParts.{rules_in}
use Rattle.virtiofs_map.specs.Rule.{MappingRule}
use Rattle.virtiofs_map.proofs.xattrmap.XattrMap.as_ref.Goals as goal

pub returns : goal.returns
returns g c =
    subst (λ (rules : List MappingRule). IsImage rules c.as_slice.result.now) c.self.view_is
    (subst (λ (bytes : List ℕ). IsImage (rules_in c.self.inside.bytes.items) bytes) (sym c.as_slice.ensures.value)
    c.self.invariant.image)
