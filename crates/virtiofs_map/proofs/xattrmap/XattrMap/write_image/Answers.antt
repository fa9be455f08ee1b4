use Rattle.std.proofs.Common.{◌≤◌, List, ℕ, [], length, refl, subst, ap, arith}
use Rattle.virtiofs_map.specs.NamesImageParts.{Holds}
use Rattle.virtiofs_map.proofs.RulesInLemmas.{image_copied}
use Rattle.virtiofs_map.proofs.xattrmap.XattrMap.write_image.Goals as goal

pub returns : goal.returns
returns g c =
    let old = c.args.out.now in
    let bytes = c.self.inside.bytes.items in
    let same = c.as_slice-image.ensures.value in
    let put : Holds bytes old c.put.new.out =
    subst (λ (l : List ℕ). Holds l old c.put.new.out) same
    (c.put.ensures.holds [] old record { same = refl; are = λ _. refl } refl) in
    let room : length bytes ≤ length old = omega (arith, ap length same) in
    rw same (image_copied c.args.self.now bytes old c.put.new.out c.self.invariant c.self.view_is room put)
