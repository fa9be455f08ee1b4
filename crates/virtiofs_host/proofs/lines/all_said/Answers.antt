use Rattle.std.proofs.Common.{◌≡◌, ◌∷◌, ap}
use Rattle.virtiofs_host.specs.CutParts.{parts_left}
use Rattle.virtiofs_host.proofs.LinesLemmas.{said_more, all_said}
use Rattle.virtiofs_host.proofs.lines.all_said.Goals as goal

pub loop-rest-preserved-in_ok-push : goal.loop-rest-preserved-in_ok-push
loop-rest-preserved-in_ok-push g c =
    let is : parts_left 10 c.loop-rest.rest ≡ c.cut.result.0.now ∷ parts_left 10 c.cut.result.1 =
    rw c.in-Some.is c.cut.ensures.parts in
    rw c.in_ok-push.ensures.items (said_more _ _ _ _ _ _ _ is c.loop-rest.invariant c.in-Some-of_line.ensures.says)

pub returns : goal.returns
returns g c = all_said _ _ _ c.loop-rest.all.items (ap (parts_left 10) c.in_default.is) c.loop-rest.invariant
