use Rattle.std.proofs.Common.{Some, refl, sym}
use Rattle.virtiofs_map_c.specs.Arrays.{IsSaid, IsUnknown, Unread}
use Rattle.virtiofs_map_c.proofs.ArraysLemmas.{unknown_here}
use Rattle.virtiofs_map_c.proofs.ListsLemmas.{says_more}
use Rattle.virtiofs_map_c.proofs.arrays.read_all.Goals as goal

pub loop-place-preserved : goal.loop-place-preserved
loop-place-preserved c =
    rw c.in_ok-push-in-Some.ensures.items
    (says_more IsSaid IsUnknown _ _ _ _ _ c.loop-place-test.true c.loop-place.invariant (sym c.in-Some.ensures))

pub returns-in-None-clause-refused : goal.returns-in-None-clause-refused
returns-in-None-clause-refused c = (
  Some (Unread _ tt),
  unknown_here _ _ _ _ tt c.loop-place-test.true c.loop-place.invariant c.in-None.ensures,
  record { code_told = refl; numbers = c.at.ensures },
)
