-- the parts so far have no such word
use Rattle.std.proofs.Common.{◌≡◌, length}
use Rattle.virtiofs_options.specs.Unknown.{stray_in}
use Rattle.virtiofs_options.specs.declared.strays.Place.TheVariants as place
use Rattle.virtiofs_options.proofs.strays.first_stray.Given as goal

abbrev pub invariant-loop-left : goal.invariant-loop-left
invariant-loop-left l = stray_in place.Front l.fn.parts ≡ stray_in l.place l.left

abbrev pub decreases-loop-left : goal.decreases-loop-left
decreases-loop-left l = length l.left
