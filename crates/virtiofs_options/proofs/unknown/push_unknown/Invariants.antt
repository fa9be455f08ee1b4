-- what is not known in the parts so far was added
use Rattle.std.proofs.Common.{◌≡◌, ◌++◌, map, take}
use Rattle.virtiofs_options.specs.Unknown.{told, unknown_of}
use Rattle.virtiofs_options.proofs.unknown.push_unknown.Given as goal

abbrev pub invariant-loop-part : goal.invariant-loop-part
invariant-loop-part l =
    map told l.unknown.items
    ≡ map told l.initial.unknown.items ++ unknown_of l.fn.options l.fn.guest (take l.part-index l.parts)
