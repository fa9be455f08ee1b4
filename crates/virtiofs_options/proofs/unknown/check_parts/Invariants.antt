-- none of the parts so far is wrong
use Rattle.std.proofs.Common.{◌≡◌, find, take, None}
use Rattle.virtiofs_options.specs.Unknown.{is_faulty}
use Rattle.virtiofs_options.proofs.unknown.check_parts.Given as goal

abbrev pub invariant-loop-part : goal.invariant-loop-part
invariant-loop-part l = find (is_faulty l.options) (take l.part-index l.parts) ≡ None
