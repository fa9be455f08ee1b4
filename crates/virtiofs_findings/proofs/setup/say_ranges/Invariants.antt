-- the texts so far say these ranges, and nothing was told
use Rattle.std.proofs.Common.{◌≡◌, take}
use Rattle.std.specs.List.{AllZip}
use Rattle.virtiofs_map.specs.Specifications.{texts_of}
use Rattle.virtiofs_findings.specs.Guests.{SaysRange}
use Rattle.virtiofs_findings.proofs.setup.say_ranges.Given as goal

abbrev pub invariant-loop-place : goal.invariant-loop-place
invariant-loop-place g l =
    AllZip SaysRange (take l.place (texts_of l.texts)) l.ranges.items
    × (l.refusals.items ≡ l.initial.refusals.items)
