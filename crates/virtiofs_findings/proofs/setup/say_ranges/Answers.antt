use Rattle.virtiofs_findings.proofs.SetUpLemmas.{says_more, refuses_range, adds_range, ranges_right}
use Rattle.std.proofs.Common.{subst, arith, append-nil}
use Rattle.std.specs.List.{AllZip}
use Rattle.std.proofs.lemmas.List.{take_all, length-map}
use Rattle.virtiofs_map.specs.Specifications.{texts_of}
use Rattle.virtiofs_findings.specs.Guests.{SaysRange}
use Rattle.virtiofs_findings.proofs.setup.say_ranges.Goals as goal

pub loop-place-preserved : goal.loop-place-preserved
loop-place-preserved g c = (
  rw c.in_ok-push-in-Ok.ensures.items
      (says_more _ _ _ _ _ c.loop-place-test.true c.loop-place.invariant.0 c.in-Ok.ensures.read),
  c.loop-place.invariant.1,
)

pub returns-in-Err-clause-read : goal.returns-in-Err-clause-read
returns-in-Err-clause-read g c = refuses_range _ _ _ _ c.loop-place-test.true c.in-Err.ensures.refused

pub returns-in-Err-clause-says : goal.returns-in-Err-clause-says
returns-in-Err-clause-says g c =
    adds_range _ _ _ _ _ _ _ _ _ _ c.loop-place-test.true c.loop-place.invariant.0 c.in-Err.ensures.refused
    (rw c.loop-place.invariant.1 at c.in_ok-tell-in-Err.ensures)

pub returns-clause-says : goal.returns-clause-says
returns-clause-says g c =
    grind (arith, ranges_right, append-nil, c.loop-place.invariant.1, (subst (λ texts. AllZip SaysRange texts c.loop-place.ranges.items) (take_all c.loop-place.place (texts_of c.args.texts.now) (rw length-map c.loop-place-test.false)) c.loop-place.invariant.0))
