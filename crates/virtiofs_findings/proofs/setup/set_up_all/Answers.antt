use Rattle.std.proofs.Common.{[], subst, refl, sym, append-nil}
use Rattle.std.proofs.lemmas.List.{take_all}
use Rattle.std.specs.List.{AllZip}
use Rattle.virtiofs_findings.specs.Guests.{SetsUp}
use Rattle.virtiofs_findings.proofs.ReportLemmas.{adds_more, adds_all}
use Rattle.virtiofs_findings.proofs.ListLemmas.{zip_more}
use Rattle.virtiofs_findings.proofs.setup.set_up_all.Goals as goal

pub loop-place-init : goal.loop-place-init
loop-place-init g c = rw c.new-sets.ensures.items (tt, record { more = []; is = refl; added = sym (append-nil _) })

pub loop-place-preserved : goal.loop-place-preserved
loop-place-preserved g c =
    rw c.in_ok-push.ensures.items (
      zip_more _ _ _ _ _ _ c.index-guests-place.is
          c.loop-place-test.true c.loop-place.invariant.0 c.in_ok-set_up.ensures.sets_up,
      adds_more _ _ _ _ _ _ _ _
          c.index-guests-place.is c.loop-place-test.true refl c.loop-place.invariant.1 c.in_ok-set_up.ensures.says,
    )

pub returns-clause-sets_up : goal.returns-clause-sets_up
returns-clause-sets_up g c =
    subst (λ guests. AllZip SetsUp guests c.loop-place.sets.items)
    (take_all c.loop-place.place c.args.guests.now c.loop-place-test.false) c.loop-place.invariant.0

pub returns-clause-says : goal.returns-clause-says
returns-clause-says g c = adds_all _ _ _ _ _ c.loop-place-test.false c.loop-place.invariant.1
