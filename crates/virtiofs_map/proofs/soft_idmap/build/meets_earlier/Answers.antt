use Rattle.std.proofs.Common.{All, List, subst}
use Rattle.std.proofs.lemmas.List.{take_all}
use Rattle.std.proofs.lemmas.Bool.{false≢true}
use Rattle.std.proofs.lemmas.List.Elements.{All-more, All-contains}
use Rattle.virtiofs_map.specs.Build.{Meet}
use Rattle.virtiofs_map.specs.declared.cmdline.IdMap.{IdMap}
use Rattle.virtiofs_map.proofs.soft_idmap.build.meets_earlier.Goals as goal

pub loop-other-preserved : goal.loop-other-preserved
loop-other-preserved c =
    All-more (λ (other : IdMap). ¬ Meet c.args.spec other c.args.direction) c.args.earlier.now
    c.loop-other.other-index _ c.loop-other-test.true c.loop-other.invariant
    (λ met. false≢true (c.if-meet.ensures.1 met))

pub returns : goal.returns
returns c =
    let none : All (λ (other : IdMap). ¬ Meet c.args.spec other c.args.direction) c.args.earlier.now =
    subst (λ (xs : List IdMap). All (λ (other : IdMap). ¬ Meet c.args.spec other c.args.direction) xs)
    (take_all c.loop-other.other-index c.args.earlier.now c.loop-other-test.false) c.loop-other.invariant in (
      λ yes'. absurd (false≢true yes'),
      λ met. absurd
          (All-contains (λ (other : IdMap). ¬ Meet c.args.spec other c.args.direction) c.args.earlier.now met.0
          none met.1 met.2),
    )
