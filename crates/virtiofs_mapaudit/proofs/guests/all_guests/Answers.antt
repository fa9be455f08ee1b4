use Rattle.std.proofs.Common.{◌∙◌, ◌∷◌, ◌++◌, [], ap, refl, subst, sym, take}
use Rattle.std.proofs.lemmas.List.{take_all, take_more}
use Rattle.virtiofs_mapaudit.specs.Everyone.{AddsProcesses}
use Rattle.virtiofs_mapaudit.proofs.EveryoneLemmas.{adds_more}
use Rattle.virtiofs_mapaudit.proofs.guests.all_guests.Goals as goal

pub loop-process-init : goal.loop-process-init
loop-process-init c = (
  record { guests = c.in_ok-started.field-0; unknown = c.args.given.unknown; faults = c.new.result },
  c.in_ok-started.ensures,
  refl,
  c.new.ensures.items,
  refl,
)

pub loop-process-preserved : goal.loop-process-preserved
loop-process-preserved c = (
  c.loop-process.invariant.0,
  c.loop-process.invariant.1,
  c.loop-process.invariant.2,
  c.loop-process.invariant.3,
  subst (λ those. AddsProcesses c.args.of_daemon those c.loop-process.invariant.0 c.add_process.new.all)
      (sym (take_more c.args.processes.now c.loop-process.process-index c.process-item.result c.loop-process-test.true
      ∙ ap (λ it. take c.loop-process.process-index c.args.processes.now ++ it ∷ []) (sym c.process-item.is)))
      (adds_more c.args.of_daemon (take c.loop-process.process-index c.args.processes.now) c.process-item.result
      c.loop-process.invariant.0 c.loop-process.all c.add_process.new.all c.loop-process.invariant.4
      c.in_ok-add_process.ensures),
)

pub returns : goal.returns
returns c = record {
  before = c.loop-process.invariant.0;
  started = c.loop-process.invariant.1;
  unknown = c.loop-process.invariant.2;
  none = c.loop-process.invariant.3;
  adds = rw (take_all c.loop-process.process-index c.args.processes.now c.loop-process-test.false) at
      c.loop-process.invariant.4;
}
