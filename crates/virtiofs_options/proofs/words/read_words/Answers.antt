use Rattle.virtiofs_options.proofs.ResultLemmas.{audit-right, audit-wrong}
use Rattle.std.proofs.Common.{arith, ◌∙◌, List, ap, subst}
use Rattle.virtiofs_options.specs.Clusters.{split_words}
use Rattle.virtiofs_options.specs.Words.{IsFront}
use Rattle.virtiofs_options.specs.declared.command.Word.{Word}
use Rattle.virtiofs_options.specs.declared.words.Front.TheVariants.{Audit}
use Rattle.virtiofs_options.proofs.words.read_words.Goals as goal

pub returns-in-Ok-Audit-clause-read : goal.returns-in-Ok-Audit-clause-read
returns-in-Ok-Audit-clause-read c = grind (arith, audit-right)

pub returns-in-Ok-Audit-clause-refused : goal.returns-in-Ok-Audit-clause-refused
returns-in-Ok-Audit-clause-refused c =
    audit-wrong c.args.own c.args.of_daemon c.args.words.now c.in_ok-front.front.items c.rest_of.result.now
    c.in-Ok-Audit.asked c.in-Ok-Audit.values c.in-Ok-Audit.first c.audit_of.result
    (c.in_ok-front.ensures ∙ ap (split_words c.args.of_daemon) c.line_of.ensures)
    (subst (λ (l : List Word). IsFront c.args.own l (Audit c.in-Ok-Audit.asked c.in-Ok-Audit.values c.in-Ok-Audit.first))
    c.as_slice.ensures.value
    (subst (IsFront c.args.own c.as_slice.result.now) c.in-Ok-Audit.field-0-is c.in-Ok-Audit.ensures.read))
    c.rest_of.ensures c.audit_of.ensures.refused
