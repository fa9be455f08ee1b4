use Rattle.std.proofs.Common.{sym, ◌∙◌, subst, ◌<◌, length}
use Rattle.std.specs.List.{All}
use Rattle.std.proofs.lemmas.Bool.{false≢true}
use Rattle.virtiofs_map.specs.Audit.{HasFault}
use Rattle.virtiofs_map.specs.AuditParts.{FailsAs, IsBad}
use Rattle.virtiofs_map.proofs.AuditAddedLemmas.{name_of_bytes}
use Rattle.virtiofs_map.proofs.audit.AuditFaultLemmas.{fault_as, fault_passes}
use Rattle.virtiofs_map.proofs.audit.AuditPassLemmas.{host_is_name, never, within_iff}
use Rattle.virtiofs_map.proofs.audit.question.Question.is_bad.Goals as goal

pub returns-then-not-starts_with : goal.returns-then-not-starts_with
returns-then-not-starts_with g c = λ rules others asked.
    never (IsBad c.args.self.now rules others c.args.name.now)
    (λ bad. false≢true (sym (sym c.starts_with.ensures.value ∙ c.if-not-starts_with.true) ∙ bad.front))

pub returns-in-Stray : goal.returns-in-Stray
returns-in-Stray g c = λ rules others asked.
    let is = name_of_bytes c.args.name.now c.requires (λ k. (c.type_inv.name k).fits) in
    within_iff _ (HasFault c.args.self.now.fault rules others) c.args.name.now
    (sym c.starts_with.ensures.value ∙ c.if-not-starts_with.false)
    (rw c.in-Stray.is (c.is_stray.ensures rules asked.map is))

pub returns-in_default-added_prefix : goal.returns-in_default-added_prefix
returns-in_default-added_prefix g c = λ rules others asked.
    never (IsBad c.args.self.now rules others c.args.name.now)
    (λ bad.
    (let puts = (fault_passes c.args.self.now.fault rules others c.args.name.now c.in_default.not-Stray bad.is_bad).puts in
    let none = c.in_default-added_prefix.ensures rules asked.map in cc))

pub returns : goal.returns
returns g c = λ rules others asked.
    let fault = c.args.self.now.fault in
    let name = c.args.name.now in
    let added = c.in-Some.added.now in
    let is = name_of_bytes name c.requires (λ k. (c.type_inv.name k).fits) in
    let puts = c.in-Some.ensures rules asked.map in
    let same = c.as_slice.ensures.value ∙ c.in_ok-put_together.ensures in
    let below = subst (All (λ byte. byte < 256)) (sym c.as_slice.ensures.value) c.type_inv.room in
    let fails =
    c.fails_as.ensures rules others asked
    (host_is_name rules name added c.as_slice.result.now asked.map.no_zero is puts same below) in
    let faulty = fault_as fault rules others name added c.in_default.not-Stray asked.map.no_zero is puts in
    within_iff _ (HasFault fault rules others) name (sym c.starts_with.ensures.value ∙ c.if-not-starts_with.false) (
      λ yes. faulty.1 (subst (λ h. FailsAs fault rules others h (length added)) same (fails.0 yes)),
      λ bad. fails.1 (subst (λ h. FailsAs fault rules others h (length added)) (sym same) (faulty.0 bad)),
    )
