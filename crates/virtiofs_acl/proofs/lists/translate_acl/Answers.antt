use Rattle.std.proofs.lemmas.Result.{err_from_is_err_and}
use Rattle.virtiofs_acl.proofs.AclChangeLemmas.{ChangesList-done, ChangesList-refused}
use Rattle.virtiofs_acl.proofs.AclFaultLemmas.{HasAclFault-unsound_below}
use Rattle.virtiofs_acl.proofs.AclWriteLemmas.{IsTranslated-written}
use Rattle.virtiofs_acl.proofs.lists.translate_acl.Goals as goal

pub returns-in_err-count-clause-change : goal.returns-in_err-count-clause-change
returns-in_err-count-clause-change c = λ users groups of_users of_groups.
    let p = err_from_is_err_and c.from_residual.result c.from_residual.ensures.1 in
    rw (p.1, p.2)
    (ChangesList-refused users groups _ _ _ _ of_users.accepted of_groups.accepted
    (c.in_err-count.ensures.refused users groups _))

pub returns-in_err-test_entries-clause-change : goal.returns-in_err-test_entries-clause-change
returns-in_err-test_entries-clause-change c = λ users groups of_users of_groups.
    let p = err_from_is_err_and c.from_residual-in_err-test_entries.result
    c.from_residual-in_err-test_entries.ensures.1 in
    let unsound =
    rw c.in_ok-count.ensures.count at (c.in_err-test_entries.ensures.refused users groups of_users of_groups) in
    rw (p.1, p.2)
    (ChangesList-refused users groups _ _ _ _ of_users.accepted of_groups.accepted
    (HasAclFault-unsound_below users groups _ _ _ _ c.in_ok-count.ensures.whole c.in_ok-count.ensures.fits
    unsound))

pub returns-in-Some-clause-change : goal.returns-in-Some-clause-change
returns-in-Some-clause-change c = λ users groups of_users of_groups.
    let sound = rw c.in_ok-count.ensures.count at (c.in_ok-test_entries.ensures.sound users groups of_users of_groups) in
    let first =
    rw c.in_ok-count.ensures.count at (c.in-Some.ensures.first users groups of_users of_groups
    (c.in_ok-test_entries.ensures.sound users groups of_users of_groups)) in
    ChangesList-refused users groups _ _ _ _ of_users.accepted of_groups.accepted (record {
      all_sound = record { whole = c.in_ok-count.ensures.whole; fits = c.in_ok-count.ensures.fits; sound = sound };
      is_entry = first.is_entry;
      before = first.before;
      merges = first.merges;
    })

pub returns-clause-change : goal.returns-clause-change
returns-clause-change c = λ users groups of_users of_groups.
    let sound = c.in_ok-test_entries.ensures.sound users groups of_users of_groups in
    ChangesList-done users groups _ _ _ _ of_users.accepted of_groups.accepted c.in_ok-count.ensures.bytes
    (IsTranslated-written users groups _ _ _
    (rw c.in_ok-count.ensures.count at (c.write_entries.ensures users groups of_users of_groups sound))) (record {
      all_sound = record {
        whole = c.in_ok-count.ensures.whole;
        fits = c.in_ok-count.ensures.fits;
        sound = rw c.in_ok-count.ensures.count at sound;
      };
      apart = rw c.in_ok-count.ensures.count at (c.in_default.ensures.none users groups of_users of_groups sound);
    })
