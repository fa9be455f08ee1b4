-- What a call answers that changes the ids in a value: where it is done, and where it is refused.
use Rattle.std.proofs.Common.{ℕ, List, Ok, Err, rules}
use Rattle.virtiofs_acl.specs.Acl.{GoesAcross, HasAclFault}
use Rattle.virtiofs_acl.specs.AclLaws.{IsTranslated, AreBytes}
use Rattle.virtiofs_acl.specs.Capability.{RootBecomes, KeepsFront, IsInRevision3, HasRoot, RootGoesAcross, HasRootFault}
use Rattle.virtiofs_acl.specs.Capability.{HasCapabilityFault}
use Rattle.virtiofs_acl.specs.ValueChanges.{ChangesList, ChangesRoot, WritesRevision3}
use Rattle.virtiofs_acl.specs.declared.errors.AclError.{AclError}
use Rattle.virtiofs_acl.specs.declared.errors.CapabilityError.{CapabilityError}
use Rattle.virtiofs_map.specs.Build.{Accepted}
use Rattle.virtiofs_map.specs.declared.cmdline.IdMap.{IdMap}
use Rattle.virtiofs_map.specs.declared.soft_idmap.entry.Direction.{Direction}
use Rattle.virtiofs_acl.proofs.AclCapabilityLemmas.{HasRoot-no_fault, RootGoesAcross-no_fault, HasCapabilityFault-one}
use Rattle.virtiofs_acl.proofs.AclCapabilityLemmas.{HasRootFault-one, RootComesBack-mapped}
use Rattle.virtiofs_acl.proofs.AclFaultLemmas.{GoesAcross-no_fault, HasAclFault-one}
use Rattle.virtiofs_acl.proofs.AclLawLemmas.{ComesBack-mapped}

-- ---- a list

pub ChangesList-done : (users groups : List IdMap) (direction : Direction) (room : ℕ) (old new : List ℕ)
    → Accepted users → Accepted groups → AreBytes old → IsTranslated users groups direction old new
    → GoesAcross users groups direction room old → ChangesList users groups direction room old new (Ok tt)
ChangesList-done users groups direction room old new users_accepted groups_accepted bytes translated goes =
    let none = λ (error : AclError).
    GoesAcross-no_fault users groups direction old users_accepted groups_accepted room error goes in
    search (rules, none, ComesBack-mapped)

pub ChangesList-refused : (users groups : List IdMap) (direction : Direction) (room : ℕ) (value : List ℕ)
    (error : AclError) → Accepted users → Accepted groups → HasAclFault users groups direction room value error
    → ChangesList users groups direction room value value (Err error)
ChangesList-refused users groups direction room value error users_accepted groups_accepted has =
    search (rules, GoesAcross-no_fault, HasAclFault-one)

-- ---- a capability

pub ChangesRoot-done : (users : List IdMap) (direction : Direction) (old new : List ℕ) → Accepted users → AreBytes old
    → RootBecomes users direction old new → KeepsFront old new → RootGoesAcross users direction old
    → ChangesRoot users direction old new (Ok tt)
ChangesRoot-done users direction old new accepted bytes root front goes =
    let none = λ (error : CapabilityError). RootGoesAcross-no_fault users direction old accepted error goes in
    search (rules, none, RootComesBack-mapped)

pub ChangesRoot-refused : (users : List IdMap) (direction : Direction) (value : List ℕ) (error : CapabilityError)
    → Accepted users → HasCapabilityFault users direction value error
    → ChangesRoot users direction value value (Err error)
ChangesRoot-refused users direction value error accepted has =
    search (rules, RootGoesAcross-no_fault, HasCapabilityFault-one)

pub WritesRevision3-done : (users : List IdMap) (direction : Direction) (value written : List ℕ) → Accepted users
    → RootBecomes users direction value written → IsInRevision3 value written → HasRoot users direction value
    → WritesRevision3 users direction value written (Ok tt)
WritesRevision3-done users direction value written accepted root same has = search (rules, HasRoot-no_fault)

pub WritesRevision3-refused : (users : List IdMap) (direction : Direction) (value written : List ℕ)
    (error : CapabilityError) → Accepted users → HasRootFault users direction value error
    → WritesRevision3 users direction value written (Err error)
WritesRevision3-refused users direction value written error accepted wrong =
    search (rules, HasRoot-no_fault, HasRootFault-one)
