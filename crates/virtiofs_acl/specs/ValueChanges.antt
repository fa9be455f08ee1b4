-- What a call answers that changes the ids in a value, with what it leaves of the value. The calls on maps say the same
-- clause by clause.
use Rattle.std.specs.Prelude.{◌≡◌, ℕ, List, Result, IsOk, IfErr, IsErrAnd, OnOk, OnErr}
use Rattle.virtiofs_acl.specs.Acl.{IdsBecome, KeepsRest, GoesAcross, HasAclFault}
use Rattle.virtiofs_acl.specs.AclLaws.{AllMapped, ComesBack}
use Rattle.virtiofs_acl.specs.Capability.{root_of, RootBecomes, KeepsFront, IsInRevision3, HasRoot, RootGoesAcross}
use Rattle.virtiofs_acl.specs.Capability.{HasRootFault, HasCapabilityFault, RootComesBack}
use Rattle.virtiofs_acl.specs.declared.errors.AclError.{AclError}
use Rattle.virtiofs_acl.specs.declared.errors.CapabilityError.{CapabilityError}
use Rattle.virtiofs_map.specs.MappingLaws.{IsMappedBothWays}
use Rattle.virtiofs_map.specs.declared.cmdline.IdMap.{IdMap}
use Rattle.virtiofs_map.specs.declared.soft_idmap.entry.Direction.{Direction}

-- a list that goes across has each id changed and nothing else, and any other is refused with its first fault and
-- stays; room is lent for that many entries
pub record ChangesList (users groups : List IdMap) (direction : Direction) (room : ℕ) (old new : List ℕ)
    (answer : Result (Unit {0}) AclError) : Type 0 where
  pub user_ids : OnOk answer (IdsBecome 2 users direction old new)
  pub group_ids : OnOk answer (IdsBecome 8 groups direction old new)
  pub rest : OnOk answer (KeepsRest old new)
  pub accepted : OnOk answer (GoesAcross users groups direction room old)
  pub complete : GoesAcross users groups direction room old → IsOk answer
  pub refused : IfErr answer (HasAclFault users groups direction room old)
  pub faulty : (fault : AclError) → HasAclFault users groups direction room old fault → IsErrAnd answer (λ e. e ≡ fault)
  pub unchanged : OnErr answer (new ≡ old)
  pub leads_back : OnOk answer (AllMapped users groups direction old → ComesBack users groups direction room old new)

-- the same of a capability and the id of root
pub record ChangesRoot (users : List IdMap) (direction : Direction) (old new : List ℕ)
    (answer : Result (Unit {0}) CapabilityError) : Type 0 where
  pub root : OnOk answer (RootBecomes users direction old new)
  pub front : OnOk answer (KeepsFront old new)
  pub accepted : OnOk answer (RootGoesAcross users direction old)
  pub complete : RootGoesAcross users direction old → IsOk answer
  pub refused : IfErr answer (HasCapabilityFault users direction old)
  pub faulty : (fault : CapabilityError) → HasCapabilityFault users direction old fault
      → IsErrAnd answer (λ e. e ≡ fault)
  pub unchanged : OnErr answer (new ≡ old)
  pub leads_back : OnOk answer (IsMappedBothWays users direction (root_of old) → RootComesBack users direction old new)

-- a capability that has a root for the other side is written in revision 3, and any other is refused with its first
-- fault
pub record WritesRevision3 (users : List IdMap) (direction : Direction) (value written : List ℕ)
    (answer : Result (Unit {0}) CapabilityError) : Type 0 where
  pub root : OnOk answer (RootBecomes users direction value written)
  pub same : OnOk answer (IsInRevision3 value written)
  pub accepted : OnOk answer (HasRoot users direction value)
  pub complete : HasRoot users direction value → IsOk answer
  pub refused : IfErr answer (HasRootFault users direction value)
  pub faulty : (fault : CapabilityError) → HasRootFault users direction value fault → IsErrAnd answer (λ e. e ≡ fault)
