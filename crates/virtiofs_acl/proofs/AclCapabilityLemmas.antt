-- Capabilities: their first fault is one, one that goes across has none, and under `map` specifications it comes back.
use Rattle.std.proofs.Common.{◌≡◌, ◌≢◌, inl, inr, ℕ, ◌<◌, ◌≤◌, List, length, get_or, Some, ◌∙◌}
use Rattle.std.proofs.Common.{arith, rules}
use Rattle.std.proofs.lemmas.Bool.{cases_lt}
use Rattle.std.proofs.lemmas.List.{ext_get_or, get_or_past}
use Rattle.virtiofs_acl.specs.AclLaws.{AreBytes}
use Rattle.virtiofs_acl.specs.Capability.{revision_of, IsRevision, HasSize, root_of, IsSized, RootBecomes, KeepsFront}
use Rattle.virtiofs_acl.specs.Capability.{HasRoot, RootGoesAcross, HasRootFault, HasCapabilityFault, RootComesBack}
use Rattle.virtiofs_acl.specs.declared.errors.CapabilityError.{CapabilityError}
use Rattle.virtiofs_acl.specs.declared.errors.CapabilityError.TheVariants.{TooShort, Revision, Length, NoId, Forbidden}
use Rattle.virtiofs_acl.specs.declared.errors.CapabilityError.TheVariants.{RootMoves}
use Rattle.virtiofs_map.specs.Build.{Accepted}
use Rattle.virtiofs_map.specs.Mapping.{Becomes}
use Rattle.virtiofs_map.specs.MappingLaws.{IsMappedBothWays, opposite}
use Rattle.virtiofs_map.specs.declared.cmdline.IdMap.{IdMap}
use Rattle.virtiofs_map.specs.declared.soft_idmap.entry.Direction.{Direction}
use Rattle.virtiofs_acl.proofs.AclLawLemmas.{same_byte}
use Rattle.virtiofs_map.proofs.ForCallers.{Becomes-one, Becomes-forbidden, LeadsBack-mapped, KeepsGreatest-accepted}

pub HasRootFault-stays : (users : List IdMap) (direction : Direction) (value : List ℕ) (error : CapabilityError)
    → HasRootFault users direction value error → error ≢ RootMoves
HasRootFault-stays users direction value x3 fault moves = search rules

-- one that no revision 3 mends is a fault in place too
pub HasCapabilityFault-root : (users : List IdMap) (direction : Direction) (value : List ℕ) (error : CapabilityError)
    → HasRootFault users direction value error → HasCapabilityFault users direction value error
HasCapabilityFault-root users direction value x3 fault = search rules

-- ---- values without a field for root

HasSize-revision : (revision size : ℕ) → HasSize revision size → IsRevision revision
HasSize-revision revision size x2 = search rules

-- past the end of a list is 0
pub root_of-none : (value : List ℕ) → length value ≤ 20 → root_of value ≡ 0
root_of-none value ends = search (rules, get_or_past)

-- revisions 1 and 2 have no field
no_field : (revision size : ℕ) → HasSize revision size → revision ≢ 3 → size ≤ 20
no_field revision size x2 other = omega arith

-- revision 3 has one
pub with_field : (revision size : ℕ) → HasSize revision size → size ≡ 24 → revision ≡ 3
with_field revision size x2 whole = omega arith

pub without_field : (revision size : ℕ) → HasSize revision size → size ≢ 24 → size ≤ 20
without_field revision size x2 other = omega arith

-- a value that is not as long is of another revision
pub other_revision : (revision size : ℕ) → HasSize revision size → size ≢ 24 → revision ≢ 3
other_revision revision size x2 other three = omega arith

pub root_of-zero : (value : List ℕ) → IsSized value → revision_of value ≢ 3 → root_of value ≡ 0
root_of-zero value sized other = root_of-none value (no_field _ _ sized.sized other)

-- a number becomes one number
pub to_id : (users : List IdMap) (direction : Direction) (n root : ℕ) → Accepted users
    → Becomes users direction n (Some root) → root ≢ 4294967295 → ¬ Becomes users direction n (Some 4294967295)
to_id users direction n root accepted becomes is_id none = search (rules, Becomes-one)

module _ (users : List IdMap) (direction : Direction) (value : List ℕ) (accepted : Accepted users) where
  -- ---- faults

  forbidden_moves : HasCapabilityFault users direction value Forbidden
      → HasCapabilityFault users direction value RootMoves → ⊥
  forbidden_moves forbidden moves =
      let none : root_of value ≡ 0 = root_of-zero value forbidden.0.sized moves.1 in
      Becomes-forbidden users direction 0 moves.2.0 accepted moves.2.1 (rw none at forbidden.1)

  -- root that is no id, or becomes none
  no_root_forbidden : HasCapabilityFault users direction value NoId
      → ¬ HasCapabilityFault users direction value Forbidden
  no_root_forbidden (sized, inl is) forbidden = forbidden.0.is_id is
  no_root_forbidden (sized, inr becomes) forbidden =
      Becomes-forbidden users direction (root_of value) 4294967295 accepted becomes forbidden.1

  no_root_moves : HasCapabilityFault users direction value NoId → ¬ HasCapabilityFault users direction value RootMoves
  no_root_moves (sized, inl is) moves = moves.0.is_id is
  no_root_moves (sized, inr becomes) moves =
      let zero : root_of value ≡ 0 = root_of-zero value sized moves.1 in
      moves.2.3 (Becomes-one users direction 0 moves.2.0 4294967295 accepted moves.2.1 (rw zero at becomes))

  pub HasCapabilityFault-one : (error other : CapabilityError) → HasCapabilityFault users direction value error
      → HasCapabilityFault users direction value other → error ≡ other
  HasCapabilityFault-one TooShort other first second = search rules
  HasCapabilityFault-one (Revision revision) other first second = search (rules, HasSize-revision)
  HasCapabilityFault-one Length other first second = search (rules, HasSize-revision)
  HasCapabilityFault-one NoId other first second = search (rules, HasSize-revision, no_root_forbidden, no_root_moves)
  HasCapabilityFault-one Forbidden other first second =
      search (rules, HasSize-revision, no_root_forbidden, forbidden_moves)
  HasCapabilityFault-one RootMoves other first second = search (rules, HasSize-revision, no_root_moves, forbidden_moves)

  pub HasRootFault-one : (error other : CapabilityError) → HasRootFault users direction value error
      → HasRootFault users direction value other → error ≡ other
  HasRootFault-one error other first second = search (rules, HasCapabilityFault-one, HasCapabilityFault-root)

  pub HasRoot-no_fault : (error : CapabilityError) → HasRoot users direction value
      → ¬ HasRootFault users direction value error
  HasRoot-no_fault TooShort has fault = omega (arith, has.capability.sized.word)
  HasRoot-no_fault (Revision revision) has fault = search (rules, HasSize-revision)
  HasRoot-no_fault Length has fault = fault.2 has.capability.sized.sized
  HasRoot-no_fault NoId has fault = search rules
  HasRoot-no_fault Forbidden has fault =
      Becomes-forbidden users direction (root_of value) has.root accepted has.becomes fault.1
  HasRoot-no_fault RootMoves has fault = fault

  pub RootGoesAcross-no_fault : (error : CapabilityError) → RootGoesAcross users direction value
      → ¬ HasCapabilityFault users direction value error
  RootGoesAcross-no_fault RootMoves goes fault =
      fault.2.2 (Becomes-one users direction 0 fault.2.0 0 accepted fault.2.1 (goes.stays fault.1))
  RootGoesAcross-no_fault TooShort goes fault = HasRoot-no_fault TooShort goes.has_root fault
  RootGoesAcross-no_fault (Revision revision) goes fault = HasRoot-no_fault (Revision revision) goes.has_root fault
  RootGoesAcross-no_fault Length goes fault = HasRoot-no_fault Length goes.has_root fault
  RootGoesAcross-no_fault NoId goes fault = HasRoot-no_fault NoId goes.has_root fault
  RootGoesAcross-no_fault Forbidden goes fault = HasRoot-no_fault Forbidden goes.has_root fault

-- ---- and back

-- the bytes of revision 3 that hold root
byte_back : (old back : List ℕ) (place : ℕ) → IsSized old → AreBytes old → AreBytes back → length back ≡ length old
    → root_of back ≡ root_of old → 20 ≤ place → place < length back → get_or back place 0 ≡ get_or old place 0
byte_back old back place sized old_bytes back_bytes size root from below = search (rules, same_byte)

module _ (users : List IdMap) (direction : Direction) (old new : List ℕ) (accepted : Accepted users)
    (becomes : RootBecomes users direction old new) (front : KeepsFront old new)
    (goes : RootGoesAcross users direction old) (mapped : IsMappedBothWays users direction (root_of old)) where
  root_back : Becomes users (opposite direction) (root_of new) (Some (root_of old))
  root_back = LeadsBack-mapped users direction (root_of old) (Some (root_of new)) accepted mapped becomes

  goes_back : RootGoesAcross users (opposite direction) new
  goes_back =
      let revision : revision_of new ≡ revision_of old = front.front 3 (omega arith) in
      let sized : IsSized new = record {
        word = rw front.size goes.has_root.capability.sized.word;
        sized = rw (revision, front.size) goes.has_root.capability.sized.sized;
      } in
      let back = root_back in
      record {
        has_root = record {
          capability = search (rules, Becomes-one, KeepsGreatest-accepted);
          root = root_of old;
          becomes = back;
          to_id = to_id users (opposite direction) (root_of new) (root_of old) accepted back goes.has_root.capability.is_id;
        };
        stays = λ other.
            let new_zero : root_of new ≡ 0 = root_of-zero new sized other in
            let old_zero : root_of old ≡ 0 =
            root_of-zero old goes.has_root.capability.sized (λ three. other (revision ∙ three)) in
            rw (new_zero, old_zero) at back;
      }

  pub RootComesBack-mapped : AreBytes old → RootComesBack users direction old new
  RootComesBack-mapped old_bytes = record {
    goes = goes_back;
    same = λ back back_bytes back_becomes back_front.
        let root : root_of back ≡ root_of old =
        Becomes-one users (opposite direction) (root_of new) (root_of back) (root_of old) accepted back_becomes
        root_back in
        let sized = goes.has_root.capability.sized in
        let size : length back ≡ length old = back_front.size ∙ front.size in
        ext_get_or 0 back old size (λ place below. search (rules, cases_lt, byte_back));
  }
