-- The first fault of a list: it is one, and a list that goes across has none.
use Rattle.std.proofs.Common.{◌≡◌, ◌⊎◌, inl, inr, ℕ, ◌≤◌, List, Some, ◌∙◌, arith, rules}
use Rattle.std.proofs.lemmas.Bool.{cases_order}
use Rattle.virtiofs_acl.specs.Acl.{entry_count, tag_of, id_of, specs_for, IsTag, HasId, IsWhole, IsSound, AllSound}
use Rattle.virtiofs_acl.specs.Acl.{GoesAcross, IsEntryFault, IsFirstUnsound, IsFirstMerged, HasAclFault}
use Rattle.virtiofs_acl.specs.AclParts.{IsUnsoundBelow}
use Rattle.virtiofs_acl.specs.declared.errors.AclError.{AclError}
use Rattle.virtiofs_acl.specs.declared.errors.AclError.TheVariants.{TooShort, Version, Length, Room, Entry}
use Rattle.virtiofs_acl.specs.declared.errors.EntryFault.{EntryFault}
use Rattle.virtiofs_acl.specs.declared.errors.EntryFault.TheVariants.{UnknownTag, Permission, NoId, Forbidden, Merges}
use Rattle.virtiofs_map.specs.Build.{Accepted}
use Rattle.virtiofs_map.specs.Mapping.{Becomes}
use Rattle.virtiofs_map.specs.declared.cmdline.IdMap.{IdMap}
use Rattle.virtiofs_map.specs.declared.soft_idmap.entry.Direction.{Direction}
use Rattle.virtiofs_acl.proofs.AclMergeLemmas.{Accepted-for}
use Rattle.virtiofs_map.proofs.ForCallers.{Becomes-forbidden}

-- the first entry that is not sound is one, once the sizes are right
pub HasAclFault-unsound_below : (users groups : List IdMap) (direction : Direction) (room : ℕ) (value : List ℕ)
    (error : AclError) → IsWhole value → entry_count value ≤ room
    → IsUnsoundBelow users groups direction value (entry_count value) error
    → HasAclFault users groups direction room value error
HasAclFault-unsound_below users groups direction room value x5 whole fits wrong = search rules

-- an entry with an id has a tag
HasId-tag : (tag : ℕ) → HasId tag → IsTag tag
HasId-tag tag x1 = search rules

module _ (users groups : List IdMap) (direction : Direction) (value : List ℕ) (users_accepted : Accepted users)
    (groups_accepted : Accepted groups) where
  -- ---- of an entry by itself

  -- an id that becomes one is not forbidden
  not_forbidden : (k n : ℕ) → Becomes (specs_for users groups (tag_of value k)) direction (id_of value k) (Some n)
      → ¬ IsEntryFault users groups direction value k Forbidden
  not_forbidden k n becomes forbidden =
      Becomes-forbidden _ direction (id_of value k) n
      (Accepted-for users groups (tag_of value k) users_accepted groups_accepted) becomes forbidden.3

  -- a sound entry has no fault
  IsSound-no_fault : (k : ℕ) (fault : EntryFault) → IsSound users groups direction value k
      → ¬ IsEntryFault users groups direction value k fault
  IsSound-no_fault k UnknownTag sound wrong = wrong sound.known
  IsSound-no_fault k Permission sound wrong = omega (arith, wrong.1, sound.permitted)
  IsSound-no_fault k NoId sound wrong = search rules
  IsSound-no_fault k Forbidden sound wrong = not_forbidden k _ (sound.goes wrong.0).1 wrong
  IsSound-no_fault k Merges sound wrong = wrong

  -- an id that is none, or becomes none, is not forbidden
  no_id_forbidden : (k : ℕ) → IsEntryFault users groups direction value k NoId
      → ¬ IsEntryFault users groups direction value k Forbidden
  no_id_forbidden k none forbidden =
      elim none.2 [ inl is ↦ forbidden.2 is | inr becomes ↦ not_forbidden k 4294967295 becomes forbidden ]

  -- an entry has one fault by itself at most
  IsEntryFault-one : (k : ℕ) (fault other : EntryFault) → IsEntryFault users groups direction value k fault
      → IsEntryFault users groups direction value k other → fault ≡ other
  IsEntryFault-one k UnknownTag other first second = search (rules, HasId-tag)
  IsEntryFault-one k Permission other first second = search rules
  IsEntryFault-one k NoId other first second = search (rules, HasId-tag, no_id_forbidden)
  IsEntryFault-one k Forbidden other first second = search (rules, HasId-tag, no_id_forbidden)
  IsEntryFault-one k Merges other first second = absurd first

  module _ (room : ℕ) where
    -- ---- of a list

    -- the sizes are right where an entry is at fault
    HasAclFault-reached : (k : ℕ) (fault : EntryFault) → HasAclFault users groups direction room value (Entry k fault)
        → IsWhole value × (entry_count value ≤ room)
    HasAclFault-reached k x1 has = search rules

    -- the entry that is at fault by itself
    HasAclFault-unsound : (k : ℕ) (fault : EntryFault) → HasAclFault users groups direction room value (Entry k fault)
        → IsFirstUnsound users groups direction room value k fault
        ⊎ ((fault ≡ Merges) × IsFirstMerged users groups direction room value k)
    HasAclFault-unsound k x1 has = search rules

    -- no entry is both at fault by itself and sound
    unsound_sound : (k : ℕ) (fault : EntryFault) → IsFirstUnsound users groups direction room value k fault
        → ¬ AllSound users groups direction room value
    unsound_sound k fault first sound = search (rules, IsSound-no_fault)

    pub GoesAcross-no_fault : (error : AclError) → GoesAcross users groups direction room value
        → ¬ HasAclFault users groups direction room value error
    GoesAcross-no_fault TooShort goes fault = omega (arith, goes.all_sound.whole.header)
    GoesAcross-no_fault (Version version) goes fault = fault.2 (fault.1 ∙ goes.all_sound.whole.version)
    GoesAcross-no_fault Length goes fault = fault.2 goes.all_sound.whole.whole
    GoesAcross-no_fault (Room needed) goes fault = omega (arith, fault.1, fault.2, goes.all_sound.fits)
    GoesAcross-no_fault (Entry k wrong) goes fault =
        elim (HasAclFault-unsound k wrong fault) [
          | inl first ↦ unsound_sound k wrong first goes.all_sound
          | inr (is, first) ↦ goes.apart k first.is_entry first.merges
        ]

    -- the first entry at fault by itself is one
    first_unsound_one : (j k : ℕ) (fault other : EntryFault)
        → IsFirstUnsound users groups direction room value j fault
        → IsFirstUnsound users groups direction room value k other → Entry j fault ≡ Entry k other
    first_unsound_one j k fault other first second =
        elim (cases_order j k) [
          | inl same ↦ search (rules, IsEntryFault-one)
          | inr (inl before) ↦ search (rules, IsSound-no_fault)
          | inr (inr after) ↦ search (rules, IsSound-no_fault)
        ]

    -- and so is the first that merges
    first_merged_one : (j k : ℕ) → IsFirstMerged users groups direction room value j
        → IsFirstMerged users groups direction room value k → j ≡ k
    first_merged_one j k first second =
        elim (cases_order j k) [
          | inl same ↦ same
          | inr (inl before) ↦ absurd (second.before j before first.merges)
          | inr (inr after) ↦ absurd (first.before k after second.merges)
        ]

    entry_one : (j k : ℕ) (fault other : EntryFault)
        → HasAclFault users groups direction room value (Entry j fault)
        → HasAclFault users groups direction room value (Entry k other) → Entry j fault ≡ Entry k other
    entry_one j k fault other first second =
        both (HasAclFault-unsound j fault first) (HasAclFault-unsound k other second) where
          both : IsFirstUnsound users groups direction room value j fault
              ⊎ ((fault ≡ Merges) × IsFirstMerged users groups direction room value j)
              → IsFirstUnsound users groups direction room value k other
              ⊎ ((other ≡ Merges) × IsFirstMerged users groups direction room value k) → Entry j fault ≡ Entry k other
          both (inl one) (inl two) = first_unsound_one j k fault other one two
          both (inl one) (inr (is, two)) = absurd (unsound_sound j fault one two.all_sound)
          both (inr (is, one)) (inl two) = absurd (unsound_sound k other two one.all_sound)
          both (inr (is, one)) (inr (too, two)) = let same : j ≡ k = first_merged_one j k one two in cc

    pub HasAclFault-one : (error other : AclError) → HasAclFault users groups direction room value error
        → HasAclFault users groups direction room value other → error ≡ other
    HasAclFault-one x1 x2 first second = search (rules, HasAclFault-reached, entry_one)
