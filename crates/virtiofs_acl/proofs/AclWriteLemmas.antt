-- Writing ids one after the other: what stays readable, and what the whole comes to.
use Rattle.std.proofs.Common.{◌≡◌, ◌⊎◌, inl, inr, ℕ, ◌+◌, ◌*◌, ◌<◌, ◌≤◌, List, length, get_or, Some, sym, ◌∙◌, subst}
use Rattle.std.proofs.Common.{arith, rules}
use Rattle.std.proofs.lemmas.Bool.{cases_lt, cases_eq}
use Rattle.virtiofs_acl.specs.Acl.{entry_count, tag_of, id_of, HasId, specs_for, IsIdByte}
use Rattle.virtiofs_acl.specs.AclLaws.{IsTranslated}
use Rattle.virtiofs_acl.specs.AclParts.{IsWritten}
use Rattle.virtiofs_acl.specs.LittleEndian.{two_bytes, four_bytes}
use Rattle.virtiofs_map.specs.Mapping.{Becomes}
use Rattle.virtiofs_map.specs.declared.cmdline.IdMap.{IdMap}
use Rattle.virtiofs_map.specs.declared.soft_idmap.entry.Direction.{Direction}

-- numbers of the same bytes are the same
pub same_two : (old new : List ℕ) (place : ℕ) → get_or new place 0 ≡ get_or old place 0
    → get_or new (place + 1) 0 ≡ get_or old (place + 1) 0 → two_bytes new place ≡ two_bytes old place
same_two old new place low high = omega arith

pub same_four : (old new : List ℕ) (place : ℕ) → ((k : ℕ) → k < 4 → get_or new (place + k) 0 ≡ get_or old (place + k) 0)
    → four_bytes new place ≡ four_bytes old place
same_four old new place same = search rules

-- no byte from an entry that is still to be written is one of an id that was
still_there : (value : List ℕ) (count place : ℕ) → 4 + 8 * count ≤ place → ¬ IsIdByte value count place
still_there value count place from byte = omega (arith, byte.is_entry, byte.before)

-- a byte of an id below k is one below k + 1
IsIdByte-more : (value : List ℕ) (k place : ℕ) → IsIdByte value k place → IsIdByte value (k + 1) place
IsIdByte-more value k place byte = search rules

module _ (users groups : List IdMap) (direction : Direction) (old : List ℕ) where
  pub IsWritten-tag : (new : List ℕ) (k : ℕ) → IsWritten users groups direction old new k → tag_of new k ≡ tag_of old k
  IsWritten-tag new k written = search (rules, same_two, still_there)

  pub IsWritten-id : (new : List ℕ) (k : ℕ) → IsWritten users groups direction old new k → id_of new k ≡ id_of old k
  IsWritten-id new k written =
      same_four old new (8 + 8 * k) (λ n below. written.rest (8 + 8 * k + n) (still_there old k _ (omega arith)))

  pub IsWritten-pass : (new : List ℕ) (k : ℕ) → IsWritten users groups direction old new k → ¬ HasId (tag_of old k)
      → IsWritten users groups direction old new (k + 1)
  IsWritten-pass new k written without = search (rules, cases_eq, IsIdByte-more)

  pub IsWritten-more : (now new : List ℕ) (k n : ℕ) → IsWritten users groups direction old now k → HasId (tag_of old k)
      → length new ≡ length now → four_bytes new (8 + 8 * k) ≡ n
      → ((other : ℕ) → (other < 8 + 8 * k) ⊎ (8 + 8 * k + 4 ≤ other) → get_or new other 0 ≡ get_or now other 0)
      → Becomes (specs_for users groups (tag_of old k)) direction (id_of old k) (Some n)
      → IsWritten users groups direction old new (k + 1)
  IsWritten-more now new k n written has_id size number others becomes = record {
    size = size ∙ written.size;
    written = λ j below has. elim (cases_eq j k) [ inl same ↦ last j same | inr other ↦ before j (omega arith) has ];
    rest = λ place no_id. others place (outside place no_id)
        ∙ written.rest place (λ byte. no_id (IsIdByte-more old k place byte));
  } where
    last : (j : ℕ) → j ≡ k → Becomes (specs_for users groups (tag_of old j)) direction (id_of old j) (Some (id_of new j))
    last j same =
        subst (λ (m : ℕ). Becomes (specs_for users groups (tag_of old m)) direction (id_of old m) (Some (id_of new m)))
        (sym same) (rw number becomes)

    before : (j : ℕ) → j < k → HasId (tag_of old j)
        → Becomes (specs_for users groups (tag_of old j)) direction (id_of old j) (Some (id_of new j))
    before j below has =
        let kept : id_of new j ≡ id_of now j =
        same_four now new (8 + 8 * j) (λ m under. others (8 + 8 * j + m) (inl (omega arith))) in
        rw kept (written.written j below has)

    outside : (place : ℕ) → ¬ IsIdByte old (k + 1) place → (place < 8 + 8 * k) ⊎ (8 + 8 * k + 4 ≤ place)
    outside place no_id =
        elim (cases_lt place (8 + 8 * k)) [
          | inl below ↦ inl below
          | inr from ↦
              elim (cases_lt place (8 + 8 * k + 4)) [
                | inl inside ↦ search (rules, before)
                | inr past ↦ inr past
              ]
        ]

  -- once all are written, the list is the translated one
  pub IsTranslated-written : (new : List ℕ) → IsWritten users groups direction old new (entry_count old)
      → IsTranslated users groups direction old new
  IsTranslated-written new written = record {
    user_ids = λ k below tag. rw tag at (written.written k below (inl tag));
    group_ids = λ k below tag. rw tag at (written.written k below (inr tag));
    rest = record { size = written.size; rest = written.rest };
  }
