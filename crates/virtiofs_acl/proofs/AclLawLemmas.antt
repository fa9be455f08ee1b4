-- A list whose ids `map` specifications cover comes back as it was.
use Rattle.std.proofs.Common.{◌≡◌, ◌≢◌, ◌⊎◌, inl, inr, ℕ, ◌+◌, ◌-◌, ◌*◌, ◌/◌, ◌%◌, ◌<◌, ◌≤◌, List, length, get_or, Some}
use Rattle.std.proofs.Common.{sym, ap, ◌∙◌, arith, Fits, w8, rules}
use Rattle.std.proofs.lemmas.Bool.{cases_lt, cases_eq}
use Rattle.std.proofs.lemmas.Grind.{get_or_default_zero}
use Rattle.std.proofs.lemmas.List.{ext_get_or}
use Rattle.virtiofs_acl.specs.Acl.{entry_count, tag_of, permissions_of, id_of, HasId, specs_for, IsIdByte, IsWhole}
use Rattle.virtiofs_acl.specs.Acl.{IsSound, MergesEarlier, GoesAcross}
use Rattle.virtiofs_acl.specs.AclLaws.{IsTranslated, AllMapped, AreBytes, ComesBack}
use Rattle.virtiofs_acl.specs.LittleEndian.{four_bytes}
use Rattle.virtiofs_map.specs.Build.{Accepted}
use Rattle.virtiofs_map.specs.Mapping.{Becomes}
use Rattle.virtiofs_map.specs.MappingLaws.{opposite}
use Rattle.virtiofs_map.specs.declared.cmdline.IdMap.{IdMap}
use Rattle.virtiofs_map.specs.declared.soft_idmap.entry.Direction.{Direction}
use Rattle.virtiofs_acl.proofs.AclMergeLemmas.{Accepted-for}
use Rattle.virtiofs_acl.proofs.AclWriteLemmas.{same_two, same_four}
use Rattle.virtiofs_map.proofs.ForCallers.{Becomes-one, LeadsBack-mapped, KeepsGreatest-accepted}

-- numbers of four bytes are the same where their bytes are
one_four : (a b c d e f g h : ℕ) → a < 256 → b < 256 → c < 256 → d < 256 → e < 256 → f < 256 → g < 256 → h < 256
    → a + 256 * b + 65536 * (c + 256 * d) ≡ e + 256 * f + 65536 * (g + 256 * h) → (a ≡ e) × (b ≡ f) × (c ≡ g) × (d ≡ h)
one_four a b c d e f g h al bl cl dl el fl gl hl same = (omega arith, omega arith, omega arith, omega arith)

-- what fits in a byte is a byte
pub are_bytes : (value : List ℕ) → ((k : ℕ) → Fits w8 (get_or value k 0)) → AreBytes value
are_bytes value fits = search (rules, get_or_default_zero)

byte_below : (value : List ℕ) (k : ℕ) → AreBytes value → k < length value → get_or value k 0 < 256
byte_below value k bytes below = bytes k 0 below

-- the byte at that place, of an id that is the same
pub same_byte : (old back : List ℕ) (first place : ℕ) → AreBytes old → AreBytes back → first + 4 ≤ length old
    → length back ≡ length old → four_bytes back first ≡ four_bytes old first → first ≤ place → place < first + 4
    → get_or back place 0 ≡ get_or old place 0
same_byte old back first place old_bytes back_bytes within size same from below =
    search (rules, one_four, byte_below, cases_eq)

-- a byte is one of an id or not
byte_cases : (value : List ℕ) (count place : ℕ) → IsIdByte value count place ⊎ (¬ IsIdByte value count place)
byte_cases value count place =
    search (rules, cases_lt, in_entry, cases_eq) where
      here : (byte : IsIdByte value count place) → byte.entry ≡ (place - 8) / 8
      here byte = omega (arith, byte.after, byte.before)

      in_entry : (tag_of value ((place - 8) / 8) ≡ 2) ⊎ (tag_of value ((place - 8) / 8) ≢ 2)
          → (tag_of value ((place - 8) / 8) ≡ 8) ⊎ (tag_of value ((place - 8) / 8) ≢ 8) → 8 ≤ place
          → (place - 8) / 8 < count → (place - 8) % 8 < 4 → IsIdByte value count place ⊎ (¬ IsIdByte value count place)
      in_entry (inl user) other from is_entry inside = search rules
      in_entry (inr user) (inl group) from is_entry inside = search rules
      in_entry (inr user) (inr group) from is_entry inside = search (rules, here)

-- a byte from 4 to 7 of an entry is none of an id
header_byte : (value : List ℕ) (count k place : ℕ) → 4 + 8 * k ≤ place → place < 8 + 8 * k
    → ¬ IsIdByte value count place
header_byte value count k place from below byte = omega (arith, byte.after, byte.before)

-- each id becomes what its specifications make of it
IsTranslated-becomes : (users groups : List IdMap) (direction : Direction) (old new : List ℕ) (k : ℕ)
    → IsTranslated users groups direction old new → k < entry_count old → HasId (tag_of old k)
    → Becomes (specs_for users groups (tag_of old k)) direction (id_of old k) (Some (id_of new k))
IsTranslated-becomes users groups direction old new k translated below (inl tag) =
    rw tag (translated.user_ids k below tag)
IsTranslated-becomes users groups direction old new k translated below (inr tag) =
    rw tag (translated.group_ids k below tag)

module _ (users groups : List IdMap) (direction : Direction) (old new : List ℕ) (users_accepted : Accepted users)
    (groups_accepted : Accepted groups) (translated : IsTranslated users groups direction old new)
    (mapped : AllMapped users groups direction old) where
  accepted : (k : ℕ) → Accepted (specs_for users groups (tag_of old k))
  accepted k = Accepted-for users groups (tag_of old k) users_accepted groups_accepted

  -- ---- what a translated list keeps

  same_count : entry_count new ≡ entry_count old
  same_count = ap (λ (n : ℕ). (n - 4) / 8) translated.rest.size

  same_tag : (k : ℕ) → tag_of new k ≡ tag_of old k
  same_tag k = search (rules, same_two, header_byte)

  permissions : (k : ℕ) → permissions_of new k ≡ permissions_of old k
  permissions k = search (rules, same_two, header_byte)

  whole_back : IsWhole old → IsWhole new
  whole_back whole = record {
    header = rw translated.rest.size whole.header;
    version = same_four old new 0 (λ n below. translated.rest.rest (0 + n) (λ byte. absurd (omega (arith, byte.after))))
        ∙ whole.version;
    whole = rw translated.rest.size whole.whole;
  }

  there : (k : ℕ) → k < entry_count old → HasId (tag_of old k)
      → Becomes (specs_for users groups (tag_of old k)) direction (id_of old k) (Some (id_of new k))
  there k = IsTranslated-becomes users groups direction old new k translated

  -- ---- what comes back

  -- the way back of an id
  leads_back : (k : ℕ) → k < entry_count old → HasId (tag_of old k)
      → Becomes (specs_for users groups (tag_of old k)) (opposite direction) (id_of new k) (Some (id_of old k))
  leads_back k below has_id =
      LeadsBack-mapped _ direction (id_of old k) (Some (id_of new k)) (accepted k) (mapped k below has_id)
      (there k below has_id)

  sound_back : (k : ℕ) → k < entry_count old → IsSound users groups direction old k
      → IsSound users groups (opposite direction) new k
  sound_back k below sound = record {
    known = rw (same_tag k) sound.known;
    permitted = rw (permissions k) sound.permitted;
    is_id = λ has_id greatest.
        sound.is_id (rw (same_tag k) at has_id)
        (Becomes-one _ _ 4294967295 _ _ (accepted k)
        (rw greatest at (leads_back k below (rw (same_tag k) at has_id)))
        (KeepsGreatest-accepted _ (accepted k) (opposite direction)));
    goes = λ has_id. (id_of old k, rw (same_tag k) (leads_back k below (rw (same_tag k) at has_id)));
    to_id = λ has_id becomes.
        sound.is_id (rw (same_tag k) at has_id)
        (Becomes-one _ _ (id_of new k) _ _ (accepted k) (leads_back k below (rw (same_tag k) at has_id))
        (rw (same_tag k) at becomes));
  }

  apart_back : (k : ℕ) → k < entry_count old → ¬ MergesEarlier users groups (opposite direction) new k
  apart_back k below merges =
      let j = merges.earlier in
      let tags : tag_of old j ≡ tag_of old k = sym (same_tag j) ∙ merges.same_tag ∙ same_tag k in
      let has_k : HasId (tag_of old k) = rw (same_tag k) at merges.has_id in
      let has_j : HasId (tag_of old j) = rw tags has_k in
      let below_j : j < entry_count old = omega (arith, merges.before) in
      let specs = specs_for users groups (tag_of old k) in
      let back_j : Becomes specs (opposite direction) (id_of new j) (Some (id_of old j)) =
      rw tags at (leads_back j below_j has_j) in
      let one : Becomes specs (opposite direction) (id_of new j) (Some merges.both) = rw (same_tag k) at merges.one in
      let other : Becomes specs (opposite direction) (id_of new k) (Some merges.both) = rw (same_tag k) at merges.other in
      let same : id_of old j ≡ id_of old k =
      Becomes-one specs (opposite direction) (id_of new j) (id_of old j) merges.both (accepted k) back_j one
      ∙ sym (Becomes-one specs (opposite direction) (id_of new k) (id_of old k) merges.both (accepted k)
      (leads_back k below has_k) other) in
      let there_j : Becomes specs direction (id_of old j) (Some (id_of new j)) = rw tags at (there j below_j has_j) in
      merges.differ
      (Becomes-one specs direction (id_of old k) (id_of new j) (id_of new k) (accepted k) (rw same at there_j)
      (there k below has_k))

  goes_back : (room : ℕ) → GoesAcross users groups direction room old
      → GoesAcross users groups (opposite direction) room new
  goes_back room goes = record {
    all_sound = record {
      whole = whole_back goes.all_sound.whole;
      fits = rw same_count goes.all_sound.fits;
      sound = λ k below. let under : k < entry_count old = rw same_count at below in
          sound_back k under (goes.all_sound.sound k under);
    };
    apart = λ k below. apart_back k (rw same_count at below);
  }

  -- ---- the bytes that come back

  -- the id of an entry comes back
  same_id : (back : List ℕ) (k : ℕ) → IsTranslated users groups (opposite direction) new back → k < entry_count old
      → HasId (tag_of old k) → id_of back k ≡ id_of old k
  same_id back k returned below has_id =
      Becomes-one _ _ (id_of new k) _ _ (accepted k)
      (rw (same_tag k) at (IsTranslated-becomes users groups (opposite direction) new back k returned (rw same_count below)
      (rw (same_tag k) has_id)))
      (leads_back k below has_id)

  bytes_back : (back : List ℕ) (place : ℕ) → IsWhole old → AreBytes old → AreBytes back
      → IsTranslated users groups (opposite direction) new back → get_or back place 0 ≡ get_or old place 0
  bytes_back back place whole old_bytes back_bytes returned =
      elim (byte_cases old (entry_count old) place) [
        | inl byte ↦
            let k = byte.entry in
            let size : length back ≡ length old = returned.rest.size ∙ translated.rest.size in
            same_byte old back (8 + 8 * k) place old_bytes back_bytes (omega (arith, byte.is_entry, whole.whole)) size
            (same_id back k returned byte.is_entry byte.has_id) byte.after (omega (arith, byte.before))
        | inr no_id ↦ returned.rest.rest place (λ byte. no_id (back_place byte)) ∙ translated.rest.rest place no_id
      ] where
        back_place : IsIdByte new (entry_count new) place → IsIdByte old (entry_count old) place
        back_place byte = record {
          entry = byte.entry;
          is_entry = rw same_count at byte.is_entry;
          has_id = rw (same_tag byte.entry) at byte.has_id;
          after = byte.after;
          before = byte.before;
        }

  pub ComesBack-mapped : (room : ℕ) → AreBytes old → GoesAcross users groups direction room old
      → ComesBack users groups direction room old new
  ComesBack-mapped room old_bytes goes = record {
    goes = goes_back room goes;
    same = λ back back_bytes returned.
        ext_get_or 0 back old (returned.rest.size ∙ translated.rest.size)
        (λ place below. bytes_back back place goes.all_sound.whole old_bytes back_bytes returned);
  }
