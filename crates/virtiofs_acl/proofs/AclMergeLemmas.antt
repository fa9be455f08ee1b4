-- Entries that would merge: what stands in the room, in what order, and why neighbours are enough.
use Rattle.std.proofs.Common.{◌≡◌, ◌≢◌, ◌⊎◌, inl, inr, ℕ, ◌+◌, ◌-◌, ◌*◌, ◌<◌, ◌≤◌, List, [], ◌∷◌, ◌++◌, length, get_or}
use Rattle.std.proofs.Common.{All, Contains, IsPermutation, Option, Some, None, IsSomeAnd, IfSome, IfNone, false, refl, sym}
use Rattle.std.proofs.Common.{ap, ◌∙◌, subst, arith, rules}
use Rattle.std.specs.Cmp.{IsTotalOrder}
use Rattle.std.specs.Ordering.{nat_cmp, ordering_then, is_lt}
use Rattle.std.specs.List.Sorted.{IsSorted}
use Rattle.std.specs.declared.cmp.Ordering.{Ordering}
use Rattle.std.proofs.lemmas.Bool.{cases_order, cases_eq}
use Rattle.std.proofs.lemmas.Cmp.{then_total, on_total, nat_cmp_total}
use Rattle.std.proofs.lemmas.List.{get_or_default}
use Rattle.std.proofs.lemmas.List.Elements.{All-push, All-weaker, All-contains, Contains-push, Contains-append_left}
use Rattle.std.proofs.lemmas.List.Elements.{Contains-get_or}
use Rattle.std.proofs.lemmas.List.Sorted.{sorted_far, ranks_by, All-permutation, Contains-permutation}
use Rattle.std.proofs.lemmas.Bool.Decides.{nat_tests}
use Rattle.virtiofs_acl.specs.Acl.{tag_of, id_of, HasId, specs_for, MergesEarlier}
use Rattle.virtiofs_acl.specs.AclParts.{IsPlaced, Places, IsNotAfter, AreInOrder, Clashes, HasClash, MeetsClashes}
use Rattle.virtiofs_acl.specs.AclParts.{NoneMerges, IsFirstToMerge}
use Rattle.virtiofs_acl.specs.declared.merges.EntryRoom.{EntryRoom}
use Rattle.virtiofs_map.specs.Build.{Accepted}
use Rattle.virtiofs_map.specs.Mapping.{Becomes}
use Rattle.virtiofs_map.specs.declared.cmdline.IdMap.{IdMap}
use Rattle.virtiofs_map.specs.declared.soft_idmap.entry.Direction.{Direction}
use Rattle.virtiofs_map.proofs.ForCallers.{Becomes-one}

-- ---- what stands in the room

-- the specifications for an id are accepted
pub Accepted-for : (users groups : List IdMap) (tag : ℕ) → Accepted users → Accepted groups
    → Accepted (specs_for users groups tag)
Accepted-for users groups tag users_accepted groups_accepted = search rules

module _ (users groups : List IdMap) (direction : Direction) (value : List ℕ) where
  IsPlaced-more : (count : ℕ) (one : EntryRoom) → IsPlaced users groups direction value count one
      → IsPlaced users groups direction value (count + 1) one
  IsPlaced-more count one placed = search rules

  pub Places-pass : (count : ℕ) (placed : List EntryRoom) → Places users groups direction value count placed
      → ¬ HasId (tag_of value count) → Places users groups direction value (count + 1) placed
  Places-pass count placed places without = search (rules, All-weaker, IsPlaced-more, cases_eq)

  pub Places-push : (count : ℕ) (placed : List EntryRoom) (one : EntryRoom)
      → Places users groups direction value count placed → one.entry ≡ count → HasId one.tag
      → one.tag ≡ tag_of value count
      → Becomes (specs_for users groups (tag_of value count)) direction (id_of value count) (Some one.id)
      → Places users groups direction value (count + 1) (placed ++ one ∷ [])
  Places-push count placed one places is has_id tag becomes = record {
    right = All-push (IsPlaced users groups direction value (count + 1)) placed one
        (All-weaker (IsPlaced users groups direction value count) (IsPlaced users groups direction value (count + 1))
        (IsPlaced-more count) placed places.right)
        (record { is_entry = omega arith; has_id = has_id; tag = rw is tag; becomes = rw is becomes });
    each = λ k below has_id.
        elim (cases_eq k count) [
          | inl same ↦ (one, Contains-push placed one, is ∙ sym same)
          | inr other ↦
              let (found, listed, is_k) = places.each k (omega arith) has_id in
              (found, Contains-append_left placed (one ∷ []) found listed, is_k)
        ];
  }

  pub Places-permutation : (count : ℕ) (placed sorted : List EntryRoom) → IsPermutation placed sorted
      → Places users groups direction value count placed → Places users groups direction value count sorted
  Places-permutation count placed sorted permutation places = record {
    right = All-permutation (IsPlaced users groups direction value count) placed sorted permutation places.right;
    each = λ k below has_id.
        let (found, listed, is_k) = places.each k below has_id in
        (found, Contains-permutation placed sorted found permutation listed, is_k);
  }

-- whatever ids are looked up in, the room holds entries of the value alone
pub entries-more : (count : ℕ) (placed : List EntryRoom) → All (λ one. one.entry < count) placed
    → All (λ one. one.entry < count + 1) placed
entries-more count placed below = search (rules, All-weaker)

pub entries-push : (count : ℕ) (placed : List EntryRoom) (one : EntryRoom) → All (λ one. one.entry < count) placed
    → one.entry < count + 1 → All (λ one. one.entry < count + 1) (placed ++ one ∷ [])
entries-push count placed one below here = search (rules, All-push, entries-more)

pub in_value : (value : List ℕ) (count : ℕ) (placed sorted : List EntryRoom) → 4 + 8 * count ≤ length value
    → IsPermutation placed sorted → All (λ one. one.entry < count) placed
    → All (λ one. 12 + 8 * one.entry ≤ length value) sorted
in_value value count placed sorted fits permutation below =
    All-weaker (λ one. one.entry < count) (λ one. 12 + 8 * one.entry ≤ length value) (λ one less. omega arith) sorted
    (All-permutation (λ one. one.entry < count) placed sorted permutation below)

-- ---- their order

-- the order of the derive
abbrev pub room_cmp : EntryRoom → EntryRoom → Ordering
room_cmp a b = ordering_then (nat_cmp a.tag b.tag) (ordering_then (nat_cmp a.id b.id) (nat_cmp a.entry b.entry))

room_cmp-total : IsTotalOrder room_cmp
room_cmp-total =
    then_total (on_total (λ a. a.tag) nat_cmp_total)
    (then_total (on_total (λ a. a.id) nat_cmp_total) (on_total (λ a. a.entry) nat_cmp_total))

IsNotAfter-from : (a b : EntryRoom) → is_lt (room_cmp b a) ≡ false → IsNotAfter a b
IsNotAfter-from a b not_below = search (rules, cases_order, nat_tests)

pub AreInOrder-sorted : (placed : List EntryRoom) → IsSorted room_cmp placed → AreInOrder placed
AreInOrder-sorted placed up i j d from below =
    IsNotAfter-from (get_or placed i d) (get_or placed j d)
    (sorted_far (λ x y. is_lt (room_cmp x y)) (ranks_by room_cmp-total (λ x. x)) placed up i j d from below)

-- ---- neighbours are enough

-- what stands between two of one tag and of one number has both, and comes no later than the second
between : (one middle other : EntryRoom) → IsNotAfter one middle → IsNotAfter middle other → one.tag ≡ other.tag
    → one.id ≡ other.id → (middle.tag ≡ other.tag) × (middle.id ≡ other.id) × (middle.entry ≤ other.entry)
between one middle other x3 x4 tag id = omega arith

-- so it clashes with the second, or the first clashes with it
clash_between : (value : List ℕ) (one middle other : EntryRoom) → IsNotAfter one middle → IsNotAfter middle other
    → Clashes value one other → Clashes value middle other ⊎ (Clashes value one middle × (middle.entry ≤ other.entry))
clash_between value one middle other before after clashes = search (rules, between, cases_eq)

-- what is no greater than a number is no greater than a greater one
no_greater : (found : Option ℕ) (a b : ℕ) → a ≤ b → IsSomeAnd found (λ k. k ≤ a) → IsSomeAnd found (λ k. k ≤ b)
no_greater x0 a b up below = search rules

-- one more: what is found now is no greater than what was found before, nor than the next one if it clashes with its
-- neighbour
pub MeetsClashes-more : (value : List ℕ) (placed : List EntryRoom) (i : ℕ) (e : EntryRoom) (least found : Option ℕ)
    → AreInOrder placed → 1 ≤ i → i < length placed → MeetsClashes value placed i least
    → ((m : ℕ) → IsSomeAnd least (λ k. k ≤ m) → IsSomeAnd found (λ k. k ≤ m))
    → (Clashes value (get_or placed (i - 1) e) (get_or placed i e)
    → IsSomeAnd found (λ k. k ≤ (get_or placed i e).entry)) → MeetsClashes value placed (i + 1) found
MeetsClashes-more value placed i e least found order from below meets kept near a b d before under within clashes =
    elim (cases_eq b i) [
      | inl same ↦
          let here : get_or placed b d ≡ get_or placed i e = ap (λ (k : ℕ). get_or placed k d) same
          ∙ get_or_default placed i d e below in
          let with_here : Clashes value (get_or placed a d) (get_or placed i e) = rw here at clashes in
          rw here (at_end a (omega arith) (rw (get_or_default placed a d e (omega arith)) at with_here))
      | inr other ↦ kept (get_or placed b d).entry (meets a b d before (omega arith) within clashes)
    ] where
      apart : (a : ℕ) → a < i → Clashes value (get_or placed a e) (get_or placed (i - 1) e) → a < i - 1
      apart a before first = search (rules, cases_eq)

      at_end : (a : ℕ) → a < i → Clashes value (get_or placed a e) (get_or placed i e)
          → IsSomeAnd found (λ k. k ≤ (get_or placed i e).entry)
      at_end a before clashes =
          elim (clash_between value (get_or placed a e) (get_or placed (i - 1) e) (get_or placed i e)
          (order a (i - 1) e (omega arith) (omega arith)) (order (i - 1) i e (omega arith) below) clashes) [
            | inl next ↦ near next
            | inr (first, entry) ↦ kept (get_or placed i e).entry
                (no_greater least (get_or placed (i - 1) e).entry (get_or placed i e).entry entry
                (meets a (i - 1) e (apart a before first) (omega arith) (omega arith) first))
          ]

pub HasClash-here : (value : List ℕ) (placed : List EntryRoom) (i k : ℕ) (e : EntryRoom) → AreInOrder placed → 1 ≤ i
    → i < length placed → Clashes value (get_or placed (i - 1) e) (get_or placed i e) → k ≡ (get_or placed i e).entry
    → HasClash value placed k
HasClash-here value placed i k e order from below clashes is = search (rules, Contains-get_or)

-- ---- what was found is the first entry that merges

-- of two that clash, the one of the lesser number stands first
clash_found : (value : List ℕ) (placed : List EntryRoom) (found : Option ℕ) (one other : EntryRoom) → AreInOrder placed
    → MeetsClashes value placed (length placed) found → Contains placed one → Contains placed other
    → Clashes value one other → one.entry < other.entry → IsSomeAnd found (λ m. m ≤ other.entry)
clash_found value placed found one other order meets (i, one_in, one_at) (j, other_in, other_at) clashes before =
    elim (cases_order i j) [
      | inl same ↦ absurd (apart (sym one' ∙ ap (λ (n : ℕ). get_or placed n other) same ∙ other_at))
      | inr (inl earlier) ↦
          let here : Clashes value (get_or placed i other) (get_or placed j other) = rw (one', other_at) clashes in
          rw other_at at (meets i j other earlier other_in other_in here)
      | inr (inr later) ↦ absurd (turned (rw (other_at, one') at (order j i other (omega arith) one_in)))
    ] where
      one' : get_or placed i other ≡ one
      one' = get_or_default placed i other one one_in ∙ one_at

      apart : one ≢ other
      apart same = let entries = ap (λ (x : EntryRoom). x.entry) same in omega arith

      turned : IsNotAfter other one → ⊥
      turned (inl a) = omega (arith, clashes.tag)
      turned (inr (inl a)) = omega (arith, clashes.id)
      turned (inr (inr a)) = omega arith

module _ (users groups : List IdMap) (direction : Direction) (value : List ℕ) (count : ℕ) (placed : List EntryRoom)
    (found : Option ℕ) (users_accepted : Accepted users) (groups_accepted : Accepted groups)
    (order : AreInOrder placed) (places : Places users groups direction value count placed)
    (meets : MeetsClashes value placed (length placed) found) where
  -- what is listed is placed
  is_placed : (one : EntryRoom) → Contains placed one → IsPlaced users groups direction value count one
  is_placed one = All-contains (IsPlaced users groups direction value count) placed one places.right

  placed_merge : (k : ℕ) → HasClash value placed k → MergesEarlier users groups direction value k
  placed_merge k clash =
      let one = is_placed clash.one clash.listed in
      let other = is_placed clash.other clash.listed_too in
      let clashes = clash.clashes in
      let tag : tag_of value clash.one.entry ≡ tag_of value clash.other.entry =
      sym one.tag ∙ clashes.tag ∙ other.tag in
      subst (λ (n : ℕ). MergesEarlier users groups direction value n) clash.is (record {
        has_id = rw (← other.tag) other.has_id;
        earlier = clash.one.entry;
        before = earlier (cases_eq clash.one.entry clash.other.entry);
        same_tag = tag;
        differ = clashes.differ;
        both = clash.other.id;
        one = rw (← tag) (rw clashes.id at one.becomes);
        other = other.becomes;
      }) where
        earlier : (clash.one.entry ≡ clash.other.entry) ⊎ (clash.one.entry ≢ clash.other.entry)
            → clash.one.entry < clash.other.entry
        earlier (inl same) = absurd (clash.clashes.differ (ap (λ (n : ℕ). id_of value n) same))
        earlier (inr other) = omega (arith, clash.order)

  merge_placed : (k : ℕ) → k < count → MergesEarlier users groups direction value k → IsSomeAnd found (λ m. m ≤ k)
  merge_placed k below merges =
      stand (places.each merges.earlier (omega (arith, merges.before)) (rw merges.same_tag merges.has_id))
      (places.each k below merges.has_id) where
        one_value : (n a b : ℕ) → Becomes (specs_for users groups (tag_of value k)) direction n (Some a)
            → Becomes (specs_for users groups (tag_of value k)) direction n (Some b) → a ≡ b
        one_value n a b =
            Becomes-one _ direction n a b (Accepted-for users groups (tag_of value k) users_accepted groups_accepted)

        stand : (one : EntryRoom) × Contains placed one × (one.entry ≡ merges.earlier)
            → (other : EntryRoom) × Contains placed other × (other.entry ≡ k) → IsSomeAnd found (λ m. m ≤ k)
        stand (one, listed, is) (other, listed_too, is_too) =
            let first = is_placed one listed in
            let second = is_placed other listed_too in
            let first_id : one.id ≡ merges.both =
            one_value (id_of value merges.earlier) one.id merges.both (rw (is, merges.same_tag) at first.becomes)
            merges.one in
            let second_id : other.id ≡ merges.both =
            one_value (id_of value k) other.id merges.both (rw is_too at second.becomes) merges.other in
            let clashes : Clashes value one other = record {
              tag = first.tag ∙ ap (λ (n : ℕ). tag_of value n) is ∙ merges.same_tag
                  ∙ sym (ap (λ (n : ℕ). tag_of value n) is_too) ∙ sym second.tag;
              id = first_id ∙ sym second_id;
              differ =
                  λ same. merges.differ
                  (sym (ap (λ (n : ℕ). id_of value n) is) ∙ same ∙ ap (λ (n : ℕ). id_of value n) is_too);
            } in
            rw is_too at (clash_found value placed found one other order meets listed listed_too clashes
            (omega (arith, merges.before)))

  pub none_found : IfNone found (NoneMerges users groups direction value count)
  none_found = none found refl where
    none : (o : Option ℕ) → found ≡ o → IfNone o (NoneMerges users groups direction value count)
    none None is = λ k below merges. rw is at (merge_placed k below merges)
    none (Some m) is = tt

  pub first_found : IfSome found (HasClash value placed)
      → IfSome found (IsFirstToMerge users groups direction value count)
  first_found = first found refl where
    first : (o : Option ℕ) → found ≡ o → IfSome o (HasClash value placed)
        → IfSome o (IsFirstToMerge users groups direction value count)
    first None is clash = tt
    first (Some m) is clash =
        let other = is_placed clash.other clash.listed_too in
        let below : m < count = omega (arith, clash.is, other.is_entry) in
        record {
          is_entry = below;
          merges = placed_merge m clash;
          before = λ j earlier merges.
              let least : m ≤ j = rw is at (merge_placed j (omega arith) merges) in omega arith;
        }
