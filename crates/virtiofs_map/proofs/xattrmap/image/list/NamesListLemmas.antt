-- The list that is written name by name.
use Rattle.std.proofs.Common.{◌≡◌, ◌≢◌, ℕ, ◌+◌, ◌<◌, ◌≤◌, true, if◌then◌else◌, List, [], ◌∷◌, ◌++◌, length, drop, Some}
use Rattle.std.proofs.Common.{None, sym, ap, ◌∙◌, arith, append-nil, length-append, Bor}
use Rattle.std.proofs.lemmas.List.{nil_from_length}
use Rattle.virtiofs_map.specs.Listing.{listing}
use Rattle.virtiofs_map.specs.Names.{as_list, server_answer}
use Rattle.virtiofs_map.specs.NamesImageParts.{Holds, IsFirstSeen}
use Rattle.virtiofs_map.specs.declared.xattrmap.listed.Seen.TheVariants.{Undecided, Hidden, Listed}
use Rattle.virtiofs_map.specs.Rule.{MappingRule}
use Rattle.virtiofs_map.proofs.xattrmap.ListingLemmas.{IsSoFar, IsSoFar-first, IsSoFar-name, Item, all_ok, names_of}
use Rattle.virtiofs_map.proofs.xattrmap.ListingLemmas.{zeros_of, list_of-listing, listing_seen}
use Rattle.virtiofs_map.proofs.ServerListLemmas.{with_zeros}

-- any type serves for the allocator that errors name
abbrev Items : List MappingRule → List ℕ → List (Item ℕ)
Items rules list = listing {A = ℕ} rules list

-- so many bytes were listed, and are held as far as there is room; with the names of the rest they are the whole list
pub record IsListedSoFar (rules : List MappingRule) (list rest : List ℕ) (count : ℕ) (old new : List ℕ) : Type 0 where
  pub so_far : List ℕ
  pub counted : count ≡ length so_far
  pub holds : Holds so_far old new
  pub left : IsSoFar {A = ℕ} rules list so_far (Items rules rest)

pub listed_first : (rules : List MappingRule) (list old : List ℕ) → IsListedSoFar rules list list 0 old old
listed_first rules list old = grind (arith, IsSoFar-first)

module _ (rules : List MappingRule) (list rest left : List ℕ) (count : ℕ) (old new : List ℕ)
    (so_far : IsListedSoFar rules list rest count old new) where
  -- nothing is seen
  pub listed_hidden : IsFirstSeen rules rest Hidden left → IsListedSoFar rules list left count old new
  listed_hidden first = grind (arith, listing_seen)

  -- a name that is listed, and was written with a zero behind what stood there
  pub listed_shown : (shown : Bor (List ℕ)) (next : ℕ) (after : List ℕ) → IsFirstSeen rules rest (Listed shown) left
      → next ≡ count + length shown.now + 1
      → ((so_far first : List ℕ) → Holds so_far first new → count ≡ length so_far
      → Holds (so_far ++ shown.now ++ 0 ∷ []) first after)
      → IsListedSoFar rules list left next old after
  listed_shown shown next after first behind put = grind (arith, length-append, IsSoFar-name, listing_seen)

  -- a name that no rule decides leaves no list
  pub listed_undecided : IsFirstSeen rules rest Undecided left → server_answer rules list ≡ None
  listed_undecided first = grind (arith, listing_seen, all_ok, list_of-listing, names_of)

-- ---- the end

-- the whole list has so many bytes, and is held as far as there is room
pub record IsWhole (rules : List MappingRule) (list : List ℕ) (count : ℕ) (old new : List ℕ) : Type 0 where
  pub answer : List ℕ
  pub is : server_answer rules list ≡ Some answer
  pub counted : count ≡ length answer
  pub holds : Holds answer old new

zeros_as_list : (parts : List (List ℕ)) → with_zeros parts ≢ [] → as_list parts ≡ with_zeros parts
zeros_as_list parts some = grind arith

none_as_list : (parts : List (List ℕ)) → length (with_zeros parts) ≡ 0 → as_list parts ≡ 0 ∷ []
none_as_list parts none = grind (arith, length-append, with_zeros)

module _ (rules : List MappingRule) (list rest : List ℕ) (count : ℕ) (old new : List ℕ)
    (so_far : IsListedSoFar rules list rest count old new) (none_left : length rest ≡ 0) where
  past : rest ≡ []
  past = nil_from_length rest none_left

  abbrev all_names : List (List ℕ)
  all_names = names_of (Items rules list)

  answer_is : server_answer rules list ≡ Some (as_list all_names)
  answer_is =
      let whole : all_ok (Items rules list) ≡ true = sym so_far.left.ok ∙ ap (λ r. all_ok (Items rules r)) past in
      sym (list_of-listing ℕ rules list) ∙ ap (λ b. if b then Some (as_list all_names) else None) whole

  all_is : so_far.so_far ≡ with_zeros all_names
  all_is = sym (append-nil so_far.so_far) ∙ ap (λ r. so_far.so_far ++ zeros_of (Items rules r)) (sym past)
      ∙ so_far.left.zeros

  -- some names were listed
  pub listed_all : count ≢ 0 → IsWhole rules list count old new
  listed_all some = grind (arith, with_zeros, all_is, zeros_as_list, answer_is)

  -- none was
  pub listed_no_name : (next : ℕ) (after : List ℕ) → count ≡ 0 → next ≡ 1
      → ((so_far first : List ℕ) → Holds so_far first new → 0 ≡ length so_far
      → Holds (so_far ++ [] ++ 0 ∷ []) first after)
      → IsWhole rules list next old after
  listed_no_name next after none behind put =
      grind (arith, with_zeros, all_is, none_as_list, nil_from_length, answer_is)

module _ (rules : List MappingRule) (list old new : List ℕ) (count : ℕ) (whole : IsWhole rules list count old new) where
  -- it stands at the front, where there is room
  pub whole_fits : count ≤ length new
      → (answer : List ℕ) × (server_answer rules list ≡ Some answer) × (count ≡ length answer)
      × (new ≡ answer ++ drop count old)
  whole_fits room = grind arith

  -- else its length is told
  pub whole_too_long : length new < count
      → (answer : List ℕ) × (server_answer rules list ≡ Some answer) × (count ≡ length answer) × (length old < count)
  whole_too_long long = (whole.answer, whole.is, whole.counted, omega (arith, whole.holds.same))
