-- Where something is told of texts that are refused.
use Rattle.std.proofs.Common.{◌≡◌, ◌≢◌, ◌⊎◌, ◌↔◌, inl, inr, ℕ, ◌+◌, List, [], ◌∷◌, ◌++◌, Option, Some, None, refl, sym, arith, rules}
use Rattle.std.proofs.Common.{Bool, ◌∙◌, append_assoc, subst}
use Rattle.std.proofs.lemmas.List.Elements.{Contains-get_or}
use Rattle.std.proofs.lemmas.Option.{none-some, same_Some, slice_get_within, slice_get-get_or}
use Rattle.std.specs.Prelude.{IsSomeAnd, slice_get, Contains}
use Rattle.virtiofs_map.specs.NamespaceText.{NamespaceFault, HasNamespaceFault}
use Rattle.std.specs.Borrow.{Bor}
use Rattle.std.specs.List.{AllZip}
use Rattle.std.specs.Str.{chars}
use Rattle.virtiofs_map.proofs.ForCallers.{texts_no_fault, rules_no_fault}
use Rattle.virtiofs_findings.proofs.SetUpLemmas.{ranges_right}
use Rattle.virtiofs_findings.specs.Guests.{HasNoRange, RefusesSpecs, RefusesRanges, ReadsIds, ReadsNames, SetsUp, IsRefused, is_by_another, specs_of, written_of}
use Rattle.virtiofs_findings.specs.Refusals.{TellsNoRange, TellsRanges, TellsSpecs, TellsIds, TellsNames, TellsGuest}
use Rattle.virtiofs_findings.specs.Refusals.{TellsGuests, IsSomeRefused}
use Rattle.virtiofs_findings.specs.declared.ids.kind.IdKind.{IdKind}
use Rattle.virtiofs_findings.specs.declared.refusal.Refusal.{Refusal}
use Rattle.virtiofs_findings.specs.declared.setup.IdSetUp.{IdSetUp}
use Rattle.virtiofs_findings.specs.declared.setup.NamesSetUp.{NamesSetUp}
use Rattle.virtiofs_findings.specs.declared.setup.SetUp.{SetUp}
use Rattle.virtiofs_findings.specs.declared.guest.Guest.{Guest}

-- ---- lists

one_some : {T : Type 0} (x : T) (xs : List T) → xs ≡ x ∷ [] → xs ≢ []
one_some x xs is none = cc

-- where one of two lists has something
both_some : {T : Type 0} (P Q : Type 0) (xs ys both : List T) → both ≡ xs ++ ys → ((xs ≢ []) ↔ P) → ((ys ≢ []) ↔ Q)
    → (both ≢ []) ↔ (P ⊎ Q)
both_some P Q [] ys both is p q = grind arith
both_some P Q (x ∷ xs) ys both is p q = ((λ some. inl (p.0 (λ none. cc))), (λ one none. (cc)))

-- ---- texts

-- the text at a place that says no range
no_range_at : (texts : List (List ℕ)) (place : ℕ)
    → IsSomeAnd (slice_get texts place) (λ text. (fault : NamespaceFault) × HasNamespaceFault text fault)
    → HasNoRange texts
no_range_at texts place here = at (slice_get texts place) refl here where
  at : (found : Option (List ℕ)) → slice_get texts place ≡ found
      → IsSomeAnd found (λ text. (fault : NamespaceFault) × HasNamespaceFault text fault) → HasNoRange texts
  at None is none = absurd none
  at (Some text) is (fault, wrong) =
      let below = slice_get_within texts place text is in
      let same = same_Some _ _ (sym is ∙ slice_get-get_or texts place text below) in
      (text, fault, subst (Contains texts) (sym same) (Contains-get_or texts place text below), wrong)

no_range_told : {A : Type 0} (number : ℕ) (kind : IdKind) (texts : List (List ℕ)) (told : List (Refusal A))
    → TellsNoRange number kind texts told → (told ≢ []) ↔ HasNoRange texts
no_range_told number kind texts told it = grind (arith, no_range_at, one_some)

specs_told : {A : Type 0} (number : ℕ) (kind : IdKind) (texts : List (List ℕ)) (told : List (Refusal A))
    → TellsSpecs number kind texts told → (told ≢ []) ↔ RefusesSpecs texts
specs_told number kind texts told it = grind (arith, one_some)

ranges_told : {A : Type 0} (number : ℕ) (kind : IdKind) (by_another : Bool) (texts : List (List ℕ))
    (told : List (Refusal A)) → TellsRanges number kind by_another texts told
    → (told ≢ []) ↔ RefusesRanges by_another texts
ranges_told number kind by_another texts told (inl (knows, tells)) =
    let same = no_range_told number kind texts told tells in
    ((λ some. inl (same.0 some)), (λ wrong. elim wrong [ inl none ↦ same.1 none | inr unknown ↦ absurd (knows unknown) ]))
ranges_told number kind by_another texts told (inr (unknown, (why, alone))) = grind arith

-- ---- what is set up

ids_none : {A : Type 0} (kind : IdKind) (guest : Guest A) (set : Option (IdSetUp A)) → ReadsIds kind guest set
    → (RefusesSpecs (specs_of kind guest) ⊎ RefusesRanges (is_by_another guest) (written_of kind guest)) ↔ (set ≡ None)
ids_none kind guest (Some set) (say, accepted, reads, runs) = (
  (λ wrong. elim wrong [
    | inl (fault, has) ↦ absurd (texts_no_fault _ set.map fault say accepted has)
    | inr (inl none) ↦ absurd (ranges_right _ set.written.items reads.0 none)
    | inr (inr unknown) ↦ absurd (reads.1 unknown)
  ]),
  (λ none. absurd (none-some set (sym none))),
)
ids_none kind guest None refused = ((λ wrong. refl), (λ none. refused))

ids_told : {A : Type 0} (number : ℕ) (kind : IdKind) (guest : Guest A) (set : Option (IdSetUp A))
    (told : List (Refusal A)) → ReadsIds kind guest set → TellsIds number kind guest told → (told ≢ []) ↔ (set ≡ None)
ids_told number kind guest set told reads tells =
    let none = ids_none kind guest set reads in
    let both = both_some _ _ tells.of_specs tells.of_ranges told tells.whole
    (specs_told number _ _ tells.of_specs tells.tells_specs) (ranges_told number _ _ _ tells.of_ranges tells.tells_ranges) in
    ((λ some. none.0 (both.0 some)), (λ is. both.1 (none.1 is)))

names_told : {A : Type 0} (number : ℕ) (rules : Option (Bor (List ℕ))) (set : Option (NamesSetUp A))
    (told : List (Refusal A)) → ReadsNames rules set → TellsNames number rules told
    → (told ≢ []) ↔ ((rules ≢ None) × (set ≡ None))
names_told number None set told reads none = ((λ some. absurd (some none)), (λ is. absurd (is.0 refl)))
names_told number (Some text) (Some set) told reads (inl (right, none)) = grind arith
names_told number (Some text) (Some set) told reads (inr tells) =
    absurd (rules_no_fault (chars text.now) set.map tells.fault reads.0 tells.has)
names_told number (Some text) None told reads other = grind arith

guest_told : {A : Type 0} (number : ℕ) (guest : Guest A) (set : SetUp A) (told : List (Refusal A)) → SetsUp guest set
    → TellsGuest number guest told → (told ≢ []) ↔ IsRefused guest set
guest_told number guest set told sets_up tells =
    both_some _ _ tells.of_users (tells.of_groups ++ tells.of_names) told
    (tells.whole ∙ append_assoc tells.of_users tells.of_groups tells.of_names)
    (ids_told number _ _ set.users tells.of_users sets_up.users tells.users) (both_some _ _ _ _ _ refl
    (ids_told number _ _ set.groups tells.of_groups sets_up.groups tells.groups)
    (names_told number _ set.names tells.of_names sets_up.names tells.names))

-- something is told of guests exactly where a text of one is refused
pub told_where_refused : {A : Type 0} (number : ℕ) (guests : List (Guest A)) (sets : List (SetUp A))
    (told : List (Refusal A)) → AllZip SetsUp guests sets → TellsGuests number guests told
    → (told ≢ []) ↔ IsSomeRefused guests sets
told_where_refused number [] sets told all none = ((λ some. absurd (some none)), (λ some. absurd some))
told_where_refused number (guest ∷ guests) [] told all tells = absurd all
told_where_refused number (guest ∷ guests) (set ∷ sets) told (sets_up, all) (first, rest, tells, tells_rest, whole) =
    search (rules, told_where_refused (number + 1) guests sets rest all tells_rest, both_some, guest_told)
