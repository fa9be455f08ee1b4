-- What ids of the guest come back as.
use Rattle.std.proofs.Common.{◌≡◌, ◌⊎◌, inl, inr, ℕ, ◌+◌, ◌-◌, ◌<◌, ◌≤◌, true, false, List, [], ◌∷◌, Contains, Option}
use Rattle.std.proofs.Common.{Some, None, IsSomeAnd, refl, sym, ap, ◌∙◌, arith, rules}
use Rattle.std.proofs.lemmas.Bool.{cases_eq, cases_lt}
use Rattle.std.proofs.lemmas.List.Elements.{All-cons, All-contains, All-nil, Contains-append_right}
use Rattle.std.proofs.lemmas.List.Elements.{Contains-append_cases}
use Rattle.std.proofs.lemmas.Option.{same_Some}
use Rattle.virtiofs_id_audit.specs.IdAudit.{ComesBack, IsAstray}
use Rattle.virtiofs_id_audit.specs.IdAuditParts.{ComesBackAs, ReturnsBy, IsMoved}
use Rattle.virtiofs_map.specs.Build.{Accepted}
use Rattle.virtiofs_map.specs.Mapping.{entry_of, EntryCovers, target_of, Covers, Maps, Becomes}
use Rattle.virtiofs_map.specs.MappingLaws.{LeadsBack}
use Rattle.virtiofs_map.specs.Pieces.{IsMade, IsStretch, is_one_to_one, value_in, IsNamed}
use Rattle.virtiofs_map.specs.declared.cmdline.IdMap.{IdMap}
use Rattle.virtiofs_map.specs.declared.soft_idmap.entry.Direction.{Direction}
use Rattle.virtiofs_map.specs.declared.soft_idmap.entry.Direction.TheVariants.{GuestToHost, HostToGuest}
use Rattle.virtiofs_map.specs.declared.soft_idmap.entry.Entry.{Entry}
use Rattle.virtiofs_map.specs.declared.soft_idmap.piece.Piece.{Piece}
use Rattle.virtiofs_id_audit.proofs.PieceLemmas.{value-each, value-not_each, value-forbidden}
use Rattle.virtiofs_map.proofs.ForCallers.{Becomes-forbidden, Becomes-one, lookup_one_value}

-- ---- every number becomes something

pub covered_maps : (spec : IdMap) (direction : Direction) (n : ℕ) → Covers spec direction n
    → (value : Option ℕ) × Maps spec direction n value
covered_maps spec direction n covers = by (entry_of spec direction) covers where
  by : (o : Option Entry) → IsSomeAnd o (λ entry. EntryCovers entry n)
      → (value : Option ℕ) × IsSomeAnd o (λ entry. EntryCovers entry n × (target_of entry n ≡ value))
  by None covers = absurd covers
  by (Some entry) covers = (target_of entry n, (covers, refl))

pub only : (spec other : IdMap) → Contains (spec ∷ []) other → other ≡ spec
only spec other listed = search (rules, All-contains, All-cons, All-nil)

covers_or_not : (spec : IdMap) (direction : Direction) (n : ℕ) → Covers spec direction n ⊎ (¬ Covers spec direction n)
covers_or_not spec direction n = by (entry_of spec direction) where
  by : (o : Option Entry)
      → IsSomeAnd o (λ entry. EntryCovers entry n) ⊎ (¬ IsSomeAnd o (λ entry. EntryCovers entry n))
  by None = inr (λ covers. covers)
  by (Some entry) = search (rules, cases_lt)

one_covers_or_none : (specs : List IdMap) (direction : Direction) (n : ℕ)
    → ((spec : IdMap) × Contains specs spec × Covers spec direction n)
    ⊎ ((spec : IdMap) → Contains specs spec → ¬ Covers spec direction n)
one_covers_or_none [] direction n = inr (λ spec (k, inside, here). absurd (omega arith))
one_covers_or_none (spec ∷ specs) direction n =
    elim (covers_or_not spec direction n) [
      | inl covers ↦ inl (spec, (0, omega arith, refl), covers)
      | inr not ↦ elim (one_covers_or_none specs direction n) [
        | inl (other, listed, covers) ↦
            inl (other, Contains-append_right (spec ∷ []) specs other listed, covers)
        | inr none ↦ search (rules, Contains-append_cases, only)
      ]
    ]

becomes_some : (specs : List IdMap) (direction : Direction) (n : ℕ) → (value : Option ℕ) × Becomes specs direction n value
becomes_some specs direction n =
    elim (one_covers_or_none specs direction n) [
      | inl (spec, listed, covers) ↦ search (rules, covered_maps)
      | inr none ↦ (Some n, inr (none, refl))
    ]

-- so what cannot but lead back does
pub LeadsBack-stable : (specs : List IdMap) (guest host : ℕ) → Accepted specs
    → ¬ (¬ LeadsBack specs GuestToHost guest host) → LeadsBack specs GuestToHost guest host
LeadsBack-stable specs guest host accepted not =
    let (value, becomes) = becomes_some specs HostToGuest host in
    by value becomes where
      by : (value : Option ℕ) → Becomes specs HostToGuest host value → LeadsBack specs GuestToHost guest host
      by None becomes = search (rules, Becomes-forbidden)
      by (Some back) becomes =
          elim (cases_eq back guest) [
            | inl same ↦ rw same at becomes
            | inr differ ↦ search (rules, Becomes-one)
          ]

-- ---- ids of the host

-- an entry that covers the number and fails it
abbrev IsForbidding : Option Entry → ℕ → Type 0
IsForbidding o n = IsSomeAnd o (λ entry. EntryCovers entry n × (target_of entry n ≡ None))

-- no specification forbids an id of the host
maps_to_some : (spec : IdMap) (n : ℕ) → ¬ IsForbidding (entry_of spec HostToGuest) n
maps_to_some spec n maps = grind arith

pub never_forbidden : (specs : List IdMap) (n : ℕ) → ¬ Becomes specs HostToGuest n None
never_forbidden specs n e = grind (arith, maps_to_some)

-- ---- there and back

pub ReturnsBy-forbidden : (specs : List IdMap) (there : Piece) → IsStretch specs GuestToHost there
    → None ≡ value_in there there.first → ReturnsBy specs there
ReturnsBy-forbidden specs there stretch none n from to = search (rules, value-forbidden)

-- the host's piece goes on as far as the guest's does, or ends first
returned : (specs : List IdMap) (there back : Piece) (n host : ℕ) (value : Option ℕ) → IsStretch specs GuestToHost there
    → IsStretch specs HostToGuest back → there.first ≤ n → n ≤ there.last → value_in there n ≡ Some host
    → back.first ≤ host → host ≤ back.last → value ≡ value_in back host → ComesBackAs specs n value
returned specs there back n host value stretch back_stretch from to becomes low high is = search rules

-- all numbers become one
pub ReturnsBy-all : (specs : List IdMap) (there back trip : Piece) (n host to : ℕ) → IsStretch specs GuestToHost there
    → IsStretch specs HostToGuest back → there.first ≡ n → back.first ≡ host → is_one_to_one there.becomes ≡ false
    → Some host ≡ value_in there there.first → Some to ≡ value_in back back.first
    → IsMade n there.last (λ k. Some to) trip → ReturnsBy specs trip
ReturnsBy-all specs there back trip n host to stretch back_stretch first back_first all start back_start made k from
    within =
    let low : n ≤ k = omega (arith, made.first_is) in
    let high : k ≤ there.last = omega (arith, made.last_is) in
    let (two, value) = value-not_each there host all start stretch.named in
    returned specs there back k host (value_in trip k) stretch back_stretch (omega arith) high (value k) (omega arith)
    (omega arith) (made.value k low high ∙ back_start ∙ ap (λ (h : ℕ). value_in back h) back_first)

-- they become numbers one after the other
pub ReturnsBy-each : (specs : List IdMap) (there back trip : Piece) (n host last : ℕ) (value : ℕ → Option ℕ)
    → IsStretch specs GuestToHost there → IsStretch specs HostToGuest back → there.first ≡ n → back.first ≡ host
    → is_one_to_one there.becomes ≡ true → Some host ≡ value_in there there.first
    → last ≤ there.last → host + (last - n) ≤ back.last
    → ((k : ℕ) → n ≤ k → k ≤ last → value k ≡ value_in back (host + (k - n))) → IsMade n last value trip
    → ReturnsBy specs trip
ReturnsBy-each specs there back trip n host last value stretch back_stretch first back_first each start within
    back_within is made k from to =
    let low : n ≤ k = omega (arith, made.first_is) in
    let high : k ≤ last = omega (arith, made.last_is) in
    let becomes : value_in there k ≡ Some (host + (k - there.first)) =
    value-each there host k each start (omega arith) in
    let becomes' : value_in there k ≡ Some (host + (k - n)) = becomes ∙ ap (λ (i : ℕ). Some (host + (k - i))) first in
    returned specs there back k (host + (k - n)) (value_in trip k) stretch back_stretch (omega arith) (omega arith)
    becomes' (omega arith) (omega arith) (made.value k low high ∙ is k low high)

-- what the piece of the host says of an id above its first one
pub back-each : (back : Piece) (to host d : ℕ) → back.first ≡ host → is_one_to_one back.becomes ≡ true
    → Some to ≡ value_in back back.first → Some (to + d) ≡ value_in back (host + d)
back-each back to host d first each start = search (rules, value-each)

pub back-all : (back : Piece) (to host d : ℕ) → is_one_to_one back.becomes ≡ false
    → IsNamed back.becomes back.first back.last → Some to ≡ value_in back back.first
    → Some to ≡ value_in back (host + d)
back-all back to host d all named start = sym ((value-not_each back to all start named).1 (host + d))

-- ---- ids that do not come back

module _ (specs : List IdMap) (trip : Piece) (n : ℕ) (accepted : Accepted specs)
    (returns : ComesBackAs specs n (value_in trip n)) where
  pub astray-IsMoved : IsAstray specs n → IsMoved trip n
  astray-IsMoved astray = moved (value_in trip n) refl returns where
    moved : (value : Option ℕ) → value_in trip n ≡ value → ComesBackAs specs n (value_in trip n) → IsMoved trip n
    moved value is (inl (forbidden, none)) =
        let both : Some astray.host ≡ None =
        lookup_one_value specs accepted GuestToHost n _ _ astray.goes.becomes forbidden in
        absurd (cc)
    moved None is (inr (host, goes, back)) = absurd (never_forbidden specs host (rw is at back))
    moved (Some value) is (inr (host, goes, back)) = (
      value,
      is,
      λ same.
          (let one : host ≡ astray.host =
          same_Some _ _ (lookup_one_value specs accepted GuestToHost n _ _ goes astray.goes.becomes) in
          astray.not_back (rw (is, same, one) at back)),
    )

  pub IsMoved-astray : n < 4294967295 → IsMoved trip n → IsAstray specs n
  IsMoved-astray is_id (value, becomes, moved) =
      elim returns [
        | inl (forbidden, none) ↦ absurd (cc)
        | inr (host, goes, back) ↦ record {
          host = host;
          goes = record { is_id = is_id; becomes = goes };
          not_back = λ leads.
              moved (same_Some _ _ (lookup_one_value specs accepted HostToGuest host _ _ (rw becomes at back) leads));
        }
      ]

pub ComesBack-all : (specs : List IdMap) → Accepted specs → ((n : ℕ) → ¬ IsAstray specs n) → ComesBack specs
ComesBack-all specs accepted none guest host goes =
    LeadsBack-stable specs guest host accepted
    (λ not. none guest (record { host = host; goes = goes; not_back = not }))
