-- What a specification does to the ids of the guest in some spans, a part for each.
use Rattle.std.proofs.Common.{◌≡◌, inl, inr, ℕ, ◌+◌, ◌<◌, List, [], ◌∷◌, ◌++◌, length, take, get_or, Option, None}
use Rattle.std.proofs.Common.{IsSomeAnd, IfSome, sym, ap, ◌∙◌, arith, rules}
use Rattle.std.proofs.lemmas.List.{append_assoc, length-append, get_or_default, get_or-take, length-take, take_more}
use Rattle.std.proofs.lemmas.List.Elements.{Contains-append_left, Contains-push, Contains-push_cases}
use Rattle.virtiofs_id_audit.specs.IdAudit.{Has, Hold, AreRuns}
use Rattle.virtiofs_id_audit.specs.MendingParts.{IsPart, AreParts, Listed}
use Rattle.virtiofs_id_audit.specs.declared.spans.Span.{Span}
use Rattle.virtiofs_map.specs.Build.{HasSource, Accepted}
use Rattle.virtiofs_map.specs.Mapping.{entry_of, EntryCovers, Covers, Maps}
use Rattle.virtiofs_map.specs.declared.cmdline.IdMap.{IdMap}
use Rattle.virtiofs_map.specs.declared.soft_idmap.entry.Direction.{Direction}
use Rattle.virtiofs_map.specs.declared.soft_idmap.entry.Direction.TheVariants.{GuestToHost, HostToGuest}
use Rattle.virtiofs_id_audit.proofs.HeldLemmas.{hold_push, push_hold}
use Rattle.virtiofs_id_audit.proofs.mending.ListedLemmas.{Accepted-append, Accepted-one, KeepApart, Listed-append}
use Rattle.virtiofs_id_audit.proofs.mending.ListedLemmas.{Listed-one}
use Rattle.virtiofs_id_audit.proofs.RoundTripLemmas.{covered_maps}
use Rattle.virtiofs_map.proofs.ForCallers.{Covers-maps}

-- a specification that does not act in a direction maps nothing there
pub maps_nothing : (spec : IdMap) (direction : Direction) (n : ℕ) (value : Option ℕ) → entry_of spec direction ≡ None
    → ¬ Maps spec direction n value
maps_nothing spec direction n value none maps = search rules

Accepted-part : (spec part : IdMap) (span : Span) → IfSome (entry_of spec GuestToHost) HasSource → IsPart spec span part
    → Accepted (part ∷ [])
Accepted-part spec part span source is = search (rules, Accepted-one)

-- the specification covers the ends of the span
abbrev pub CoversAll : IdMap → Span → Type 0
CoversAll spec span =
    IsSomeAnd (entry_of spec GuestToHost) (λ entry. EntryCovers entry span.first × EntryCovers entry span.last)

-- so it covers what is between them
covers_between : (spec : IdMap) (span : Span) (n : ℕ) → CoversAll spec span → Has span n → Covers spec GuestToHost n
covers_between spec span n covers has = search rules

-- a span more that has none of the ids so far
module _ (spec part : IdMap) (spans : List Span) (span : Span) (parts : List IdMap)
    (source : IfSome (entry_of spec GuestToHost) HasSource) (covers : CoversAll spec span)
    (so_far : AreParts spec spans parts) (is : IsPart spec span part) (apart : (n : ℕ) → Has span n → ¬ Hold spans n) where
  keep_apart : KeepApart parts (part ∷ [])
  keep_apart GuestToHost n value other old new =
      apart n ((is.guest n other).0 ((Listed-one part GuestToHost n other).0 new)).1 ((so_far.guest n value).0 old).1
  keep_apart HostToGuest n value other old new = so_far.host n value old

  to : (n : ℕ) (value : Option ℕ) → Listed (parts ++ part ∷ []) GuestToHost n value
      → Maps spec GuestToHost n value × Hold (spans ++ span ∷ []) n
  to n value listed =
      elim ((Listed-append parts (part ∷ []) GuestToHost n value).0 listed) [
        | inl old ↦ (let (maps, held) = (so_far.guest n value).0 old in (maps, push_hold spans span n (inl held)))
        | inr new ↦
            (let (maps, has) = (is.guest n value).0 ((Listed-one part GuestToHost n value).0 new) in
            (maps, push_hold spans span n (inr has)))
      ]

  from : (n : ℕ) (value : Option ℕ) → Maps spec GuestToHost n value × Hold (spans ++ span ∷ []) n
      → Listed (parts ++ part ∷ []) GuestToHost n value
  from n value (maps, held) =
      (Listed-append parts (part ∷ []) GuestToHost n value).1 (elim (hold_push spans span n held) [
        | inl before ↦ inl ((so_far.guest n value).1 (maps, before))
        | inr has ↦ inr ((Listed-one part GuestToHost n value).1 ((is.guest n value).1 (maps, has)))
      ])

  pub AreParts-more : AreParts spec (spans ++ span ∷ []) (parts ++ part ∷ [])
  AreParts-more = record {
    count = omega (arith, length-append parts (part ∷ []), length-append spans (span ∷ []), so_far.count);
    accepted = search (rules, Accepted-append, Accepted-part, keep_apart);
    guest = λ n value. (to n value, from n value);
    host = λ n value listed. elim ((Listed-append parts (part ∷ []) HostToGuest n value).0 listed) [
      | inl old ↦ so_far.host n value old
      | inr new ↦ maps_nothing part HostToGuest n value is.host ((Listed-one part HostToGuest n value).0 new)
    ];
    each = λ other listed. elim (Contains-push_cases parts part other listed) [
      | inl before ↦
          (let (found, within, covered) = so_far.each other before in
          (found, Contains-append_left spans (span ∷ []) found within, covered))
      | inr same ↦ (span, Contains-push spans span, λ n. rw (← same) (has_of n, covers_of n))
    ];
  } where
    has_of : (n : ℕ) → Covers part GuestToHost n → Has span n
    has_of n covered = search (rules, covered_maps)

    covers_of : (n : ℕ) → Has span n → Covers part GuestToHost n
    covers_of n has =
        let (value, maps) = covered_maps spec GuestToHost n (covers_between spec span n covers has) in
        Covers-maps part GuestToHost n value ((is.guest n value).1 (maps, has))

-- no earlier span has an id of a later one
earlier_free : (spans : List Span) (i : ℕ) (d : Span) (n : ℕ) → AreRuns spans → i < length spans
    → Has (get_or spans i d) n → ¬ Hold (take i spans) n
earlier_free spans i d n are inside has (span, (k, within, here), has') =
    let count = length-take i spans in
    let before : k < i = omega (arith, count, within) in
    let same : get_or spans k span ≡ span = sym (get_or-take i spans k span before) ∙ here in
    let apart : (get_or spans k span).last < (get_or spans i span).first = omega (arith, are.gaps k i span before inside) in
    let apart' : span.last < (get_or spans i d).first = rw (same, get_or_default spans i span d inside) at apart in
    omega (arith, has, has')

-- what a list has after another one are the parts so far
abbrev pub PartsSoFar : IdMap → List Span → ℕ → List IdMap → List IdMap → Type 0
PartsSoFar spec spans i before out =
    (parts : List IdMap) × (out ≡ before ++ parts) × AreParts spec (take i spans) parts

pub PartsSoFar-more : (spec part : IdMap) (spans : List Span) (i : ℕ) (d : Span) (before out new : List IdMap)
    → AreRuns spans → i < length spans → IfSome (entry_of spec GuestToHost) HasSource
    → CoversAll spec (get_or spans i d) → IsPart spec (get_or spans i d) part → PartsSoFar spec spans i before out → new ≡ out ++ part ∷ []
    → PartsSoFar spec spans (i + 1) before new
PartsSoFar-more spec part spans i d before out new are inside source covers is (parts, out_is, so_far) new_is = (
  parts ++ part ∷ [],
  new_is ∙ ap (λ (xs : List IdMap). xs ++ part ∷ []) out_is ∙ append_assoc before parts (part ∷ []),
  rw (take_more spans i d inside)
      (AreParts-more spec part (take i spans) (get_or spans i d) parts source covers so_far is
      (λ n has. earlier_free spans i d n are inside has)),
)
