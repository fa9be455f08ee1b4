-- What is left of one specification where bad ids of the guest are cut out of it.
use Rattle.std.proofs.Common.{◌≡◌, ◌⊎◌, ◌↔◌, inl, inr, ℕ, ◌+◌, ◌≤◌, max, List, [], ◌∷◌, ◌++◌, length, get_or, All}
use Rattle.std.proofs.Common.{Contains, Bool, false, IsTrue, Option, Some, None, IsSomeAnd, IfSome, refl, sym, subst}
use Rattle.std.proofs.Common.{arith, rules}
use Rattle.std.proofs.lemmas.Bool.{cases_lt, false≢true}
use Rattle.std.proofs.lemmas.List.{get_or_default}
use Rattle.std.proofs.lemmas.List.Elements.{All-contains, Contains-append_cases, Contains-push_cases}
use Rattle.virtiofs_id_audit.specs.IdAudit.{Has, Hold, AreRuns}
use Rattle.virtiofs_id_audit.specs.Mending.{CoversSome, EndsWith}
use Rattle.virtiofs_id_audit.specs.MendingParts.{AreParts, AreCut, IsRemnant, IsHostHalf, HasNoHostHalf, Listed, Stays}
use Rattle.virtiofs_id_audit.specs.declared.spans.Span.{Span}
use Rattle.virtiofs_map.specs.Build.{Accepted, HasSource, HasTarget}
use Rattle.virtiofs_map.specs.Mapping.{entry_of, first_of, count_of, EntryCovers, Covers, Maps}
use Rattle.virtiofs_map.specs.declared.cmdline.IdMap.{IdMap}
use Rattle.virtiofs_map.specs.declared.soft_idmap.entry.Direction.{Direction}
use Rattle.virtiofs_map.specs.declared.soft_idmap.entry.Direction.TheVariants.{GuestToHost, HostToGuest}
use Rattle.virtiofs_map.specs.declared.soft_idmap.entry.Entry.{Entry}
use Rattle.virtiofs_id_audit.proofs.HeldLemmas.{hold_none}
use Rattle.virtiofs_id_audit.proofs.ApartLemmas.{free_after, held_or_not}
use Rattle.virtiofs_id_audit.proofs.mending.ListedLemmas.{Accepted-append, Accepted-one, KeepApart, Listed-append}
use Rattle.virtiofs_id_audit.proofs.mending.ListedLemmas.{Listed-one}
use Rattle.virtiofs_id_audit.proofs.RoundTripLemmas.{covered_maps}
use Rattle.virtiofs_id_audit.proofs.mending.parts.PartLemmas.{maps_nothing}
use Rattle.virtiofs_map.proofs.ForCallers.{Covers-maps}

pub not_empty : (b : Bool) (count : ℕ) → b ≡ false → (IsTrue b ↔ (count ≡ 0)) → 1 ≤ count
not_empty b count is empty = search (rules, cases_lt, false≢true)

-- the whole has the ids of the guest that the specification covers, and those of met are the bad ones among them
module _ (spec : IdMap) (entry : Entry) (whole : Span) (bad met : List Span) (accepted : Accepted (spec ∷ []))
    (entry_is : entry_of spec GuestToHost ≡ Some entry) (first_is : whole.first ≡ first_of entry)
    (last_is : whole.last + 1 ≡ first_of entry + count_of entry)
    (hold : (id : ℕ) → Has whole id → Hold met id ↔ Hold bad id) where
  covers_within : (n : ℕ) → Covers spec GuestToHost n → Has whole n
  covers_within n covers = search rules

  within_covers : (n : ℕ) → Has whole n → Covers spec GuestToHost n
  within_covers n (low, high) = search rules

  maps_within : (n : ℕ) (value : Option ℕ) → Maps spec GuestToHost n value → Has whole n
  maps_within n value maps = covers_within n (Covers-maps spec GuestToHost n value maps)

  -- ---- nothing is bad

  pub AreCut-unmet : met ≡ [] → AreCut (spec ∷ []) (Hold bad) (spec ∷ [])
  AreCut-unmet none = record { accepted = accepted; same = same } where
    same : (direction : Direction) (n : ℕ) (value : Option ℕ)
        → Listed (spec ∷ []) direction n value ↔ (Listed (spec ∷ []) direction n value × Stays (Hold bad) direction n)
    same GuestToHost n value = (
      (λ listed. (
        listed,
        λ held.
            (let within = maps_within n value ((Listed-one spec GuestToHost n value).0 listed) in
            hold_none n (subst (λ (spans : List Span). Hold spans n) none ((hold n within).1 held))),
      )),
      (λ both. both.0),
    )
    same HostToGuest n value = ((λ listed. (listed, tt)), (λ both. both.0))

  -- ---- something is bad

  -- some id of theirs is of the whole
  pub met_covered : whole.first ≤ whole.last → 1 ≤ length met → AreRuns met
      → All (λ span. (whole.first ≤ span.last) × (span.first ≤ whole.last)) met
      → ¬ ((n : ℕ) → Covers spec GuestToHost n → ¬ Hold bad n)
  met_covered order some runs meet clean =
      let none : Span = record { first = 0; last = 0 } in
      let span : Span = get_or met 0 none in
      let id : ℕ = max whole.first span.first in
      let within : Has whole id = (omega arith, omega arith) in
      let held : Hold met id =
      (span, (0, omega arith, get_or_default met 0 span none (omega arith)), (omega arith, omega arith)) in
      clean id (within_covers id within) ((hold id within).0 held)

  -- what is kept of the whole has those that are not bad
  module _ (kept : List Span) (parts : List IdMap)
      (keeps : (id : ℕ) → Hold kept id ↔ (Has whole id × (¬ Hold met id))) where
    pub kept_inside : AreRuns kept
        → All (λ span. IsSomeAnd (entry_of spec GuestToHost) (λ e. EntryCovers e span.first × EntryCovers e span.last)) kept
    kept_inside runs k d inside =
        let span : Span = get_or kept k d in
        let is : span.first ≤ span.last = runs.some k d inside in
        let at = get_or_default kept k span d inside in
        let low : Has whole span.first = ((keeps span.first).0 (span, (k, inside, at), (omega arith, is))).0 in
        let high : Has whole span.last = ((keeps span.last).0 (span, (k, inside, at), (is, omega arith))).0 in
        subst (λ o. IsSomeAnd o (λ e. EntryCovers e span.first × EntryCovers e span.last)) (sym entry_is)
        ((omega arith, omega arith), (omega arith, omega arith))

    module _ (are : AreParts spec kept parts) where
      -- a part ends where the whole does, or before an id that is bad
      part_ends : AreRuns kept → (part : IdMap) (n : ℕ) → Contains parts part
          → EndsWith part GuestToHost n → EndsWith spec GuestToHost n ⊎ ((¬ Hold bad n) × Hold bad (n + 1))
      part_ends runs part n listed ends =
          let (span, within, covered) = are.each part listed in
          let has : Has span n = (covered n).0 ends.last in
          let (in_whole, not_met) = (keeps n).0 (span, within, has) in
          elim (cases_lt span.last (n + 1)) [
            | inl over ↦ elim (cases_lt whole.last (n + 1)) [
              | inl past ↦ inl (search (rules, within_covers, covers_within))
              | inr under ↦ elim (held_or_not met (n + 1)) [
                | inl is_met ↦ inr (
                  λ is. not_met ((hold n in_whole).1 is),
                  (hold (n + 1) (omega (arith, in_whole, under))).0 is_met,
                )
                | inr not ↦ absurd
                    (let at : n + 1 ≡ span.last + 1 = omega (arith, has) in
                    let held = (keeps (n + 1)).1 (omega (arith, in_whole, under), not) in
                    free_after kept span runs within (rw at at held))
              ]
            ]
            | inr under ↦ absurd (ends.end ((covered (n + 1)).1 (omega arith, under)))
          ]

      pub parts_remnants : AreRuns kept → (part : IdMap) → Contains parts part
          → IsRemnant spec (Hold bad) part
      parts_remnants runs part listed = record {
        some =
            (let (span, within, covered) = are.each part listed in
            let order : span.first ≤ span.last = All-contains (λ s. s.first ≤ s.last) kept span runs.some within in
            inr (GuestToHost, span.first, (covered span.first).1 (omega arith, order)));
        guest = λ n ends. part_ends runs part n listed ends;
        host = λ n ends. absurd
            (let (value, maps) = covered_maps part HostToGuest n ends.last in
            are.host n value (part, listed, maps));
      }

      guest_to : (n : ℕ) (value : Option ℕ) → Listed parts GuestToHost n value
          → Listed (spec ∷ []) GuestToHost n value × (¬ Hold bad n)
      guest_to n value listed =
          let (maps, held) = (are.guest n value).0 listed in
          let (within, not) = (keeps n).0 held in
          ((Listed-one spec GuestToHost n value).1 maps, λ is. not ((hold n within).1 is))

      guest_from : (n : ℕ) (value : Option ℕ) → Listed (spec ∷ []) GuestToHost n value × (¬ Hold bad n)
          → Listed parts GuestToHost n value
      guest_from n value (listed, not) =
          let maps = (Listed-one spec GuestToHost n value).0 listed in
          let within = maps_within n value maps in
          (are.guest n value).1 (maps, (keeps n).1 (within, λ is. not ((hold n within).0 is)))

      -- the specification does not act on ids of the host
      pub AreCut-parts : whole.first ≤ whole.last → HasNoHostHalf spec → AreCut (spec ∷ []) (Hold bad) parts
      AreCut-parts order none = record { accepted = are.accepted; same = same } where
        same : (direction : Direction) (n : ℕ) (value : Option ℕ)
            → Listed parts direction n value ↔ (Listed (spec ∷ []) direction n value × Stays (Hold bad) direction n)
        same GuestToHost n value = (guest_to n value, guest_from n value)
        same HostToGuest n value = (
          (λ listed. absurd (are.host n value listed)),
          (λ both.
              (let maps = (Listed-one spec HostToGuest n value).0 both.0 in
              absurd (none whole.first n (within_covers whole.first (omega arith, order))
              (Covers-maps spec HostToGuest n value maps)))),
        )

      -- it does
      module _ (half : IdMap) (is : IsHostHalf spec half) where
        host_maps : (n : ℕ) (value : Option ℕ) → Maps half HostToGuest n value ↔ Maps spec HostToGuest n value
        host_maps n value = rw is.host ((λ maps. maps), (λ maps. maps))

        accepted_half : Accepted (half ∷ [])
        accepted_half = Accepted-one half sources targets where
          sources : (direction : Direction) → IfSome (entry_of half direction) HasSource
          sources GuestToHost = rw is.guest tt
          sources HostToGuest = rw is.host (accepted.source HostToGuest 0 spec (omega arith))

          targets : (direction : Direction) → IfSome (entry_of half direction) HasTarget
          targets direction = search rules

        apart : KeepApart parts (half ∷ [])
        apart GuestToHost n value other listed more =
            maps_nothing half GuestToHost n other is.guest ((Listed-one half GuestToHost n other).0 more)
        apart HostToGuest n value other listed more = are.host n value listed

        pub AreCut-half : AreCut (spec ∷ []) (Hold bad) (parts ++ half ∷ [])
        AreCut-half = record {
          accepted = Accepted-append parts (half ∷ []) are.accepted accepted_half apart;
          same = same;
        } where
          same : (direction : Direction) (n : ℕ) (value : Option ℕ)
              → Listed (parts ++ half ∷ []) direction n value ↔ (Listed (spec ∷ []) direction n value × Stays (Hold bad) direction n)
          same GuestToHost n value = (
            (λ listed. elim ((Listed-append parts (half ∷ []) GuestToHost n value).0 listed) [
              | inl old ↦ guest_to n value old
              | inr more ↦ search rules
            ]),
            (λ both. (Listed-append parts (half ∷ []) GuestToHost n value).1 (inl (guest_from n value both))),
          )
          same HostToGuest n value = (
            (λ listed. elim ((Listed-append parts (half ∷ []) HostToGuest n value).0 listed) [
              | inl old ↦ absurd (are.host n value old)
              | inr more ↦ search rules
            ]),
            (λ both. (Listed-append parts (half ∷ []) HostToGuest n value).1
                (inr ((Listed-one half HostToGuest n value).1
                ((host_maps n value).1 ((Listed-one spec HostToGuest n value).0 both.0))))),
          )

-- ---- what was added

-- a half has no range of the guest
pub half_remnant : (spec half : IdMap) (bad : ℕ → Type 0) → IsHostHalf spec half → CoversSome half
    → IsRemnant spec bad half
half_remnant spec half bad is some = search rules

-- it has as many numbers as the range of the guest
pub half_covers : (spec half : IdMap) (entry : Entry) → IsHostHalf spec half → entry_of spec GuestToHost ≡ Some entry
    → 1 ≤ count_of entry → CoversSome half
half_covers spec half entry is entry_is some =
    by (entry_of half HostToGuest) refl
    (subst (λ o. IsSomeAnd o (λ e. IsSomeAnd (entry_of half HostToGuest) (λ other. count_of other ≡ count_of e)))
    entry_is is.count) where
      by : (o : Option Entry) → entry_of half HostToGuest ≡ o
          → IsSomeAnd o (λ other. count_of other ≡ count_of entry) → CoversSome half
      by None at count = absurd count
      by (Some other) at count = (
        HostToGuest,
        first_of other,
        subst (λ o. IsSomeAnd o (λ e. EntryCovers e (first_of other))) (sym at) (omega arith, omega arith),
      )

pub with_half : (spec half : IdMap) (bad : ℕ → Type 0) (parts : List IdMap)
    → ((part : IdMap) → Contains parts part → IsRemnant spec bad part) → IsHostHalf spec half → CoversSome half
    → (remnant : IdMap) → Contains (parts ++ half ∷ []) remnant → IsRemnant spec bad remnant
with_half spec half bad parts each is some remnant listed =
    elim (Contains-push_cases parts half remnant listed) [
      | inl before ↦ each remnant before
      | inr same ↦ rw (← same) (half_remnant spec half bad is some)
    ]

pub added_remnants : (spec : IdMap) (bad : ℕ → Type 0) (old added new : List IdMap) → new ≡ old ++ added
    → ((remnant : IdMap) → Contains added remnant → IsRemnant spec bad remnant) → (remnant : IdMap)
    → Contains new remnant → Contains old remnant ⊎ IsRemnant spec bad remnant
added_remnants spec bad old added new new_is each remnant listed =
    elim (Contains-append_cases old added remnant (rw new_is at listed)) [
      | inl before ↦ inl before
      | inr after ↦ inr (each remnant after)
    ]
