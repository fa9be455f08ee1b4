-- What is wrong with ranges of a namespace.
use Rattle.std.proofs.Common.{◌++◌, append-nil, slice_get, inl, inr, sym, ◌∙◌, ap, subst, arith}
use Rattle.std.proofs.Common.{◌≡◌, ◌≢◌, ℕ, ◌+◌, ◌<◌, ◌≤◌, List, length, take, get_or, Option, Some, None, MatchOption}
use Rattle.std.proofs.lemmas.Bool.{cases_lt}
use Rattle.std.proofs.lemmas.Grind.{flat_map-append, common_steps}
use Rattle.std.proofs.lemmas.List.{take_more}
use Rattle.std.proofs.lemmas.Option.{slice_get_past, slice_get-get_or, none-some, same_Some}
use Rattle.virtiofs_map.specs.declared.idmap.UidMap.{UidMap}
use Rattle.virtiofs_host.specs.declared.runner.Bounds.{Bounds}
use Rattle.virtiofs_findings.specs.Ranges.{MeetInside, MeetOutside, MeetsOneAt, IsBeyond, line_of, lines_of, IsRefused, IsAtFault, HasFaultAt}
use Rattle.virtiofs_findings.specs.FindingParts.{MeetsNone, MeetsAs}
use Rattle.virtiofs_findings.specs.declared.ids.ranges.RangeFault.{RangeFault}
use Rattle.virtiofs_findings.specs.declared.ids.ranges.RangeFault.TheVariants.{Empty, Beyond, TooMany, PastPage, NotGiven, MeetsInside, MeetsOutside}

-- ---- ranges that meet

-- the range meets none of the first `place` before it
abbrev pub MeetsNoneBelow : List UidMap → UidMap → ℕ → Type 0
MeetsNoneBelow before range place =
    (k : ℕ) → k < place → (¬ MeetsOneAt before k (MeetInside range)) × (¬ MeetsOneAt before k (MeetOutside range))

-- no other range stands at that place
not_met : (before : List UidMap) (d : UidMap) (Meets : UidMap → Type 0) (place k : ℕ)
    → place < length before → ¬ Meets (get_or before place d) → k ≡ place → ¬ MeetsOneAt before k Meets
not_met before d Meets place k below apart same (other, is, meets) = grind (arith, slice_get-get_or, same_Some)

-- one more that it does not meet
pub none_met : (before : List UidMap) (range d : UidMap) (place : ℕ) → MeetsNoneBelow before range place
    → place < length before → ¬ MeetInside range (get_or before place d) → ¬ MeetOutside range (get_or before place d)
    → MeetsNoneBelow before range (place + 1)
none_met before range d place so_far here inside outside k below = elim (cases_lt k place) [
  | inl earlier ↦ so_far k earlier
  | inr last ↦ (
    (grind (arith, slice_get-get_or, same_Some)),
    not_met before d (MeetOutside range) place k here outside (omega (arith, below, last)),
  )
]

-- no range stands past the end
not_past : (before : List UidMap) (Meets : UidMap → Type 0) (k : ℕ) → length before ≤ k → ¬ MeetsOneAt before k Meets
not_past before Meets k past (other, is, meets) = none-some _ (sym (slice_get_past before k past) ∙ is)

-- it meets none of all
pub all_unmet : (before : List UidMap) (range : UidMap) (place : ℕ) → length before ≤ place
    → MeetsNoneBelow before range place → MeetsNone before range
all_unmet before range place past so_far k = elim (cases_lt k place) [
  | inl earlier ↦ so_far k earlier
  | inr late ↦ (
    not_past _ _ k (omega (arith, past, late)),
    not_past _ _ k (omega (arith, past, late)),
  )
]

-- ---- ranges at fault

-- a range with ids, none of them too great, that meets no other
pub none_wrong : {A : Type 0} (r : Option RangeFault) (bounds : Option (Bounds A)) (before : List UidMap) (range : UidMap)
    → range.count ≢ 0 → ¬ IsBeyond range
    → ¬ 340 ≤ length before → ¬ 4096 ≤ length (lines_of before ++ line_of range) → ¬ IsRefused bounds range
    → MatchOption r (MeetsNone before range) (MeetsAs before range)
    → MatchOption r ((fault : RangeFault) → ¬ IsAtFault bounds before range fault) (IsAtFault bounds before range)
none_wrong None bounds before range some within few short given meets = not where
  not : (fault : RangeFault) → ¬ IsAtFault bounds before range fault
  not Empty at = some at
  not Beyond at = within at
  not TooMany at = few at
  not PastPage at = short at
  not NotGiven at = given at
  not (MeetsInside place) at = (meets place).0 at
  not (MeetsOutside place) at = (meets place).1 at
none_wrong (Some fault) bounds before range some within few short given at = grind arith

-- one more line
pub lines_more : (ranges : List UidMap) (d : UidMap) (place : ℕ) (old new : List ℕ) → place < length ranges
    → old ≡ lines_of (take place ranges) → new ≡ old ++ line_of (get_or ranges place d)
    → new ≡ lines_of (take (place + 1) ranges)
lines_more ranges d place old new below so_far one = grind (arith, common_steps, append-nil, flat_map-append, take_more)

-- none of the first `place` ranges is at fault
abbrev pub NoneWrongBelow : {A : Type 0} → Option (Bounds A) → List UidMap → ℕ → Type 0
NoneWrongBelow bounds ranges place = (k : ℕ) (fault : RangeFault) → k < place → ¬ HasFaultAt bounds ranges k fault

-- one more that is not at fault
pub none_wrong_more : {A : Type 0} (bounds : Option (Bounds A)) (ranges : List UidMap) (d : UidMap) (place : ℕ)
    → NoneWrongBelow bounds ranges place → place < length ranges
    → ((fault : RangeFault) → ¬ IsAtFault bounds (take place ranges) (get_or ranges place d) fault)
    → NoneWrongBelow bounds ranges (place + 1)
none_wrong_more bounds ranges d place so_far here sound k fault below at = elim (cases_lt k place) [
  | inl earlier ↦ so_far k fault earlier at
  | inr last ↦ is (omega (arith, below, last))
] where
  is : k ≡ place → ⊥
  is same =
      let at_place = subst (λ i. IsAtFault bounds (take i ranges) at.range fault) same at.is_at_fault in
      let one =
      same_Some _ _ (sym at.here ∙ ap (λ i. slice_get ranges i) same ∙ slice_get-get_or ranges place d here) in
      sound fault (subst (λ r. IsAtFault bounds (take place ranges) r fault) one at_place)

-- none of all is at fault
pub none_wrong_all : {A : Type 0} (bounds : Option (Bounds A)) (ranges : List UidMap) (place : ℕ)
    → length ranges ≤ place → NoneWrongBelow bounds ranges place
    → (k : ℕ) (fault : RangeFault) → ¬ HasFaultAt bounds ranges k fault
none_wrong_all bounds ranges place past so_far k fault at = grind (arith, cases_lt, none-some, slice_get_past)
