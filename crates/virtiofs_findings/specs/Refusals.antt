-- Which texts are refused, and what is told of them.
use Rattle.std.specs.Prelude.{◌≡◌, ◌⊎◌, ⊤, ℕ, Bool, List, [], ◌∷◌, ◌++◌, take, slice_get, string_bytes, IsSomeAnd}
use Rattle.std.specs.Prelude.{Option, Some, None}
use Rattle.std.specs.Borrow.{Bor}
use Rattle.std.specs.declared.string.String.{String}
use Rattle.std.specs.List.{AllZip}
use Rattle.std.specs.Str.{chars}
use Rattle.virtiofs_map.specs.Build.{RangeOverflow, Intersects, build_fault_of}
use Rattle.virtiofs_map.specs.NamespaceText.{NamespaceFault, HasNamespaceFault}
use Rattle.virtiofs_map.specs.Printed.{build_error_text, rules_error_text}
use Rattle.virtiofs_map.specs.RulesFault.{RulesFault, HasRulesFault, rules_fault_of}
use Rattle.virtiofs_map.specs.Specifications.{SpecsFault, Unread, Unbuilt, HasSpecsFault}
use Rattle.virtiofs_map.specs.declared.idmap.UidMap.{UidMap}
use Rattle.virtiofs_map.specs.declared.soft_idmap.errors.IdMapBuildError.{IdMapBuildError}
use Rattle.virtiofs_map.specs.declared.xattrmap.errors.Error.{Error}
use Rattle.virtiofs_findings.specs.Guests.{SaysRange, HasNoRange, LeaveUnknown, RefusesSpecs, RefusesRules, IsRefused, is_by_another, specs_of, written_of}
use Rattle.virtiofs_findings.specs.Lists.{AnyTwoHave}
use Rattle.virtiofs_findings.specs.declared.guest.Guest.{Guest}
use Rattle.virtiofs_findings.specs.declared.ids.kind.IdKind.{IdKind}
use Rattle.virtiofs_findings.specs.declared.ids.kind.IdKind.TheVariants.{Users, Groups}
use Rattle.virtiofs_findings.specs.declared.refusal.Refused.{Refused}
use Rattle.virtiofs_findings.specs.declared.refusal.Refused.TheVariants.{Spec, Range, Own, Rules}
use Rattle.virtiofs_findings.specs.Findings.{Each}
use Rattle.virtiofs_findings.specs.declared.refusal.Refusal.{Refusal}
use Rattle.virtiofs_findings.specs.declared.setup.SetUp.{SetUp}

-- some text of one of the guests is refused
abbrev pub IsSomeRefused : {A : Type 0} → List (Guest A) → List (SetUp A) → Type 0
IsSomeRefused guests sets = AnyTwoHave IsRefused guests sets

-- ---- one refusal

-- that text of that guest is refused, for that reason
abbrev pub refusal_of : {A : Type 0} → ℕ → Refused → String A → Refusal A
refusal_of number what why = record { guest = number; what = what; why = why }

-- that one alone is told; the reason may be any text
abbrev pub TellsPlace : {A : Type 0} → ℕ → Refused → List (Refusal A) → Type 0
TellsPlace {A} number what told = (why : String A) × (told ≡ refusal_of number what why ∷ [])

-- ---- specifications

-- the place of the specification at fault
abbrev pub place_of : SpecsFault → ℕ
place_of (Unread index fault) = index
place_of (Unbuilt (RangeOverflow spec index direction range_end)) = index
place_of (Unbuilt (Intersects spec index direction)) = index

-- where no map is made of the specifications, the reason is the one that the library gives
abbrev pub IsReason : SpecsFault → List ℕ → Type 0
IsReason (Unread index fault) why = ⊤
IsReason (Unbuilt fault) why =
    (error : IdMapBuildError) × (build_fault_of error ≡ Some fault) × (why ≡ build_error_text error)

-- the specification at fault is refused
pub record TellsSpecsFault {A : Type 0} (number : ℕ) (kind : IdKind) (fault : SpecsFault) (told : List (Refusal A)) :
    Type 0 where
  pub why : String A
  pub reason : IsReason fault (string_bytes why)
  pub alone : told ≡ refusal_of number (Spec kind (place_of fault)) why ∷ []

-- what is told of the texts of specifications: nothing where they are not refused, and else of their first fault
abbrev pub TellsSpecs : {A : Type 0} → ℕ → IdKind → List (List ℕ) → List (Refusal A) → Type 0
TellsSpecs number kind texts told =
    ((¬ RefusesSpecs texts) × (told ≡ []))
    ⊎ ((fault : SpecsFault) × HasSpecsFault texts fault × TellsSpecsFault number kind fault told)

-- ---- ranges

-- the text at that place says no range, and each before it says one
pub record IsFirstNoRange (texts : List (List ℕ)) (place : ℕ) : Type 0 where
  pub before : List UidMap
  pub say : AllZip SaysRange (take place texts) before
  pub here : IsSomeAnd (slice_get texts place) (λ text. (fault : NamespaceFault) × HasNamespaceFault text fault)

-- what is told of the texts of ranges: nothing where each says one, and else of the first that says none
abbrev pub TellsNoRange : {A : Type 0} → ℕ → IdKind → List (List ℕ) → List (Refusal A) → Type 0
TellsNoRange number kind texts told =
    ((¬ HasNoRange texts) × (told ≡ []))
    ⊎ ((place : ℕ) × IsFirstNoRange texts place × TellsPlace number (Range kind place) told)

-- the same; or that it is not known as which id the daemon acts
abbrev pub TellsRanges : {A : Type 0} → ℕ → IdKind → Bool → List (List ℕ) → List (Refusal A) → Type 0
TellsRanges number kind by_another texts told =
    ((¬ LeaveUnknown by_another texts) × TellsNoRange number kind texts told)
    ⊎ (LeaveUnknown by_another texts × TellsPlace number (Own kind) told)

-- what is told of ids of a kind: first of the specifications, then of the ranges
pub record TellsIds {A : Type 0} (number : ℕ) (kind : IdKind) (guest : Guest A) (told : List (Refusal A)) : Type 0 where
  pub of_specs : List (Refusal A)
  pub of_ranges : List (Refusal A)
  pub tells_specs : TellsSpecs number kind (specs_of kind guest) of_specs
  pub tells_ranges : TellsRanges number kind (is_by_another guest) (written_of kind guest) of_ranges
  pub whole : told ≡ of_specs ++ of_ranges

-- ---- rules

-- the rules are refused, for the reason that the library gives
pub record TellsRulesFault {A : Type 0} (number : ℕ) (text : List ℕ) (told : List (Refusal A)) : Type 0 where
  pub error : Error A
  pub fault : RulesFault
  pub why : String A
  pub about : rules_fault_of error ≡ Some fault
  pub has : HasRulesFault text fault
  pub reason : string_bytes why ≡ rules_error_text error
  pub alone : told ≡ refusal_of number Rules why ∷ []

-- what is told of a text of rules: nothing where it is not refused, and else of its first fault
abbrev pub TellsRules : {A : Type 0} → ℕ → List ℕ → List (Refusal A) → Type 0
TellsRules number text told = ((¬ RefusesRules text) × (told ≡ [])) ⊎ TellsRulesFault number text told

-- what is told of the rules of a guest: nothing where it has none
abbrev pub TellsNames : {A : Type 0} → ℕ → Option (Bor (List ℕ)) → List (Refusal A) → Type 0
TellsNames number None told = told ≡ []
TellsNames number (Some text) told = TellsRules number (chars text.now) told

-- ---- guests

-- what is told of a guest: of users, of groups and of names, in this order
pub record TellsGuest {A : Type 0} (number : ℕ) (guest : Guest A) (told : List (Refusal A)) : Type 0 where
  pub of_users : List (Refusal A)
  pub of_groups : List (Refusal A)
  pub of_names : List (Refusal A)
  pub users : TellsIds number Users guest of_users
  pub groups : TellsIds number Groups guest of_groups
  pub names : TellsNames number guest.options.xattrmap of_names
  pub whole : told ≡ of_users ++ of_groups ++ of_names

-- what is told of guests, one after the other, from that number on
abbrev pub TellsGuests : {A : Type 0} → ℕ → List (Guest A) → List (Refusal A) → Type 0
TellsGuests number guests told = Each TellsGuest number guests told
