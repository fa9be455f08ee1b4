-- Host names that are listed under a name that does not pass as them, and what the code tests of them.
use Rattle.std.proofs.Common.{◌≡◌, ◌≢◌, ◌⊎◌, ℕ, true, List, [], length, drop, ◌↔◌}
use Rattle.std.proofs.Common.{Some, inl, inr, refl, sym, ap, ◌∙◌}
use Rattle.std.specs.Bool.{nat_eq}
use Rattle.std.specs.Cmp.Lexicographic.{pointwise}
use Rattle.std.proofs.lemmas.Bool.{cases_Bool, true≢false}
use Rattle.std.proofs.lemmas.Bool.Decides.{Decides-eqb}
use Rattle.std.proofs.lemmas.Slice.Eq.{slice_eq-Decides}
use Rattle.virtiofs_map.specs.Audit.{OpensListed, IsStray}
use Rattle.virtiofs_map.specs.AuditParts.{added_prefix, PutsAt}
use Rattle.virtiofs_map.specs.MapRule.{IsName}
use Rattle.virtiofs_map.specs.Names.{ClientAnswer, Passes, IsDenied, IsUnsupported, IsUnterminated, client_answer}
use Rattle.virtiofs_map.specs.Rule.{MappingRule}
use Rattle.virtiofs_map.specs.declared.xattrmap.scopes.Side.TheVariants.{Server}
use Rattle.virtiofs_map.proofs.AuditAddedLemmas.{cut_listed}

pub bytes_same : (xs ys : List ℕ) → (pointwise nat_eq xs ys ≡ true) ↔ (xs ≡ ys)
bytes_same xs ys = slice_eq-Decides Decides-eqb xs ys (pointwise nat_eq xs ys) refl

-- ---- the test

pub stray_as : (rules : List MappingRule) (host cut : List ℕ) → IsName host → host ≢ []
    → added_prefix Server rules host ≡ Some cut → (¬ PutsAt rules host (length cut)) ↔ IsStray rules host
stray_as rules host cut is some e = (
  λ fails. record {
    is_name = is;
    not_empty = some;
    name = drop (length cut) host;
    listed = cut_listed rules host cut e;
    not_opened = fails;
  },
  λ stray puts.
      (let same : stray.name ≡ drop (length cut) host =
      (let both = sym stray.listed ∙ cut_listed rules host cut e in cc) in
      stray.not_opened (ap (client_answer rules) same ∙ puts)),
)

-- ---- opens

passes_or : (answer : ClientAnswer) (host : List ℕ) → (answer ≡ Passes host) ⊎ (answer ≢ Passes host)
passes_or (Passes other) host =
    elim (cases_Bool (pointwise nat_eq other host)) [
      | inl equal ↦ inl (ap Passes ((bytes_same other host).0 equal))
      | inr differ ↦ inr (λ e.
          true≢false (sym ((bytes_same other host).1 (let same : other ≡ host = cc in same)) ∙ differ))
    ]
passes_or IsDenied host = inr (λ e. cc)
passes_or IsUnsupported host = inr (λ e. cc)
passes_or IsUnterminated host = inr (λ e. cc)

pub opens_where_none : (rules : List MappingRule) → ((host : List ℕ) → ¬ IsStray rules host) → OpensListed rules
opens_where_none rules none host name is some listed =
    elim (passes_or (client_answer rules name) host) [
      | inl opens ↦ opens
      | inr fails ↦ absurd (none host (record {
        is_name = is;
        not_empty = some;
        name = name;
        listed = listed;
        not_opened = fails;
      }))
    ]
