-- Ids that are reported: all that are bad, and the least of them.
use Rattle.std.proofs.lemmas.Grind.{common_steps}
use Rattle.std.proofs.Common.{◌≡◌, ◌↔◌, inl, inr, ℕ, ◌<◌, ◌≤◌, List, [], ◌∷◌, IsTrue, rules}
use Rattle.std.proofs.Common.{length, get_or, slice_get, Result, IfOk, Option, Some, None, refl, subst, arith}
use Rattle.std.proofs.lemmas.Bool.{cases_eq}
use Rattle.std.proofs.lemmas.Bool.Decides.{nat_tests}
use Rattle.std.proofs.lemmas.List.Elements.{Contains-get_or}
use Rattle.virtiofs_id_audit.specs.IdAudit.{IsLeastId, GoesTo, GoesInto, Hold, AreRuns}
use Rattle.virtiofs_map.specs.Mapping.{Becomes}
use Rattle.virtiofs_map.specs.declared.cmdline.IdMap.{IdMap as Specification}
use Rattle.virtiofs_map.specs.declared.soft_idmap.entry.Direction.TheVariants.{GuestToHost}
use Rattle.std.specs.Bool.{◌==◌}
use Rattle.virtiofs_id_audit.specs.declared.spans.Span.{Span}
use Rattle.virtiofs_map.specs.declared.idmap.UidMap.{UidMap}
use Rattle.virtiofs_id_audit.proofs.ForCallers.{hold_one}
use Rattle.virtiofs_findings.specs.IdFindings.{FindsAll, TellsHost, ActAsRoot}
use Rattle.virtiofs_id_audit.specs.Namespace.{StandsFor, IsRoot}
use Rattle.virtiofs_id_audit.specs.Outside.{AreMoved}
use Rattle.virtiofs_id_audit.specs.declared.outside.Way.TheVariants.{Inwards}
use Rattle.virtiofs_findings.specs.declared.ids.found.IdsFound.{IdsFound}

-- ---- ids that become one of the same ids of the host

pub into_same : (specs : List Specification) (P Q : ℕ → Type 0) → ((host : ℕ) → P host → Q host)
    → (n : ℕ) → GoesInto specs P n → GoesInto specs Q n
into_same specs P Q each n into = record { host = into.host; goes = into.goes; is_one = each into.host into.is_one }

-- ---- the least of all

-- no id is before the first one of runs
pub runs_least : (bad : ℕ → Type 0) (ids : List Span) (first : ℕ) → ((n : ℕ) → Hold ids n ↔ bad n) → AreRuns ids
    → 0 < length ids → ((d : Span) → (get_or ids 0 d).first ≡ first) → IsLeastId bad first
runs_least bad ids first each runs some head =
    record { is_bad = (each first).0 held; none_before = λ m before is_bad. none m before ((each m).1 is_bad) } where
      spare : Span
      spare = record { first = 0; last = 0 }

      held : Hold ids first
      held =
          let low : (get_or ids 0 spare).first ≡ first = head spare in
          let order : (get_or ids 0 spare).first ≤ (get_or ids 0 spare).last = runs.some 0 spare some in
          (get_or ids 0 spare, Contains-get_or ids 0 spare some, (omega (arith, low), omega (arith, low, order)))

      none : (m : ℕ) → m < first → ¬ Hold ids m
      none m before (one, (k, inside, here), has) =
          let low : (get_or ids 0 one).first ≡ first = head one in
          let from : one.first ≤ m = has.0 in
          elim (cases_eq k 0) [
            | inl zero ↦ grind arith
            | inr later ↦ search rules
          ]

-- the first of the spans, if there is one
pub no_first : (ids : List Span) → None ≡ slice_get ids 0 → ids ≡ []
no_first [] none = refl
no_first (span ∷ ids) none = absurd (cc)

pub first_here : (ids : List Span) (span : Span) → Some span ≡ slice_get ids 0 → 0 < length ids
first_here ids span is = grind (arith, common_steps)

pub first_is : (ids : List Span) (span d : Span) → Some span ≡ slice_get ids 0 → (get_or ids 0 d).first ≡ span.first
first_is ids span d is = grind (arith, common_steps)

pub first_least : (bad : ℕ → Type 0) (ids : List Span) (span : Span) → ((n : ℕ) → Hold ids n ↔ bad n) → AreRuns ids
    → Some span ≡ slice_get ids 0 → IsLeastId bad span.first
first_least bad ids span each runs is = search (rules, runs_least, first_here, first_is)

-- where there are no runs, no id is bad
pub runs_none : (bad : ℕ → Type 0) (ids : List Span) → ((n : ℕ) → Hold ids n ↔ bad n) → ids ≡ [] → (n : ℕ) → ¬ bad n
runs_none bad ids each empty n is = grind arith

-- ---- ids that are bad by other words

pub all_same : {A : Type 0} (bad other : ℕ → Type 0) (Tells : IdsFound A → Type 0) (found : Option (IdsFound A))
    → ((n : ℕ) → bad n → other n) → ((n : ℕ) → other n → bad n) → FindsAll bad Tells found
    → FindsAll other Tells found
all_same bad other Tells found to from none = grind arith

-- ---- ids inside a namespace that are one id outside it

-- what a span of one id is, moved inwards
pub moved_one : (ranges : List UidMap) (span : Span) (id : ℕ) (all : List Span) → span.first ≡ id → span.last ≡ id
    → AreMoved Inwards ranges (span ∷ []) all → (inside : ℕ) → Hold all inside ↔ StandsFor ranges id inside
moved_one ranges span id all first last moved inside = (
  (λ held. let (outside, held_one_id, stands) = (moved.each inside).0 held in
      let has = hold_one span outside held_one_id in
      let same : outside ≡ id = omega (arith, has.0, has.1, first, last) in
      subst (λ (n : ℕ). StandsFor ranges n inside) same stands),
  (λ stands. (moved.each inside).1
      (id, (span, (0, omega arith, refl), (omega (arith, first), omega (arith, last))), stands)),
)

-- ---- whether an id becomes another one

pub goes_here : (specs : List Specification) (guest host there a b : ℕ) → a ≡ there → b ≡ host → guest < 4294967295
    → Becomes specs GuestToHost guest (Some there)
    → ((m : ℕ) → Becomes specs GuestToHost guest (Some m) → there ≡ m) → IsTrue (a == b) ↔ GoesTo specs guest host
goes_here specs guest host there a b is is_too small becomes only = (
  (λ yes. let same : there ≡ host = grind (arith, nat_tests, yes, is, is_too) in
      record { is_id = small; becomes = subst (λ (n : ℕ). Becomes specs GuestToHost guest (Some n)) same becomes }),
  (λ goes. let same : there ≡ host = only host goes.becomes in grind (arith, nat_tests, same, is, is_too)),
)

-- ids that become some of which each is root outside the namespace, and no others are
pub acting_here : {A E : Type 0} (r : Result (Option (IdsFound A)) E) (specs : List Specification) (ranges : List UidMap)
    (root : List Span) → ((inside : ℕ) → Hold root inside ↔ IsRoot ranges inside)
    → IfOk r (FindsAll (GoesInto specs (Hold root)) (TellsHost specs)) → IfOk r (ActAsRoot specs ranges)
acting_here r specs ranges root same all = grind (arith, all_same, into_same)
