-- The ids of the host that two guests reach.
use Rattle.std.proofs.Common.{◌≡◌, ◌≢◌, ◌↔◌, inl, inr, ℕ, ◌+◌, ◌<◌, ◌≤◌, List, [], ◌∷◌, ◌++◌, length, take, get_or}
use Rattle.std.proofs.Common.{Contains, Vec, Result, Ok, Err, IfOk, refl, subst, sym, arith, rules}
use Rattle.std.proofs.lemmas.List.{take_more, take_all}
use Rattle.std.proofs.lemmas.List.Elements.{Contains-push_cases}
use Rattle.virtiofs_id_audit.specs.IdAudit.{ReachedBy, Hold}
use Rattle.virtiofs_map.specs.declared.cmdline.IdMap.{IdMap as Specification}
use Rattle.virtiofs_id_audit.specs.declared.spans.Span.{Span}
use Rattle.virtiofs_map.specs.declared.idmap.UidMap.{UidMap}
use Rattle.virtiofs_findings.specs.IdFindings.{ReachedOutside, Meets}
use Rattle.virtiofs_id_audit.specs.Namespace.{StandsBy, StandsAmong, StandsFor}
use Rattle.virtiofs_id_audit.specs.Outside.{AreMoved}
use Rattle.virtiofs_id_audit.specs.declared.outside.Way.TheVariants.{Inwards, Outwards}
use Rattle.virtiofs_id_audit.proofs.ForCallers.{among_moves}

-- ---- by ranges, one after the other

-- what the id is by the ranges so far, the other guest does not reach
abbrev pub MeetsNone : List UidMap → List Specification → List UidMap → ℕ → Type 0
MeetsNone ranges others other_ranges inside =
    (host : ℕ) → StandsAmong ranges host inside → ¬ ReachedOutside others other_ranges host

not_in_none : (one : UidMap) → ¬ Contains [] one
not_in_none one = search rules

pub none_met : (ranges : List UidMap) (others : List Specification) (other_ranges : List UidMap) (inside : ℕ)
    → MeetsNone (take 0 ranges) others other_ranges inside
none_met ranges others other_ranges inside host (range, listed, is) reached = not_in_none range listed

pub none_met_more : (ranges : List UidMap) (others : List Specification) (other_ranges : List UidMap) (inside i : ℕ)
    (d : UidMap) → i < length ranges → MeetsNone (take i ranges) others other_ranges inside
    → ((host : ℕ) → StandsBy (get_or ranges i d) host inside → ¬ ReachedOutside others other_ranges host)
    → MeetsNone (take (i + 1) ranges) others other_ranges inside
none_met_more ranges others other_ranges inside i d below so_far here = rw (take_more ranges i d below) more where
  more : MeetsNone (take i ranges ++ get_or ranges i d ∷ []) others other_ranges inside
  more host (range, listed, is) = elim (Contains-push_cases (take i ranges) (get_or ranges i d) range listed) [
    | inl before ↦ so_far host (range, before, is)
    | inr same ↦ here host (subst (λ (r : UidMap). StandsBy r host inside) (sym same) is)
  ]

-- with ranges, none of them is left
pub none_met_all : (ranges : List UidMap) (others : List Specification) (other_ranges : List UidMap) (inside i : ℕ)
    → ranges ≢ [] → length ranges ≤ i → MeetsNone (take i ranges) others other_ranges inside
    → ¬ Meets ranges others other_ranges inside
none_met_all ranges others other_ranges inside i some over so_far (outside, stands, reached) =
    let all = subst (λ rs. MeetsNone rs others other_ranges inside) (take_all i ranges over) so_far in
    all outside ((among_moves Outwards ranges inside outside some).1 stands) reached

-- ---- all ids inside the first namespace

-- all ids, each under its number
abbrev pub all_ids : UidMap
all_ids = record { inside_uid = 0; outside_uid = 0; count = 4294967295 }

moved_same : (id moved : ℕ) → StandsFor (all_ids ∷ []) moved id → (id ≡ moved) × (moved < 4294967295)
moved_same id moved (range, listed, is) = grind (arith, Contains-push_cases, all_ids, not_in_none)

stays_same : (id : ℕ) → id < 4294967295 → StandsFor (all_ids ∷ []) id id
stays_same id small = (
  all_ids,
  (0, omega arith, refl),
  record {
    has = (omega arith, omega (arith, small));
    same = omega arith;
    is_id = omega (arith, small);
    is_id_outside = omega (arith, small);
  },
)

pub moved_but_no_id : {A E : Type 0} (r : Result (Vec Span A) E) (spans : List Span)
    → IfOk r (λ all. AreMoved Outwards (all_ids ∷ []) spans all.items)
    → IfOk r (λ all. (id : ℕ) → Hold all.items id ↔ (Hold spans id × (id < 4294967295)))
moved_but_no_id (Ok all) spans moved = λ id. (
  (λ held. let (from, held_from, stands) = (moved.each id).0 held in
      let (same, small) = moved_same from id stands in
      (subst (Hold spans) same held_from, small)),
  (λ (held, small). (moved.each id).1 (id, held, stays_same id small)),
)
moved_but_no_id (Err e) spans moved = tt

pub meets_spans : (others : List Specification) (ranges other_ranges : List UidMap) (theirs outside ids met : List Span)
    → ((host : ℕ) → Hold theirs host ↔ ReachedBy others host)
    → AreMoved Outwards other_ranges theirs outside
    → ((host : ℕ) → Hold ids host ↔ (Hold outside host × (host < 4294967295))) → AreMoved Inwards ranges ids met
    → (inside : ℕ) → Hold met inside ↔ Meets ranges others other_ranges inside
meets_spans others ranges other_ranges theirs outside ids met reach out but into inside = (
  (λ held.
      let (host, held_ids, stands) = (into.each inside).0 held in
      let (held_outside, small) = (but host).0 held_ids in
      let (id, held_theirs, stands_too) = (out.each host).0 held_outside in
      let (guest, goes) = (reach id).0 held_theirs in
      (host, stands, (small, (guest, record { host = id; goes = goes; is_one = stands_too })))),
  (λ (host, stands, (small, (guest, goes))). (into.each inside).1
      (host, (but host).1 ((out.each host).1 (goes.host, (reach goes.host).1 (guest, goes.goes), goes.is_one), small), stands)),
)
