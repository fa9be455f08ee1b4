-- Ids that keep their number.
use Rattle.std.proofs.lemmas.Grind.{common_steps}
use Rattle.std.proofs.Common.{◌≡◌, ◌↔◌, inr, ℕ, Bool, List, [], ◌∷◌, map, Contains}
use Rattle.std.proofs.Common.{Vec, Result, Ok, Err, IfOk, Option, Some, None, zero, suc, refl, sym, ap, subst, arith}
use Rattle.std.specs.Bool.{◌==◌}
use Rattle.std.specs.Prelude.{if◌then◌else◌}
use Rattle.virtiofs_id_audit.specs.IdAudit.{GoesInto, Hold}
use Rattle.virtiofs_map.specs.Mapping.{InRange, Covers, Becomes}
use Rattle.virtiofs_map.specs.declared.cmdline.IdMap.{IdMap}
use Rattle.virtiofs_id_audit.specs.declared.spans.Span.{Span}
use Rattle.virtiofs_map.specs.declared.idmap.UidMap.{UidMap}
use Rattle.virtiofs_map.specs.declared.soft_idmap.entry.Direction.TheVariants.{GuestToHost}
use Rattle.virtiofs_findings.proofs.IdLemmas.{all_same}
use Rattle.virtiofs_findings.specs.IdFindings.{AreMapped, FindsAll, TellsHost, IsKept, TellsKept, FindsKept}
use Rattle.virtiofs_findings.specs.FindingParts.{cover_of, same_of, IsUncovered, IsSame}
use Rattle.virtiofs_id_audit.specs.Namespace.{Has, HasNone, StandsBy, StandsAmong, StandsFor}
use Rattle.virtiofs_id_audit.specs.Outside.{AreMoved}
use Rattle.virtiofs_findings.specs.declared.ids.found.IdsFound.{IdsFound}
use Rattle.virtiofs_id_audit.specs.declared.outside.Way.TheVariants.{Outwards}

-- ---- lists that a function made

-- what it made of an element
made : {X Y : Type 0} (f : X → Y) (xs : List X) (x : X) → Contains xs x → Contains (map f xs) (f x)
made f [] x (k, inside, here) = absurd (omega (arith, inside))
made f (one ∷ xs) x (zero, inside, here) = (zero, omega arith, ap f here)
made f (one ∷ xs) x (suc k, inside, here) =
    let (j, below, at) = made f xs x (k, omega (arith, inside), here) in (suc j, omega (arith, below), at)

-- of which element it made one
made_of : {X Y : Type 0} (f : X → Y) (xs : List X) (y : Y) → Contains (map f xs) y → (x : X) × Contains xs x × (f x ≡ y)
made_of f [] y (k, inside, here) = absurd (omega (arith, inside))
made_of f (one ∷ xs) y (zero, inside, here) = (one, (zero, omega arith, refl), here)
made_of f (one ∷ xs) y (suc k, inside, here) =
    let (x, (j, below, at), is) = made_of f xs y (k, omega (arith, inside), here) in (x, (suc j, omega (arith, below), at), is)

-- ---- ids that no specification covers

covers_as : (spec : IdMap) (id : ℕ) → Covers spec GuestToHost id ↔ Has (cover_of spec) id
covers_as spec id = grind arith

none_covers : (specs : List IdMap) (covers : List UidMap) (id : ℕ) → covers ≡ map cover_of specs
    → HasNone covers id ↔ IsUncovered specs id
none_covers specs covers id are = rw are (
  (λ none. (none.0, λ spec listed is. none.1 (cover_of spec, made cover_of specs spec listed, (covers_as spec id).0 is))),
  (λ free. (
    free.0,
    λ (range, listed, has).
        let (spec, within, is) = made_of cover_of specs range listed in
        free.1 spec within ((covers_as spec id).1 (subst (λ (r : UidMap). Has r id) (sym is) has)),
  )),
)

pub uncovered_made : {A E : Type 0} (r : Result (Vec Span A) E) (specs : List IdMap) (covers : List UidMap)
    → covers ≡ map cover_of specs → IfOk r (λ ids. (id : ℕ) → Hold ids.items id ↔ HasNone covers id)
    → IfOk r (λ ids. (id : ℕ) → Hold ids.items id ↔ IsUncovered specs id)
uncovered_made (Ok ids) specs covers are none = λ id. (
  (λ held. (none_covers specs covers id are).0 ((none id).0 held)),
  (λ free. (none id).1 ((none_covers specs covers id are).1 free)),
)
uncovered_made (Err e) specs covers are none = tt

-- ---- ids that are outside the namespace the same

in_same : (inside outside count id : ℕ) (test : Bool) → test ≡ (inside == outside)
    → InRange inside (if test then count else 0) id → (inside ≡ outside) × InRange inside count id
in_same inside outside count id test is has = grind arith

same_in : (inside outside count id : ℕ) (test : Bool) → test ≡ (inside == outside) → inside ≡ outside
    → InRange inside count id → InRange inside (if test then count else 0) id
same_in inside outside count id test is same has = grind arith

same_by : (range : UidMap) (moved id : ℕ) → StandsBy (same_of range) moved id → (moved ≡ id) × StandsBy range id id
same_by range moved id by = grind (arith, in_same)

same_among : (ranges : List UidMap) (moved id : ℕ) → StandsAmong (map same_of ranges) moved id
    → (moved ≡ id) × StandsAmong ranges id id
same_among ranges moved id (range, listed, by) =
    let (one, within, is) = made_of same_of ranges range listed in
    let (same, by_one) = same_by one moved id (subst (λ (r : UidMap). StandsBy r moved id) (sym is) by) in
    (same, (one, within, by_one))

among_same : (ranges : List UidMap) (id : ℕ) → StandsAmong ranges id id → StandsAmong (map same_of ranges) id id
among_same ranges id (range, listed, by) = (same_of range, made same_of ranges range listed, (grind (arith, same_in)))

same_for : (ranges : List UidMap) (moved id : ℕ) → StandsFor (map same_of ranges) moved id
    → (moved ≡ id) × StandsFor ranges id id
same_for [] moved id is = (sym is, refl)
same_for (range ∷ ranges) moved id is = same_among (range ∷ ranges) moved id is

for_same : (ranges : List UidMap) (id : ℕ) → StandsFor ranges id id → StandsFor (map same_of ranges) id id
for_same ranges id is = grind (arith, common_steps, among_same)

pub same_made : {A E : Type 0} (r : Result (Vec Span A) E) (ranges same : List UidMap) (ids : List Span)
    → same ≡ map same_of ranges → IfOk r (λ all. AreMoved Outwards same ids all.items)
    → IfOk r (λ all. (id : ℕ) → Hold all.items id ↔ IsSame ranges ids id)
same_made (Ok all) ranges same ids are moved = λ id. (
  (λ held.
      let (from, held_from, stands) = (moved.each id).0 held in
      let (is, stays) = same_for ranges id from (rw are at stands) in
      (subst (λ (n : ℕ). Hold ids n) (sym is) held_from, subst (λ (n : ℕ). StandsFor ranges n n) (sym is) stays)),
  (λ (held, stays). (moved.each id).1 (id, held, rw are (for_same ranges id stays))),
)
same_made (Err e) ranges same ids are moved = tt

-- ---- ids that keep their number

-- without specifications an id becomes itself
stays : (id host : ℕ) → Becomes [] GuestToHost id (Some host) → host ≡ id
stays id host it = grind arith

itself : (id : ℕ) → Becomes [] GuestToHost id (Some id)
itself id = inr ((λ spec (k, inside, here). absurd (omega (arith, inside))), refl)

-- where ids are mapped
finds_kept : {A : Type 0} (specs : List IdMap) (ranges : List UidMap) (uncovered kept : List Span)
    (found : Option (IdsFound A)) → AreMapped specs ranges → ((id : ℕ) → Hold uncovered id ↔ IsUncovered specs id)
    → ((id : ℕ) → Hold kept id ↔ IsSame ranges uncovered id)
    → FindsAll (GoesInto [] (Hold kept)) (TellsHost []) found → FindsKept specs ranges found
finds_kept {A = A} specs ranges uncovered kept found mapped free same finds = told found
    (all_same _ _ _ found keeps goes finds) where
      keeps : (id : ℕ) → GoesInto [] (Hold kept) id → IsKept specs ranges id
      keeps id into =
          let stay : into.host ≡ id = stays id _ into.goes.becomes in
          let (held, stands) = (same id).0 (subst (Hold kept) stay into.is_one) in
          record { mapped = mapped; is_id = into.goes.is_id; uncovered = ((free id).0 held).1; same = stands }

      goes : (id : ℕ) → IsKept specs ranges id → GoesInto [] (Hold kept) id
      goes id keep = record {
        host = id;
        goes = record { is_id = keep.is_id; becomes = itself id };
        is_one = (same id).1 ((free id).1 (omega (arith, keep.is_id), keep.uncovered), keep.same);
      }

      told : (some : Option (IdsFound A)) → FindsAll (IsKept specs ranges) (TellsHost []) some
          → FindsAll (IsKept specs ranges) TellsKept some
      told None none = none
      told (Some it) all = record {
        each = all.each;
        runs = all.runs;
        least = all.least;
        tells = stays it.guest it.host all.tells.becomes;
      }

pub kept_made : {A E : Type 0} (r : Result (Option (IdsFound A)) E) (specs : List IdMap) (ranges : List UidMap)
    (uncovered kept : List Span) → AreMapped specs ranges → ((id : ℕ) → Hold uncovered id ↔ IsUncovered specs id)
    → ((id : ℕ) → Hold kept id ↔ IsSame ranges uncovered id)
    → IfOk r (FindsAll (GoesInto [] (Hold kept)) (TellsHost [])) → IfOk r (FindsKept specs ranges)
kept_made (Ok found) specs ranges uncovered kept mapped free same finds =
    finds_kept specs ranges uncovered kept found mapped free same finds
kept_made (Err e) specs ranges uncovered kept mapped free same finds = tt
