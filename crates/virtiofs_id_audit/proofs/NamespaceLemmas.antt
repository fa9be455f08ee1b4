-- Which ids the ranges of a namespace have.
use Rattle.std.proofs.Common.{◌≡◌, ◌≢◌, ◌⊎◌, ◌↔◌, inl, inr, ℕ, ◌<◌, ◌≤◌, false, List, [], ◌∷◌, ◌++◌, length, get_or, refl}
use Rattle.std.proofs.Common.{arith}
use Rattle.std.specs.List.{All}
use Rattle.std.proofs.lemmas.List.Elements.{All-contains, Contains-get_or}
use Rattle.virtiofs_id_audit.specs.IdAudit.{Hold}
use Rattle.virtiofs_id_audit.specs.IdAuditParts.{HoldBelow, IsRun}
use Rattle.virtiofs_id_audit.specs.Namespace.{Has, HasSome, HasNone, IsLacking}
use Rattle.virtiofs_id_audit.specs.declared.spans.Run.{Run}
use Rattle.virtiofs_id_audit.specs.declared.spans.Span.{Span}
use Rattle.virtiofs_map.specs.declared.idmap.UidMap.{UidMap}
use Rattle.virtiofs_id_audit.proofs.HeldLemmas.{hold_one, hold_push, push_hold}

-- a range that has the ids of a run
pub had_run : (ranges : List UidMap) (i inside : ℕ) (d : UidMap) (run : Run) → i < length ranges → run.all ≡ false
    → IsRun (λ n. ¬ Has (get_or ranges i d) n) inside 4294967295 run
    → IsRun (λ n. ¬ HasSome ranges n) inside 4294967295 run
had_run ranges i inside d run below none is = record {
  from = is.from;
  to = is.to;
  each = λ n from to. (
    λ all. absurd (cc),
    λ none. (is.each n from to).1 (λ has. none (get_or ranges i d, Contains-get_or ranges i d below, has)),
  );
}

-- no range has any
pub none_has : (ranges : List UidMap) (n : ℕ) → All (λ range. ¬ Has range n) ranges → ¬ HasSome ranges n
none_has ranges n none (range, listed, has) = All-contains (λ range. ¬ Has range n) ranges range none listed has

-- all ids were passed
pub lacks_all : (ranges : List UidMap) (next : ℕ) (ids : List Span) → next ≤ 4294967296 → 4294967295 < next
    → HoldBelow (λ n. ¬ HasSome ranges n) next ids → (inside : ℕ) → Hold ids inside ↔ HasNone ranges inside
lacks_all ranges next ids bound passed so_far inside = (
  (λ held. let (below, none) = (so_far inside).0 held in (omega arith, none)),
  (λ (is_id, none). (so_far inside).1 (omega arith, none)),
)

-- ---- the ids that a namespace lacks

-- 4294967295, and with ranges those that none of them has
pub lacks_both : (ranges : List UidMap) (ids : List Span) (span : Span) → span.first ≡ 4294967295
    → span.last ≡ 4294967295 → ((ranges ≡ []) × (ids ≡ []))
    ⊎ ((ranges ≢ []) × ((inside : ℕ) → Hold ids inside ↔ HasNone ranges inside)) → (inside : ℕ)
    → Hold (ids ++ span ∷ []) inside ↔ IsLacking ranges inside
lacks_both [] ids span first last (inl (none, are)) inside = rw are (
  (λ held. let has = hold_one span inside held in omega (arith, first, last, has)),
  (λ same. push_hold [] span inside (inr (omega (arith, first, same), omega (arith, last, same)))),
)
lacks_both [] ids span first last (inr (some, are)) inside = absurd (some refl)
lacks_both (range ∷ ranges) ids span first last (inl (none, are)) inside = absurd (cc)
lacks_both (range ∷ ranges) ids span first last (inr (some, are)) inside = (
  (λ held. elim (hold_push ids span inside held) [
    | inl old ↦ inr ((are inside).0 old)
    | inr has ↦ inl (omega (arith, first, last, has.0, has.1))
  ]),
  (λ lacks. push_hold ids span inside (elim lacks [
    | inl same ↦ inr (omega (arith, first, same), omega (arith, last, same))
    | inr no_range ↦ inl ((are inside).1 no_range)
  ])),
)
