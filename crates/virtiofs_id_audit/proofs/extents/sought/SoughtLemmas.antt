-- Which ids of the guest are sought.
use Rattle.std.proofs.Common.{◌↔◌, ℕ, ◌<◌, ◌≤◌, List, get_or, arith}
use Rattle.std.specs.List.{All}
use Rattle.std.proofs.lemmas.List.{get_or_default}
use Rattle.virtiofs_id_audit.specs.IdAudit.{Hold, AreRuns}
use Rattle.virtiofs_id_audit.specs.IdAuditParts.{HoldBelow, IsSought}
use Rattle.virtiofs_id_audit.specs.declared.extents.runs.Sought.{Sought}
use Rattle.virtiofs_id_audit.specs.declared.spans.Span.{Span}
use Rattle.virtiofs_map.specs.declared.cmdline.IdMap.{IdMap}
use Rattle.virtiofs_id_audit.proofs.IdAuditLemmas.{GoesInto-same}

-- only ids are
IsSought-is_id : (sought : Sought) (specs : List IdMap) (hosts : ℕ → Type 0) (n : ℕ) → IsSought sought specs hosts n
    → n < 4294967295
IsSought-is_id sought specs hosts n is = grind arith

IsSought-same : (sought : Sought) (specs : List IdMap) (hosts others : ℕ → Type 0) (n : ℕ)
    → ((id : ℕ) → hosts id ↔ others id) → IsSought sought specs hosts n → IsSought sought specs others n
IsSought-same sought specs hosts others n same is = grind (arith, GoesInto-same)

module _ (sought : Sought) (specs : List IdMap) (merged hosts : ℕ → Type 0) (next : ℕ) (ids all : List Span)
    (end : 4294967295 ≤ next) (same : (id : ℕ) → merged id ↔ hosts id)
    (so_far : HoldBelow (IsSought sought specs merged) next ids) (are : (id : ℕ) → Hold all id ↔ Hold ids id) where
  pub all_sought : (n : ℕ) → Hold all n ↔ IsSought sought specs hosts n
  all_sought n = (
    (λ held. IsSought-same sought specs merged hosts n same ((so_far n).0 ((are n).0 held)).1),
    (λ is.
        (let is' = IsSought-same sought specs hosts merged n (λ id. ((same id).1, (same id).0)) is in
        let is_id = IsSought-is_id sought specs merged n is' in
        (are n).1 ((so_far n).1 (omega arith, is')))),
  )

  -- none of them is 4294967295 or above it
  pub all_below : AreRuns all → All (λ span. span.last < 4294967295) all
  all_below runs k d inside =
      let span : Span = get_or all k d in
      IsSought-is_id sought specs hosts span.last ((all_sought span.last).0
      (span, (k, inside, get_or_default all k span d inside), (runs.some k d inside, omega arith)))
