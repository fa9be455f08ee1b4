-- The spans that have an id of a whole.
use Rattle.std.proofs.Common.{◌≡◌, ◌↔◌, inl, inr, ℕ, ◌+◌, ◌-◌, ◌<◌, ◌≤◌, true, false, leb, ltb, List, take, drop}
use Rattle.std.proofs.Common.{length, get_or, ◌∙◌, arith, rules}
use Rattle.std.specs.List.{All}
use Rattle.std.specs.List.Sorted.{IsPartitionPoint}
use Rattle.std.proofs.lemmas.Bool.{cases_lt}
use Rattle.std.proofs.lemmas.Bool.Decides.{nat_tests}
use Rattle.std.proofs.lemmas.List.{get_or-drop, get_or-take, length-drop, length-take}
use Rattle.std.proofs.lemmas.List.Elements.{All-drop}
use Rattle.virtiofs_id_audit.specs.IdAudit.{Has, Hold, AreRuns}
use Rattle.virtiofs_id_audit.specs.declared.spans.Span.{Span}

-- ---- spans that are apart

pub AreRuns-drop : (n : ℕ) (spans : List Span) → AreRuns spans → AreRuns (drop n spans)
AreRuns-drop n spans are = search (rules, All-drop, length-drop, get_or-drop)

-- ---- those that have an id of the whole

-- from splits off those that end before it, and count leaves out those that begin after it
module _ (spans : List Span) (whole : Span) (from count : ℕ)
    (ends : IsPartitionPoint (λ (span : Span). ltb span.last whole.first ≡ true)
    (λ (span : Span). ltb span.last whole.first ≡ false) spans from)
    (begins : IsPartitionPoint (λ (span : Span). leb span.first whole.last ≡ true)
    (λ (span : Span). leb span.first whole.last ≡ false) (drop from spans) count) where
  -- the span at a place of them
  met_at : (k : ℕ) (d : Span) → k < length (take count (drop from spans))
      → (k < count) × (from + k < length spans) × (get_or (take count (drop from spans)) k d ≡ get_or spans (from + k) d)
  met_at k d inside = search (rules, length-take, length-drop, get_or-take, get_or-drop)

  pub All-met : All (λ span. (whole.first ≤ span.last) × (span.first ≤ whole.last)) (take count (drop from spans))
  All-met k d inside = search (rules, met_at, length-drop, ltb, leb, get_or-drop, nat_tests)

  pub Hold-met : (id : ℕ) → Has whole id → Hold (take count (drop from spans)) id ↔ Hold spans id
  Hold-met id in_whole = (to, back) where
    to : Hold (take count (drop from spans)) id → Hold spans id
    to (span, (k, inside, here), has) = search (rules, met_at)

    back : Hold spans id → Hold (take count (drop from spans)) id
    back (span, (k, inside, here), has) =
        elim (cases_lt k from) [
          | inl before ↦ search (rules, nat_tests)
          | inr after ↦ later after
        ] where
          later : from ≤ k → Hold (take count (drop from spans)) id
          later after =
              let rest = length-drop from spans in
              let all = length-take count (drop from spans) in
              let place : from + (k - from) ≡ k = omega arith in
              let at : get_or (drop from spans) (k - from) span ≡ span =
              get_or-drop from spans (k - from) span ∙ (rw place here) in
              search (rules, cases_lt, get_or-take)
