-- Spans with an id between each two, and whether spans have an id.
use Rattle.std.proofs.Common.{◌⊎◌, ◌↔◌, inl, inr, ◌≡◌, ℕ, ◌+◌, ◌<◌, ◌≤◌, List, [], ◌∷◌, ◌++◌, get_or, Contains, sym}
use Rattle.std.proofs.Common.{◌∙◌, arith, rules}
use Rattle.std.specs.List.{All}
use Rattle.std.specs.List.Sorted.{IsNonDecreasingBy}
use Rattle.std.proofs.lemmas.Bool.{cases_lt, cases_order}
use Rattle.std.proofs.lemmas.List.{get_or_default}
use Rattle.std.proofs.lemmas.List.Elements.{All-push, All-weaker, All-contains}
use Rattle.std.proofs.lemmas.List.Quantifiers.{all_pairs_push}
use Rattle.virtiofs_id_audit.specs.IdAudit.{Has, Hold, AreRuns}
use Rattle.virtiofs_id_audit.specs.IdAuditParts.{IsSpan, RunsBelow, times}
use Rattle.virtiofs_id_audit.specs.declared.spans.Span.{Span}
use Rattle.virtiofs_id_audit.proofs.HeldLemmas.{times_hold}

-- the spans have the id or not
pub held_or_not : (spans : List Span) (id : ℕ) → Hold spans id ⊎ (¬ Hold spans id)
held_or_not spans id =
    elim (cases_lt (times spans id) 1) [
      | inl none ↦ inr (λ held. omega (arith, (times_hold spans id).1 held, none))
      | inr some ↦ inl ((times_hold spans id).0 some)
    ]

-- ---- with an id between each two

pub RunsBelow-none : (next : ℕ) → RunsBelow next []
RunsBelow-none next = search rules

pub RunsBelow-more : (first next : ℕ) (spans : List Span) → first ≤ next → RunsBelow first spans → RunsBelow next spans
RunsBelow-more first next spans up is = record {
  runs = is.runs;
  below = All-weaker (λ s. s.last + 1 < first) (λ s. s.last + 1 < next) (λ s low. omega arith) spans is.below;
}

-- one more
pub RunsBelow-push : (first next : ℕ) (spans : List Span) (span : Span) → first ≤ span.first → span.first ≤ span.last
    → span.last + 1 < next → RunsBelow first spans → RunsBelow next (spans ++ span ∷ [])
RunsBelow-push first next spans span from order under is = record {
  runs = record {
    some = All-push (λ s. s.first ≤ s.last) spans span is.runs.some order;
    gaps = all_pairs_push (λ s later. s.last + 1 < later.first) spans span is.runs.gaps
        (λ k d inside. omega (arith, is.below k d inside));
  };
  below = All-push (λ s. s.last + 1 < next) spans span
      (RunsBelow-more first next spans (omega arith) is).below (omega arith);
}

-- neither their first nor their last ids fall
pub AreRuns-firsts : (spans : List Span) → AreRuns spans → IsNonDecreasingBy (λ span. span.first) spans
AreRuns-firsts spans are i j d up inside = search (rules, cases_lt)

pub AreRuns-lasts : (spans : List Span) → AreRuns spans → IsNonDecreasingBy (λ span. span.last) spans
AreRuns-lasts spans are i j d up inside = search (rules, cases_lt)

-- the id after a span is none of theirs
pub free_after : (spans : List Span) (span : Span) → AreRuns spans → Contains spans span
    → ¬ Hold spans (span.last + 1)
free_after spans span runs (i, inside, at) (other, (k, within, here), has) =
    let at' : get_or spans i other ≡ span = sym (get_or_default spans i span other inside) ∙ at in
    search (rules, get_or_default, cases_order)

-- ---- cut out twice

-- spans that have ids as often have the same
same_held : (spans others : List Span) (id : ℕ) → times others id ≡ times spans id → Hold others id → Hold spans id
same_held spans others id same held = search (rules, times_hold)

-- where what is left of all numbers is cut out of them, what was cut out first is left
pub cut_twice : (whole : Span) (spans cuts free merged : List Span) → whole.first ≡ 0 → whole.last ≡ 4294967295
    → All IsSpan cuts → ((id : ℕ) → times cuts id ≡ times spans id)
    → ((id : ℕ) → Hold free id ↔ (Has whole id × (¬ Hold cuts id)))
    → ((id : ℕ) → Hold merged id ↔ (Has whole id × (¬ Hold free id))) → (id : ℕ) → Hold merged id ↔ Hold spans id
cut_twice whole spans cuts free merged first_is last_is are same once twice id = (
  (λ held.
      (let (within, not_free) = (twice id).0 held in
      elim (held_or_not cuts id) [
        | inl is ↦ same_held spans cuts id (same id) is
        | inr not ↦ absurd (not_free ((once id).1 (within, not)))
      ])),
  (λ held.
      (let is = same_held cuts spans id (sym (same id)) held in
      (twice id).1 (within is, λ is_free. ((once id).0 is_free).1 is))),
) where
  within : Hold cuts id → Has whole id
  within (span, listed, has) = omega (arith, has, All-contains IsSpan cuts span are listed)
