-- What is left of a span where others are cut out of it, one after the other.
use Rattle.std.proofs.Common.{◌≡◌, ◌↔◌, inl, inr, ◌⊎◌, ℕ, ◌+◌, ◌<◌, ◌≤◌, min, max, List, [], length, get_or}
use Rattle.std.proofs.Common.{arith, rules}
use Rattle.std.specs.List.{All}
use Rattle.std.specs.List.Sorted.{IsNonDecreasingBy}
use Rattle.std.proofs.lemmas.Bool.{cases_lt}
use Rattle.std.proofs.lemmas.List.{get_or_default}
use Rattle.virtiofs_id_audit.specs.IdAudit.{Has, Hold}
use Rattle.virtiofs_id_audit.specs.IdAuditParts.{RunsBelow}
use Rattle.virtiofs_id_audit.specs.declared.spans.Span.{Span}
use Rattle.virtiofs_id_audit.proofs.HeldLemmas.{hold_none}
use Rattle.virtiofs_id_audit.proofs.ApartLemmas.{RunsBelow-none}

-- what is left of the span below next is kept; and the first cuts end below it
pub record CutTo (whole : Span) (cuts : List Span) (i next : ℕ) (kept : List Span) : Type 0 where
  pub from : whole.first ≤ next
  pub runs : RunsBelow next kept
  pub hold : (id : ℕ) → Hold kept id ↔ ((id < next) × Has whole id × (¬ Hold cuts id))
  pub done : (k : ℕ) (d : Span) → k < i → (get_or cuts k d).last < next

pub CutTo-start : (whole : Span) (cuts : List Span) → CutTo whole cuts 0 whole.first []
CutTo-start whole cuts = search (rules, RunsBelow-none, hold_none)

-- what lies between next and until is added
module _ (whole : Span) (cuts : List Span) (i next until : ℕ) (kept more : List Span) (d : Span)
    (so_far : CutTo whole cuts i next kept) (firsts : IsNonDecreasingBy (λ (s : Span). s.first) cuts)
    (adds : (id : ℕ) → Hold more id ↔ (Hold kept id ⊎ ((next ≤ id) × (id < until)))) where
  -- no cut has an id from next on that is before the next cut
  free : (id : ℕ) → next ≤ id → (i < length cuts → id < (get_or cuts i d).first) → ¬ Hold cuts id
  free id from before (cut, (k, inside, here), has) =
      elim (cases_lt k i) [
        | inl done ↦ (let ends = rw here at (so_far.done k cut done) in omega (arith, has))
        | inr ahead ↦
            (let up = rw (here, get_or_default cuts i cut d (omega arith)) at (firsts i k cut ahead inside) in
            omega (arith, has, before (omega arith)))
      ]

  -- up to the next cut
  pub CutTo-more : (new : ℕ) → All (λ (s : Span). s.first ≤ s.last) cuts → i < length cuts
      → until ≡ min (whole.last + 1) (get_or cuts i d).first → new ≡ max next ((get_or cuts i d).last + 1)
      → RunsBelow new more → CutTo whole cuts (i + 1) new more
  CutTo-more new some inside until_is is runs = record {
    from = omega (arith, so_far.from);
    runs = runs;
    hold = λ id. (to id, from id);
    done = λ k e before. elim (cases_lt k i) [
      | inl earlier ↦ omega (arith, so_far.done k e earlier)
      | inr this ↦
          (let same : k ≡ i = omega arith in
          rw (same, get_or_default cuts i e d inside) (omega arith))
    ];
  } where
    order : (get_or cuts i d).first ≤ (get_or cuts i d).last
    order = some i d inside

    to : (id : ℕ) → Hold more id → (id < new) × Has whole id × (¬ Hold cuts id)
    to id held =
        elim ((adds id).0 held) [
          | inl old ↦ (let is_old = (so_far.hold id).0 old in (omega (arith, is_old.0), is_old.1, is_old.2))
          | inr (low, high) ↦ (
            omega (arith, order, low, high),
            omega (arith, so_far.from, low, high),
            free id low (λ _. omega (arith, high)),
          )
        ]

    from : (id : ℕ) → (id < new) × Has whole id × (¬ Hold cuts id) → Hold more id
    from id (below, within, not) =
        (adds id).1 (elim (cases_lt id next) [
          | inl before ↦ inl ((so_far.hold id).1 (before, within, not))
          | inr after ↦ inr (
            after,
            elim (cases_lt id until) [
              | inl low ↦ low
              | inr high ↦ absurd
                  (not (
                    get_or cuts i d,
                    (i, inside, get_or_default cuts i (get_or cuts i d) d inside),
                    omega (arith, within, below, after),
                  ))
            ],
          )
        ])

  -- up to the end
  pub CutTo-end : length cuts ≤ i → until ≡ whole.last + 1 → (id : ℕ)
      → Hold more id ↔ (Has whole id × (¬ Hold cuts id))
  CutTo-end end until_is id = (to, from) where
    to : Hold more id → Has whole id × (¬ Hold cuts id)
    to held =
        elim ((adds id).0 held) [
          | inl old ↦ (let is_old = (so_far.hold id).0 old in (is_old.1, is_old.2))
          | inr (low, high) ↦
              (omega (arith, so_far.from, low, high), free id low (λ inside. absurd (omega arith)))
        ]

    from : Has whole id × (¬ Hold cuts id) → Hold more id
    from (within, not) =
        (adds id).1 (elim (cases_lt id next) [
          | inl before ↦ inl ((so_far.hold id).1 (before, within, not))
          | inr after ↦ inr (after, omega (arith, within))
        ])
