-- Ids that spans have, and ids that are found run by run.
use Rattle.std.proofs.Common.{◌≡◌, inl, inr, ℕ, ◌+◌, ◌<◌, ◌≤◌, true, false, ltb, List, [], ◌∷◌, ◌++◌, length}
use Rattle.std.proofs.Common.{get_or, ◌∙◌, arith, rules}
use Rattle.std.specs.List.Sorted.{IsPartitionPoint}
use Rattle.std.proofs.lemmas.Bool.{cases_lt}
use Rattle.std.proofs.lemmas.Bool.Decides.{nat_tests}
use Rattle.std.proofs.lemmas.List.{get_or_default}
use Rattle.virtiofs_id_audit.specs.IdAudit.{Hold, AreRuns}
use Rattle.virtiofs_id_audit.specs.IdAuditParts.{HoldBelow, IsRun}
use Rattle.virtiofs_id_audit.specs.declared.spans.Run.{Run}
use Rattle.virtiofs_id_audit.specs.declared.spans.Span.{Span}
use Rattle.virtiofs_id_audit.proofs.ApartLemmas.{AreRuns-firsts}
use Rattle.virtiofs_id_audit.proofs.HeldLemmas.{hold_push, push_hold, hold_none}

-- ---- the ids from one on

-- at splits the spans: those before it end below the id, and the others do not
abbrev pub SplitsAt : List Span → ℕ → ℕ → Type 0
SplitsAt spans id at =
    IsPartitionPoint (λ (span : Span). ltb span.last id ≡ true) (λ (span : Span). ltb span.last id ≡ false) spans at

module _ (spans : List Span) (id at : ℕ) (runs : AreRuns spans) (splits : SplitsAt spans id at) where
  -- a span that has an id from there on stands at that place or after it, so the span there begins no later
  held_after : (n : ℕ) (d : Span) → id ≤ n → Hold spans n → (at < length spans) × ((get_or spans at d).first ≤ n)
  held_after n d from (span, (k, inside, here), has) =
      let here' : get_or spans k d ≡ span = get_or_default spans k d span inside ∙ here in
      search (rules, cases_lt, nat_tests, AreRuns-firsts)

  pub none_after : (n : ℕ) → length spans ≤ at → id ≤ n → ¬ Hold spans n
  none_after n over from held = omega (arith, held_after n (record { first = 0; last = 0 }) from held)

  pub none_before : (n : ℕ) (span : Span) → get_or spans at span ≡ span → id ≤ n → n < span.first → ¬ Hold spans n
  none_before n span here from before held = omega (arith, rw here at (held_after n span from held))

  pub ends_after : (span : Span) → at < length spans → get_or spans at span ≡ span → id ≤ span.last
  ends_after span inside here = search (rules, nat_tests)

-- ---- run by run

module _ (such : ℕ → Type 0) (next most : ℕ) (run : Run) (is : IsRun such next most run) where
  -- none of a run is such, and none before it
  pub none_more : (from : ℕ) → run.all ≡ false → ((n : ℕ) → from ≤ n → n < next → ¬ such n) → (n : ℕ) → from ≤ n
      → n < run.last + 1 → ¬ such n
  none_more from none before n low high it =
      elim (cases_lt n next) [
        | inl early ↦ before n low early it
        | inr late ↦ absurd (cc (none, (is.each n late (omega arith)).1 it))
      ]

  pub HoldBelow-pass : (spans : List Span) → run.all ≡ false → HoldBelow such next spans
      → HoldBelow such (run.last + 1) spans
  HoldBelow-pass spans none so_far id = (
    (λ held. (let (below, it) = (so_far id).0 held in (omega (arith, is.from), it))),
    (λ (below, it). elim (cases_lt id next) [
      | inl early ↦ (so_far id).1 (early, it)
      | inr late ↦ absurd (cc (none, (is.each id late (omega arith)).1 it))
    ]),
  )

  pub HoldBelow-push : (spans : List Span) (span : Span) → run.all ≡ true → span.first ≡ next → span.last ≡ run.last
      → HoldBelow such next spans → HoldBelow such (run.last + 1) (spans ++ span ∷ [])
  HoldBelow-push spans span every first_is last_is so_far id = (
    (λ held. elim (hold_push spans span id held) [
      | inl old ↦ (let (below, it) = (so_far id).0 old in (omega (arith, is.from), it))
      | inr has ↦ (omega (arith, has), (is.each id (omega (arith, has)) (omega (arith, has))).0 every)
    ]),
    (λ (below, it). push_hold spans span id (elim (cases_lt id next) [
      | inl early ↦ inl ((so_far id).1 (early, it))
      | inr late ↦ inr (omega arith)
    ])),
  )

pub HoldBelow-none : (such : ℕ → Type 0) → HoldBelow such 0 []
HoldBelow-none such id = search (rules, hold_none)
