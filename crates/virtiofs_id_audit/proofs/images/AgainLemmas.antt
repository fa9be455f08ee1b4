-- Which ids spans have again, as they come in the order of their first ids.
use Rattle.std.proofs.Common.{◌≡◌, ◌↔◌, inl, inr, ◌⊎◌, ℕ, ◌+◌, ◌<◌, ◌≤◌, min, max, List, [], ◌∷◌, ◌++◌, length, take}
use Rattle.std.proofs.Common.{get_or, arith, rules}
use Rattle.std.specs.List.{All}
use Rattle.std.specs.List.Sorted.{IsNonDecreasingBy}
use Rattle.std.proofs.lemmas.Bool.{cases_lt}
use Rattle.std.proofs.lemmas.List.{get_or_default, take_all}
use Rattle.std.proofs.lemmas.List.Elements.{All-push}
use Rattle.std.proofs.lemmas.List.Sums.{sum_by_more, sum_by_push}
use Rattle.virtiofs_id_audit.specs.IdAudit.{Hold}
use Rattle.virtiofs_id_audit.specs.IdAuditParts.{IsSpan, has_times, times}
use Rattle.virtiofs_id_audit.specs.declared.spans.Span.{Span}
use Rattle.virtiofs_id_audit.proofs.HeldLemmas.{has_or_not, hold_none}

-- what is known after the first images: again has what was reached twice; and reached is the end of what was reached,
-- for ids that none of them begins above
pub record SweptTo (images : List Span) (i reached : ℕ) (again : List Span) : Type 0 where
  pub bound : reached ≤ 4294967296
  pub hold : (id : ℕ) → Hold again id ↔ (2 ≤ times (take i images) id)
  pub ends : (id : ℕ) → ((k : ℕ) (d : Span) → k < i → (get_or images k d).first ≤ id)
      → (id < reached) ↔ (1 ≤ times (take i images) id)

pub SweptTo-start : (images : List Span) → SweptTo images 0 0 []
SweptTo-start images = search (rules, hold_none)

-- one image more, of which the ids that were reached before were added
module _ (images : List Span) (i reached first end new : ℕ) (again more : List Span) (d : Span)
    (so_far : SweptTo images i reached again) (some : All IsSpan images)
    (rising : IsNonDecreasingBy (λ span. span.first) images) (inside : i < length images)
    (first_is : first ≡ (get_or images i d).first) (end_is : end ≡ min reached ((get_or images i d).last + 1))
    (is : new ≡ max reached ((get_or images i d).last + 1))
    (adds : (id : ℕ) → Hold more id ↔ (Hold again id ⊎ ((first ≤ id) × (id < end)))) where
  -- no image so far begins above an id of this one, so it was reached before where it is below the end
  reached_before : (id : ℕ) → (get_or images i d).first ≤ id → (id < reached) ↔ (1 ≤ times (take i images) id)
  reached_before id from = so_far.ends id (λ k e before.
      (let up : (get_or images k e).first ≤ (get_or images i e).first = rising k i e (omega arith) inside in
      search (rules, get_or_default)))

  hold_more : (id : ℕ) → Hold more id ↔ (2 ≤ times (take (i + 1) images) id)
  hold_more id =
      let once = sum_by_more (has_times id) images i d inside in
      elim (has_or_not (get_or images i d) id) [
        | inl (is_one, has) ↦ (
          (λ held. elim ((adds id).0 held) [
            | inl old ↦ omega (arith, once, (so_far.hold id).0 old)
            | inr (low, high) ↦ omega (arith, once, is_one, (reached_before id has.0).0 (omega arith))
          ]),
          (λ twice. (adds id).1 (elim (cases_lt (times (take i images) id) 2) [
            | inl few ↦ inr (omega (arith, has), omega (arith, has, (reached_before id has.0).1 (omega arith)))
            | inr many ↦ inl ((so_far.hold id).1 many)
          ])),
        )
        | inr (is_none, not) ↦ (
          (λ held. elim ((adds id).0 held) [
            | inl old ↦ omega (arith, once, (so_far.hold id).0 old)
            | inr between ↦ absurd (not (omega (arith, between)))
          ]),
          (λ twice. (adds id).1 (inl ((so_far.hold id).1 (omega (arith, once, is_none))))),
        )
      ]

  ends_more : (id : ℕ) → ((k : ℕ) (e : Span) → k < i + 1 → (get_or images k e).first ≤ id)
      → (id < new) ↔ (1 ≤ times (take (i + 1) images) id)
  ends_more id low =
      let begins : (get_or images i d).first ≤ id = low i d (omega arith) in
      let once = sum_by_more (has_times id) images i d inside in
      search (rules, has_or_not, cases_lt, reached_before)

  pub SweptTo-more : SweptTo images (i + 1) new more
  SweptTo-more = record {
    bound = omega (arith, so_far.bound, some i d inside);
    hold = hold_more;
    ends = ends_more;
  }

-- after the last image
pub SweptTo-end : (images : List Span) (i reached : ℕ) (again : List Span) → SweptTo images i reached again
    → length images ≤ i → (id : ℕ) → Hold again id ↔ (2 ≤ times images id)
SweptTo-end images i reached again so_far end id = rw (take_all i images end) at (so_far.hold id)

-- ---- spans in order

-- the spans that are kept have an id each, and each id as often as all
pub record AreKept (spans kept : List Span) : Type 0 where
  pub some : All IsSpan kept
  pub same : (id : ℕ) → times kept id ≡ times spans id

-- a span without an id is left out
pub kept_without : (spans kept : List Span) (i : ℕ) (d : Span) → i < length spans → AreKept (take i spans) kept
    → (get_or spans i d).last < (get_or spans i d).first → AreKept (take (i + 1) spans) kept
kept_without spans kept i d inside so_far none = record {
  some = so_far.some;
  same = λ id.
      (let once = sum_by_more (has_times id) spans i d inside in
      let same = so_far.same id in
      search (rules, has_or_not));
}

-- one with an id is kept
pub kept_with : (spans kept : List Span) (i : ℕ) (d : Span) → i < length spans → AreKept (take i spans) kept
    → IsSpan (get_or spans i d) → AreKept (take (i + 1) spans) (kept ++ get_or spans i d ∷ [])
kept_with spans kept i d inside so_far is = record {
  some = All-push IsSpan kept (get_or spans i d) so_far.some is;
  same = λ id. omega (
    arith,
    sum_by_more (has_times id) spans i d inside,
    sum_by_push (has_times id) kept (get_or spans i d),
    so_far.same id,
  );
}
