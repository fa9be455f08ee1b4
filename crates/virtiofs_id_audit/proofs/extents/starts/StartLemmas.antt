-- At which ids of the guest a run of ids that come back may begin.
use Rattle.std.proofs.Common.{◌≡◌, ◌⊎◌, ◌↔◌, inl, inr, ℕ, ◌+◌, ◌-◌, ◌<◌, ◌≤◌, true, false, List, [], ◌∷◌, ◌++◌, Bool}
use Rattle.std.proofs.Common.{Some, None, refl, sym, ap, ◌∙◌, arith, rules}
use Rattle.std.proofs.lemmas.Bool.{cases_lt, cases_order}
use Rattle.std.proofs.lemmas.Option.{same_Some}
use Rattle.virtiofs_id_audit.specs.IdAuditParts.{AreStarts}
use Rattle.virtiofs_id_audit.specs.IdAudit.{Hold}
use Rattle.virtiofs_id_audit.specs.declared.spans.Span.{Span}
use Rattle.virtiofs_map.specs.Build.{Accepted}
use Rattle.virtiofs_map.specs.Mapping.{Becomes}
use Rattle.virtiofs_map.specs.Pieces.{is_one_to_one, value_in, IsPiece, PiecesLeft, GivesPiece}
use Rattle.virtiofs_map.specs.declared.cmdline.IdMap.{IdMap}
use Rattle.virtiofs_map.specs.declared.soft_idmap.entry.Direction.TheVariants.{HostToGuest}
use Rattle.virtiofs_map.specs.declared.soft_idmap.piece.Piece.{Piece}
use Rattle.virtiofs_id_audit.proofs.HeldLemmas.{push_hold}
use Rattle.virtiofs_id_audit.proofs.PieceLemmas.{value-each, value-not_each}
use Rattle.virtiofs_map.proofs.ForCallers.{lookup_one_value}

-- ---- the pieces of the host

-- the id of the guest is a start, or the ids before both do so too
abbrev pub IsAfterStart : List IdMap → List Span → ℕ → ℕ → Type 0
IsAfterStart specs starts host guest = Hold starts guest ⊎ Becomes specs HostToGuest (host - 1) (Some (guest - 1))

module _ (specs : List IdMap) (piece : Piece) (starts : List Span) (host guest : ℕ) (accepted : Accepted specs)
    (is : IsPiece specs HostToGuest piece) (from : piece.first ≤ host) (to : host ≤ piece.last)
    (becomes : Becomes specs HostToGuest host (Some guest)) where
  value : value_in piece host ≡ Some guest
  value = lookup_one_value specs accepted HostToGuest host _ _ (is.becomes host from to) becomes

  -- what the first id of the piece becomes is a start
  pub started : (start : ℕ) → Some start ≡ value_in piece piece.first → Hold starts start
      → IsAfterStart specs starts host guest
  started start start_is listed =
      elim (cases_order piece.first host) [
        | inl same ↦ inl (at (same_Some _ _ (start_is ∙ ap (λ (n : ℕ). value_in piece n) same ∙ value)))
        | inr (inl later) ↦ by (is_one_to_one piece.becomes) refl later
        | inr (inr beyond) ↦ absurd (omega arith)
      ] where
        at : start ≡ guest → Hold starts guest
        at same = rw (← same) listed

        by : (each : Bool) → is_one_to_one piece.becomes ≡ each → piece.first < host
            → IsAfterStart specs starts host guest
        by true each later =
            let here : start + (host - piece.first) ≡ guest =
            same_Some _ _ (sym (value-each piece start host each start_is from) ∙ value) in
            let before : value_in piece (host - 1) ≡ Some (guest - 1) =
            value-each piece start (host - 1) each start_is (omega arith) ∙ ap (λ (n : ℕ). Some n) (omega arith) in
            inr (rw before at (is.becomes (host - 1) (omega arith) (omega arith)))
        by false all later = search (rules, at, same_Some, value-not_each, value)

-- ---- the pieces so far

pub record StartsSoFar (specs : List IdMap) (starts : List Span) (left : PiecesLeft) : Type 0 where
  pub specs_are : left.specs ≡ specs
  pub direction_is : left.direction ≡ HostToGuest
  pub starts_are : (host guest : ℕ) → 1 ≤ host → host < left.next → Becomes specs HostToGuest host (Some guest)
      → IsAfterStart specs starts host guest

module _ (specs : List IdMap) (starts : List Span) (left after : PiecesLeft) (piece : Piece) (accepted : Accepted specs)
    (so_far : StartsSoFar specs starts left) (gives : GivesPiece left (Some piece) after) where
  is_piece : IsPiece specs HostToGuest piece
  is_piece = rw (so_far.specs_are, so_far.direction_is) at gives.0

  with_more : (more : List Span) → ((guest : ℕ) → Hold starts guest → Hold more guest)
      → ((host guest : ℕ) → piece.first ≤ host → host ≤ piece.last → Becomes specs HostToGuest host (Some guest)
      → IsAfterStart specs more host guest) → StartsSoFar specs more after
  with_more more wider here = rw gives.2 (record {
    specs_are = so_far.specs_are;
    direction_is = so_far.direction_is;
    starts_are = λ host guest some below becomes.
        (let begins : piece.first ≡ left.next = gives.1 in
        elim (cases_lt host left.next) [
          | inl before ↦ elim (so_far.starts_are host guest some before becomes) [
            | inl listed ↦ inl (wider guest listed)
            | inr both ↦ inr both
          ]
          | inr later ↦ here host guest (omega arith) (omega arith) becomes
        ]);
  })

  pub StartsSoFar-push : (span : Span) → Some span.first ≡ value_in piece piece.first → span.first ≤ span.last
      → StartsSoFar specs (starts ++ span ∷ []) after
  StartsSoFar-push span start_is order =
      with_more (starts ++ span ∷ []) (λ guest held. push_hold starts span guest (inl held))
      (λ host guest from to becomes. started specs piece (starts ++ span ∷ []) host guest accepted is_piece from to
      becomes span.first start_is (push_hold starts span span.first (inr (omega arith, order))))

pub AreStarts-merged : (specs : List IdMap) (starts merged : List Span) (left after : PiecesLeft)
    → StartsSoFar specs starts left → GivesPiece left None after → ((id : ℕ) → Hold merged id ↔ Hold starts id)
    → AreStarts specs merged
AreStarts-merged specs starts merged left after so_far gives same host guest some within becomes =
    elim (so_far.starts_are host guest some (omega arith) becomes) [
      | inl held ↦ inl ((same guest).1 held)
      | inr both ↦ inr both
    ]
