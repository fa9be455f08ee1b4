-- Which ids some spans have, with one span more, and how often.
use Rattle.std.proofs.Common.{◌≡◌, ◌↔◌, ◌⊎◌, inl, inr, ℕ, ◌≤◌, List, [], ◌∷◌, ◌++◌, refl, arith, rules}
use Rattle.std.proofs.lemmas.Bool.{cases_lt}
use Rattle.std.proofs.lemmas.Bool.Decides.{nat_tests}
use Rattle.std.proofs.lemmas.List.Elements.{All-contains, All-cons, All-nil, Contains-append_cases}
use Rattle.std.proofs.lemmas.List.Elements.{Contains-append_right, Contains-push, Contains-push_cases}
use Rattle.std.proofs.lemmas.List.Elements.{Contains-append_left}
use Rattle.std.proofs.lemmas.List.Sums.{sum_by-cons}
use Rattle.virtiofs_id_audit.specs.IdAudit.{Has, Hold}
use Rattle.virtiofs_id_audit.specs.IdAuditParts.{has_times, times}
use Rattle.virtiofs_id_audit.specs.declared.spans.Span.{Span}

-- one more at the end
pub hold_push : (spans : List Span) (span : Span) (id : ℕ) → Hold (spans ++ span ∷ []) id → Hold spans id ⊎ Has span id
hold_push spans span id (other, listed, has) =
    elim (Contains-push_cases spans span other listed) [
      | inl before ↦ inl (other, before, has)
      | inr same ↦ inr (rw same has)
    ]

pub push_hold : (spans : List Span) (span : Span) (id : ℕ) → Hold spans id ⊎ Has span id → Hold (spans ++ span ∷ []) id
push_hold spans span id (inl (other, listed, has)) = (other, Contains-append_left spans (span ∷ []) other listed, has)
push_hold spans span id (inr has) = (span, Contains-push spans span, has)

-- one more in front
pub hold_front : (span : Span) (spans : List Span) (id : ℕ) → Hold (span ∷ spans) id ↔ (Has span id ⊎ Hold spans id)
hold_front span spans id = (
  search (rules, Contains-append_cases, All-contains, All-cons, All-nil),
  (λ held. elim held [
    | inl has ↦ (span, (0, omega arith, refl), has)
    | inr (other, listed, has) ↦ (other, Contains-append_right (span ∷ []) spans other listed, has)
  ]),
)

-- none has no id
pub hold_none : (id : ℕ) → ¬ Hold [] id
hold_none id (span, listed, has) = absurd (omega (arith, listed.1))

-- one span has the ids that it has
pub hold_one : (span : Span) (id : ℕ) → Hold (span ∷ []) id → Has span id
hold_one span id held = search (rules, hold_front, hold_none)

-- ---- how many of them have an id

pub has_or_not : (span : Span) (id : ℕ)
    → ((has_times id span ≡ 1) × Has span id) ⊎ ((has_times id span ≡ 0) × (¬ Has span id))
has_or_not span id = search (rules, cases_lt, nat_tests)

-- spans have an id where one of them counts it
pub times_hold : (spans : List Span) (id : ℕ) → (1 ≤ times spans id) ↔ Hold spans id
times_hold [] id = ((λ some. absurd (omega (arith, some))), (λ held. absurd (hold_none id held)))
times_hold (span ∷ spans) id =
    let all = sum_by-cons (has_times id) span spans in
    let rest = times_hold spans id in
    let front = hold_front span spans id in
    search (rules, has_or_not)
