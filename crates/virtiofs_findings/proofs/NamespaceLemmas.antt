-- The ranges of the namespace that a daemon runs in.
use Rattle.std.proofs.Common.{◌≡◌, ◌≢◌, ◌⊎◌, inl, inr, ℕ, zero, suc, ◌+◌, ◌-◌, ◌<◌, ◌≤◌, List, [], ◌∷◌, All}
use Rattle.std.proofs.Common.{refl, sym, ap, ◌∙◌, Bool, true, false, cond, Option, None, Some, option_map, arith}
use Rattle.std.specs.Prelude.{nat_lt, ◌&&◌}
use Rattle.std.proofs.lemmas.Bool.{and_right, cases_eq, cases_lt, le-leb, leb-true, and_parts, lt-leb, lt-ltb, le-ltb}
use Rattle.std.proofs.lemmas.List.Elements.{All-nil, All-cons, All-head, All-tail, All-weaker}
use Rattle.virtiofs_map.specs.declared.idmap.UidMap.{UidMap}
use Rattle.virtiofs_findings.specs.FindingParts.{AgreeAround}
use Rattle.virtiofs_findings.specs.Ranges.{has, outside_of, AreSame}

-- ---- ranges that mean the same

-- an id is neither the first of the range nor the one behind its last
abbrev IsApart : ℕ → UidMap → Type 0
IsApart n range = (range.inside_uid ≢ n) × (range.inside_uid + range.count ≢ n)

-- what holds at both of each range holds at an id, or the id is neither of any
apart_or : (G : Type 0) (n : ℕ) (ranges : List UidMap)
    → All (λ range. (range.inside_uid ≡ n → G) × (range.inside_uid + range.count ≡ n → G)) ranges
    → G ⊎ All (IsApart n) ranges
apart_or G n [] all = inr (All-nil (IsApart n))
apart_or G n (range ∷ ranges) all =
    let here = All-head (λ it. (it.inside_uid ≡ n → G) × (it.inside_uid + it.count ≡ n → G)) range ranges all in
    let more = All-tail (λ it. (it.inside_uid ≡ n → G) × (it.inside_uid + it.count ≡ n → G)) range ranges all in
    elim (cases_eq range.inside_uid n) [
      | inl first ↦ inl (here.0 first)
      | inr not_first ↦ elim (cases_eq (range.inside_uid + range.count) n) [
        | inl behind ↦ inl (here.1 behind)
        | inr not_behind ↦ grind (arith, apart_or G n ranges more, All-cons, IsApart)
      ]
    ]

-- a range lacks an id
lacks_before : (range : UidMap) (n : ℕ) → n < range.inside_uid → has range n ≡ false
lacks_before range n before = ap (λ b. b && nat_lt n (range.inside_uid + range.count)) (lt-leb range.inside_uid n before)

-- what the first of the ranges makes of an id that has it
abbrev outside_by : ℕ → Option UidMap → Option ℕ
outside_by n found = option_map (λ range. range.outside_uid + (n - range.inside_uid)) found

-- the next id outside is that of the next id inside
next_by : (range : UidMap) (n : ℕ) (before : Bool) (rest next : Option UidMap)
    → (before ≡ true → range.inside_uid ≤ n)
    → outside_by (suc n) next ≡ option_map (λ m. suc m) (outside_by n rest)
    → outside_by (suc n) (cond before (Some range) next)
    ≡ option_map (λ m. suc m) (outside_by n (cond before (Some range) rest))
next_by range n before rest next from others = grind arith

outside_next : (ranges : List UidMap) (n : ℕ) → All (IsApart (suc n)) ranges
    → outside_of ranges (suc n) ≡ option_map (λ m. suc m) (outside_of ranges n)
outside_next [] n apart = refl
outside_next (range ∷ ranges) n apart =
    grind (arith, outside_next ranges n (All-tail (IsApart (suc n)) range ranges apart), outside_by, cases_lt, lacks_before, le-leb, lt-ltb, and_right, le-ltb, All-head, IsApart, next_by, leb-true, and_parts, All-tail)

-- no range has 0 that does not begin there
outside_none : (ranges : List UidMap) → All (IsApart 0) ranges → outside_of ranges 0 ≡ None
outside_none [] apart = refl
outside_none (range ∷ ranges) apart =
    grind (arith, outside_none ranges (All-tail (IsApart 0) range ranges apart), cases_lt, lacks_before, All-tail, All-head)

-- both lists agree at an id, or none of some ranges has a bound there
agree_or_apart : (shown written ranges : List UidMap) (n : ℕ) → All (AgreeAround shown written) ranges
    → (outside_of shown n ≡ outside_of written n) ⊎ All (IsApart n) ranges
agree_or_apart shown written ranges n agree =
    let Agree : ℕ → Type 0 = λ k. outside_of shown k ≡ outside_of written k in
    apart_or (Agree n) n ranges (grind (arith, All-weaker))

-- so ranges that agree around each of them agree at each id
pub agree_all : (shown written : List UidMap) → All (AgreeAround shown written) shown
    → All (AgreeAround shown written) written → (n : ℕ) → outside_of shown n ≡ outside_of written n
agree_all shown written of_shown of_written zero = grind (arith, agree_or_apart, outside_none)
agree_all shown written of_shown of_written (suc n) = elim (agree_or_apart _ _ _ _ of_shown) [
  | inl agree ↦ agree
  | inr apart ↦ elim (agree_or_apart _ _ _ _ of_written) [
    | inl agree ↦ agree
    | inr too ↦ outside_next _ n apart ∙ ap (option_map (λ m. suc m)) (agree_all _ _ of_shown of_written n)
        ∙ sym (outside_next _ n too)
  ]
]

-- ranges that mean the same agree around each range
pub same_around : (shown written ranges : List UidMap) → AreSame shown written → All (AgreeAround shown written) ranges
same_around shown written ranges same k d inside = (same.1 _, same.1 _)
