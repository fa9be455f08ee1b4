-- What begins the pattern of a rule, as the path of a node does.
use Rattle.std.proofs.Common.{◌≡◌, ◌≢◌, ◌⊎◌, ℕ, zero, suc, ◌≤◌, true, List, [], ◌∷◌, length, take, drop, All, Contains}
use Rattle.std.proofs.Common.{inl, inr, refl, sym, ap, ◌∙◌, arith, take_at}
use Rattle.std.proofs.lemmas.List.Elements.{All-contains, All-nil, All-same, All-take}
use Rattle.virtiofs_map.specs.NodeParts.{BeginsPattern}
use Rattle.virtiofs_map.specs.FirstRule.{acts, pattern, longest}
use Rattle.virtiofs_map.specs.Rule.{MappingRule, HasNoZero}
use Rattle.virtiofs_map.specs.declared.xattrmap.scopes.Side.{Side}
use Rattle.virtiofs_map.proofs.BeginsLemmas.{begins_split}

-- a pattern of a rule is no longer than the longest
pub no_longer : (side : Side) (rules : List MappingRule) (rule : MappingRule) → Contains rules rule
    → acts side rule ≡ true → length (pattern side rule) ≤ longest side rules
no_longer side [] rule (at, below, is) acting = absurd (omega arith)
no_longer side (r ∷ rules) rule (zero, below, is) acting = grind arith
no_longer side (r ∷ rules) rule (suc at, below, is) acting =
    let later = no_longer side rules rule (at, omega arith, is) acting in
    grind arith

-- a pattern of a rule without zeros has none
pub pattern_no_zero : (side : Side) (rule : MappingRule) → HasNoZero rule → All (λ byte. byte ≢ 0) (pattern side rule)
pattern_no_zero side rule none = grind arith

module _ (side : Side) (rules : List MappingRule) (path : List ℕ)
    (front : (path ≡ []) ⊎ BeginsPattern side rules path) where
  -- so a path holds no zero where the rules hold none
  pub path_no_zero : All HasNoZero rules → All (λ byte. byte ≢ 0) path
  path_no_zero plain = elim front [
    | inl none ↦ All-same (λ byte. byte ≢ 0) path [] none (All-nil (λ byte. byte ≢ 0))
    | inr of ↦
        (let full = pattern_no_zero side of.rule (All-contains HasNoZero rules of.rule plain of.inside) in
        let is : path ≡ take (length path) (pattern side of.rule) =
        sym (ap (take (length path)) (begins_split path (pattern side of.rule) of.starts)
        ∙ take_at path (drop (length path) (pattern side of.rule)) (length path) refl) in
        All-same (λ byte. byte ≢ 0) path (take (length path) (pattern side of.rule)) is
        (All-take (λ byte. byte ≢ 0) (length path) (pattern side of.rule) full))
  ]
