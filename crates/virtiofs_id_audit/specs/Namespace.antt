-- The user namespace that a daemon runs in: which ids inside it stand for which ids outside it.
use Rattle.std.specs.Prelude.{◌≡◌, ◌⊎◌, ℕ, ◌+◌, ◌-◌, ◌≤◌, List, [], ◌∷◌, Contains}
use Rattle.virtiofs_map.specs.Mapping.{InRange}
use Rattle.virtiofs_map.specs.declared.idmap.UidMap.{UidMap}

-- the range has the id inside the namespace
abbrev pub Has : UidMap → ℕ → Type 0
Has range inside = InRange range.inside_uid range.count inside

-- some range has the id
abbrev pub HasSome : List UidMap → ℕ → Type 0
HasSome ranges inside = (range : UidMap) × Contains ranges range × Has range inside

-- no range has the id, which is one of 0 to 4294967295
abbrev pub HasNone : List UidMap → ℕ → Type 0
HasNone ranges inside = (inside ≤ 4294967295) × (¬ HasSome ranges inside)

-- each namespace lacks 4294967295, which is no id to Linux; one of ranges also lacks the ids that none of them has
abbrev pub IsLacking : List UidMap → ℕ → Type 0
IsLacking [] inside = inside ≡ 4294967295
IsLacking (range ∷ ranges) inside = (inside ≡ 4294967295) ⊎ HasNone (range ∷ ranges) inside

-- outside the namespace, the id inside is that other one, by the range
pub record StandsBy (range : UidMap) (outside inside : ℕ) : Type 0 where
  pub has : Has range inside
  pub same : outside ≡ range.outside_uid + (inside - range.inside_uid)
  pub is_id : inside ≤ 4294967295
  pub is_id_outside : outside ≤ 4294967295

-- it is so by one of the ranges
abbrev pub StandsAmong : List UidMap → ℕ → ℕ → Type 0
StandsAmong ranges outside inside = (range : UidMap) × Contains ranges range × StandsBy range outside inside

-- outside the namespace, the id inside is that other one; without ranges, each is itself
abbrev pub StandsFor : List UidMap → ℕ → ℕ → Type 0
StandsFor [] outside inside = inside ≡ outside
StandsFor (range ∷ ranges) outside inside = StandsAmong (range ∷ ranges) outside inside

-- outside the namespace, the id inside is root
abbrev pub IsRoot : List UidMap → ℕ → Type 0
IsRoot ranges inside = StandsFor ranges 0 inside
