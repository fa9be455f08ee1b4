-- What it costs to find the first rule of a name, in nodes of a trie.
use Rattle.std.specs.Prelude.{◌≡◌, ℕ, Bool, ◌+◌, nat_eq, if◌then◌else◌, List, [], ◌∷◌, length, min, max}
use Rattle.std.specs.List.{common_prefix_len}
use Rattle.std.specs.Option.{option_map_or}
use Rattle.virtiofs_map.specs.Names.{deciding}
use Rattle.virtiofs_map.specs.Rule.{MappingRule}
use Rattle.virtiofs_map.specs.Steps.{CountsBetween, count_after}
use Rattle.virtiofs_map.specs.declared.xattrmap.scopes.Side.{Side}
use Rattle.virtiofs_map.specs.declared.xattrmap.scopes.Side.TheVariants.{Client, Server}

-- whether the rule acts on that side
abbrev pub acts : Side → MappingRule → Bool
acts Client rule = rule.client
acts Server rule = rule.server

-- what a name of that side must start with, for the rule to fit it
abbrev pub pattern : Side → MappingRule → List ℕ
pattern Client rule = rule.key
pattern Server rule = rule.prepend

-- the length of the longest pattern of that side; 0 where no rule acts on it
abbrev pub longest : Side → List MappingRule → ℕ
longest side [] = 0
longest side (rule ∷ rules) =
    if acts side rule then max (length (pattern side rule)) (longest side rules) else longest side rules

-- the length of the pattern that decides the name; 0 where none does
abbrev pub deciding_length : Side → List MappingRule → List ℕ → ℕ
deciding_length side rules name = option_map_or (λ rule. length (pattern side rule)) (deciding side rules name) 0

-- a lookup counted at least 1 + the length of the deciding pattern (0 if there is none) steps, and at most 1 + the
-- smaller of the length of the name and that of the longest pattern
abbrev pub CountsLookup : Side → List MappingRule → List ℕ → ℕ → ℕ → Type 0
CountsLookup side rules name =
    CountsBetween (deciding_length side rules name + 1) (min (length name) (longest side rules) + 1)

-- how many bytes two rows of bytes share at their beginning
abbrev pub shared : List ℕ → List ℕ → ℕ
shared one other = common_prefix_len nat_eq one other

-- the most bytes that the name shares with a pattern of that side; 0 where no rule acts on it
abbrev pub most_shared : Side → List MappingRule → List ℕ → ℕ
most_shared side [] name = 0
most_shared side (rule ∷ rules) name =
    if acts side rule then max (shared (pattern side rule) name) (most_shared side rules name) else most_shared side
    rules name

-- a lookup counted one step more than that; the counter saturates
abbrev pub CountsFronts : Side → List MappingRule → List ℕ → ℕ → ℕ → Type 0
CountsFronts side rules name before after = after ≡ count_after before (most_shared side rules name + 1)
