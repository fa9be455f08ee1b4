-- What holds of an accepted list of specifications: one value for a number, and `map` ranges that lead back.
use Rattle.std.proofs.Common.{◌≡◌, inl, inr, ℕ, ◌+◌, ◌-◌, ◌<◌, List, length, get_or, Contains, IsPermutation, Option}
use Rattle.std.proofs.Common.{Some, None, IsSomeAnd, IfSome, refl, ap, subst, arith, rules}
use Rattle.std.proofs.lemmas.List.{get_or_default}
use Rattle.std.proofs.lemmas.List.Elements.{All-contains}
use Rattle.std.proofs.lemmas.List.Sorted.{All-permutation, Contains-permutation, IsPermutation-sym}
use Rattle.std.proofs.lemmas.Bool.{cases_order}
use Rattle.std.proofs.lemmas.Option.{same_Some}
use Rattle.virtiofs_map.proofs.BuildLemmas.{built}
use Rattle.virtiofs_map.proofs.SortedLemmas.{apart-permutation}
use Rattle.virtiofs_map.specs.Mapping.{entry_of, Covers, Maps, Becomes}
use Rattle.virtiofs_map.specs.Build.{Accepted, HasSource, HasTarget}
use Rattle.virtiofs_map.specs.MappingLaws.{HasOneValue, IsOrderFree, KeepsGreatest, IsMappedBothWays, opposite}
use Rattle.virtiofs_map.specs.MappingLaws.{LeadsBack}
use Rattle.virtiofs_map.specs.declared.cmdline.IdMap.{IdMap}
use Rattle.virtiofs_map.specs.declared.cmdline.IdMap.TheVariants.{Bidirectional}
use Rattle.virtiofs_map.specs.declared.soft_idmap.entry.Direction.{Direction}
use Rattle.virtiofs_map.specs.declared.soft_idmap.entry.Direction.TheVariants.{GuestToHost, HostToGuest}

-- the earlier of two specifications meets no later one
earlier_covers : (specs : List IdMap) (direction : Direction) (n i j : ℕ) (x y : IdMap) → Accepted specs → i < j
    → j < length specs → get_or specs i x ≡ x → get_or specs j y ≡ y → Covers x direction n → Covers y direction n
    → x ≡ y
earlier_covers specs direction n i j x y accepted before below here there first second =
    let first' : Covers (get_or specs i x) direction n = rw here first in
    let second' : Covers (get_or specs j x) direction n = rw (get_or_default specs j x y below, there) second in
    absurd (accepted.apart direction i j x before below (n, first', second'))

-- only one specification covers a number
one_covers : (specs : List IdMap) (direction : Direction) (n : ℕ) (x y : IdMap) → Accepted specs → Contains specs x
    → Contains specs y → Covers x direction n → Covers y direction n → x ≡ y
one_covers specs direction n x y accepted (i, below, here) (j, under, there) first second =
    grind (arith, cases_order, get_or_default, earlier_covers)

-- what a specification maps it covers
pub Covers-maps : (spec : IdMap) (direction : Direction) (n : ℕ) (value : Option ℕ) → Maps spec direction n value
    → Covers spec direction n
Covers-maps spec direction n value maps = search rules

pub HasOneValue-accepted : (specs : List IdMap) → Accepted specs → HasOneValue specs
HasOneValue-accepted specs accepted direction n value other e h = grind (arith, one_covers, Covers-maps)

-- so it becomes one number
pub Becomes-one : (specs : List IdMap) (direction : Direction) (n a b : ℕ) → Accepted specs
    → Becomes specs direction n (Some a) → Becomes specs direction n (Some b) → a ≡ b
Becomes-one specs direction n a b accepted first second = search (rules, same_Some, HasOneValue-accepted)

-- or its use fails, and not both
pub Becomes-forbidden : (specs : List IdMap) (direction : Direction) (n a : ℕ) → Accepted specs
    → Becomes specs direction n (Some a) → ¬ Becomes specs direction n None
Becomes-forbidden specs direction n a accepted becomes forbidden =
    let same : Some a ≡ None = search (rules, HasOneValue-accepted) in
    absurd (cc)

-- what a `map` makes of a number leads back by that `map`
map_there : (guest host count : ℕ) (direction : Direction) (n : ℕ) → Covers (Bidirectional guest host count) direction n
    → (value : ℕ) × Maps (Bidirectional guest host count) direction n (Some value)
    × Maps (Bidirectional guest host count) (opposite direction) value (Some n)
map_there guest host count GuestToHost n (low, high) =
    (host + (n - guest), ((low, high), refl), ((omega arith, omega arith), ap (λ (k : ℕ). Some k) (omega arith)))
map_there guest host count HostToGuest n (low, high) =
    (guest + (n - host), ((low, high), refl), ((omega arith, omega arith), ap (λ (k : ℕ). Some k) (omega arith)))

-- where a `map` covers the number, its use does not fail, and what it becomes leads back
pub LeadsBack-mapped : (specs : List IdMap) (direction : Direction) (n : ℕ) (value : Option ℕ) → Accepted specs
    → IsMappedBothWays specs direction n → Becomes specs direction n value
    → IsSomeAnd value (LeadsBack specs direction n)
LeadsBack-mapped specs direction n value accepted mapped becomes =
    let spec = Bidirectional mapped.guest mapped.host mapped.count in
    let (to, there, back) = map_there mapped.guest mapped.host mapped.count direction n mapped.covers in
    let same : Some to ≡ value =
    HasOneValue-accepted specs accepted direction n (Some to) value (inl (spec, mapped.listed, there)) becomes in
    subst (λ (o : Option ℕ). IsSomeAnd o (LeadsBack specs direction n)) same (inl (spec, mapped.listed, back))

-- no range ends past the greatest number
pub KeepsGreatest-accepted : (specs : List IdMap) → Accepted specs → KeepsGreatest specs
KeepsGreatest-accepted specs accepted direction = search (rules, All-contains)

-- the specifications of one list make the same of a number in any other list that has them all
Becomes-listed : (specs others : List IdMap) (direction : Direction) (n : ℕ) (value : Option ℕ)
    → ((spec : IdMap) → Contains specs spec → Contains others spec)
    → ((spec : IdMap) → Contains others spec → Contains specs spec) → Becomes specs direction n value
    → Becomes others direction n value
Becomes-listed specs others direction n value to from (inl (spec, listed, maps)) = inl (spec, to spec listed, maps)
Becomes-listed specs others direction n value to from (inr (none, same)) =
    inr ((λ spec listed covers. none spec (from spec listed) covers), same)

pub IsOrderFree-accepted : (specs : List IdMap) → Accepted specs → IsOrderFree specs
IsOrderFree-accepted specs accepted others permutation =
    let back : IsPermutation others specs = IsPermutation-sym specs others permutation in
    let to : (spec : IdMap) → Contains specs spec → Contains others spec =
    λ spec listed. Contains-permutation specs others spec permutation listed in
    let from : (spec : IdMap) → Contains others spec → Contains specs spec =
    λ spec listed. Contains-permutation others specs spec back listed in (
      record {
        source =
            λ direction. All-permutation (λ (spec : IdMap). IfSome (entry_of spec direction) HasSource) specs others
            permutation (accepted.source direction);
        target =
            λ direction. All-permutation (λ (spec : IdMap). IfSome (entry_of spec direction) HasTarget) specs others
            permutation (accepted.target direction);
        apart = λ direction. apart-permutation specs others direction permutation (accepted.apart direction);
      },
      λ direction n value. (search (rules, Becomes-listed)),
    )

-- what a build promises
pub ruleset what_is_built = (built, IsOrderFree-accepted, KeepsGreatest-accepted)
