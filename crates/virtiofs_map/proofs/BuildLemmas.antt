-- How an accepted list grows by one specification, and that a list has at most one first fault, and an accepted one
-- none.
use Rattle.std.proofs.Common.{◌≡◌, ℕ, ◌<◌, List, length, take, get_or, Option, Some, IsSomeAnd, IfSome, slice_get}
use Rattle.std.proofs.Common.{arith, rules, ◌+◌, [], ◌∷◌, ◌++◌}
use Rattle.std.proofs.Math.Seq.{take-length}
use Rattle.std.proofs.lemmas.Bool.{cases_order}
use Rattle.std.proofs.lemmas.List.{get_or-take, get_or_default, length-take, take_more}
use Rattle.std.proofs.lemmas.Option.{get_or_from_slice_get, slice_get_within, same_Some, slice_get-get_or}
use Rattle.virtiofs_map.proofs.ReaderLemmas.{out_of_memory, told_fault}
use Rattle.virtiofs_map.specs.Mapping.{entry_of}
use Rattle.virtiofs_map.specs.Build.{Accepted, HasSource, MeetsEarlier, Fits, IsReached, BuildFault, RangeOverflow}
use Rattle.virtiofs_map.specs.Build.{Intersects, HasFirstFault, HasTarget, Meet}
use Rattle.virtiofs_map.specs.declared.cmdline.IdMap.{IdMap}
use Rattle.virtiofs_map.specs.declared.soft_idmap.entry.Direction.{Direction}
use Rattle.virtiofs_map.specs.declared.soft_idmap.entry.Entry.{Entry}
use Rattle.virtiofs_map.specs.declared.soft_idmap.errors.RangeEnd.TheVariants.{Source, Target}
use Rattle.std.proofs.lemmas.List.Elements.{All-push, Contains-get_or}
use Rattle.std.proofs.lemmas.List.Quantifiers.{all_pairs_push}
use Rattle.virtiofs_map.specs.declared.soft_idmap.entry.Direction.TheVariants.{GuestToHost, HostToGuest}

-- a specification of an accepted front fits after those before it
Fits-accepted : (specs : List IdMap) (i j : ℕ) (spec : IdMap) (direction : Direction) → Accepted (take j specs)
    → slice_get specs i ≡ Some spec → i < j → Fits (take i specs) spec direction
Fits-accepted specs i j spec direction accepted here before =
    let within : i < length specs = slice_get_within specs i spec here in
    let below : i < length (take j specs) = omega (arith, length-take j specs) in
    let is : get_or (take j specs) i spec ≡ spec = grind (arith, get_or-take, get_or_from_slice_get) in
    record {
      source = rw is at (accepted.source direction i spec below);
      apart = meets_none below is;
      target = rw is at (accepted.target direction i spec below);
    } where
      meets_none : i < length (take j specs) → get_or (take j specs) i spec ≡ spec
          → ¬ MeetsEarlier (take i specs) spec direction
      meets_none below is (other, (k, earlier, there), (n, first, second)) =
          let under : k < i = omega (arith, length-take i specs) in
          let other_is : get_or (take j specs) k other ≡ other = grind (arith, get_or-take) in
          accepted.apart direction k i other under below
          (grind (arith, get_or_default))

-- the specification at fault, its index and the direction
abbrev place_of : BuildFault → IdMap × ℕ × Direction
place_of (RangeOverflow spec index direction range_end) = (spec, index, direction)
place_of (Intersects spec index direction) = (spec, index, direction)

-- the tests come to a specification that does not fit
record IsUnfitAt (specs : List IdMap) (spec : IdMap) (index : ℕ) (direction : Direction) : Type 0 where
  reached : IsReached specs spec index direction
  unfit : ¬ Fits (take index specs) spec direction

-- what an entry has, it does not lack
not_broken : (P : Entry → Type 0) (o : Option Entry) → IfSome o P → ¬ IsSomeAnd o (λ entry. ¬ P entry)
not_broken P o holds broken = grind arith

unfit_at : (specs : List IdMap) (e : BuildFault) → HasFirstFault specs e
    → IsUnfitAt specs (place_of e).0 (place_of e).1 (place_of e).2
unfit_at specs (RangeOverflow spec index direction Source) (reached, broken) = search rules
unfit_at specs (RangeOverflow spec index direction Target) (reached, source, apart, broken) = search rules
unfit_at specs (Intersects spec index direction) (reached, source, meets) = search rules

unfit_accepted : (specs : List IdMap) (spec : IdMap) (index : ℕ) (direction : Direction) → Accepted specs
    → ¬ IsUnfitAt specs spec index direction
unfit_accepted specs spec index direction accepted at =
    let whole : Accepted (take (length specs) specs) = rw (take-length specs) accepted in
    at.unfit (grind (arith, Fits-accepted, slice_get_within))

pub Accepted-no_fault : (specs : List IdMap) (e : BuildFault) → Accepted specs → ¬ HasFirstFault specs e
Accepted-no_fault specs e accepted fault =
    unfit_accepted specs (place_of e).0 (place_of e).1 (place_of e).2 accepted (unfit_at specs e fault)

one_spec : (specs : List IdMap) (spec other : IdMap) (i : ℕ) (direction way : Direction)
    → IsUnfitAt specs spec i direction → IsUnfitAt specs other i way → spec ≡ other
one_spec specs spec other i direction way first second = search (rules, same_Some)

-- the tests come to one such place
one_place : (specs : List IdMap) (spec other : IdMap) (i j : ℕ) (direction way : Direction)
    → IsUnfitAt specs spec i direction → IsUnfitAt specs other j way
    → (spec ≡ other) × (i ≡ j) × (direction ≡ way)
one_place specs spec other i j direction way first second = grind (arith, cases_order, Fits-accepted, one_spec)

-- and only the first test that fails there is told
one_test : (specs : List IdMap) (e f : BuildFault)
    → ((place_of e).0 ≡ (place_of f).0) × ((place_of e).1 ≡ (place_of f).1) × ((place_of e).2 ≡ (place_of f).2)
    → HasFirstFault specs e → HasFirstFault specs f → e ≡ f
one_test specs e f same first second = grind (arith, not_broken)

pub HasFirstFault-one : (specs : List IdMap) (e f : BuildFault) → HasFirstFault specs e → HasFirstFault specs f → e ≡ f
HasFirstFault-one specs e f first second =
    one_test specs e f
    (one_place specs (place_of e).0 (place_of f).0 (place_of e).1 (place_of f).1 (place_of e).2 (place_of f).2
    (unfit_at specs e first) (unfit_at specs f second)) first second

-- by each direction
both : (P : Direction → Type 0) → P GuestToHost → P HostToGuest → (direction : Direction) → P direction
both P guest host direction = grind arith

Accepted-push : (xs : List IdMap) (x : IdMap) → Accepted xs → ((direction : Direction) → Fits xs x direction)
    → Accepted (xs ++ x ∷ [])
Accepted-push xs x accepted fits = record {
  source =
      λ direction. All-push (λ spec. IfSome (entry_of spec direction) HasSource) xs x (accepted.source direction)
      (fits direction).source;
  target =
      λ direction. All-push (λ spec. IfSome (entry_of spec direction) HasTarget) xs x (accepted.target direction)
      (fits direction).target;
  apart = λ direction. all_pairs_push (λ spec other. ¬ Meet spec other direction) xs x (accepted.apart direction)
      (grind (arith, Contains-get_or));
}

pub Accepted-more : (specs : List IdMap) (i : ℕ) (d : IdMap) → i < length specs → Accepted (take i specs)
    → Fits (take i specs) (get_or specs i d) GuestToHost → Fits (take i specs) (get_or specs i d) HostToGuest
    → Accepted (take (i + 1) specs)
Accepted-more specs i d below accepted guest host =
    rw (take_more specs i d below)
    (search (rules, Accepted-push, both))

-- a specification after accepted ones is reached
pub reached : (specs : List IdMap) (i : ℕ) (d : IdMap) (direction : Direction) → i < length specs → Accepted (take i specs)
    → (direction ≡ HostToGuest → Fits (take i specs) (get_or specs i d) GuestToHost)
    → IsReached specs (get_or specs i d) i direction
reached specs i d direction below accepted guest = search (rules, slice_get-get_or)

-- that a build tells the one first fault, and none of an accepted list
pub ruleset built = (out_of_memory, told_fault, Accepted-no_fault, HasFirstFault-one)

-- how far a build has come
pub ruleset grown = (Accepted-more, reached)
