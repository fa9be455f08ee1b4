-- Two lists of specifications, one after the other.
use Rattle.std.proofs.Common.{◌≡◌, ◌⊎◌, ◌↔◌, inl, inr, ℕ, List, [], ◌∷◌, ◌++◌, length, AllPairs, Contains, Option}
use Rattle.std.proofs.Common.{IfSome, refl, ◌∙◌, arith, rules}
use Rattle.std.proofs.lemmas.Bool.{cases_lt}
use Rattle.std.proofs.lemmas.List.{get_or_push, get_or_append_left, get_or-append_right, length-append}
use Rattle.std.proofs.lemmas.List.Elements.{All-append, All-nil, Contains-append_left}
use Rattle.std.proofs.lemmas.List.Elements.{Contains-append_right, Contains-append_cases, Contains-get_or}
use Rattle.virtiofs_id_audit.specs.Mending.{StandsBefore}
use Rattle.virtiofs_id_audit.specs.MendingParts.{Listed}
use Rattle.virtiofs_map.specs.Build.{Accepted, HasSource, HasTarget, Meet}
use Rattle.virtiofs_map.specs.Mapping.{entry_of, Covers, Maps}
use Rattle.virtiofs_map.specs.declared.cmdline.IdMap.{IdMap}
use Rattle.virtiofs_map.specs.declared.soft_idmap.entry.Direction.{Direction}
use Rattle.virtiofs_id_audit.proofs.RoundTripLemmas.{covered_maps, only}

-- ---- what is listed

-- where no specification maps the number, none covers it
pub none_covers : (specs : List IdMap) (direction : Direction) (n : ℕ)
    → ((value : Option ℕ) → ¬ Listed specs direction n value) → (spec : IdMap) → Contains specs spec
    → ¬ Covers spec direction n
none_covers specs direction n none spec listed covers =
    let (value, maps) = covered_maps spec direction n covers in
    none value (spec, listed, maps)

-- ---- one specification

pub Listed-one : (spec : IdMap) (direction : Direction) (n : ℕ) (value : Option ℕ)
    → Listed (spec ∷ []) direction n value ↔ Maps spec direction n value
Listed-one spec direction n value = search (rules, only)

pub Accepted-one : (spec : IdMap) → ((direction : Direction) → IfSome (entry_of spec direction) HasSource)
    → ((direction : Direction) → IfSome (entry_of spec direction) HasTarget) → Accepted (spec ∷ [])
Accepted-one spec source target = search (rules, All-nil)

-- ---- two lists

pub Listed-append : (specs more : List IdMap) (direction : Direction) (n : ℕ) (value : Option ℕ)
    → Listed (specs ++ more) direction n value ↔ (Listed specs direction n value ⊎ Listed more direction n value)
Listed-append specs more direction n value = (to, from) where
  to : Listed (specs ++ more) direction n value → Listed specs direction n value ⊎ Listed more direction n value
  to (spec, listed, maps) =
      elim (Contains-append_cases specs more spec listed) [
        | inl before ↦ inl (spec, before, maps)
        | inr after ↦ inr (spec, after, maps)
      ]

  from : Listed specs direction n value ⊎ Listed more direction n value → Listed (specs ++ more) direction n value
  from h0 = search (rules, Contains-append_left, Contains-append_right)

-- pairs of the one, pairs of the other, and one of each
AllPairs-append : {X : Type 0} (R : X → X → Type 0) (xs ys : List X) → AllPairs R xs → AllPairs R ys
    → ((x y : X) → Contains xs x → Contains ys y → R x y) → AllPairs R (xs ++ ys)
AllPairs-append R xs ys first second cross i j d before below =
    search (rules, length-append, cases_lt, get_or_append_left, get_or-append_right, Contains-get_or)

-- no number is mapped by both
abbrev pub KeepApart : List IdMap → List IdMap → Type 0
KeepApart specs more = (direction : Direction) (n : ℕ) (value other : Option ℕ) → Listed specs direction n value
    → ¬ Listed more direction n other

pub Accepted-append : (specs more : List IdMap) → Accepted specs → Accepted more → KeepApart specs more
    → Accepted (specs ++ more)
Accepted-append specs more first second apart = record {
  source =
      λ direction. All-append (λ spec. IfSome (entry_of spec direction) HasSource) specs more (first.source direction)
      (second.source direction);
  target =
      λ direction. All-append (λ spec. IfSome (entry_of spec direction) HasTarget) specs more (first.target direction)
      (second.target direction);
  apart = λ direction. AllPairs-append (λ spec other. ¬ Meet spec other direction) specs more (first.apart direction)
      (second.apart direction) (λ x y listed within (n, covers, covers').
      (let (value, maps) = covered_maps x direction n covers in
      let (other, maps') = covered_maps y direction n covers' in
      apart direction n value other (x, listed, maps) (y, within, maps')));
}

-- ---- which stands before which

pub StandsBefore-append : (specs more : List IdMap) (spec later : IdMap) → StandsBefore specs spec later
    → StandsBefore (specs ++ more) spec later
StandsBefore-append specs more spec later is = search (rules, length-append, get_or_append_left)

-- one more stands behind all others
pub StandsBefore-push : (specs : List IdMap) (spec later : IdMap) → Contains specs spec
    → StandsBefore (specs ++ later ∷ []) spec later
StandsBefore-push specs spec later (k, inside, here) = record {
  at = k;
  later_at = length specs;
  before = inside;
  inside = omega (arith, length-append specs (later ∷ []));
  here = get_or_append_left specs (later ∷ []) spec k inside ∙ here;
  there = get_or_push specs later later (length specs) refl;
}

pub StandsBefore-push_cases : (specs : List IdMap) (more spec later : IdMap) → StandsBefore (specs ++ more ∷ []) spec later
    → StandsBefore specs spec later ⊎ (Contains specs spec × (more ≡ later))
StandsBefore-push_cases specs more spec later is =
    search (rules, length-append, get_or_append_left, cases_lt, get_or_push)
