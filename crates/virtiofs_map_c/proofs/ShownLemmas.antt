-- The list that a daemon hands on, name by name.
use Rattle.std.proofs.Common.{◌≡◌, ℕ, ◌+◌, ◌<◌, ◌≤◌, Bool, true, false, ◌&&◌, List, [], ◌∷◌, ◌++◌}
use Rattle.std.proofs.Common.{length, drop, Some, inl, inr, refl, sym, ap, ◌∙◌, arith, append-nil, length-append}
use Rattle.std.specs.List.{list_all, flat_map}
use Rattle.std.specs.Borrow.{Bor}
use Rattle.std.proofs.lemmas.Bool.Decides.{nat_tests}
use Rattle.std.proofs.lemmas.List.{append_assoc}
use Rattle.virtiofs_map.specs.Names.{HostAnswer, IsListed, IsHidden, IsUndecided, is_decided, names}
use Rattle.virtiofs_map.specs.NamesImageParts.{Holds}
use Rattle.virtiofs_map.specs.Rule.{MappingRule}
use Rattle.virtiofs_map.proofs.ForCallers.{IsCut, is_name, names_step_name, names_step_none}
use Rattle.virtiofs_map_c.specs.Names.{IsFirstShown, IsShownAs, part_of, shown_as, shown_list}
use Rattle.virtiofs_map_c.specs.declared.names.shown.Shown.{Shown}
use Rattle.virtiofs_map_c.specs.declared.names.shown.Shown.TheVariants as seen

is_some : (name : List ℕ) → 0 < length name → is_name name ≡ true
is_some name some = grind (arith, nat_tests, some)

is_none : (name : List ℕ) → length name ≡ 0 → is_name name ≡ false
is_none name none = grind (arith, nat_tests, none)

module _ (rules : List MappingRule) (list name rest : List ℕ) (cut : IsCut list name rest) where
  pub no_name : length name ≡ 0 → IsFirstShown rules list seen.Hidden rest
  no_name none = inl (names_step_none list name rest cut (is_none name none), refl)

  pub first_name : (shown : Shown) → 0 < length name → IsShownAs (shown_as rules name) shown
      → IsFirstShown rules list shown rest
  first_name shown some is = inr (name, names_step_name list name rest cut (is_some name some), is)

-- ---- what becomes of them

abbrev has_rule : List MappingRule → List ℕ → Bool
has_rule rules name = is_decided (shown_as rules name)

abbrev all_decided : List MappingRule → List ℕ → Bool
all_decided rules list = list_all (has_rule rules) (names list)

abbrev all_parts : List MappingRule → List ℕ → List ℕ
all_parts rules list = flat_map (λ name. part_of (shown_as rules name)) (names list)

-- what is seen, but that the map is none
abbrev told : Shown → HostAnswer
told seen.NoMap = IsHidden
told seen.Undecided = IsUndecided
told seen.Hidden = IsHidden
told (seen.Name shown) = IsListed shown.now

told_is : (answer : HostAnswer) (shown : Shown) → IsShownAs answer shown → answer ≡ told shown
told_is answer shown is = grind arith

decided_step : (rules : List MappingRule) (list rest : List ℕ) (shown : Shown) → IsFirstShown rules list shown rest
    → all_decided rules list ≡ is_decided (told shown) && all_decided rules rest
decided_step rules list rest shown e = grind (arith, told_is)

parts_step : (rules : List MappingRule) (list rest : List ℕ) (shown : Shown) → IsFirstShown rules list shown rest
    → all_parts rules list ≡ part_of (told shown) ++ all_parts rules rest
parts_step rules list rest shown e = grind (arith, told_is)

-- ---- a list that is written name by name

-- so many bytes were written, and are held as far as there is room; with what is left they are the whole list
pub record IsSoFar (rules : List MappingRule) (list rest : List ℕ) (count : ℕ) (old new : List ℕ) : Type 0 where
  pub so_far : List ℕ
  pub counted : count ≡ length so_far
  pub holds : Holds so_far old new
  pub decided : all_decided rules rest ≡ all_decided rules list
  pub parts : so_far ++ all_parts rules rest ≡ all_parts rules list

module _ (rules : List MappingRule) (list rest left : List ℕ) (count : ℕ) (old new : List ℕ)
    (so_far : IsSoFar rules list rest count old new) where
  pub then_named : (name : Bor (List ℕ)) (next : ℕ) (after : List ℕ) → IsFirstShown rules rest (seen.Name name) left
      → next ≡ count + length name.now + 1
      → ((written first : List ℕ) → Holds written first new → count ≡ length written
      → Holds (written ++ name.now ++ 0 ∷ []) first after)
      → IsSoFar rules list left next old after
  then_named name next after first behind put =
      let a = length-append so_far.so_far name.now in
      let b = length-append (so_far.so_far ++ name.now) (0 ∷ []) in
      record {
        so_far = so_far.so_far ++ name.now ++ 0 ∷ [];
        counted = omega (arith, behind, so_far.counted, a, b);
        holds = put so_far.so_far old so_far.holds so_far.counted;
        decided = sym (decided_step rules rest left (seen.Name name) first) ∙ so_far.decided;
        parts = rejoined so_far.so_far name.now (all_parts rules left)
            ∙ ap (λ parts. so_far.so_far ++ parts) (sym (parts_step rules rest left (seen.Name name) first))
            ∙ so_far.parts;
      } where
        rejoined : (front name rest : List ℕ)
            → (front ++ name ++ 0 ∷ []) ++ rest ≡ front ++ ((name ++ 0 ∷ []) ++ rest)
        rejoined front name rest = simp append_assoc refl

-- ---- the end

nil_from : (l : List ℕ) → length l ≡ 0 → l ≡ []
nil_from [] e = refl
nil_from (x ∷ l) e = absurd (omega (arith, e))

module _ (rules : List MappingRule) (list rest : List ℕ) (count : ℕ) (old new : List ℕ)
    (so_far : IsSoFar rules list rest count old new) (none_left : length rest ≡ 0) where
  whole : so_far.so_far ≡ all_parts rules list
  whole = grind (arith, nil_from, append-nil)

  answer : shown_list rules list ≡ Some so_far.so_far
  answer = grind (arith, nil_from, whole)

  pub fits : count ≤ length new
      → (told : List ℕ) × (shown_list rules list ≡ Some told) × (count ≡ length told)
      × (new ≡ told ++ drop count old)
  fits room = grind (arith, answer)

  pub too_long : length new < count
      → (told : List ℕ) × (shown_list rules list ≡ Some told) × (count ≡ length told) × (length old < count)
  too_long long = grind (arith, answer)
