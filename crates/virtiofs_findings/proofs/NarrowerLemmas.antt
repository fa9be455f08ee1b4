-- Options that only take away.
use Rattle.std.proofs.lemmas.Grind.{common_steps}
use Rattle.std.proofs.Common.{◌≡◌, ◌⊎◌, refl, inl, inr, ℕ, ◌+◌, ◌<◌, ◌≤◌, Bool, true, false, not, cond, List, [], ◌∷◌, ◌++◌, length, take, get_or, slice_get, Option, Some, None, sym, ap, ◌∙◌, subst, arith, zero, suc, Vec, Result, Ok, Err, IfOk, rules}
use Rattle.std.specs.List.{AllZip, find, position_or_len}
use Rattle.std.specs.Option.{option_or, option_map_or}
use Rattle.std.proofs.lemmas.Bool.{lt-ltb}
use Rattle.std.proofs.lemmas.List.{take_all, take_more}
use Rattle.std.proofs.lemmas.List.Elements.{AllZip-get_or, Contains-append_left, Contains-push_cases}
use Rattle.std.proofs.lemmas.List.Folds.{find-append}
use Rattle.std.proofs.lemmas.Option.{get_or_from_slice_get, slice_get-get_or, slice_get_within}
use Rattle.virtiofs_id_audit.specs.Mending.{Mends}
use Rattle.virtiofs_map.specs.Audit.{Decides}
use Rattle.virtiofs_map.specs.MapRule.{IsName}
use Rattle.virtiofs_map.specs.Mapping.{Becomes, Maps}
use Rattle.virtiofs_map.specs.Names.{fits, deciding, host_answer_by, IsHidden, IsUndecided}
use Rattle.virtiofs_map.specs.Rule.{MappingRule}
use Rattle.virtiofs_map.specs.declared.cmdline.IdMap.{IdMap}
use Rattle.virtiofs_map.specs.declared.cmdline.IdMap.TheVariants.{ForbidGuest}
use Rattle.virtiofs_map.specs.declared.soft_idmap.entry.Direction.TheVariants.{GuestToHost, HostToGuest}
use Rattle.virtiofs_map.specs.declared.xattrmap.scopes.Side.{Side}
use Rattle.virtiofs_map.specs.declared.xattrmap.scopes.Side.TheVariants.{Client, Server}
use Rattle.virtiofs_map.proofs.ForCallers.{Becomes-forbidden, deciding-find}
use Rattle.virtiofs_findings.specs.Guests.{SetsUp}
use Rattle.virtiofs_findings.specs.Narrower.{NarrowerIds, NarrowerNames, NarrowerSet, SameRest, AreNarrower, deny_all}
use Rattle.virtiofs_findings.specs.FindingParts.{EndsAt, IsSameAt}
use Rattle.virtiofs_findings.specs.declared.guest.Guest.{Guest}
use Rattle.virtiofs_findings.specs.declared.setup.SetUp.{SetUp}

-- ---- ids

-- the given specifications take nothing away
pub narrower_self : (specs other : List IdMap) → other ≡ specs → NarrowerIds specs other
narrower_self specs other same = grind arith

-- where ids are forbidden, the others become what they became
kept_or_not : (specs : List IdMap) (bad : ℕ → Type 0) (mended : List IdMap) → Mends specs bad mended → (guest : ℕ)
    (value : Option ℕ) → Becomes mended GuestToHost guest value → (value ≡ None) ⊎ Becomes specs GuestToHost guest value
kept_or_not specs bad mended mends guest None is = inl refl
kept_or_not specs bad mended mends guest (Some host) is = inr ((mends.keeps guest (Some host)
    (λ is_bad. Becomes-forbidden mended GuestToHost guest host mends.accepted is
    ((mends.forbids guest).1 (inr is_bad)))).0 is)

pub narrower_made : {A E : Type 0} (r : Result (Vec IdMap A) E) (specs : List IdMap) (bad : ℕ → Type 0)
    → IfOk r (λ mended. Mends specs bad mended.items) → IfOk r (λ mended. NarrowerIds specs mended.items)
narrower_made (Ok made) specs bad mends = search (rules, kept_or_not)
narrower_made (Err e) specs bad mends = tt

-- one more specification that forbids ids takes away
more_forbidden : (given specs : List IdMap) (first count guest : ℕ) (value : Option ℕ) → NarrowerIds given specs
    → Becomes (specs ++ ForbidGuest first count ∷ []) GuestToHost guest value
    → (value ≡ None) ⊎ Becomes given GuestToHost guest value
more_forbidden given specs first count guest value narrower (inl (spec, listed, maps)) =
    elim (Contains-push_cases specs (ForbidGuest first count) spec listed) [
      | inl before ↦ narrower.guest guest value (inl (spec, before, maps))
      | inr last ↦ inl (sym (subst (λ it. Maps it GuestToHost guest value) (sym last) maps).1)
    ]
more_forbidden given specs first count guest value narrower (inr (none, same)) =
    narrower.guest guest value (inr (grind (arith, Contains-append_left)))

host_as_before : (specs : List IdMap) (first count host : ℕ) (value : Option ℕ)
    → Becomes (specs ++ ForbidGuest first count ∷ []) HostToGuest host value → Becomes specs HostToGuest host value
host_as_before specs first count host value it = grind (arith, common_steps, Contains-push_cases, Contains-append_left)

host_as_after : (specs : List IdMap) (first count host : ℕ) (value : Option ℕ) → Becomes specs HostToGuest host value
    → Becomes (specs ++ ForbidGuest first count ∷ []) HostToGuest host value
host_as_after specs first count host value it = grind (arith, common_steps, Contains-append_left, Contains-push_cases)

pub narrower_forbid : (given specs : List IdMap) (first count : ℕ) → NarrowerIds given specs
    → NarrowerIds given (specs ++ ForbidGuest first count ∷ [])
narrower_forbid given specs first count narrower = record {
  guest = λ guest value. more_forbidden _ _ _ _ _ _ narrower;
  host = λ host value. (
    (λ is. (narrower.host host value).0 (host_as_before _ _ _ _ _ is)),
    (λ is. host_as_after _ _ _ _ _ ((narrower.host host value).1 is)),
  );
}

-- ---- names

first_place : {X : Type 0} (p : X → Bool) (xs : List X) (i : ℕ) (d : X) → i < length xs → find p (take i xs) ≡ None
    → p (get_or xs i d) ≡ true → position_or_len p xs ≡ i
first_place p [] i d lt none holds = absurd (omega arith)
first_place p (x ∷ xs) zero d lt none holds = ap (λ b. cond (not b) (1 + position_or_len p xs) 0) holds
first_place p (x ∷ xs) (suc i) d lt none holds = grind (arith, first_place p xs i d (omega arith))

-- so far the given rules and the other ones decide the same names, by the same rules
pub record AgreeSoFar (given : List MappingRule) (place : ℕ) (other : List MappingRule) (at : ℕ) : Type 0 where
  pub within : at ≤ length other
  pub few : at ≤ place
  pub alike : (side : Side) (name : List ℕ) → IsName name
      → find (fits side name) (take at other) ≡ find (fits side name) (take place given)

pub agree_none : (given other : List MappingRule) → AgreeSoFar given 0 other 0
agree_none given other = record { within = omega arith; few = omega arith; alike = λ side name is. refl }

-- one more at both places
found_more : {X : Type 0} (p : X → Bool) (xs : List X) (i : ℕ) (x : X) → slice_get xs i ≡ Some x
    → find p (take (i + 1) xs) ≡ option_or (find p (take i xs)) (find p (x ∷ []))
found_more p xs i x here =
    ap (find p) (take_more xs i x (slice_get_within xs i x here)
    ∙ ap (λ y. take i xs ++ y ∷ []) (get_or_from_slice_get xs i x x here))
    ∙ find-append p (take i xs) (x ∷ [])

pub agree_kept : (given : List MappingRule) (place : ℕ) (other : List MappingRule) (at : ℕ)
    → AgreeSoFar given place other at → IsSameAt given place other at → AgreeSoFar given (place + 1) other (at + 1)
agree_kept given place other at agree same =
    let inside = slice_get_within other at same.rule same.there in record {
      within = omega (arith, inside);
      few = omega (arith, agree.few);
      alike = λ side name is. found_more (fits side name) other at same.rule same.there
          ∙ ap (λ found. option_or found (find (fits side name) (same.rule ∷ []))) (agree.alike side name is)
          ∙ sym (found_more (fits side name) given place same.rule same.here);
    }

-- a rule that decides no name makes no difference
left_out : (given : List MappingRule) (place : ℕ) (rule : MappingRule) (side : Side) (name : List ℕ) → IsName name
    → slice_get given place ≡ Some rule → ¬ Decides given place → (found : Option MappingRule)
    → found ≡ find (fits side name) (take place given) → (fit : Bool) → fit ≡ fits side name rule
    → option_or found (cond fit (Some rule) None) ≡ found
left_out given place rule side name is here idle None none true fit = absurd (idle (
  side,
  record {
    name = name;
    is_name = is;
    is_first = (grind (arith, first_place, lt-ltb, (slice_get_within given place rule here), (sym none), (ap (fits side name) (get_or_from_slice_get given place rule rule here) ∙ sym fit)));
  },
))
left_out given place rule side name is here idle None none false fit = refl
left_out given place rule side name is here idle (Some one) some fit is_fit = refl

pub agree_dropped : (given : List MappingRule) (place : ℕ) (rule : MappingRule) (other : List MappingRule) (at : ℕ)
    → AgreeSoFar given place other at → slice_get given place ≡ Some rule → ¬ Decides given place
    → AgreeSoFar given (place + 1) other at
agree_dropped given place rule other at agree here idle = record {
  within = agree.within;
  few = omega (arith, agree.few);
  alike = λ side name is. agree.alike side name is
      ∙ sym (left_out _ _ _ _ _ is here idle _ refl _ refl)
      ∙ sym (found_more (fits side name) given place rule here);
}

-- where all rules are the same, so are those at a place
pub same_here : (given : List MappingRule) (place : ℕ) (other : List MappingRule) (at : ℕ) → place < length given
    → other ≡ given → at ≡ place → IsSameAt given place other at
same_here given place other at inside same here =
    subst (λ rules. IsSameAt given place rules at) (sym same) (subst (IsSameAt given place given) (sym here) (record {
      rule = get_or given place deny_all;
      here = slice_get-get_or given place deny_all inside;
      there = slice_get-get_or given place deny_all inside;
    }))

-- what decides a name is what decided it, or denies it where nothing did
denied_or_same : (given : List MappingRule) (other : List MappingRule) (at : ℕ)
    → AgreeSoFar given (length given) other at → EndsAt other at → (side : Side) (name : List ℕ) → IsName name
    → (deciding side other name ≡ deciding side given name)
    ⊎ (deciding side other name ≡ option_or (deciding side given name) (Some deny_all))
denied_or_same given other at agree ends side name is =
    let so_far = agree.alike side name is ∙ ap (find (fits side name)) (take_all _ _ (omega arith))
    ∙ sym (deciding-find side given name) in
    elim ends [
      | inl all ↦ inl (deciding-find side other name
          ∙ ap (find (fits side name)) (sym (take_all at other (omega (arith, all)))) ∙ so_far)
      | inr last ↦ inr (deciding-find side other name
          ∙ ap (find (fits side name)) (sym (take_all _ _ (omega (arith, last.0))))
          ∙ found_more _ _ at deny_all last.1
          ∙ ap (λ found. option_or found (find (fits side name) (deny_all ∷ []))) so_far
          ∙ ap (option_or (deciding side given name)) (denies side name))
    ]
  where
    denies : (side : Side) (name : List ℕ) → find (fits side name) (deny_all ∷ []) ≡ Some deny_all
    denies Client name = refl
    denies Server name = refl

-- what is answered by the rule that decides is what was answered, or what denying all answers where none decided
answer_or_denial : {X : Type 0} (answer : MappingRule → X) (none denial : X) → answer deny_all ≡ denial
    → (before after : Option MappingRule)
    → (after ≡ before) ⊎ (after ≡ option_or before (Some deny_all))
    → (option_map_or answer after none ≡ option_map_or answer before none)
    ⊎ ((option_map_or answer before none ≡ none) × (option_map_or answer after none ≡ denial))
answer_or_denial answer none denial denies before after it = grind arith

pub narrower_rules : (given other : List MappingRule) (place at : ℕ) → length given ≤ place → place ≤ length given
    → AgreeSoFar given place other at → EndsAt other at → NarrowerNames given other
narrower_rules given other place at past within agree ends =
    let all = subst (λ n. AgreeSoFar given n other at) (omega (arith, past, within)) agree in record {
      client = λ name is. (grind (arith, refl, (denied_or_same given other at all ends Client name is)));
      server = λ name is.
          answer_or_denial (λ rule. host_answer_by rule.kind rule.prepend name) IsUndecided IsHidden refl _ _
          (denied_or_same given other at all ends Server name is);
    }

-- ---- guests

-- what holds place by place holds at a place
pub holds_at : {X : Type 0} (R : X → X → Type 0) (xs ys : List X) (i : ℕ) (x y : X) → i < length xs → x ≡ get_or xs i x
    → y ≡ get_or ys i y → AllZip R xs ys → R x y
holds_at R xs ys i x y inside here there all = grind (arith, AllZip-get_or)

-- what holds of what the options set up, and of the rest, holds of the guests
pub are_narrower : {A : Type 0} (given others : List (Guest A)) (sets other_sets : List (SetUp A))
    → AllZip SetsUp given sets → AllZip SetsUp others other_sets → AllZip SameRest given others
    → AllZip NarrowerSet sets other_sets → AreNarrower given others
are_narrower [] other sets other_sets sets_up others_set_up rest narrower = grind arith
are_narrower (g ∷ given) [] sets other_sets sets_up others_set_up rest narrower = absurd rest
are_narrower (g ∷ given) (o ∷ others) [] other_sets sets_up others_set_up rest narrower = absurd sets_up
are_narrower (g ∷ given) (o ∷ others) (s ∷ sets) [] sets_up others_set_up rest narrower = absurd others_set_up
are_narrower (g ∷ given) (o ∷ others) (s ∷ sets) (t ∷ other_sets) sets_up others_set_up rest narrower =
    grind (arith, are_narrower given others sets other_sets sets_up.1 others_set_up.1 rest.1 narrower.1)
