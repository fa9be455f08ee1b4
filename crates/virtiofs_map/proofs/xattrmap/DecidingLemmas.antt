-- Rules that decide no name: earlier ones take their patterns.
use Rattle.std.proofs.Common.{◌≡◌, ℕ, ◌<◌, ◌≤◌, ◌⊎◌, true, false, cond, List, [], length, get_or, Some, None, inl, inr}
use Rattle.std.proofs.Common.{sym, ap, ◌∙◌, subst, arith, slice_get, lt-ltb, true≢false}
use Rattle.std.specs.List.{position_or_len}
use Rattle.std.proofs.lemmas.Bool.{and_parts, and_from, cases_lt}
use Rattle.std.proofs.lemmas.List.Quantifiers.{position-Some}
use Rattle.std.proofs.lemmas.List.Sums.{fails_before_first}
use Rattle.std.proofs.lemmas.Option.{slice_get-get_or, slice_get_within, get_or_from_slice_get}
use Rattle.virtiofs_map.specs.Audit.{DecidesOn, Decides, IsTaken, IsShadowedOn, IsShadowed}
use Rattle.virtiofs_map.specs.FirstRule.{acts, pattern}
use Rattle.virtiofs_map.specs.Names.{begins, fits, first}
use Rattle.virtiofs_map.specs.Rule.{Okay, MappingRule}
use Rattle.virtiofs_map.specs.declared.xattrmap.scopes.Side.{Side}
use Rattle.virtiofs_map.specs.declared.xattrmap.scopes.Side.TheVariants.{Client, Server}
use Rattle.virtiofs_map.proofs.AuditAlikeLemmas.{fits_more}
use Rattle.virtiofs_map.proofs.BeginsLemmas.{begins_itself, begins_trans}

-- ---- a rule and its pattern

pub fit_parts : (side : Side) (name : List ℕ) (rule : MappingRule) → fits side name rule ≡ true
    → (acts side rule ≡ true) × (begins (pattern side rule) name ≡ true)
fit_parts side name rule e = grind (arith, and_parts)

pub fit_from : (side : Side) (name : List ℕ) (rule : MappingRule) → acts side rule ≡ true
    → begins (pattern side rule) name ≡ true → fits side name rule ≡ true
fit_from side name rule on b = grind (arith, and_from)

-- ---- the first rule that fits

-- the rule at that place fits the name, and none before it does
pub record IsFirstAt (side : Side) (rules : List MappingRule) (name : List ℕ) (place : ℕ) : Type 0 where
  pub rule : MappingRule
  pub here : slice_get rules place ≡ Some rule
  pub fit : fits side name rule ≡ true
  pub before : (k : ℕ) (other : MappingRule) → k < place → slice_get rules k ≡ Some other → fits side name other ≡ false

any_rule : MappingRule
any_rule = record { kind = Okay; client = true; server = true; key = []; prepend = [] }

pub first_at : (side : Side) (rules : List MappingRule) (name : List ℕ) (place : ℕ)
    → first side rules name ≡ Some place → IsFirstAt side rules name place
first_at side rules name place e =
    let (within, passes, fails) = position-Some (fits side name) rules place any_rule e in
    record {
      rule = get_or rules place any_rule;
      here = slice_get-get_or rules place any_rule within;
      fit = passes;
      before = grind (arith, get_or_from_slice_get, any_rule);
    }

-- some rule is the first, where one fits
pub first_where_fits : (side : Side) (rules : List MappingRule) (name : List ℕ) (place : ℕ) (rule : MappingRule)
    → slice_get rules place ≡ Some rule → fits side name rule ≡ true
    → (at : ℕ) × (first side rules name ≡ Some at) × (at ≤ place)
first_where_fits side rules name place rule here fit =
    let p = fits side name in
    let at = position_or_len p rules in
    let within = slice_get_within rules place rule here in
    let early : at ≤ place = elim (cases_lt place at) [
      | inl l ↦ absurd (true≢false (sym fit ∙ ap p (sym (get_or_from_slice_get rules place rule any_rule here))
          ∙ fails_before_first p rules place any_rule l))
      | inr l ↦ l
    ] in
    (at, ap (λ b. cond b (Some at) None) (lt-ltb at (length rules) (omega arith)), early)

-- ---- a rule that decides a name decides its own pattern

pattern_decided : (side : Side) (rules : List MappingRule) (name : List ℕ) (place : ℕ)
    → (is : IsFirstAt side rules name place) → first side rules (pattern side is.rule) ≡ Some place
pattern_decided side rules name place is =
    let own = pattern side is.rule in
    let parts = fit_parts side name is.rule is.fit in
    let (at, found, early) = first_where_fits side rules own place is.rule is.here
    (fit_from side own is.rule parts.0 (begins_itself own)) in
    elim (cases_lt at place) [
      | inl l ↦
          (let sooner = first_at side rules own at found in
          absurd (true≢false (sym (fits_more side own name parts.1 sooner.rule sooner.fit)
          ∙ is.before at sooner.rule l sooner.here)))
      | inr l ↦ let same : at ≡ place = omega arith in found ∙ ap Some same
    ]

pub own_pattern_decided : (side : Side) (rules : List MappingRule) (place : ℕ) (rule : MappingRule)
    → slice_get rules place ≡ Some rule → DecidesOn side rules place
    → first side rules (pattern side rule) ≡ Some place
own_pattern_decided side rules place rule here decides =
    let is = first_at side rules decides.name place decides.is_first in
    let same : is.rule ≡ rule = (let both = sym is.here ∙ here in cc) in
    subst (λ (r : MappingRule). first side rules (pattern side r) ≡ Some place) same
    (pattern_decided side rules decides.name place is)

pub none_decided_past : (side : Side) (rules : List MappingRule) (place : ℕ) → slice_get rules place ≡ None
    → ¬ DecidesOn side rules place
none_decided_past side rules place past decides =
    let both = sym past ∙ (first_at side rules decides.name place decides.is_first).here in
    cc

-- ---- both sides

pub on_a_side : (rules : List MappingRule) (place : ℕ) → Decides rules place
    → DecidesOn Client rules place ⊎ DecidesOn Server rules place
on_a_side rules place (Client, decides) = inl decides
on_a_side rules place (Server, decides) = inr decides

pub shadowed_on_both : (rules : List MappingRule) (place : ℕ) → IsShadowedOn Client rules place
    → IsShadowedOn Server rules place → IsShadowed rules place
shadowed_on_both rules place client server e = grind arith

-- ---- what is taken

-- a rule whose pattern is taken decides no name
taken_decides_none : (side : Side) (rules : List MappingRule) (name : List ℕ) (place : ℕ)
    → (is : IsFirstAt side rules name place) → ¬ IsTaken side rules place (pattern side is.rule)
taken_decides_none side rules name place is taken = grind (arith, fit_parts, fit_from, begins_trans, true≢false)

pub shadowed_decides_none : (rules : List MappingRule) (place : ℕ) → IsShadowed rules place → ¬ Decides rules place
shadowed_decides_none rules place shadowed (side, decides) =
    let is = first_at side rules decides.name place decides.is_first in
    taken_decides_none side rules decides.name place is
    (grind (arith, fit_parts))

-- where a rule does not decide its own pattern, that is taken
pub taken_where_not_first : (side : Side) (rules : List MappingRule) (place : ℕ) (rule : MappingRule)
    → slice_get rules place ≡ Some rule → acts side rule ≡ true
    → ¬ (first side rules (pattern side rule) ≡ Some place) → IsTaken side rules place (pattern side rule)
taken_where_not_first side rules place rule here on fails =
    let own = pattern side rule in
    let (at, found, early) = first_where_fits side rules own place rule here
    (fit_from side own rule on (begins_itself own)) in
    let is = first_at side rules own at found in
    let parts = fit_parts side own is.rule is.fit in
    elim (cases_lt at place) [
      | inl l ↦ grind arith
      | inr l ↦ grind arith
    ]
