-- What is gathered from the rules, and that each name that an audit has to try is made of it.
use Rattle.std.proofs.Common.{◌≡◌, ℕ, ◌+◌, ◌*◌, ◌≤◌, Bool, cond, List, [], ◌∷◌, ◌++◌, drop, length, Option, Some}
use Rattle.std.proofs.Common.{sym, subst, ap, ◌∙◌, append_assoc, All, arith, ◌<◌}
use Rattle.std.specs.List.{cons_option, count_by, filter_map, slice_get}
use Rattle.std.specs.List.Sorted.{IsPermutation}
use Rattle.std.proofs.lemmas.List.{at_drop_more}
use Rattle.std.proofs.lemmas.List.Sorted.{length_permutation}
use Rattle.std.proofs.lemmas.List.Sums.{sum_by-cons}
use Rattle.std.proofs.lemmas.Nat.{mul-le}
use Rattle.std.proofs.lemmas.Option.{slice_get_within, get_or_from_slice_get}
use Rattle.virtiofs_map.specs.Audit.{most_tried}
use Rattle.virtiofs_map.specs.AuditParts.{TriedSoFar, Tries, none_tried, LedTo, IsLed, IsOneByte, IsTried, IsWhole, parts}
use Rattle.virtiofs_map.specs.NamesImage.{IsImage, image_length, pattern_bytes}
use Rattle.virtiofs_map.specs.Rule.{HasNoZero, MappingRule}
use Rattle.virtiofs_map.specs.Steps.{count_after, CountsBetween}
use Rattle.virtiofs_map.specs.declared.audit.gathered.Part.TheVariants.{Pattern, Added}
use Rattle.virtiofs_map.specs.declared.xattrmap.scopes.Side.{Side}
use Rattle.virtiofs_map.specs.declared.xattrmap.scopes.Side.TheVariants.{Client, Server}
use Rattle.virtiofs_map.proofs.audit.AuditLeastLemmas.{tries_both, tries_fewer}

-- ---- gathering

push_option : {X : Type 0} (xs ys : List X) (o : Option X) → (xs ++ cons_option o []) ++ ys ≡ xs ++ cons_option o ys
push_option xs ys o = grind (arith, append_assoc)

-- what holds of each rule holds of the one at a place
rule_has : (P : MappingRule → Type 0) (rules : List MappingRule) (i : ℕ) (rule : MappingRule) → All P rules
    → Some rule ≡ slice_get rules i → P rule
rule_has P rules i rule all here = grind (arith, get_or_from_slice_get, slice_get_within)

-- the part of one rule more
pub gathered_more : (f : MappingRule → Option (List ℕ)) (rules : List MappingRule) (i : ℕ) (rule : MappingRule)
    (names : List (List ℕ)) {new end : List (List ℕ)} {found : Option (List ℕ)} → All HasNoZero rules → Some rule ≡ slice_get rules i
    → names ++ filter_map f (drop i rules) ≡ end → (HasNoZero rule → found ≡ f rule)
    → new ≡ names ++ cons_option found [] → new ++ filter_map f (drop (i + 1) rules) ≡ end
gathered_more f rules i rule names {found = found} no_zero here h e is =
    let rest = filter_map f (drop (i + 1) rules) in
    ap (λ xs. xs ++ rest) is ∙ push_option names rest found
    ∙ ap (λ o. names ++ cons_option o rest) (e (rule_has HasNoZero rules i rule no_zero here))
    ∙ ap (λ r. names ++ cons_option (f r) rest) (sym (get_or_from_slice_get rules i rule rule (sym here)))
    ∙ sym (at_drop_more (λ ys. names ++ filter_map f ys) rules i rule (slice_get_within rules i rule (sym here))) ∙ h

-- the patterns of a map have no more bytes than the map
pub bytes_within : (rules : List MappingRule) (image : List ℕ) → IsImage rules image
    → pattern_bytes rules ≤ length image
unfolding image_length
bytes_within rules image is = omega (arith, is.last, is.ended.within)

pub bytes_left : (rules : List MappingRule) (i : ℕ) (rule : MappingRule) → Some rule ≡ slice_get rules i
    → pattern_bytes (drop i rules) ≡ length rule.key + length rule.prepend + pattern_bytes (drop (i + 1) rules)
bytes_left rules i rule here =
    at_drop_more pattern_bytes rules i rule (slice_get_within rules i rule (sym here))
    ∙ ap (λ one. length one.key + length one.prepend + pattern_bytes (drop (i + 1) rules))
    (get_or_from_slice_get rules i rule rule (sym here))

-- ---- how many are gathered

one_or_none : (o : Option (List ℕ)) (n : ℕ) (names : List (List ℕ)) → length (cons_option o []) ≤ n
    → length (cons_option o names) ≤ n + length names
one_or_none o n names l = grind arith

length_gathered : (f : MappingRule → Option (List ℕ)) (p : MappingRule → Bool)
    → ((rule : MappingRule) → length (cons_option (f rule) []) ≤ cond (p rule) 1 0) → (rules : List MappingRule)
    → length (filter_map f rules) ≤ count_by p rules
length_gathered f p few [] = omega arith
length_gathered f p few (rule ∷ rules) =
    omega (
      arith,
      one_or_none (f rule) (cond (p rule) 1 0) (filter_map f rules) (few rule),
      length_gathered f p few rules,
      sum_by-cons (λ rule. cond (p rule) 1 0) rule rules,
    )

-- what is gathered for an audit of names of a side, where `others` are what ends them on the other side
pub record AreGathered (side : Side) (rules : List MappingRule) (others patterns fronts ends : List (List ℕ)) : Type 0 where
  pub are_patterns : IsPermutation (parts (Pattern side) rules) patterns
  pub are_fronts : IsPermutation (parts (Added side) rules) fronts
  pub are_ends : IsPermutation others ends

pub few_lost : (rules : List MappingRule) (patterns fronts ends : List (List ℕ))
    → AreGathered Client rules (parts (Pattern Server) rules) patterns fronts ends
    → length patterns + (length fronts * length ends + 255) ≤ most_tried rules
few_lost rules patterns fronts ends are =
    let few_patterns : length patterns ≤ count_by (λ rule. rule.client) rules =
    grind (arith, length_gathered, length_permutation, are.are_patterns) in
    let few_fronts : length fronts ≤ count_by (λ rule. rule.client) rules =
    grind (arith, length_gathered, length_permutation, are.are_fronts) in
    let few_ends : length ends ≤ count_by (λ rule. rule.server) rules =
    grind (arith, length_gathered, length_permutation, are.are_ends) in
    omega (arith, mul-le _ _ _ _ few_fronts few_ends)

-- ---- what was tried

pub tries_all : {Bad : List ℕ → Type 0} (side : Side) (rules : List MappingRule) {beginning : List ℕ}
    (patterns fronts ends : List (List ℕ)) {start one two three end : TriedSoFar} → start ≡ none_tried
    → Tries Bad (λ name. name ≡ beginning) 0 start one → Tries Bad (IsWhole patterns []) (length patterns) one two
    → Tries Bad (LedTo fronts (IsLed side rules ends)) (length fronts * length ends) two three
    → Tries Bad IsOneByte 255 three end
    → Tries Bad (IsTried side rules beginning patterns fronts ends) (length patterns + (length fronts * length ends + 255))
    none_tried end
tries_all {Bad = Bad} side rules {beginning = beginning} patterns fronts ends {one = one} e begun first then bytes =
    tries_fewer
    (tries_both (subst (λ start. Tries Bad (λ name. name ≡ beginning) 0 start one) e begun)
    (tries_both first (tries_both then bytes)))
    (λ name is. is) (omega arith)

-- ---- how many are counted

pub counts_between : {Bad tried : List ℕ → Type 0} {most bound : ℕ} {end : TriedSoFar} {before now : ℕ}
    → Tries Bad tried most none_tried end → most ≤ bound → 0 < end.count → now ≡ count_after before end.count
    → CountsBetween 1 bound before now
counts_between {end = end} tries few some e =
    record { steps = end.count; at_least = omega arith; at_most = omega (arith, tries.counts); counted = e }
