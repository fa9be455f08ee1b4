-- Names that fare alike: a name that is no pattern is begun by the same patterns as what is left without its last byte.
use Rattle.std.proofs.Common.{◌≡◌, ◌≢◌, ℕ, ◌<◌, ◌≤◌, Bool, true, ◌&&◌, List, [], ◌∷◌, ◌++◌, length, drop, take}
use Rattle.std.proofs.Common.{Contains, Option, Some, None, ◌⊎◌, inl, inr, refl, sym, ap, ◌∙◌, subst, arith, find}
use Rattle.std.proofs.Common.{option_and_then, eq-eqb, rules, filter_map}
use Rattle.std.specs.List.{cons_option}
use Rattle.std.proofs.lemmas.Bool.{and_parts, and_from, cases_Bool, eqb-true, false≢true}
use Rattle.std.proofs.lemmas.List.Elements.{All-take, Contains-append_right}
use Rattle.std.proofs.Math.Seq.{take-append_seam}
use Rattle.virtiofs_map.specs.AuditParts.{added_prefix, IsCut, added_prefix_of, part_of, parts}
use Rattle.virtiofs_map.specs.FirstRule.{acts, pattern}
use Rattle.virtiofs_map.specs.MapRule.{IsName}
use Rattle.virtiofs_map.specs.Names.{begins, fits, deciding}
use Rattle.virtiofs_map.specs.Rule.{MappingRule}
use Rattle.virtiofs_map.specs.declared.audit.gathered.Part.TheVariants.{Pattern, Added}
use Rattle.virtiofs_map.specs.declared.xattrmap.scopes.Side.{Side}
use Rattle.virtiofs_map.specs.declared.xattrmap.scopes.Side.TheVariants.{Server}
use Rattle.virtiofs_map.proofs.AuditAddedLemmas.{adds_by}
use Rattle.virtiofs_map.proofs.BeginsLemmas.{begins_itself, begins_trans, begins_split, deciding_fits, deciding-find}

-- ---- fronts of a name

-- of two fronts of a name the shorter begins the longer
pub shorter_begins : (p q n : List ℕ) → begins p n ≡ true → begins q n ≡ true → length p ≤ length q → begins p q ≡ true
shorter_begins [] q n b d l = refl
shorter_begins (x ∷ p) [] n b d l = absurd (omega arith)
shorter_begins (x ∷ p) (y ∷ q) [] b d l = absurd (false≢true b)
shorter_begins (x ∷ p) (y ∷ q) (z ∷ n) b d l = grind (arith, shorter_begins p q n)

pub begins-append_both : (a p n : List ℕ) → begins (a ++ p) (a ++ n) ≡ begins p n
begins-append_both [] p n = refl
begins-append_both (x ∷ a) p n = ap (λ b. b && begins (a ++ p) (a ++ n)) (eq-eqb x x refl) ∙ begins-append_both a p n

pub front_is_name : (front name : List ℕ) → begins front name ≡ true → IsName name → IsName front
front_is_name front name b is =
    subst IsName (ap (take (length front)) (begins_split front name b) ∙ take-append_seam front (drop
    (length front) name))
    (All-take (λ byte. (0 < byte) × (byte < 256)) (length front) name is)

-- what begins a name, and is not that name, begins it without its last byte
pub begins_less : (t front : List ℕ) (last : ℕ) → t ≢ front ++ last ∷ []
    → begins t (front ++ last ∷ []) ≡ begins t front
begins_less [] front last other = refl
begins_less (x ∷ []) [] last other = grind (arith, cases_Bool, eqb-true)
begins_less (x ∷ (y ∷ t)) [] last other = grind (arith, cases_Bool)
begins_less (x ∷ t) (y ∷ front) last other = grind (arith, begins_less t front last, cases_Bool, eqb-true)

-- ---- elements of a list

pub contains_none : {X : Type 0} (x : X) → ¬ Contains [] x
contains_none x (k, l, e) = omega arith

pub contains_cases : {X : Type 0} (y : X) (ys : List X) (x : X) → Contains (y ∷ ys) x → (y ≡ x) ⊎ Contains ys x
contains_cases y ys x c = grind arith

pub contains_first : {X : Type 0} (x : X) (xs : List X) → Contains (x ∷ xs) x
contains_first x xs = (0, omega arith, refl)

pub contains_later : {X : Type 0} (y : X) (xs : List X) (x : X) → Contains xs x → Contains (y ∷ xs) x
contains_later y xs x c = Contains-append_right (y ∷ []) xs x c

contains_behind : {X : Type 0} (o : Option X) (xs : List X) (x : X) → Contains xs x → Contains (cons_option o xs) x
contains_behind None xs x c = c
contains_behind (Some y) xs x c = contains_later y xs x c

-- that part of a rule is among those of all rules
pub part_among : (f : MappingRule → Option (List ℕ)) (rules : List MappingRule) (rule : MappingRule) (name : List ℕ)
    → Contains rules rule → f rule ≡ Some name → Contains (filter_map f rules) name
part_among f [] rule name c e = absurd (contains_none rule c)
part_among f (one ∷ more) rule name c e =
    elim (contains_cases one more rule c) [
      | inl same ↦ rw (ap f same ∙ e) (contains_first name (filter_map f more))
      | inr later ↦ contains_behind (f one) (filter_map f more) name (part_among f more rule name later e)
    ]

found_among : {X : Type 0} (p : X → Bool) (xs : List X) (x : X) → find p xs ≡ Some x → Contains xs x
found_among p [] x e = absurd (cc)
found_among p (y ∷ ys) x e = grind (arith, found_among p ys x, contains_first, contains_later)

-- the rule that decides a name is one of them, and fits it
pub decides_among : (side : Side) (rules : List MappingRule) (name : List ℕ) (rule : MappingRule)
    → deciding side rules name ≡ Some rule → Contains rules rule × (fits side name rule ≡ true)
decides_among side rules name rule e = (
  found_among (fits side name) rules rule (sym (deciding-find side rules name)
      ∙ e),
  deciding_fits side rules name rule (sym e),
)

fits_acts : (side : Side) (name : List ℕ) (rule : MappingRule) → fits side name rule ≡ true
    → (acts side rule ≡ true) × (begins (pattern side rule) name ≡ true)
fits_acts side name rule e = grind (arith, and_parts)

-- what is put before a name, or taken off it, is among what the rules have of it
pub added_among : (side : Side) (rules : List MappingRule) (name added : List ℕ)
    → added_prefix side rules name ≡ Some added → Contains (parts (Added side) rules) added
added_among side rules name added e =
    let by = adds_by (deciding side rules name) added e in
    let (among, fit) = decides_among side rules name by.rule by.decides in
    let on = (fits_acts side name by.rule fit).0 in
    part_among (part_of (Added side)) rules by.rule added among (rw on by.puts)

-- ---- a rule that fits a name fits what begins with that name

pub fits_more : (side : Side) (front name : List ℕ) → begins front name ≡ true → (rule : MappingRule)
    → fits side front rule ≡ true → fits side name rule ≡ true
fits_more side front name b rule e = grind (arith, and_parts, and_from, begins_trans)

-- of fewer elements that pass, the first stays the first
find_fewer : {X : Type 0} (p q : X → Bool) (xs : List X) (x : X) → ((y : X) → q y ≡ true → p y ≡ true)
    → find p xs ≡ Some x → q x ≡ true → find q xs ≡ Some x
find_fewer p q [] x more e holds = absurd (cc)
find_fewer p q (y ∷ ys) x more e holds = grind (arith, find_fewer p q ys x more)

-- the rule that decides a name decides each front of it that it fits
pub decides_front : (side : Side) (rules : List MappingRule) (front name : List ℕ) (rule : MappingRule)
    → begins front name ≡ true → deciding side rules name ≡ Some rule → fits side front rule ≡ true
    → deciding side rules front ≡ Some rule
decides_front side rules front name rule b e fit = grind (arith, deciding-find, find_fewer, fits_more)

-- ---- the same rule decides

find_same : {X : Type 0} (p q : X → Bool) (xs : List X) → ((x : X) → Contains xs x → p x ≡ q x)
    → find p xs ≡ find q xs
find_same p q [] same = refl
find_same p q (x ∷ xs) same =
    rw (same x (contains_first x xs), find_same p q xs (λ y c. same y (contains_later x xs y c))) refl

fits_less : (side : Side) (front : List ℕ) (last : ℕ) (rule : MappingRule)
    → (acts side rule ≡ true → pattern side rule ≢ front ++ last ∷ [])
    → fits side (front ++ last ∷ []) rule ≡ fits side front rule
fits_less side front last rule other = grind (arith, cases_Bool, begins_less)

-- no pattern of the rules that act on the side is the name
pub decides_less : (side : Side) (rules : List MappingRule) (front : List ℕ) (last : ℕ)
    → ¬ Contains (parts (Pattern side) rules) (front ++ last ∷ [])
    → deciding side rules (front ++ last ∷ []) ≡ deciding side rules front
decides_less side rules front last none =
    deciding-find side rules (front ++ last ∷ [])
    ∙ find_same (fits side (front ++ last ∷ [])) (fits side front) rules
    (λ rule among. fits_less side front last rule
    (λ on same. none (part_among (part_of (Pattern side)) rules rule _ among (rw on (ap Some same)))))
    ∙ sym (deciding-find side rules front)

-- nor does what is put before it differ, or what is taken off it
pub added_less : (side : Side) (rules : List MappingRule) (front : List ℕ) (last : ℕ)
    → ¬ Contains (parts (Pattern side) rules) (front ++ last ∷ [])
    → added_prefix side rules (front ++ last ∷ []) ≡ added_prefix side rules front
added_less side rules front last none =
    ap (option_and_then added_prefix_of) (decides_less side rules front last none)

-- ---- what is taken off

-- what the server's rules take off a host name, they take off it alone too
pub front_is_cut : (rules : List MappingRule) (host cut : List ℕ) → added_prefix Server rules host ≡ Some cut
    → IsCut rules cut
front_is_cut rules host [] e = inl refl
front_is_cut rules host (x ∷ xs) e =
    let by = adds_by (deciding Server rules host) (x ∷ xs) e in
    let rule = by.rule in
    let fit = and_parts rule.server (begins rule.prepend host)
    (deciding_fits Server rules host rule (sym by.decides)) in
    let is : rule.prepend ≡ x ∷ xs = elim by.how [ inl w ↦ absurd (cc) | inr w ↦ sym w.1 ] in
    let begun = subst (λ p. begins p host ≡ true) is fit.1 in
    let alone = subst (λ p. begins p (x ∷ xs) ≡ true) (sym is) (begins_itself (x ∷ xs)) in
    let same =
    decides_front Server rules (x ∷ xs) host rule begun by.decides
    (and_from rule.server (begins rule.prepend (x ∷ xs)) fit.0 alone) in
    inr (x ∷ xs, ap (option_and_then added_prefix_of) same ∙ by.puts, refl)
