-- What a map makes of a name, by the prefix that is added to it or cut off it.
use Rattle.std.proofs.Common.{◌≡◌, get_or, ◌≢◌, ℕ, ◌<◌, Bool, true, false, List, [], ◌∷◌, ◌++◌, length, drop, Option}
use Rattle.std.proofs.Common.{Some, None, ◌⊎◌, ◌↔◌, inl, inr, refl, sym, ◌∙◌, arith, rules}
use Rattle.std.specs.List.{All, find}
use Rattle.std.specs.Bool.{IsTrue}
use Rattle.std.specs.Option.{option_map_or, option_and_then, is_none}
use Rattle.std.proofs.lemmas.Bool.{and_parts, cond_both}
use Rattle.std.proofs.lemmas.List.{append-nil}
use Rattle.std.proofs.lemmas.List.Elements.{All-nil, All-head, All-tail, All-from_get_or}
use Rattle.virtiofs_map.specs.AuditParts.{added_prefix, is_hidden, added_prefix_of}
use Rattle.virtiofs_map.specs.MapRule.{IsName}
use Rattle.virtiofs_map.specs.Names.{begins, fits, deciding, Passes, IsUnterminated, answer_by, client_answer}
use Rattle.virtiofs_map.specs.Names.{HostAnswer, IsListed, IsHidden, IsUndecided, host_answer_by, host_answer}
use Rattle.virtiofs_map.specs.Names.{names, server_answer}
use Rattle.virtiofs_map.specs.Rule.{Prefix, Okay, MappingRule, HasNoZero}
use Rattle.virtiofs_map.specs.declared.xattrmap.scopes.Side.{Side}
use Rattle.virtiofs_map.specs.declared.xattrmap.scopes.Side.TheVariants.{Client, Server}
use Rattle.virtiofs_map.proofs.BeginsLemmas.{deciding_fits, deciding-find}
use Rattle.virtiofs_map.proofs.MapRuleLemmas.{names_of_one, some_name}
use Rattle.virtiofs_map.proofs.NoZeroLemmas.{IsNotZero}

pub none_is : {X : Type 0} (o : Option X) → ((x : X) → o ≡ Some x → ⊥) → o ≡ None
none_is o fails = grind arith

-- ---- the rule that adds a prefix

pub record AddsBy (o : Option MappingRule) (added : List ℕ) : Type 0 where
  pub rule : MappingRule
  pub decides : o ≡ Some rule
  pub puts : added_prefix_of rule ≡ Some added
  pub how : ((rule.kind ≡ Okay) × (added ≡ [])) ⊎ ((rule.kind ≡ Prefix) × (added ≡ rule.prepend))

pub adds_by : (o : Option MappingRule) (added : List ℕ) → option_and_then added_prefix_of o ≡ Some added
    → AddsBy o added
adds_by o added e = grind arith

-- ---- names of the guest

pub record PassesBy (o : Option MappingRule) (name host : List ℕ) : Type 0 where
  pub added : List ℕ
  pub is : option_and_then added_prefix_of o ≡ Some added
  pub host_is : host ≡ added ++ name

passes_by : (o : Option MappingRule) (name host : List ℕ)
    → option_map_or (λ rule. answer_by rule.kind rule.prepend name) o IsUnterminated ≡ Passes host
    → PassesBy o name host
passes_by o name host e = grind arith

pub passes_added : (rules : List MappingRule) (name host : List ℕ) → client_answer rules name ≡ Passes host
    → PassesBy (deciding Client rules name) name host
passes_added rules name host e = passes_by (deciding Client rules name) name host e

pub added_passes : (rules : List MappingRule) (name added : List ℕ) → added_prefix Client rules name ≡ Some added
    → client_answer rules name ≡ Passes (added ++ name)
added_passes rules name added e = grind (arith, adds_by)

-- ---- names of the host

pub record ListedBy (o : Option MappingRule) (host name : List ℕ) : Type 0 where
  pub cut : List ℕ
  pub is : option_and_then added_prefix_of o ≡ Some cut
  pub name_is : name ≡ drop (length cut) host

pub listed_cut : (rules : List MappingRule) (host name : List ℕ) → host_answer rules host ≡ IsListed name
    → ListedBy (deciding Server rules host) host name
listed_cut rules host name e = grind arith

pub cut_listed : (rules : List MappingRule) (host cut : List ℕ) → added_prefix Server rules host ≡ Some cut
    → host_answer rules host ≡ IsListed (drop (length cut) host)
cut_listed rules host cut e = grind (arith, adds_by)

-- what is taken off a host name begins it
pub cut_begins : (rules : List MappingRule) (host cut : List ℕ) → added_prefix Server rules host ≡ Some cut
    → begins cut host ≡ true
cut_begins rules host cut e =
    let by = adds_by (deciding Server rules host) cut e in
    let fit = deciding_fits Server rules host by.rule (sym by.decides) in
    elim by.how [
      | inl w ↦ rw w.1 refl
      | inr w ↦ rw w.1 (and_parts by.rule.server (begins by.rule.prepend host) fit).1
    ]

-- host names that the same rule decides are hidden or not alike
hidden_by : (o : Option MappingRule) (host other : List ℕ)
    → option_map_or (λ rule. host_answer_by rule.kind rule.prepend host) o IsUndecided ≡ IsHidden
    → option_map_or (λ rule. host_answer_by rule.kind rule.prepend other) o IsUndecided ≡ IsHidden
hidden_by o host other e = grind arith

pub hidden_same : (rules : List MappingRule) (host other : List ℕ)
    → deciding Server rules other ≡ deciding Server rules host
    → host_answer rules host ≡ IsHidden → host_answer rules other ≡ IsHidden
hidden_same rules host other same e = rw same (hidden_by (deciding Server rules host) host other e)

-- what the code tests of that
hidden_test : (o : Option MappingRule) (host : List ℕ)
    → (option_map_or (λ rule. is_none (added_prefix_of rule)) o false ≡ true)
    ↔ (option_map_or (λ rule. host_answer_by rule.kind rule.prepend host) o IsUndecided ≡ IsHidden)
hidden_test o host = grind arith

pub hidden_iff : (rules : List MappingRule) (host : List ℕ) (answer : Bool) → answer ≡ is_hidden rules host
    → IsTrue answer ↔ (host_answer rules host ≡ IsHidden)
hidden_iff rules host answer e = rw e (hidden_test (deciding Server rules host) host)

-- ---- the list of one name

-- what the guest gets for the list of one name
abbrev pub answer_to_one : HostAnswer → Option (List ℕ)
answer_to_one (IsListed name) = Some (name ++ 0 ∷ [])
answer_to_one IsHidden = Some (0 ∷ [])
answer_to_one IsUndecided = None

abbrev pub not_empty : List ℕ → Type 0
not_empty name = name ≢ []

one_name : (host : List ℕ) → not_empty host → All IsNotZero host → names (host ++ 0 ∷ []) ≡ host ∷ []
one_name [] some no_zero = absurd (some refl)
one_name (x ∷ xs) some no_zero = search (rules, names_of_one, some_name)

pub server_one : (rules : List MappingRule) (host : List ℕ) → not_empty host → All IsNotZero host
    → server_answer rules (host ++ 0 ∷ []) ≡ answer_to_one (host_answer rules host)
server_one rules host some no_zero = grind (arith, one_name, append-nil)

-- ---- no zero in what stands before a name

found_is : {X : Type 0} (P : X → Type 0) (p : X → Bool) (xs : List X) → All P xs → (x : X) → find p xs ≡ Some x → P x
found_is P p [] all x e = absurd (cc)
found_is P p (y ∷ ys) all x e = grind (arith, found_is P p ys (All-tail P y ys all) x, cond_both, All-head, All-tail)

pub added_no_zero : (side : Side) (rules : List MappingRule) (name added : List ℕ) → All HasNoZero rules
    → added_prefix side rules name ≡ Some added → All IsNotZero added
added_no_zero side rules name added all e =
    let by = adds_by (deciding side rules name) added e in
    let found = sym (deciding-find side rules name) ∙ by.decides in
    let has = found_is HasNoZero (fits side name) rules all by.rule found in
    elim by.how [ inl w ↦ rw w.1 (All-nil IsNotZero) | inr w ↦ rw w.1 has.in_prepend ]

-- bytes with no zero are a name
pub name_of_bytes : (bytes : List ℕ) → All IsNotZero bytes → ((i : ℕ) → get_or bytes i 0 < 256) → IsName bytes
name_of_bytes bytes no_zero fits =
    All-from_get_or (λ byte. (0 < byte) × (byte < 256)) bytes 0
    (λ i l. (omega (arith, no_zero i 0 l), fits i))
