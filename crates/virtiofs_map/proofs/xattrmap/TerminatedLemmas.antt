-- Where a few names are decided, all names are.
use Rattle.std.proofs.Common.{◌≡◌, ◌≢◌, ℕ, ◌+◌, ◌<◌, Bool, true, false, List, [], ◌∷◌, filter, Option, None}
use Rattle.std.proofs.Common.{is_some, inl, inr, refl, ap, ◌∙◌, arith}
use Rattle.std.specs.List.{AllByRecursion, find, list_all, slice_split, onto_first}
use Rattle.std.specs.Option.{option_map_or}
use Rattle.std.proofs.lemmas.Bool.{and_from, cond_both, cases_Bool, cases_lt, false≢true, true≢false, eqb-false}
use Rattle.std.proofs.lemmas.List.Elements.{All-head, All-tail, All-nil, All-cons}
use Rattle.virtiofs_map.specs.Audit.{IsList, Terminated}
use Rattle.virtiofs_map.specs.Names.{begins, deciding, answer_by, IsUnterminated, IsUndecided, host_answer_by}
use Rattle.virtiofs_map.specs.Names.{host_answer, is_decided, names, server_answer}
use Rattle.virtiofs_map.specs.Rule.{MappingRule}
use Rattle.virtiofs_map.specs.declared.xattrmap.scopes.Side.{Side}
use Rattle.virtiofs_map.specs.declared.xattrmap.scopes.Side.TheVariants.{Client, Server}
use Rattle.virtiofs_map.proofs.AuditAlikeLemmas.{fits_more}
use Rattle.virtiofs_map.proofs.AuditAddedLemmas.{answer_to_one, server_one}
use Rattle.virtiofs_map.proofs.BeginsLemmas.{begins_from, deciding-find}
use Rattle.virtiofs_map.proofs.MapRuleLemmas.{not_zero_name, some_name}
use Rattle.virtiofs_map.proofs.ServerListLemmas.{is_name, is_zero}

-- ---- a rule that fits a name fits what begins with that name

find_more : {X : Type 0} (p q : X → Bool) → ((x : X) → p x ≡ true → q x ≡ true) → (xs : List X)
    → is_some (find p xs) ≡ true → is_some (find q xs) ≡ true
find_more p q more [] e = e
find_more p q more (x ∷ xs) e = grind (arith, find_more p q more xs)

decided_more : (side : Side) (rules : List MappingRule) (front name : List ℕ) → begins front name ≡ true
    → is_some (deciding side rules front) ≡ true → is_some (deciding side rules name) ≡ true
decided_more side rules front name b e = grind (arith, is_some, deciding-find, find_more, fits_more)

-- ---- names of the guest

answered_by : (o : Option MappingRule) (name : List ℕ) → is_some o ≡ true
    → option_map_or (λ rule. answer_by rule.kind rule.prepend name) o IsUnterminated ≢ IsUnterminated
answered_by o name e k = grind (arith, false≢true)

-- ---- names of the host

decided_by : (o : Option MappingRule) (host : List ℕ) → is_some o ≡ true
    → is_decided (option_map_or (λ rule. host_answer_by rule.kind rule.prepend host) o IsUndecided) ≡ true
decided_by o host e = grind (arith, false≢true)

-- ---- the names of a list

abbrev IsByteOfName : ℕ → Type 0
IsByteOfName byte = (0 < byte) × (byte < 256)

abbrev IsPart : List ℕ → Type 0
IsPart part = AllByRecursion IsByteOfName part

parts_onto : (x : ℕ) → IsByteOfName x → (parts : List (List ℕ)) → AllByRecursion IsPart parts
    → AllByRecursion IsPart (onto_first x parts)
parts_onto x is parts all = grind arith

parts_are : (list : List ℕ) → IsList list → AllByRecursion IsPart (slice_split is_zero list)
parts_are [] is = (tt, tt)
parts_are (x ∷ xs) is =
    let more = parts_are xs (All-tail (λ byte. byte < 256) x xs is) in
    let below = All-head (λ byte. byte < 256) x xs is in
    cond_both (is_zero x) ([] ∷ slice_split is_zero xs) (onto_first x (slice_split is_zero xs)) (AllByRecursion IsPart)
    (λ _. (tt, more))
    (grind (arith, parts_onto, eqb-false, is_zero))

-- each name of one byte is decided
abbrev pub BytesDecided : List MappingRule → ℕ → Type 0
BytesDecided rules end =
    (byte : ℕ) → 0 < byte → byte < end → is_some (deciding Server rules (byte ∷ [])) ≡ true

pub bytes_more : (rules : List MappingRule) (byte : ℕ) → BytesDecided rules byte
    → is_some (deciding Server rules (byte ∷ [])) ≡ true → BytesDecided rules (byte + 1)
bytes_more rules byte below here other low high = grind (arith, cases_lt)

all_decided : (rules : List MappingRule) → BytesDecided rules 256 → (parts : List (List ℕ))
    → AllByRecursion IsPart parts → list_all (λ name. is_decided (host_answer rules name)) (filter is_name parts) ≡ true
all_decided rules bytes [] all = refl
all_decided rules bytes ([] ∷ parts) all = all_decided rules bytes parts all.1
all_decided rules bytes ((x ∷ xs) ∷ parts) all =
    let some =
    decided_more Server rules (x ∷ []) (x ∷ xs) (begins_from (x ∷ []) (x ∷ xs) xs refl)
    (bytes x all.0.0.0 all.0.0.1) in
    let first = decided_by (deciding Server rules (x ∷ xs)) (x ∷ xs) some in
    rw (some_name x xs)
    (search (all_decided rules bytes parts all.1, and_from))

answered_list : (rules : List MappingRule) (list : List ℕ)
    → list_all (λ name. is_decided (host_answer rules name)) (names list) ≡ true → server_answer rules list ≢ None
answered_list rules list e k = grind arith

-- ---- terminated

pub terminated_from : (rules : List MappingRule) → is_some (deciding Client rules []) ≡ true → BytesDecided rules 256
    → Terminated rules
terminated_from rules empty bytes = record {
  client = λ name is. answered_by (deciding Client rules name) name (decided_more Client rules [] name refl empty);
  server = λ list is. answered_list rules list (all_decided rules bytes (slice_split is_zero list) (parts_are list is));
}

pub empty_from : (rules : List MappingRule) → Terminated rules → is_some (deciding Client rules []) ≡ true
empty_from rules terminated = grind (arith, All-nil)

undecided_one : (rules : List MappingRule) (host : List ℕ) (o : Option MappingRule) → is_some o ≡ false
    → option_map_or (λ rule. host_answer_by rule.kind rule.prepend host) o IsUndecided ≡ IsUndecided
undecided_one rules host o e = grind (arith, true≢false)

pub byte_from : (rules : List MappingRule) → Terminated rules → BytesDecided rules 256
byte_from rules terminated byte low high =
    elim (cases_Bool (is_some (deciding Server rules (byte ∷ [])))) [
      | inl holds ↦ holds
      | inr fails ↦
          (let host = byte ∷ [] in
          let is = All-cons IsByteOfName byte [] (low, high) (All-nil IsByteOfName) in
          let none = undecided_one rules host (deciding Server rules host) fails in
          let answer = server_one rules host (λ e. cc) (not_zero_name host is) ∙ ap answer_to_one none in
          absurd (terminated.server (byte ∷ 0 ∷ [])
          (grind (arith, All-cons, All-nil)) answer))
    ]
