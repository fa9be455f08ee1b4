-- What one map rule means.
use Rattle.std.proofs.Common.{◌≡◌, ℕ, Bool, true, false, not, cond, List, [], ◌∷◌, ◌++◌, length, drop, filter, Option}
use Rattle.std.proofs.Common.{Some, None, ◌⊎◌, inl, inr, refl, sym, ap, ◌∙◌, subst, arith, All, filter_map}
use Rattle.std.proofs.Common.{encode_utf8_all, ne_eqb, append-nil, append_assoc, drop_at, rules}
use Rattle.std.specs.List.{list_all}
use Rattle.virtiofs_map.specs.Rule.{RuleType, Prefix, Okay, Bad, MappingRule}
use Rattle.virtiofs_map.specs.Names.{begins, Passes, IsDenied, IsUnterminated, client_answer, HostAnswer}
use Rattle.virtiofs_map.specs.Names.{IsListed, IsHidden, host_answer, is_decided}
use Rattle.virtiofs_map.specs.Names.{listed_name, names, as_list, server_answer}
use Rattle.virtiofs_map.specs.MapRule.{map_client, map_server, IsName, IsMapRule, map_rule, Agree, KeepsGuestsApart}
use Rattle.virtiofs_map.specs.RuleText.{RuleText, expanded}
use Rattle.virtiofs_map.proofs.BeginsLemmas.{deciding-find, begins_split, begins_from, begins-append}
use Rattle.virtiofs_map.proofs.ServerListLemmas.{is_name, is_zero}
use Rattle.virtiofs_map.proofs.NoZeroLemmas.{IsNotZero, text_no_zero, text_no_nul}
use Rattle.std.proofs.lemmas.Bool.{false_from_ne_true, false≢true}
use Rattle.std.proofs.lemmas.List.Elements.{All-same, All-append, All-weaker}
use Rattle.std.proofs.lemmas.List.Splits.{slice_split_at}

-- a rule for both sides
abbrev pub both : RuleType → List ℕ → List ℕ → MappingRule
both kind key prepend = record { kind = kind; client = true; server = true; key = key; prepend = prepend }

abbrev pub keyed : List ℕ → List ℕ → List MappingRule
keyed key prepend = both Prefix key prepend ∷ both Bad prepend key ∷ both Okay [] [] ∷ []

-- what the rules make of each name, on either side
pub record Acts (key prepend : List ℕ) (rules : List MappingRule) : Type 0 where
  pub client : (name : List ℕ) → client_answer rules name ≡ map_client key prepend name
  pub host : (name : List ℕ) → host_answer rules name ≡ map_server key prepend name

-- ---- the two or three rules act as the one

-- ---- what follows from that

all_decided : (rules : List MappingRule) (all : (name : List ℕ) → is_decided (host_answer rules name) ≡ true)
    (names : List (List ℕ)) → list_all (λ name. is_decided (host_answer rules name)) names ≡ true
all_decided rules all [] = refl
all_decided rules all (name ∷ names) = rw (all name) (all_decided rules all names)

same_listed : (f g : List ℕ → HostAnswer) → ((name : List ℕ) → f name ≡ g name) → (names : List (List ℕ))
    → filter_map (λ name. listed_name (f name)) names ≡ filter_map (λ name. listed_name (g name)) names
same_listed f g same [] = refl
same_listed f g same (name ∷ names) = rw (same name, same_listed f g same names) refl

-- a map that decides each name answers the list of what it makes of them
pub server_of : (rules : List MappingRule) (answer : List ℕ → HostAnswer)
    → ((name : List ℕ) → is_decided (host_answer rules name) ≡ true)
    → ((name : List ℕ) → host_answer rules name ≡ answer name) → (list : List ℕ)
    → server_answer rules list ≡ Some (as_list (filter_map (λ name. listed_name (answer name)) (names list)))
server_of rules answer all same list = grind (arith, all_decided, same_listed)

-- what acts as one map rule decides each name
pub decides : {key prepend : List ℕ} {rules : List MappingRule} → Acts key prepend rules → (name : List ℕ)
    → is_decided (host_answer rules name) ≡ true
decides {key} {prepend} acts name = grind arith

-- ---- a name that passes

-- the two ways in which a name passes
pub passes_by : (a b : Bool) (prepend name host : List ℕ)
    → cond a (Passes (prepend ++ name)) (cond b IsDenied (Passes name)) ≡ Passes host
    → ((a ≡ true) × (host ≡ prepend ++ name)) ⊎ ((a ≡ false) × (b ≡ false) × (host ≡ name))
passes_by a b prepend name host e = grind arith

abbrev pub passes_cases : {key prepend : List ℕ} {rules : List MappingRule} → Acts key prepend rules
    → (name host : List ℕ) → client_answer rules name ≡ Passes host
    → ((begins key name ≡ true) × (host ≡ prepend ++ name))
    ⊎ ((begins key name ≡ false) × (begins prepend name ≡ false) × (host ≡ name))
passes_cases {key} {prepend} acts name host e =
    passes_by (begins key name) (begins prepend name) prepend name host (sym (acts.client name) ∙ e)

-- what a name passes as is listed as that name
passed_listed : {key prepend : List ℕ} {rules : List MappingRule} → Acts key prepend rules → (name host : List ℕ)
    → client_answer rules name ≡ Passes host → host_answer rules host ≡ IsListed name
passed_listed {key} {prepend} acts name host e = grind (arith, begins-append, drop_at)

-- it holds no zero
passed_no_zero : {key prepend : List ℕ} {rules : List MappingRule} → Acts key prepend rules → (name host : List ℕ)
    → All IsNotZero prepend → All IsNotZero name → client_answer rules name ≡ Passes host → All IsNotZero host
passed_no_zero {key} {prepend} acts name host p n e =
    elim (passes_cases acts name host e) [
      | inl way ↦ All-same IsNotZero host (prepend ++ name) way.1
          (All-append IsNotZero prepend name p n)
      | inr way ↦ All-same IsNotZero host name way.2 n
    ]

no_name_by : (prepend name : List ℕ) → prepend ++ name ≡ [] → name ≡ []
no_name_by [] name e = e
no_name_by (x ∷ xs) name e = cc

-- it is empty only where the name is
passed_empty : {key prepend : List ℕ} {rules : List MappingRule} → Acts key prepend rules → (name host : List ℕ)
    → client_answer rules name ≡ Passes host → host ≡ [] → name ≡ []
passed_empty {key} {prepend} acts name host e none = search (rules, no_name_by)

-- ---- the list of one name

pub names_of_one : (name : List ℕ) → All IsNotZero name → names (name ++ 0 ∷ []) ≡ filter is_name (name ∷ [])
names_of_one name no_zero = search (rules, is_name, slice_split_at, is_zero, All-weaker)

pub some_name : (byte : ℕ) (bytes : List ℕ) → is_name (byte ∷ bytes) ≡ true
some_name byte bytes = ap not (ne_eqb (length (byte ∷ bytes)) 0 (λ e. absurd (omega arith)))

-- the list of one name that is listed
lists_one : (rules : List MappingRule) (host name : List ℕ)
    → ((each : List ℕ) → is_decided (host_answer rules each) ≡ true) → host_answer rules host ≡ IsListed name
    → (host ≡ [] → name ≡ []) → names (host ++ 0 ∷ []) ≡ filter is_name (host ∷ [])
    → server_answer rules (host ++ 0 ∷ []) ≡ Some (name ++ 0 ∷ [])
lists_one rules [] name all listed empty one = grind arith
lists_one rules (byte ∷ bytes) name all listed empty one = grind (arith, server_of, some_name, append-nil)

pub not_zero_name : (name : List ℕ) → IsName name → All IsNotZero name
not_zero_name name is = search (rules, All-weaker)

-- ---- all that one map rule means

terminated_by : (a b : Bool) (x y : List ℕ) → cond a (Passes x) (cond b IsDenied (Passes y)) ≡ IsUnterminated → ⊥
terminated_by a b x y e = grind arith

-- what passes begins with the prepend and the key, or with neither of them
fronts_of : {key prepend : List ℕ} {rules : List MappingRule} → Acts key prepend rules → (name host : List ℕ)
    → client_answer rules name ≡ Passes host
    → (begins (prepend ++ key) host ≡ true) ⊎ ((begins key host ≡ false) × (begins prepend host ≡ false))
fronts_of {key} {prepend} acts name host e =
    elim (passes_cases acts name host e) [
      | inl way ↦ inl
          (begins_from (prepend ++ key) host (drop (length key) name)
          (grind (arith, begins_split, append_assoc)))
      | inr way ↦ inr (ap (begins key) way.2 ∙ way.0, ap (begins prepend) way.2 ∙ way.1)
    ]

way_back_of : (key prepend : List ℕ) (rules : List MappingRule) → Acts key prepend rules → (name host : List ℕ)
    → key ≡ [] → host_answer rules host ≡ IsListed name → client_answer rules name ≡ Passes host
way_back_of key prepend rules acts name host none k = grind (arith, begins_split)

server_ends : (rules : List MappingRule) (list answer : List ℕ) → server_answer rules list ≡ Some answer
    → server_answer rules list ≡ None → ⊥
server_ends rules list answer some none = cc

pub acts_mean : (key prepend : List ℕ) (rules : List MappingRule) → All IsNotZero prepend → Acts key prepend rules
    → IsMapRule key prepend rules
acts_mean key prepend rules no_zero acts = record {
  client = acts.client;
  host = acts.host;
  server = server_of rules (map_server key prepend) (decides acts) acts.host;
  lists_back = grind (arith, lists_one, decides, passed_listed, passed_empty, names_of_one, passed_no_zero, not_zero_name);
  client_terminated =
      grind (arith, terminated_by);
  server_terminated =
      λ list. server_ends rules list _ (server_of rules (map_server key prepend) (decides acts) acts.host list);
  fronts = λ name host some e. fronts_of acts name host e;
  way_back = λ name host none k. way_back_of key prepend rules acts name host none k;
}

-- ---- the rules of a text that is one map rule

pub expanded_acts : (key prepend : List ℕ)
    → Acts (encode_utf8_all key) (encode_utf8_all prepend) (expanded (map_rule key prepend ∷ []))
expanded_acts key prepend = grind (arith, deciding-find, encode_utf8_all)

-- where a text is one map rule, and the rules are those that it stands for, they mean what it means
pub map_rule_means : (text key prepend : List ℕ) (rules : List MappingRule) → RuleText text (map_rule key prepend ∷ [])
    → rules ≡ expanded (map_rule key prepend ∷ []) → IsMapRule (encode_utf8_all key) (encode_utf8_all prepend) rules
map_rule_means text key prepend rules read are =
    subst (IsMapRule (encode_utf8_all key) (encode_utf8_all prepend)) (sym are)
    (acts_mean _ _ _ (text_no_zero prepend (text_no_nul text (map_rule key prepend ∷ []) read).0.1)
    (expanded_acts key prepend))

-- ---- two guests

-- of two rows that begin one name, one begins the other
one_begins : (p q r s : List ℕ) → p ++ r ≡ q ++ s → ((t : List ℕ) × (q ≡ p ++ t)) ⊎ ((t : List ℕ) × (p ≡ q ++ t))
one_begins [] q r s e = inl (q, refl)
one_begins (x ∷ p) [] r s e = inr (x ∷ p, refl)
one_begins (x ∷ p) (y ∷ q) r s e = grind (arith, one_begins p q r s)

-- a name that begins with one prepend is hidden under the other
apart_hidden : (prepend another name : List ℕ) → begins prepend another ≡ false → begins another prepend ≡ false
    → begins another name ≡ true → map_server [] prepend name ≡ IsHidden
apart_hidden prepend another name a b n =
    rw (false_from_ne_true (begins prepend name) clash) refl where
      clash : begins prepend name ≡ true → ⊥
      clash both =
          elim (one_begins prepend another (drop (length prepend) name) (drop (length another) name)
          (sym (begins_split prepend name both) ∙ begins_split another name n)) [
            | inl h ↦ grind (arith, false≢true, begins_from)
            | inr h ↦ false≢true (sym b ∙ begins_from another prepend h.0 h.1)
          ]

-- names that are not listed may be left out
listed_without : (keep : List ℕ → Option (List ℕ)) (set : List ℕ → Bool)
    → ((name : List ℕ) → set name ≡ true → keep name ≡ None) → (all : List (List ℕ))
    → filter_map keep all ≡ filter_map keep (filter (λ name. not (set name)) all)
listed_without keep set hides [] = refl
listed_without keep set hides (name ∷ others) = grind (arith, listed_without keep set hides others)

-- the list of one prepend, whatever names begin with another
same_lists : (prepend another list other : List ℕ) (rules : List MappingRule) → Acts [] prepend rules
    → begins prepend another ≡ false → begins another prepend ≡ false → Agree list other (begins another)
    → server_answer rules list ≡ server_answer rules other
same_lists prepend another list other rules acts a b agree =
    let keep : List ℕ → Option (List ℕ) = λ name. listed_name (map_server [] prepend name) in
    let hidden : (name : List ℕ) → begins another name ≡ true → keep name ≡ None =
    λ name n. ap listed_name (apart_hidden prepend another name a b n) in
    let same = listed_without keep (begins another) hidden (names list) ∙ ap (filter_map keep) agree
    ∙ sym (listed_without keep (begins another) hidden (names other)) in
    server_of rules (map_server [] prepend) (decides acts) acts.host list ∙ ap (λ all. Some (as_list all)) same
    ∙ sym (server_of rules (map_server [] prepend) (decides acts) acts.host other)

pub guests_apart : (rules : List MappingRule) (list : List ℕ) → KeepsGuestsApart rules list
guests_apart rules list prepend another other are a b agree =
    same_lists (encode_utf8_all prepend) another list other rules
    (grind (arith, encode_utf8_all, expanded_acts)) a b agree
