-- What the guest sees of a list of names, a name at a time, and the list that these items make.
use Rattle.std.proofs.Common.{◌≡◌, ℕ, Bool, true, if◌then◌else◌, List, [], ◌∷◌, ◌++◌, map, Some}
use Rattle.std.proofs.Common.{Result, Ok, Err, is_ok, refl, ap, ◌∙◌, arith, rules}
use Rattle.std.specs.Iterator.{item_count, MakesProgress}
use Rattle.std.specs.List.{take_while, list_all, filter_map, cons_option}
use Rattle.std.specs.Result.{result_ok}
use Rattle.std.proofs.lemmas.Bool.{and_parts}
use Rattle.std.proofs.lemmas.List.{append_assoc}
use Rattle.std.proofs.lemmas.List.Sums.{take_while-cons}
use Rattle.virtiofs_map.specs.LookupAnswers.{of_no_rule}
use Rattle.virtiofs_map.specs.Listing.{listing, list_of}
use Rattle.virtiofs_map.specs.Names.{HostAnswer, IsListed, IsHidden, IsUndecided, host_answer, is_decided, listed_name}
use Rattle.virtiofs_map.specs.Names.{server_answer}
use Rattle.virtiofs_map.specs.Rule.{MappingRule}
use Rattle.virtiofs_map.specs.declared.xattrmap.errors.Error.{Error}
use Rattle.virtiofs_map.specs.declared.xattrmap.errors.ErrorKind.TheVariants.{UnterminatedMapping}
use Rattle.virtiofs_map.specs.NamesImageParts.{IsFirstSeen}
use Rattle.virtiofs_map.specs.declared.xattrmap.listed.Seen.{Seen}
use Rattle.virtiofs_map.specs.declared.xattrmap.listed.Seen.TheVariants.{Undecided, Hidden, Listed}
use Rattle.virtiofs_map.proofs.ServerListLemmas.{shown, with_zeros}

-- an item that is given, with the bytes of its name
abbrev pub Item : Type 0 → Type 0
Item A = Result (List ℕ) (Error A)

abbrev pub undecided : {A : Type 0} → Item A
undecided = Err (of_no_rule UnterminatedMapping)

-- ---- one name more

abbrev has_rule : List MappingRule → List ℕ → Bool
has_rule rules name = is_decided (host_answer rules name)

-- the items of these names
abbrev items : {A : Type 0} → List MappingRule → List (List ℕ) → List (Item A)
items rules parts =
    map (λ name. Ok name) (filter_map (shown rules) (take_while (has_rule rules) parts))
    ++ (if list_all (has_rule rules) parts then [] else undecided ∷ [])

-- what becomes of the name, before the items of the names after it
abbrev pub item_of : {A : Type 0} → HostAnswer → List (Item A) → List (Item A)
item_of (IsListed name) rest = Ok name ∷ rest
item_of IsHidden rest = rest
item_of IsUndecided rest = undecided ∷ []

items_step : {A : Type 0} (rules : List MappingRule) (name : List ℕ) (parts : List (List ℕ))
    → items {A = A} rules (name ∷ parts) ≡ item_of (host_answer rules name) (items rules parts)
items_step {A} rules name parts = grind (arith, shown, take_while-cons)

-- what the guest sees of a name
abbrev told : Seen → HostAnswer
told Undecided = IsUndecided
told Hidden = IsHidden
told (Listed shown) = IsListed shown.now

-- the items of a list, of whose first name that is seen
pub listing_seen : {A : Type 0} (rules : List MappingRule) (list : List ℕ) (seen : Seen) (rest : List ℕ)
    → IsFirstSeen rules list seen rest → listing {A = A} rules list ≡ item_of (told seen) (listing rules rest)
listing_seen rules list seen rest e = grind (arith, items_step)

-- ---- the list that the items make

-- the names of the items
abbrev pub names_of : {A : Type 0} → List (Item A) → List (List ℕ)
names_of items = filter_map (λ item. result_ok item) items

-- no item is an error
abbrev pub all_ok : {A : Type 0} → List (Item A) → Bool
all_ok items = list_all (λ item. is_ok item) items

all_ok-items : (A : Type 0) (rules : List MappingRule) (parts : List (List ℕ))
    → all_ok (items {A = A} rules parts) ≡ list_all (has_rule rules) parts
all_ok-items A rules [] = refl
all_ok-items A rules (name ∷ parts) = grind (arith, all_ok-items A rules parts, all_ok, items_step, items, has_rule)

names_of-item : {A : Type 0} (answer : HostAnswer) (rest : List (Item A)) → is_decided answer ≡ true
    → names_of (item_of answer rest) ≡ cons_option (listed_name answer) (names_of rest)
names_of-item answer rest e = grind arith

names_of-items : (A : Type 0) (rules : List MappingRule) (parts : List (List ℕ))
    → list_all (has_rule rules) parts ≡ true → names_of (items {A = A} rules parts) ≡ filter_map (shown rules) parts
names_of-items A rules [] e = refl
names_of-items A rules (name ∷ parts) e =
    ap (λ all. names_of all) (items_step {A = A} rules name parts)
    ∙ names_of-item (host_answer rules name) (items rules parts) (and_parts _ _ e).0
    ∙ ap (cons_option (shown rules name)) (names_of-items A rules parts (and_parts _ _ e).1)

-- the items make the list that the guest gets
pub list_of-listing : (A : Type 0) (rules : List MappingRule) (list : List ℕ)
    → list_of (listing {A = A} rules list) ≡ server_answer rules list
list_of-listing A rules list = grind (arith, all_ok-items, names_of-items)

-- ---- the list, item by item

-- the names of the items, each followed by a zero
abbrev pub zeros_of : {A : Type 0} → List (Item A) → List ℕ
zeros_of items = with_zeros (names_of items)

-- so far stands what the items before these come to
pub record IsSoFar {A : Type 0} (rules : List MappingRule) (list so_far : List ℕ) (left : List (Item A)) : Type 0 where
  pub zeros : so_far ++ zeros_of left ≡ zeros_of (listing {A = A} rules list)
  pub ok : all_ok left ≡ all_ok (listing {A = A} rules list)

pub IsSoFar-first : {A : Type 0} (rules : List MappingRule) (list so_far : List ℕ) (left : List (Item A)) → so_far ≡ []
    → left ≡ listing rules list → IsSoFar rules list so_far left
IsSoFar-first rules list so_far left none all = search rules

pub IsSoFar-name : {A : Type 0} (rules : List MappingRule) (list old new name : List ℕ) (left rest : List (Item A))
    → IsSoFar rules list old left → left ≡ Ok name ∷ rest → new ≡ old ++ name ++ 0 ∷ [] → IsSoFar rules list new rest
IsSoFar-name rules list old new name left rest so_far one e = grind (arith, zeros_of, append_assoc)

-- ---- a call of `next` that gives an item

pub one_less : {X Y : Type 0} (left rest : List X) (item : X) (given : Y) → left ≡ item ∷ rest
    → MakesProgress (λ _. Unit {0}) (item_count (λ left. left)) left (Some given) rest
one_less left rest item given e = search rules
