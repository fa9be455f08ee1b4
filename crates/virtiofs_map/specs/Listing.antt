-- What the guest sees of a list of names of the host, a name at a time.
use Rattle.std.specs.Prelude.{ℕ, if◌then◌else◌, List, [], ◌∷◌, ◌++◌, map, Option, Some, None, Result, Ok, Err, is_ok}
use Rattle.std.specs.Borrow.{Bor}
use Rattle.std.specs.List.{take_while, list_all, filter_map}
use Rattle.std.specs.Result.{result_ok, result_map_both}
use Rattle.virtiofs_map.specs.LookupAnswers.{of_no_rule}
use Rattle.virtiofs_map.specs.Names.{host_answer, is_decided, listed_name, names, as_list}
use Rattle.virtiofs_map.specs.Rule.{MappingRule}
use Rattle.virtiofs_map.specs.declared.xattrmap.errors.Error.{Error}
use Rattle.virtiofs_map.specs.declared.xattrmap.errors.ErrorKind.TheVariants.{UnterminatedMapping}

-- the names of a list that stand before the first that no rule decides
abbrev pub decided_names : List MappingRule → List ℕ → List (List ℕ)
decided_names rules list = take_while (λ name. is_decided (host_answer rules name)) (names list)

-- the decided names that the guest sees, in order, each under the name that it sees
abbrev pub kept_names : List MappingRule → List ℕ → List (List ℕ)
kept_names rules list = filter_map (λ name. listed_name (host_answer rules name)) (decided_names rules list)

-- one error where no rule decides one of the names of a list, and nothing where each is decided
abbrev pub error_at_end : {A : Type 0} → List MappingRule → List ℕ → List (Result (List ℕ) (Error A))
error_at_end rules list =
    if list_all (λ name. is_decided (host_answer rules name)) (names list)
    then []
    else Err (of_no_rule UnterminatedMapping) ∷ []

-- what is given for a list, one item a call: Ok of each kept name, and then the error, if there is one
abbrev pub listing : {A : Type 0} → List MappingRule → List ℕ → List (Result (List ℕ) (Error A))
listing rules list = map (λ name. Ok name) (kept_names rules list) ++ error_at_end rules list

-- an item, with the bytes of its name
abbrev pub item_bytes : {A : Type 0} → Result (Bor (List ℕ)) (Error A) → Result (List ℕ) (Error A)
item_bytes item = result_map_both (λ name. name.now) (λ error. error) item

-- the list that the items make: none where one of them is an error
abbrev pub list_of : {A : Type 0} → List (Result (List ℕ) (Error A)) → Option (List ℕ)
list_of items =
    if list_all (λ item. is_ok item) items then Some (as_list (filter_map (λ item. result_ok item) items)) else None
