-- Who starts the daemon, by the words before the daemon's.
use Rattle.std.specs.Prelude.{◌≡◌, ℕ, List, [], ◌∷◌, Bool, not, ◌&&◌, ◌==◌, Option, Some, None, is_some, option_map, unwrap_or, length, drop, find, position, nat_eq, bytes_eq, codes, if◌then◌else◌}
use Rattle.std.specs.Borrow.{Bor}
use Rattle.std.specs.List.{list_any, starts_with, ends_with}
use Rattle.std.specs.Option.{option_and_then, option_map_or}
use Rattle.virtiofs_options.specs.Clusters.{stripped}
use Rattle.virtiofs_options.specs.GuestOptions.{text_in}
use Rattle.virtiofs_options.specs.declared.options.Options.{Options}
use Rattle.virtiofs_options.specs.declared.options.Says.{Says}
use Rattle.virtiofs_options.specs.declared.options.Says.TheVariants as says
use Rattle.virtiofs_options.specs.declared.options.Start.{Start}
use Rattle.virtiofs_options.specs.declared.starter.By.{By}
use Rattle.virtiofs_options.specs.declared.starter.By.TheVariants.{Root, Another, InNamespace}
use Rattle.virtiofs_options.specs.declared.starter.Starter.{Starter}

-- ---- the row

-- a user is named behind the word: behind the option, or, where the program takes none, behind the program's word
abbrev pub is_mark : Start → List ℕ → Bool
is_mark row word =
    if length row.option.now == 0 then ends_with nat_eq word row.program.now else starts_with nat_eq word row.option.now

abbrev pub mark_of : Start → List (Bor (List ℕ)) → Option ℕ
mark_of row words = position (λ word. is_mark row word.now) words

-- the words have the program of the row, and its option
abbrev pub speaks : Start → List (Bor (List ℕ)) → Bool
speaks row words =
    list_any (λ word. ends_with nat_eq word.now row.program.now) words && is_some (mark_of row words)

-- the first row that speaks of the words
abbrev pub row_of : Options → List (Bor (List ℕ)) → Option Start
row_of options words = find (λ row. speaks row words) options.starters.now

-- ---- the user

-- the word may be a name: it is neither an option nor a path
abbrev pub is_name : List ℕ → Bool
is_name word = not (starts_with nat_eq word (codes "-")) && not (starts_with nat_eq word (codes "/"))

-- the text without a `=`, and then without a `#`, with which it begins
abbrev pub without : List ℕ → List ℕ → List ℕ
without begin text = unwrap_or (stripped begin text) text

abbrev pub bare : List ℕ → List ℕ
bare text = without (codes "#") (without (codes "=") text)

-- what stands in the word behind the option, if there is one
abbrev pub rest_of : List ℕ → List ℕ → List ℕ
rest_of option word = if length option == 0 then [] else bare (unwrap_or (stripped option word) [])

-- the first of the words that may be a name
abbrev pub next_name : List (Bor (List ℕ)) → Option (List ℕ)
next_name words = option_map (λ name. bare name.now) (find (λ word. is_name word.now) words)

-- the user behind the first of the words: the rest of it, or else the next that may be a name
abbrev pub user_behind : List ℕ → List (Bor (List ℕ)) → Option (List ℕ)
user_behind option [] = None
user_behind option (mark ∷ after) =
    if length (rest_of option mark.now) == 0 then next_name after else Some (rest_of option mark.now)

-- the user whom the words name by the row
abbrev pub user_by : Start → List (Bor (List ℕ)) → Option (List ℕ)
user_by row words = option_and_then (λ place. user_behind row.option.now (drop place words)) (mark_of row words)

-- ---- who starts it

abbrev pub names_root : Options → List ℕ → Bool
names_root options text = list_any (λ root. bytes_eq root.now text) options.roots.now

-- the user is root, or another one; who needs no option for another user is root where nobody is named
abbrev pub by_user : Options → Start → Option (List ℕ) → By
by_user options row None = if length row.option.now == 0 then Root else Another
by_user options row (Some user) = if names_root options user then Root else Another

-- who starts the daemon, and the user, by what a row says of whom the words name
abbrev pub said : Says → By → Option (List ℕ) → By × Option (List ℕ)
said says.Namespace by user = (InNamespace, None)
said says.Group by user = (Another, None)
said says.Root by user = (Root, Some (codes "root"))
said says.Another by user = (by, None)
said says.User by user = (by, user)

abbrev pub starter_by : Options → Start → Option (List ℕ) → By × Option (List ℕ)
starter_by options row user = said row.says (by_user options row user) user

abbrev pub plain_starter : Starter → By × Option (List ℕ)
plain_starter starter = (starter.by, text_in starter.user)

-- the first row that speaks of the words says who starts the daemon; where none does, root
abbrev pub IsStarter : Options → List (Bor (List ℕ)) → Starter → Type 0
IsStarter options words starter =
    plain_starter starter
    ≡ option_map_or (λ row. starter_by options row (user_by row words)) (row_of options words) (Root, None)
