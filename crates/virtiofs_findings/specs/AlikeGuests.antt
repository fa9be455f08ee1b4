-- Guests with the same options.
use Rattle.std.specs.Prelude.{ℕ, ◌+◌, ◌-◌, Bool, true, false, ◌&&◌, ◌||◌, not, ◌==◌, List, drop, filter, length, map, position}
use Rattle.std.specs.Prelude.{Option, Some, None, bytes_eq, slice_get}
use Rattle.std.specs.Borrow.{Bor}
use Rattle.std.specs.Cmp.Lexicographic.{pointwise}
use Rattle.std.specs.Option.{option_map_or}
use Rattle.virtiofs_findings.specs.declared.alike.Alike.{Alike}
use Rattle.virtiofs_findings.specs.declared.guest.Guest.{Guest}
use Rattle.virtiofs_host.specs.declared.runner.Runner.{Runner}
use Rattle.virtiofs_options.specs.GuestOptions.{has_xattrs}
use Rattle.virtiofs_options.specs.declared.starter.Starter.{Starter}
use Rattle.virtiofs_options.specs.declared.starter.By.{By}
use Rattle.virtiofs_options.specs.declared.starter.By.TheVariants.{Root, Another, InNamespace}

-- the texts are the same, one by one
abbrev pub are_same : List (Bor (List ℕ)) → List (Bor (List ℕ)) → Bool
are_same texts others = pointwise (λ text other. bytes_eq text.now other.now) texts others

-- the text is the same, or there is none in both places
abbrev pub is_same : Option (Bor (List ℕ)) → Option (Bor (List ℕ)) → Bool
is_same None None = true
is_same (Some text) (Some other) = bytes_eq text.now other.now
is_same text other = false

-- both are so, or neither is
abbrev pub are_both : Bool → Bool → Bool
are_both true other = other
are_both false other = not other

-- the words before the daemon's say the same of both
abbrev pub is_same_by : By → By → Bool
is_same_by Root Root = true
is_same_by Another Another = true
is_same_by InNamespace InNamespace = true
is_same_by one other = false

abbrev pub is_same_starter : Starter → Starter → Bool
is_same_starter one other = is_same_by one.by other.by && is_same one.user other.user

-- one runner, or none is said in both places
abbrev pub is_same_runner : {A : Type 0} → Option (Bor (Runner A)) → Option (Bor (Runner A)) → Bool
is_same_runner None None = true
is_same_runner (Some runner) (Some other) = runner.now.place == other.now.place
is_same_runner runner other = false

-- the guests have the same specifications, ranges and rules
abbrev pub have_same_texts : {A : Type 0} → Guest A → Guest A → Bool
have_same_texts guest other =
    are_same guest.options.translate_uid.items other.options.translate_uid.items
    && are_same guest.options.translate_gid.items other.options.translate_gid.items
    && are_same guest.options.uid_map.items other.options.uid_map.items
    && are_same guest.options.gid_map.items other.options.gid_map.items
    && is_same guest.options.xattrmap other.options.xattrmap

-- the guests have the same options and one runner, and the words before both say the same
abbrev pub have_same_options : {A : Type 0} → Guest A → Guest A → Bool
have_same_options guest other =
    have_same_texts guest other
    && are_both guest.options.posix_acl other.options.posix_acl
    && are_both guest.options.acl_flag other.options.acl_flag
    && are_both (has_xattrs guest.options) (has_xattrs other.options)
    && is_same guest.options.sandbox other.options.sandbox
    && is_same_starter guest.options.starter other.options.starter
    && is_same_runner guest.runner other.runner

-- the number of the first guest behind so many that has the same options as one; if there is none, that of the last of
-- these
abbrev pub next_alike : {A : Type 0} → List (Guest A) → Guest A → ℕ → ℕ
next_alike guests guest number =
    option_map_or (λ between. number + between + 1) (position (λ other. have_same_options other guest) (drop number guests)) number

-- how many guests have the same options as one
abbrev pub count_alike : {A : Type 0} → List (Guest A) → Guest A → ℕ
count_alike guests guest = length (filter (λ other. have_same_options other guest) guests)

-- the guests that have the same options as one of them
abbrev pub alike_to : {A : Type 0} → List (Guest A) → Guest A → Alike
alike_to guests guest = record {
  first = next_alike guests guest 0;
  second = next_alike guests guest (next_alike guests guest 0);
  count = count_alike guests guest;
}

-- the same for each guest
abbrev pub likes_of : {A : Type 0} → List (Guest A) → List Alike
likes_of guests = map (alike_to guests) guests

-- of guests with the same options, what is found of the first is told, and what is found between the first two
abbrev pub is_first : Alike → ℕ → Bool
is_first alike number = alike.first == number

abbrev pub is_told_of : Option Alike → Option Alike → ℕ → ℕ → Bool
is_told_of (Some one) (Some other) first second =
    is_first one first && (is_first other second || (other.first == first && other.second == second))
is_told_of one other first second = true

abbrev pub is_told : List Alike → ℕ → ℕ → Bool
is_told likes first second = is_told_of (slice_get likes (first - 1)) (slice_get likes (second - 1)) first second
