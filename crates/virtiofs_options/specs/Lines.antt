-- Where the command line of a daemon begins and ends among words.
use Rattle.std.specs.Prelude.{ℕ, ◌+◌, List, [], ◌∷◌, Bool, true, false, not, ◌||◌, ◌&&◌, Option, Some, None, option_map, position, take, drop, nat_eq, bytes_eq, codes, if◌then◌else◌}
use Rattle.std.specs.Borrow.{Bor}
use Rattle.std.specs.List.{list_any, starts_with, ends_with}
use Rattle.std.specs.Option.{option_and_then, option_map_or, option_or}
use Rattle.virtiofs_options.specs.Parts.{is_option, key_of}
use Rattle.virtiofs_options.specs.declared.options.Options.{Options}
use Rattle.virtiofs_options.specs.declared.options.Sets.{Sets}
use Rattle.virtiofs_options.specs.declared.options.Sets.TheVariants as sets
use Rattle.virtiofs_options.specs.declared.options.Switch.TheVariants.{Acl}

-- where the first `--` stands, if there is one
abbrev pub first_end : List (Bor (List ℕ)) → Option ℕ
first_end words = position (λ word. bytes_eq word.now (codes "--")) words

-- the words before the first `--`, or all of them
abbrev pub line_of : List (Bor (List ℕ)) → List (Bor (List ℕ))
line_of words = option_map_or (λ end. take end words) (first_end words) words

-- the words after the first `--`, if there is one
abbrev pub after_line : List (Bor (List ℕ)) → Option (List (Bor (List ℕ)))
after_line words = option_map (λ end. drop (end + 1) words) (first_end words)

-- the daemon's word: it is `virtiofsd` or ends with `/virtiofsd`, and does not begin with `-`
abbrev pub is_daemon : List ℕ → Bool
is_daemon word =
    not (starts_with nat_eq word (codes "-"))
    && (bytes_eq word (codes "virtiofsd") || ends_with nat_eq word (codes "/virtiofsd"))

-- what is set concerns ids or names
abbrev pub concerns : Sets → Bool
concerns sets.TranslateUid = true
concerns sets.TranslateGid = true
concerns sets.UidMap = true
concerns sets.GidMap = true
concerns sets.Xattrmap = true
concerns sets.AclFlag = true
concerns (sets.Turns Acl on) = true
concerns _ = false

-- the word is an option for ids or names, alone or with `=` and a value
abbrev pub is_counted : Options → List ℕ → Bool
is_counted options word =
    list_any (λ it. concerns it.sets && bytes_eq it.name.now (key_of word)) options.known.now

-- the first of the words is an option, or `--`
abbrev pub opens_with_option : List (Bor (List ℕ)) → Bool
opens_with_option [] = false
opens_with_option (word ∷ rest) = is_option word.now

-- the first of the words is an option, or one of them is an option for ids or names
abbrev pub has_options : Options → List (Bor (List ℕ)) → Bool
has_options options words = opens_with_option words || list_any (λ word. is_counted options word.now) words

-- where the first daemon's word stands
abbrev pub first_daemon : List (Bor (List ℕ)) → Option ℕ
first_daemon words = position (λ word. is_daemon word.now) words

-- where the first daemon's word stands, if what stands before it may be passed over: it does not begin with an option,
-- and has none for ids or names
abbrev pub daemon_place : Options → List (Bor (List ℕ)) → Option ℕ
daemon_place options words =
    option_and_then (λ place. if has_options options (take place words) then None else Some place)
    (first_daemon words)

-- where a command line begins: at the daemon's word, or else with the words, if they have options
abbrev pub beginning : Options → List (Bor (List ℕ)) → Option ℕ
beginning options words =
    option_or (daemon_place options words) (if has_options options (line_of words) then Some 0 else None)
