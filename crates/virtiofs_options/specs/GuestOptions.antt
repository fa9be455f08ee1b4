-- What the parts of a command line add to the options of a guest.
use Rattle.std.specs.Prelude.{◌≡◌, ◌==◌, ◌+◌, length, nat_lt, is_some, ℕ, ◌++◌, List, [], Bool, true, false, ◌||◌, Option, Some, None, option_map, unwrap_or, map, filter_map, flat_map, find, nat_eq, bytes_eq, codes, if◌then◌else◌}
use Rattle.std.specs.Borrow.{Bor}
use Rattle.std.specs.List.{list_any, last_or, slice_split, starts_with}
use Rattle.std.specs.Option.{option_map_or}
use Rattle.std.specs.Str.{str_eq_ignore_ascii_case}
use Rattle.virtiofs_options.specs.Clusters.{is_bare, stripped}
use Rattle.virtiofs_options.specs.declared.command.Part.{Part}
use Rattle.virtiofs_options.specs.declared.command.Part.TheVariants.{Plain, Flag, Valued, Stray}
use Rattle.virtiofs_options.specs.declared.guest.Guest.{Guest}
use Rattle.virtiofs_options.specs.declared.guest.Sandbox.{Sandbox}
use Rattle.virtiofs_options.specs.declared.guest.Sandbox.TheVariants as sandboxes
use Rattle.virtiofs_options.specs.declared.options.Known.{Known}
use Rattle.virtiofs_options.specs.declared.options.Options.{Options}
use Rattle.virtiofs_options.specs.declared.options.Sets.{Sets}
use Rattle.virtiofs_options.specs.declared.options.Sets.TheVariants as sets
use Rattle.virtiofs_options.specs.declared.options.Switch.{Switch}
use Rattle.virtiofs_options.specs.declared.options.Switch.TheVariants.{Acl, Xattr, Label}
use Rattle.virtiofs_options.specs.declared.options.Takes.{Takes}
use Rattle.virtiofs_options.specs.declared.options.Takes.TheVariants as takes

-- the value of an option, where the part is that option
abbrev pub value_in : List ℕ → Part → Option (Bor (List ℕ))
value_in option (Valued row value) = if bytes_eq row.name.now option then Some value else None
value_in option _ = None

-- the values of an option, in the order of the parts
abbrev pub values_of : List ℕ → List Part → List (Bor (List ℕ))
values_of option parts = filter_map (value_in option) parts

-- whether the part is an option that has no value
abbrev pub is_flag : List ℕ → Part → Bool
is_flag option (Flag row) = bytes_eq row.name.now option
is_flag option _ = false

-- an option that has no value is among the parts
abbrev pub has_flag : List ℕ → List Part → Bool
has_flag option parts = list_any (is_flag option) parts

-- this is what is set
abbrev pub is_set : Sets → Sets → Bool
is_set sets.TranslateUid sets.TranslateUid = true
is_set sets.TranslateGid sets.TranslateGid = true
is_set sets.UidMap sets.UidMap = true
is_set sets.GidMap sets.GidMap = true
is_set sets.Xattrmap sets.Xattrmap = true
is_set sets.AclFlag sets.AclFlag = true
is_set sets.Sandbox sets.Sandbox = true
is_set sets.Older sets.Older = true
is_set _ _ = false

-- the values of options that set this, in the order of the parts
abbrev pub setting_in : Sets → Part → Option (Bor (List ℕ))
setting_in set (Valued row value) = if is_set set row.sets then Some value else None
setting_in set _ = None

abbrev pub settings : Sets → List Part → List (Bor (List ℕ))
settings set parts = filter_map (setting_in set) parts

-- the newer form has access control lists on
abbrev pub is_acl_flag : Part → Bool
is_acl_flag (Flag row) = is_set sets.AclFlag row.sets
is_acl_flag _ = false

-- whether this is on or off, if what is set says so
abbrev pub turns : Switch → Sets → Option Bool
turns Acl sets.AclFlag = Some true
turns Acl (sets.Turns Acl on) = Some on
turns Xattr (sets.Turns Xattr on) = Some on
turns Label (sets.Turns Label on) = Some on
turns switch _ = None

abbrev pub turned : Switch → Part → Option Bool
turned switch (Flag row) = turns switch row.sets
turned switch _ = None

-- a guest whose daemon has none of the options
pub record HasNoOption {A : Type 0} (guest : Guest A) : Type 0 where
  pub users : guest.translate_uid.items ≡ []
  pub groups : guest.translate_gid.items ≡ []
  pub user_ranges : guest.uid_map.items ≡ []
  pub group_ranges : guest.gid_map.items ≡ []
  pub rules : guest.xattrmap ≡ None
  pub lists : guest.posix_acl ≡ false
  pub flag : guest.acl_flag ≡ false
  pub xattr : guest.xattr ≡ false
  pub label : guest.security_label ≡ false
  pub sandbox : guest.sandbox ≡ None

-- extended attributes are on: they are asked for, or go with what is
abbrev pub has_xattrs : {A : Type 0} → Guest A → Bool
has_xattrs guest = is_some guest.xattrmap || guest.posix_acl || guest.security_label || guest.xattr

-- the daemon of the guest has one of the options for ids or names
abbrev pub has_any : {A : Type 0} → Guest A → Bool
has_any guest =
    is_some guest.xattrmap || guest.posix_acl || guest.xattr
    || nat_lt 0 (length guest.translate_uid.items + length guest.uid_map.items)
    || nat_lt 0 (length guest.translate_gid.items + length guest.gid_map.items)

-- what parts add: values in their order, and of what a daemon has once the last
pub record Adds {A : Type 0} (old new : Guest A) (parts : List Part) : Type 0 where
  pub users : new.translate_uid.items ≡ old.translate_uid.items ++ settings sets.TranslateUid parts
  pub groups : new.translate_gid.items ≡ old.translate_gid.items ++ settings sets.TranslateGid parts
  pub user_ranges : new.uid_map.items ≡ old.uid_map.items ++ settings sets.UidMap parts
  pub group_ranges : new.gid_map.items ≡ old.gid_map.items ++ settings sets.GidMap parts
  pub rules : new.xattrmap ≡ last_or old.xattrmap (settings sets.Xattrmap parts)
  pub lists : Some new.posix_acl ≡ last_or (Some old.posix_acl) (filter_map (turned Acl) parts)
  pub flag : new.acl_flag ≡ (old.acl_flag || list_any is_acl_flag parts)
  pub xattr : Some new.xattr ≡ last_or (Some old.xattr) (filter_map (turned Xattr) parts)
  pub label : Some new.security_label ≡ last_or (Some old.security_label) (filter_map (turned Label) parts)
  pub sandbox : new.sandbox ≡ last_or old.sandbox (settings sets.Sandbox parts)

-- the older options in the values of `-o`, with a comma between two, in the order of the words
abbrev pub split_at_commas : List ℕ → List (List ℕ)
split_at_commas text = slice_split (λ byte. byte == 44) text

abbrev pub older_options : List Part → List (List ℕ)
older_options parts = flat_map (λ value. split_at_commas value.now) (settings sets.Older parts)

-- the text is this part of `-o`: a name alone, or what begins one that has a value, and the value
abbrev pub is_older_with : Takes → List ℕ → List ℕ → Bool
is_older_with takes.Nothing text name = bytes_eq text name
is_older_with _ text name = starts_with nat_eq text name

abbrev pub older_of : Options → List ℕ → Option Known
older_of options text = find (λ it. is_older_with it.takes text it.name.now) options.older.now

-- a part as plain data: the option that it is, if it is known, and its value; or the word
abbrev pub plain_part : Part → Option Known × Option (List ℕ)
plain_part (Flag row) = (Some row, None)
plain_part (Valued row value) = (Some row, Some value.now)
plain_part (Plain word) = (None, Some word.now)
plain_part (Stray word) = (None, Some word.now)

-- what a part of `-o` has after its name
abbrev pub after : List ℕ → List ℕ → List ℕ
after name text = unwrap_or (stripped name text) []

-- a part of `-o`, as the part of a command line that it is like
abbrev pub older_part : Options → List ℕ → Option Known × Option (List ℕ)
older_part options text =
    option_map_or (λ row. (Some row, if is_bare row.takes then None else Some (after row.name.now text)))
    (older_of options text) (None, Some text)

-- the parts of all `-o`, in their order
abbrev pub AreOlder : Options → List Part → List Part → Type 0
AreOlder options parts older = map plain_part older ≡ map (older_part options) (older_options parts)

-- what the parts of a command line make of a guest: older options count more than the others, wherever they stand
pub record TakesIn {A : Type 0} (options : Options) (old new : Guest A) (parts : List Part) : Type 0 where
  pub older : List Part
  pub newer : Guest A
  pub are_older : AreOlder options parts older
  pub of_newer : Adds old newer parts
  pub of_older : Adds newer new older

-- a text, if there is one
abbrev pub text_in : Option (Bor (List ℕ)) → Option (List ℕ)
text_in text = option_map (λ it. it.now) text

-- how the daemon is kept apart, by the last text that says so
abbrev pub sandbox_by : List ℕ → Sandbox
sandbox_by text =
    if str_eq_ignore_ascii_case text (codes "none") then sandboxes.Nothing
    else (if str_eq_ignore_ascii_case text (codes "chroot") then sandboxes.Chroot else sandboxes.Namespace)

abbrev pub sandbox_of : Option (List ℕ) → Sandbox
sandbox_of None = sandboxes.Namespace
sandbox_of (Some text) = sandbox_by text
