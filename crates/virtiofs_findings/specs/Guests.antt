-- What the texts of the options of a guest set up.
use Rattle.std.specs.Prelude.{◌≡◌, ◌≢◌, ◌⊎◌, ◌↔◌, ℕ, Bool, true, false, ◌||◌, ◌&&◌, ◌==◌, if◌then◌else◌, is_some, not, List, [], Contains, length, nat_lt, IsTrue, IsFalse, Option, Some, None, option_map}
use Rattle.std.specs.Borrow.{Bor}
use Rattle.std.specs.List.{AllZip}
use Rattle.std.specs.Option.{option_and_then}
use Rattle.std.specs.Str.{chars}
use Rattle.virtiofs_map.specs.Build.{Accepted}
use Rattle.virtiofs_map.specs.NamespaceText.{SaysNamespace, NamespaceFault, HasNamespaceFault}
use Rattle.virtiofs_map.specs.RulesFault.{RulesFault, HasRulesFault}
use Rattle.virtiofs_map.specs.RuleText.{SaysRules, CountsRules}
use Rattle.virtiofs_map.specs.Specifications.{texts_of, AllSay, SpecsFault, HasSpecsFault}
use Rattle.virtiofs_map.specs.declared.cmdline.IdMap.{IdMap}
use Rattle.virtiofs_map.specs.declared.idmap.UidMap.{UidMap}
use Rattle.virtiofs_findings.specs.declared.guest.Guest.{Guest}
use Rattle.virtiofs_host.specs.declared.runner.Bounds.{Bounds}
use Rattle.virtiofs_findings.specs.Ranges.{FindsFault, Differ, own_of, ranges_of, said_own, taken}
use Rattle.virtiofs_options.specs.GuestOptions.{has_xattrs, sandbox_of, text_in}
use Rattle.virtiofs_options.specs.declared.guest.Sandbox.{Sandbox}
use Rattle.virtiofs_options.specs.declared.guest.Sandbox.TheVariants.{Namespace, Chroot, Nothing}
use Rattle.virtiofs_options.specs.declared.starter.By.{By}
use Rattle.virtiofs_options.specs.declared.starter.By.TheVariants.{Root, Another, InNamespace}
use Rattle.virtiofs_findings.specs.declared.ids.kind.IdKind.{IdKind}
use Rattle.virtiofs_findings.specs.declared.ids.kind.IdKind.TheVariants.{Users, Groups}
use Rattle.virtiofs_findings.specs.declared.setup.IdSetUp.{IdSetUp}
use Rattle.virtiofs_findings.specs.declared.setup.NoStart.{NoStart}
use Rattle.virtiofs_findings.specs.declared.setup.NoStart.TheVariants.{MapsAsRoot, MapsOutside, ChrootByUser}
use Rattle.virtiofs_findings.specs.declared.setup.NamesSetUp.{NamesSetUp}
use Rattle.virtiofs_findings.specs.declared.setup.SetUp.{SetUp}

-- the text says the range
abbrev pub SaysRange : List ℕ → UidMap → Type 0
SaysRange text range = SaysNamespace text range.inside_uid range.outside_uid range.count

-- some text says no specification, or no map is made of what they say
abbrev pub RefusesSpecs : List (List ℕ) → Type 0
RefusesSpecs texts = (fault : SpecsFault) × HasSpecsFault texts fault

-- some text says no range
abbrev pub HasNoRange : List (List ℕ) → Type 0
HasNoRange texts = (text : List ℕ) × (fault : NamespaceFault) × Contains texts text × HasNamespaceFault text fault

-- as which id a daemon acts is not known: another user than root starts it, of whom it is not said who it is, and it has no
-- ranges
abbrev pub LeaveUnknown : Bool → List (List ℕ) → Type 0
LeaveUnknown by_another texts = IsTrue by_another × (texts ≡ [])

-- some text says no range, or as which id the daemon acts is not known
abbrev pub RefusesRanges : Bool → List (List ℕ) → Type 0
RefusesRanges by_another texts = HasNoRange texts ⊎ LeaveUnknown by_another texts

-- the text is no text of rules
abbrev pub RefusesRules : List ℕ → Type 0
RefusesRules text = (fault : RulesFault) × HasRulesFault text fault

-- the specifications that the texts say, or none where they are refused
abbrev pub ReadsSpecs : List (List ℕ) → Option (List IdMap) → Type 0
ReadsSpecs texts (Some specs) = AllSay texts specs × Accepted specs
ReadsSpecs texts None = RefusesSpecs texts

-- the ranges that the texts say, or none where one says no range
abbrev pub SayRanges : List (List ℕ) → Option (List UidMap) → Type 0
SayRanges texts (Some ranges) = AllZip SaysRange texts ranges
SayRanges texts None = HasNoRange texts

-- the same, or none where they are refused
abbrev pub ReadsRanges : Bool → List (List ℕ) → Option (List UidMap) → Type 0
ReadsRanges by_another texts (Some ranges) = AllZip SaysRange texts ranges × (¬ LeaveUnknown by_another texts)
ReadsRanges by_another texts None = RefusesRanges by_another texts

-- the namespace that the daemon runs in, by the ranges of its options and by who runs it; what is wrong with these ranges
pub record RunsIn {A : Type 0} (bounds : Option (Bounds A)) (own_alone : Bool) (set : IdSetUp A) : Type 0 where
  pub ranges : set.ranges.items ≡ ranges_of bounds own_alone (taken (said_own bounds) set.written.items)
  pub fault : FindsFault bounds (taken (said_own bounds) set.written.items) set.fault
  pub differs : IsTrue set.differs ↔ Differ bounds (taken (said_own bounds) set.written.items)

-- what bounds the ids of a kind of the daemon of a guest, if it is said who runs it
abbrev pub bounds_of : {A : Type 0} → IdKind → Guest A → Option (Bounds A)
bounds_of Users guest = option_map (λ runner. runner.now.users) guest.runner
bounds_of Groups guest = option_map (λ runner. runner.now.groups) guest.runner

-- the texts of its specifications for ids of a kind, and those of its ranges
abbrev pub specs_of : {A : Type 0} → IdKind → Guest A → List (List ℕ)
specs_of Users guest = texts_of guest.options.translate_uid.items
specs_of Groups guest = texts_of guest.options.translate_gid.items

abbrev pub written_of : {A : Type 0} → IdKind → Guest A → List (List ℕ)
written_of Users guest = texts_of guest.options.uid_map.items
written_of Groups guest = texts_of guest.options.gid_map.items

-- the process of the daemon of a guest, if it runs already
abbrev pub process_of : {A : Type 0} → Guest A → Option ℕ
process_of guest = option_and_then (λ runner. runner.now.process) guest.runner

-- the daemon has a range of users, or of groups, of a namespace
abbrev pub has_ranges : {A : Type 0} → Guest A → Bool
has_ranges guest = nat_lt 0 (length guest.options.uid_map.items) || nat_lt 0 (length guest.options.gid_map.items)

-- the sandbox of a daemon is made of namespaces
abbrev pub is_namespaces : Sandbox → Bool
is_namespaces Namespace = true
is_namespaces Chroot = false
is_namespaces Nothing = false

abbrev pub has_namespaces : {A : Type 0} → Guest A → Bool
has_namespaces guest = is_namespaces (sandbox_of (text_in guest.options.sandbox))

-- the daemon can act as some ids alone: as those of its ranges, in a sandbox that is made of namespaces; or, if it is not
-- root who starts it, as the one that it runs as
abbrev pub acts_as_own : {A : Type 0} → Guest A → Bool
acts_as_own guest = (has_namespaces guest && has_ranges guest) || nat_lt 0 (own_of (bounds_of Users guest))

-- another user than root starts the daemon, of whom it is not said who it is: words say so, or it has ranges of a
-- namespace, with which root does not start
abbrev pub is_other : By → Bool
is_other Root = false
is_other Another = true
is_other InNamespace = false

abbrev pub is_by_another : {A : Type 0} → Guest A → Bool
is_by_another guest = not (is_some guest.runner) && (is_other guest.options.starter.by || has_ranges guest)

-- why a daemon does not start: with ranges it takes namespaces and a user who is not root, and another root folder takes
-- root
abbrev pub no_start : Bool → Sandbox → Option ℕ → Option NoStart
no_start true Namespace None = None
no_start true Namespace (Some uid) = if uid == 0 then Some MapsAsRoot else None
no_start true Chroot starter = Some MapsOutside
no_start true Nothing starter = Some MapsOutside
no_start false Namespace starter = None
no_start false Chroot None = None
no_start false Chroot (Some uid) = if uid == 0 then None else Some ChrootByUser
no_start false Nothing starter = None

-- the same of a guest; one whose daemon runs has started
abbrev pub no_start_of : {A : Type 0} → Guest A → Option NoStart
no_start_of guest =
    if is_some (process_of guest) then None
    else no_start (has_ranges guest) (sandbox_of (text_in guest.options.sandbox)) (said_own (bounds_of Users guest))

-- what the texts set up for ids of a kind; nothing where one of them is refused
abbrev pub ReadsIds : {A : Type 0} → IdKind → Guest A → Option (IdSetUp A) → Type 0
ReadsIds kind guest (Some set) =
    AllSay (specs_of kind guest) set.map × Accepted set.map
    × ReadsRanges (is_by_another guest) (written_of kind guest) (Some set.written.items)
    × RunsIn (bounds_of kind guest) (acts_as_own guest) set
ReadsIds kind guest None =
    RefusesSpecs (specs_of kind guest) ⊎ RefusesRanges (is_by_another guest) (written_of kind guest)

-- the rules that the text says, and how many are written
abbrev pub ReadsText : {A : Type 0} → List ℕ → NamesSetUp A → Type 0
ReadsText text set = SaysRules text set.map × CountsRules text set.written

-- what the text of rules sets up, if there is one; nothing where there is none, or where it is refused
abbrev pub ReadsNames : {A : Type 0} → Option (Bor (List ℕ)) → Option (NamesSetUp A) → Type 0
ReadsNames None set = set ≡ None
ReadsNames (Some text) (Some set) = ReadsText (chars text.now) set
ReadsNames (Some text) None = RefusesRules (chars text.now)

-- all names of the guest pass as they are: extended attributes are on, and there are no rules
abbrev pub passes : {A : Type 0} → Guest A → Bool
passes guest = not (is_some guest.options.xattrmap) && has_xattrs guest.options

-- the daemon translates users or groups
abbrev pub Translates : {A : Type 0} → Guest A → Type 0
Translates guest = (guest.options.translate_uid.items ≢ []) ⊎ (guest.options.translate_gid.items ≢ [])

-- what the options of the daemon of a guest set up
pub record SetsUp {A : Type 0} (guest : Guest A) (set : SetUp A) : Type 0 where
  pub users : ReadsIds Users guest set.users
  pub groups : ReadsIds Groups guest set.groups
  pub names : ReadsNames guest.options.xattrmap set.names
  pub passes : set.passes ≡ passes guest
  pub acl : set.posix_acl ≡ guest.options.posix_acl
  pub process : set.process ≡ process_of guest
  pub refused : IsTrue set.acl_refused ↔ (IsTrue guest.options.acl_flag × Translates guest)
  pub untranslated : IsTrue set.acl_untranslated
      ↔ (IsTrue guest.options.posix_acl × IsFalse guest.options.acl_flag × Translates guest)
  pub starts : set.no_start ≡ no_start_of guest

-- some text of the guest is refused
abbrev pub IsRefused : {A : Type 0} → Guest A → SetUp A → Type 0
IsRefused guest set =
    (set.users ≡ None) ⊎ (set.groups ≡ None) ⊎ ((guest.options.xattrmap ≢ None) × (set.names ≡ None))
