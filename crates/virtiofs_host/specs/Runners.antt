-- Who runs a daemon, as the files of a host say, and the texts of the user who starts one.
use Rattle.std.specs.Prelude.{◌≡◌, ◌==◌, ◌<◌, ◌⊎◌, ⊤, ◌&&◌, ℕ, List, [], ◌∷◌, Bool, true, false, not, nat_lt, Option, Some, None, option_map, codes}
use Rattle.std.specs.Option.{option_or}
use Rattle.std.specs.declared.vec.Vec.{Vec}
use Rattle.virtiofs_map.specs.declared.idmap.UidMap.{UidMap}
use Rattle.virtiofs_host.specs.Decimal.{IsDecimal}
use Rattle.virtiofs_host.specs.IdMapText.{SaysRanges}
use Rattle.virtiofs_host.specs.Lines.{colon_fields, lines, AllSaid, FirstSaid}
use Rattle.virtiofs_host.specs.Status.{SaysEffective, MaySet, sets_uids, sets_gids}
use Rattle.virtiofs_host.specs.SubordinateIds.{GivesIds}
use Rattle.virtiofs_host.specs.declared.runner.Bounds.{Bounds}
use Rattle.virtiofs_host.specs.declared.runner.NotShown.{NotShown}
use Rattle.virtiofs_host.specs.declared.runner.NotShown.TheVariants.{Status, UidMap as WrongUidMap, GidMap, OutOfMemory}
use Rattle.virtiofs_host.specs.declared.runner.RunAs.{RunAs}
use Rattle.virtiofs_host.specs.declared.runner.Runner.{Runner}
use Rattle.virtiofs_host.specs.declared.runner.Shown.{Shown}
use Rattle.virtiofs_host.specs.declared.subordinate.SubIds.{SubIds}
use Rattle.virtiofs_host.specs.declared.users.User.{User}

-- the text is an id in decimal: 4294967295 is none
abbrev pub IsId : List ℕ → ℕ → Type 0
IsId text id = IsDecimal text id × (id < 4294967295)

-- the fields are the user's number, and then the group's, if one is said
abbrev pub SayBoth : List (List ℕ) → ℕ → Option ℕ → Type 0
SayBoth fields uid None = (user : List ℕ) × (fields ≡ user ∷ []) × IsId user uid
SayBoth fields uid (Some gid) =
    (user group : List ℕ) × (fields ≡ user ∷ group ∷ []) × IsId user uid × IsId group gid

-- the text is `UID` or `UID:GID`
abbrev pub SaysUser : List ℕ → RunAs → Type 0
SaysUser text user = SayBoth (colon_fields text) user.uid user.gid

-- the name of a user in the files of subordinate ids; of one that the host does not know, a name that no line has
abbrev pub name_of : Option User → List ℕ
name_of None = codes ":"
name_of (Some user) = user.name.now

-- the group that is said, or that of the user
abbrev pub group_of : RunAs → Option User → Option ℕ
group_of run_as user = option_or run_as.gid (option_map (λ user. user.gid) user)

-- the group is that of the user; one whom `/etc/passwd` does not have is in that group
abbrev pub is_own_group : ℕ → Option User → Bool
is_own_group gid None = true
is_own_group gid (Some user) = gid == user.gid

-- the other ids of the user's namespace: those that the lines of a file give, also to root; none where the user is in
-- another group, since `newuidmap` and `newgidmap` refuse that user
abbrev pub GivesTo : Bool → List ℕ → ℕ → List ℕ → List SubIds → Type 0
GivesTo true name uid text given = AllSaid (GivesIds name uid) (lines text) given
GivesTo false name uid text given = given ≡ []

-- the runner of a daemon that a user starts
pub record Starts {A : Type 0} (uid gid : ℕ) (user : Option User) (subuid subgid : List ℕ) (place : ℕ) (runner : Runner A)
    : Type 0 where
  pub runs_as : runner.users.own ≡ uid
  pub in_group : runner.groups.own ≡ gid
  pub as_one : runner.users.is_alone ≡ nat_lt 0 uid
  pub in_one : runner.groups.is_alone ≡ nat_lt 0 gid
  pub given_users : Vec SubIds A
  pub given_groups : Vec SubIds A
  pub users_given : runner.users.given ≡ Some given_users
  pub groups_given : runner.groups.given ≡ Some given_groups
  pub users : GivesTo (is_own_group gid user) (name_of user) uid subuid given_users.items
  pub groups : GivesTo (is_own_group gid user) (name_of user) uid subgid given_groups.items
  pub no_users : runner.users.shown ≡ None
  pub no_groups : runner.groups.shown ≡ None
  pub starts : runner.process ≡ None
  pub at : runner.place ≡ place

-- a process that runs as that id can act as that one alone: it is not root's, and may not change such ids
abbrev pub is_alone : ℕ → Bool → Bool
is_alone own may_change = nat_lt 0 own && not may_change

-- the bounds of a process that runs as that id, alone or not, whose ranges the text says
pub record BoundsShown {A : Type 0} (own : ℕ) (alone : Bool) (text : List ℕ) (bounds : Bounds A) : Type 0 where
  pub runs_as : bounds.own ≡ own
  pub as_one : bounds.is_alone ≡ alone
  pub given : bounds.given ≡ None
  pub ranges : Vec UidMap A
  pub says : SaysRanges text ranges.items
  pub shown : bounds.shown ≡ Some ranges

-- the text says no ranges
abbrev pub SaysNoRanges : List ℕ → Type 0
SaysNoRanges text = (ranges : List UidMap) → ¬ SaysRanges text ranges

-- the ids that the content of `status` says
abbrev pub IsUser : List ℕ → Option ℕ → Type 0
IsUser status = FirstSaid (SaysEffective (codes "Uid:")) (lines status)

abbrev pub IsGroup : List ℕ → Option ℕ → Type 0
IsGroup status = FirstSaid (SaysEffective (codes "Gid:")) (lines status)

-- the runner of a process
pub record IsShown {A : Type 0} (process : ℕ) (shown : Shown) (place : ℕ) (runner : Runner A) : Type 0 where
  pub uid : ℕ
  pub gid : ℕ
  pub user : IsUser shown.status.now (Some uid)
  pub group : IsGroup shown.status.now (Some gid)
  pub sets_users : Bool
  pub sets_groups : Bool
  pub may_users : MaySet sets_uids shown.status.now sets_users
  pub may_groups : MaySet sets_gids shown.status.now sets_groups
  pub users : BoundsShown uid (is_alone uid sets_users) shown.uid_map.now runner.users
  pub groups : BoundsShown gid (is_alone gid sets_groups) shown.gid_map.now runner.groups
  pub runs : runner.process ≡ Some process
  pub at : runner.place ≡ place

-- why it is not said who runs a process
abbrev pub IsNotShown : Shown → NotShown → Type 0
IsNotShown shown Status = IsUser shown.status.now None ⊎ IsGroup shown.status.now None
IsNotShown shown WrongUidMap = SaysNoRanges shown.uid_map.now
IsNotShown shown GidMap = SaysNoRanges shown.gid_map.now
IsNotShown shown OutOfMemory = ⊤
