-- The explanations of --explain.
use Rattle.std.specs.Prelude.{◌≡◌, ◌≢◌, ◌↔◌, ℕ, List, [], Option, Some, None}
use Rattle.std.specs.Borrow.{Bor}
use Rattle.std.specs.Global.{Global}
use Rattle.std.specs.List.{AllZip}
use Rattle.std.specs.declared.vec.Vec.{Vec}
use Rattle.virtiofs_map.specs.declared.soft_idmap.entry.Direction.{Direction}
use Rattle.virtiofs_map.specs.declared.soft_idmap.entry.Direction.TheVariants.{GuestToHost, HostToGuest}
use Rattle.virtiofs_findings.specs.Guests.{SetsUp}
use Rattle.virtiofs_findings.specs.Lists.{AllZip3}
use Rattle.virtiofs_findings.specs.Refusals.{IsSomeRefused, TellsGuests}
use Rattle.virtiofs_findings.specs.declared.guest.Guest.{Guest}
use Rattle.virtiofs_findings.specs.declared.ids.kind.IdKind.TheVariants.{Users, Groups}
use Rattle.virtiofs_findings.specs.declared.setup.IdSetUp.{IdSetUp}
use Rattle.virtiofs_findings.specs.declared.setup.NamesSetUp.{NamesSetUp}
use Rattle.virtiofs_findings.specs.declared.setup.SetUp.{SetUp}
use Rattle.virtiofs_findings.specs.ExplainIds.{ExplainsId}
use Rattle.virtiofs_findings.specs.ExplainNames.{ExplainsGuestName, ExplainsHostName}
use Rattle.virtiofs_findings.specs.declared.explain.Explained.{Explained}
use Rattle.virtiofs_findings.specs.declared.explain.Explanation.{Explanation}
use Rattle.virtiofs_findings.specs.declared.explain.Explanation.TheVariants.{Refused, NoRules, Id, GuestName, HostName}
use Rattle.virtiofs_findings.specs.declared.explain.asking.Question.{Question}
use Rattle.virtiofs_findings.specs.declared.explain.asking.Question.TheVariants.{Id as IdAsked, Name as NameAsked}

-- the explanation of an id on its way in that direction, by what is set up for ids of its kind
abbrev pub ExplainsIds : Option (IdSetUp Global) → Direction → ℕ → Explanation → Type 0
ExplainsIds (Some set) direction id (Id ways) = ExplainsId set.map set.ranges.items direction id ways
ExplainsIds set direction id it = (set ≡ None) × (it ≡ Refused)

-- the explanation of a name on its way in that direction, by the rules if there are any
abbrev pub ExplainsNames : Option (Bor (List ℕ)) → Option (NamesSetUp Global) → Direction → List ℕ → Explanation → Type 0
ExplainsNames None names direction name it = it ≡ NoRules
ExplainsNames (Some rules) (Some names) GuestToHost name (GuestName it) =
    ExplainsGuestName names.map names.written name it
ExplainsNames (Some rules) (Some names) HostToGuest name (HostName it) =
    ExplainsHostName names.map names.written name it
ExplainsNames (Some rules) names direction name it = (names ≡ None) × (it ≡ Refused)

-- the explanation for that question
abbrev pub Explains : Guest Global → SetUp Global → Question → Explanation → Type 0
Explains guest set (IdAsked Users direction id) it = ExplainsIds set.users direction id it
Explains guest set (IdAsked Groups direction id) it = ExplainsIds set.groups direction id it
Explains guest set (NameAsked direction name) it =
    ExplainsNames guest.options.xattrmap set.names direction name.bytes.now it

-- for each guest, with what it sets up, the explanation for each question, in order
abbrev pub ExplainsGuests : List Question → List (Guest Global) → List (SetUp Global) → List (Vec Explanation Global) → Type 0
ExplainsGuests questions = AllZip3 (λ guest set here. AllZip (Explains guest set) questions here.items)

-- what is set up, explained and refused of the guests
pub record ExplainsAll (questions : List Question) (guests : List (Guest Global)) (all : Explained) : Type 0 where
  pub sets_up : AllZip SetsUp guests all.sets.items
  pub explains : ExplainsGuests questions guests all.sets.items all.guests.items
  pub refused : (all.refusals.items ≢ []) ↔ IsSomeRefused guests all.sets.items
  pub refusals : TellsGuests 1 guests all.refusals.items
