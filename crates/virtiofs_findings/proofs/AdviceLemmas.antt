-- Options that are tried.
use Rattle.std.proofs.Common.{◌≡◌, List, [], ◌∷◌, arith}
use Rattle.std.specs.List.{AllZip}
use Rattle.virtiofs_findings.specs.Advice.{IsAudited}
use Rattle.virtiofs_findings.specs.Report.{Finds}
use Rattle.virtiofs_findings.specs.declared.finding.Finding.{Finding}
use Rattle.virtiofs_findings.specs.Guests.{SetsUp}
use Rattle.virtiofs_findings.specs.Lists.{Adds}
use Rattle.virtiofs_findings.specs.Narrower.{SameRest}
use Rattle.virtiofs_findings.specs.Refusals.{TellsGuests}
use Rattle.virtiofs_findings.specs.Tries.{AreWith}
use Rattle.virtiofs_findings.specs.declared.advice.options.Options.{Options}
use Rattle.virtiofs_findings.specs.declared.refusal.Refusal.{Refusal}
use Rattle.virtiofs_findings.specs.declared.setup.SetUp.{SetUp}
use Rattle.virtiofs_findings.specs.declared.guest.Guest.{Guest}

-- what was told where nothing had been is what is refused
pub all_refused : {A : Type 0} (guests : List (Guest A)) (old new : List (Refusal A))
    → Adds (TellsGuests 1 guests) old new → old ≡ [] → TellsGuests 1 guests new
all_refused guests old new says none = grind arith

pub is_audited : {A : Type 0} (guests : List (Guest A)) (sets : List (SetUp A))
    (old new : List (Refusal A)) (found : List (Finding A)) → AllZip SetsUp guests sets
    → Adds (TellsGuests 1 guests) old new → old ≡ [] → new ≡ [] → Finds sets found
    → IsAudited guests [] found
is_audited guests sets old new found sets_up says none empty finds = grind (arith, all_refused)

-- ---- guests with other options

-- what is not about ids or names is as it was
pub rests_of : {A : Type 0} (given : List (Guest A)) (all : List (Options A)) (others : List (Guest A))
    → AreWith given all others → AllZip SameRest given others
rests_of [] [] other are = grind arith
rests_of [] (o ∷ all) others are = absurd are
rests_of (g ∷ given) [] others are = absurd are
rests_of (g ∷ given) (o ∷ all) [] are = absurd are
rests_of (g ∷ given) (o ∷ all) (x ∷ others) are = (are.0.rest, rests_of given all others are.1)
