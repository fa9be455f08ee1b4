-- What is set up, found and refused of all guests.
use Rattle.std.specs.Prelude.{◌≢◌, ◌↔◌, List, []}
use Rattle.std.specs.List.{AllZip}
use Rattle.virtiofs_findings.specs.Guests.{SetsUp}
use Rattle.virtiofs_findings.specs.Refusals.{IsSomeRefused, TellsGuests}
use Rattle.virtiofs_findings.specs.Report.{Finds}
use Rattle.virtiofs_findings.specs.declared.audit.Audited.{Audited}
use Rattle.virtiofs_findings.specs.declared.guest.Guest.{Guest}

-- what is set up, found and refused of the guests
pub record Audits {A : Type 0} (guests : List (Guest A)) (all : Audited A) : Type 0 where
  pub sets_up : AllZip SetsUp guests all.sets.items
  pub finds : Finds all.sets.items all.findings.items
  pub refused : (all.refusals.items ≢ []) ↔ IsSomeRefused guests all.sets.items
  pub refusals : TellsGuests 1 guests all.refusals.items
