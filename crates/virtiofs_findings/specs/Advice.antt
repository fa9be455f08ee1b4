-- Options that are advised in place of those of guests: the guests can do no more with them, and less is found.
use Rattle.std.specs.Prelude.{◌≡◌, ◌≢◌, ◌⊎◌, Bool, ◌&&◌, nat_le, IsTrue, List, [], length, Contains, Option, Some, None}
use Rattle.std.specs.List.{AllZip, Any, list_all, list_any}
use Rattle.std.specs.declared.vec.Vec.{Vec}
use Rattle.virtiofs_id_audit.specs.declared.spans.Span.{Span}
use Rattle.virtiofs_findings.specs.Guests.{SetsUp}
use Rattle.virtiofs_findings.specs.Narrower.{AreNarrower, SameSet}
use Rattle.virtiofs_findings.specs.Refusals.{TellsGuests}
use Rattle.virtiofs_findings.specs.Report.{Finds}
use Rattle.virtiofs_findings.specs.Tries.{AreWith}
use Rattle.virtiofs_findings.specs.declared.advice.Advised.{Advised}
use Rattle.virtiofs_findings.specs.declared.advice.Trial.{Trial}
use Rattle.virtiofs_findings.specs.declared.advice.options.Options.{Options}
use Rattle.virtiofs_findings.specs.declared.advice.Trial.TheVariants.{Better, Refused, NoLess, NotNarrower}
use Rattle.virtiofs_findings.specs.declared.finding.Evidence.{Evidence}
use Rattle.virtiofs_findings.specs.declared.finding.Evidence.TheVariants as evidence
use Rattle.virtiofs_findings.specs.declared.finding.Finding.{Finding}
use Rattle.virtiofs_findings.specs.declared.finding.Kind.{Kind}
use Rattle.virtiofs_findings.specs.declared.guest.Guest.{Guest}
use Rattle.virtiofs_findings.specs.declared.ids.found.IdsFound.{IdsFound}
use Rattle.virtiofs_findings.specs.declared.ids.kind.IdKind.{IdKind}
use Rattle.virtiofs_findings.specs.declared.refusal.Refusal.{Refusal}
use Rattle.virtiofs_findings.specs.declared.setup.SetUp.{SetUp}

-- ---- findings of the same kind

-- whose ids it is about, if it is about those of users or those of groups alone
abbrev pub ids_of : {A : Type 0} → Evidence A → Option IdKind
ids_of (evidence.OfIds kind) = Some kind
ids_of (evidence.Range kind range) = Some kind
ids_of (evidence.Ids kind in_namespace found) = Some kind
ids_of other = None

-- the ids that are found; of users or of groups, where it is about both
abbrev pub ids_found : {A : Type 0} → Option (IdsFound A) → List Span
ids_found None = []
ids_found (Some found) = found.ids.items

abbrev pub first_ids : {A : Type 0} → Evidence A → List Span
first_ids (evidence.Ids kind in_namespace found) = found.ids.items
first_ids (evidence.BothIds users groups) = ids_found users
first_ids other = []

abbrev pub second_ids : {A : Type 0} → Evidence A → List Span
second_ids (evidence.BothIds users groups) = ids_found groups
second_ids other = []

-- the span lies in the other one, or in one of these; each of the spans does
abbrev pub lies_in : Span → Span → Bool
lies_in span other = nat_le other.first span.first && nat_le span.last other.last

abbrev pub lies_in_any : Span → List Span → Bool
lies_in_any span others = list_any (λ other. lies_in span other) others

abbrev pub all_lie_in : List Span → List Span → Bool
all_lie_in others spans = list_all (λ span. lies_in_any span others) spans

-- it says what the other says, of the same guests, and of ids of the same kind; and its ids are among those of the other
pub record IsAlike {A : Type 0} (finding other : Finding A) : Type 0 where
  pub about : finding.about ≡ other.about
  pub kind : finding.kind ≡ other.kind
  pub ids : ids_of finding.evidence ≡ ids_of other.evidence

abbrev pub IsWithin : {A : Type 0} → Finding A → Finding A → Type 0
IsWithin finding other =
    IsAlike finding other
    × IsTrue (all_lie_in (first_ids other.evidence) (first_ids finding.evidence))
    × IsTrue (all_lie_in (second_ids other.evidence) (second_ids finding.evidence))

-- it is not accepted, and is within none of the others
abbrev pub IsNew : {A : Type 0} → List Kind → List (Finding A) → Finding A → Type 0
IsNew accepted others finding = (¬ Contains accepted finding.kind) × (¬ Any (IsWithin finding) others)

-- something new is found
abbrev pub HasNew : {A : Type 0} → List Kind → List (Finding A) → List (Finding A) → Type 0
HasNew accepted found others = Any (IsNew accepted others) found

-- less is found: nothing of any kind, accepted or not, that was not found; and something of a kind that is not accepted,
-- or some of its ids, no more
abbrev pub FindsLess : {A : Type 0} → List Kind → List (Finding A) → List (Finding A) → Type 0
FindsLess accepted left found = (¬ HasNew [] left found) × HasNew accepted found left

-- ---- advice

-- an audit of guests: which of their texts are refused, and what is found
pub record IsAudited {A : Type 0} (guests : List (Guest A)) (refusals : List (Refusal A))
    (found : List (Finding A)) : Type 0 where
  pub sets : List (SetUp A)
  pub sets_up : AllZip SetsUp guests sets
  pub refused : TellsGuests 1 guests refusals
  pub finds : Finds sets found

-- with these options the guests can do no more than with the given ones, no text is refused, and less is found than
-- before
pub record IsAdvice {A : Type 0} (accepted : List Kind) (given : List (Guest A))
    (before : List (Finding A)) (advised : Advised A) : Type 0 where
  pub narrower : AreNarrower given advised.guests.items
  pub sets_up : AllZip SetsUp advised.guests.items advised.sets.items
  pub audited : IsAudited advised.guests.items [] advised.findings.items
  pub less : FindsLess accepted advised.findings.items before

-- some text of these guests is refused
pub record AreRefused {A : Type 0} (guests : List (Guest A)) : Type 0 where
  pub refusals : List (Refusal A)
  pub refused : TellsGuests 1 guests refusals
  pub some : refusals ≢ []

-- no text of these guests is refused, and no less is found than before
pub record FindNoLess {A : Type 0} (accepted : List Kind) (before : List (Finding A))
    (guests : List (Guest A)) : Type 0 where
  pub after : List (Finding A)
  pub audited : IsAudited guests [] after
  pub no_less : ¬ FindsLess accepted after before

-- the specifications or the rules of some guest are not those of the given ones
pub record HaveOthers {A : Type 0} (given guests : List (Guest A)) : Type 0 where
  pub sets : List (SetUp A)
  pub other_sets : List (SetUp A)
  pub sets_up : AllZip SetsUp given sets
  pub other_sets_up : AllZip SetsUp guests other_sets
  pub other : ¬ AllZip SameSet sets other_sets

-- what came out where these guests were tried in place of the given ones
abbrev pub ComesOut : {A : Type 0} → List Kind → List (Guest A) → List (Finding A) → List (Guest A) → Trial A
    → Type 0
ComesOut accepted given before guests (Better advised) =
    IsAdvice accepted given before advised × (advised.guests.items ≡ guests)
ComesOut accepted given before guests Refused = AreRefused guests
ComesOut accepted given before guests NoLess = FindNoLess accepted before guests
ComesOut accepted given before guests NotNarrower = HaveOthers given guests

-- no advice comes of these options: there are not as many as guests; or of the guests with them some text is refused,
-- no less is found than before, or the specifications or the rules are others
pub record ComesToNothing {A : Type 0} (accepted : List Kind) (given : List (Guest A))
    (before : List (Finding A)) (options : List (Options A)) : Type 0 where
  pub guests : List (Guest A)
  pub is_with : AreWith given options guests
  pub why : AreRefused guests ⊎ FindNoLess accepted before guests ⊎ HaveOthers given guests

abbrev pub IsPassedOver : {A : Type 0} → List Kind → List (Guest A) → List (Finding A) → Vec (Options A) A → Type 0
IsPassedOver accepted given before options =
    (length options.items ≢ length given) ⊎ ComesToNothing accepted given before options.items
