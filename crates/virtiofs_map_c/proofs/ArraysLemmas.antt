-- An array of specifications says one list at most, and has one fault at most.
use Rattle.std.proofs.Common.{◌≡◌, ◌⊎◌, inl, inr, ℕ, ◌<◌, List, length, take, get_or, Option, Some, None, refl, rules}
use Rattle.std.proofs.lemmas.Option.{slice_get-get_or}
use Rattle.std.proofs.lemmas.Slice.Zip.{AllZip-long}
use Rattle.std.specs.Option.{option_map_or}
use Rattle.virtiofs_map.specs.Build.{Accepted, BuildFault, HasFirstFault}
use Rattle.virtiofs_map.specs.Refusal.{OutOfMemoryOr}
use Rattle.virtiofs_map.specs.declared.cmdline.IdMap.{IdMap as Specification}
use Rattle.virtiofs_map.proofs.ForCallers.{AllZip-one}
use Rattle.virtiofs_map_c.specs.Arrays.{said, IsSaid, AreSaid, IsUnknown, ArrayFault, HasArrayFault, Unbuilt, HasUnread}
use Rattle.virtiofs_map_c.specs.Arrays.{IsAccepted}
use Rattle.virtiofs_map_c.specs.Faults.{TellsFault, MakesOrTells, TellsThis, IsArrayTold, IsAnswered}
use Rattle.virtiofs_map_c.specs.Faults.{build_told, memory_fault, code_of}
use Rattle.virtiofs_map_c.specs.declared.arrays.Spec.{Spec}
use Rattle.virtiofs_map_c.specs.declared.fault.Fault.{Fault}
use Rattle.virtiofs_map_c.proofs.ListsLemmas.{accepted_no_fault, one_fault}
use Rattle.virtiofs_map_c.proofs.MakesLemmas.{refused_complete, refused_faulty}

-- the list is as long as the array
pub AreSaid-long : (specs : List Spec) (list : List Specification) → AreSaid specs list → length list ≡ length specs
AreSaid-long specs list are = AllZip-long IsSaid specs list are

-- one of no kind, after those that are read
pub unknown_here : (specs : List Spec) (list : List Specification) (i : ℕ) (d : Spec) (fault : Unit {0})
    → i < length specs → AreSaid (take i specs) list → None ≡ said (get_or specs i d)
    → HasUnread IsSaid IsUnknown specs i fault
unknown_here specs list i d fault below are here = search (rules, slice_get-get_or)

-- an array whose list is not accepted
pub refused_build : (specs : List Spec) (list : List Specification) (fault : Option BuildFault) (told : Fault)
    → AreSaid specs list → OutOfMemoryOr fault (HasFirstFault list) → told ≡ option_map_or build_told fault memory_fault
    → TellsFault (HasArrayFault specs) (IsArrayTold (code_of told) told)
refused_build specs list None told are refused is = (None, tt, record { code_told = refl; numbers = is })
refused_build specs list (Some fault) told are refused is =
    (Some (Unbuilt fault), record { list = list; are = are; first = refused }, record { code_told = refl; numbers = is })

never : (spec : Spec) (one : Specification) (fault : Unit {0}) → IsSaid spec one → ¬ IsUnknown spec fault
never spec one fault is none = cc

same_said : (spec : Spec) (one other : Specification) → IsSaid spec one → IsSaid spec other → one ≡ other
same_said spec one other first second = cc

same_cause : (spec : Spec) (fault other : Unit {0}) → IsUnknown spec fault → IsUnknown spec other → fault ≡ other
same_cause spec fault other first second = refl

pub AreSaid-one : (specs : List Spec) (list others : List Specification) → AreSaid specs list → AreSaid specs others
    → list ≡ others
AreSaid-one = AllZip-one IsSaid same_said

pub array_no_fault : (specs : List Spec) → IsAccepted specs → (fault : ArrayFault) → ¬ HasArrayFault specs fault
array_no_fault = accepted_no_fault IsSaid IsUnknown never same_said same_cause

pub HasArrayFault-one : (specs : List Spec) (fault other : ArrayFault) → HasArrayFault specs fault
    → HasArrayFault specs other → fault ≡ other
HasArrayFault-one = one_fault IsSaid IsUnknown never same_said same_cause

-- ---- what a call tells of an array

module _ (specs : List Spec) (code : ℕ) (told : Fault) where
  pub array_complete : (made : Type 0) → TellsFault (HasArrayFault specs) (IsArrayTold code told) → IsAccepted specs
      → MakesOrTells made (IsArrayTold code told)
  array_complete made tells is = search (rules, refused_complete, array_no_fault)

  pub array_faulty : TellsFault (HasArrayFault specs) (IsArrayTold code told) → (wrong : ArrayFault)
      → HasArrayFault specs wrong → TellsThis (IsArrayTold code told) wrong
  array_faulty tells wrong has = search (rules, refused_faulty, HasArrayFault-one)

  -- what a make tells of the list that the array says
  pub array_made : (list : List Specification) → AreSaid specs list → (IsAnswered code → Accepted list)
      → IsAnswered code ⊎ ((code ≡ code_of told) × TellsFault (HasFirstFault list) (λ (fault : Option BuildFault).
      told ≡ option_map_or build_told fault memory_fault))
      → (IsAccepted specs × IsAnswered code) ⊎ TellsFault (HasArrayFault specs) (IsArrayTold code told)
  array_made list are made (inl answered) =
      inl (record { list = list; are = are; accepted = made answered }, answered)
  array_made list are made (inr (is, (fault, wrong, numbers))) =
      inr (rw is (refused_build specs list fault told are wrong numbers))
