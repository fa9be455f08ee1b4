-- What is decided of the ids of arrays is told of each list that the arrays say; and two arrays have one fault at most.
use Rattle.std.proofs.Common.{◌≡◌, ◌↔◌, IsTrue, false, ℕ, ◌+◌, ◌<◌, List, length, Option, Some, None, IsSomeAnd, inl}
use Rattle.std.proofs.Common.{inr, refl}
use Rattle.std.proofs.Common.{arith, rules}
use Rattle.std.proofs.lemmas.Option.{slice_get_within}
use Rattle.std.specs.List.{slice_get}
use Rattle.virtiofs_map.specs.Build.{BuildFault, HasFirstFault, RangeOverflow, Intersects}
use Rattle.virtiofs_id_audit.specs.IdAudit.{IsLeastId, GoesTo, GoesInto, Between}
use Rattle.virtiofs_id_audit.specs.declared.answer.IdAudit.{IdAudit}
use Rattle.virtiofs_id_audit.specs.declared.answer.IdAudit.TheVariants.{Yes, No}
use Rattle.virtiofs_map.specs.declared.cmdline.IdMap.{IdMap as Specification}
use Rattle.virtiofs_map_c.specs.Arrays.{ArrayFault, HasArrayFault, IsAccepted, Unread, Unbuilt, counted_on}
use Rattle.virtiofs_map_c.specs.Faults.{TellsFault, MakesOrTells, TellsThis, IsArrayTold, array_told, build_told}
use Rattle.virtiofs_map_c.specs.Faults.{code_of}
use Rattle.virtiofs_map_c.specs.declared.fault.Fault.{Fault}
use Rattle.virtiofs_map_c.specs.Ids.{HasFaultAfter, HasPairFault}
use Rattle.virtiofs_map_c.specs.declared.arrays.Spec.{Spec}
use Rattle.virtiofs_map_c.proofs.MakesLemmas.{refused_complete, refused_faulty}
use Rattle.virtiofs_map_c.proofs.ArraysLemmas.{AreSaid-long, array_no_fault, HasArrayFault-one}

-- ---- ids that become one id of the host

pub goes_to : (specs : List Specification) (host n : ℕ) → GoesInto specs (Between host host) n → GoesTo specs n host
goes_to specs host n into = grind arith

pub goes_into : (specs : List Specification) (host n : ℕ) → GoesTo specs n host → GoesInto specs (Between host host) n
goes_into specs host n goes = search (rules, arith)

pub least_to : (specs : List Specification) (host n : ℕ) → IsLeastId (GoesInto specs (Between host host)) n
    → IsLeastId (λ m. GoesTo specs m host) n
least_to specs host n least = record {
  is_bad = goes_to specs host n least.is_bad;
  none_before = λ m before goes. least.none_before m before (goes_into specs host m goes);
}

-- an audit that found an id
pub not_all : {T : Type 0} (Good : Type 0) (audit : IdAudit T) (it : T) → (audit ≡ Yes) ↔ Good → audit ≡ No it
    → IsTrue false ↔ Good
not_all Good audit it same is = grind arith

-- ---- an array behind another one

place_of_build : (list : List Specification) (fault : BuildFault) (told : Fault) → HasFirstFault list fault
    → told ≡ build_told fault → told.place < length list
place_of_build list fault told has is = grind (arith, slice_get_within)

get_within : (found : Option Spec) (specs : List Spec) (i : ℕ) (P : Spec → Type 0)
    → slice_get specs i ≡ found → IsSomeAnd found P → i < length specs
get_within found specs i P is some = grind (arith, slice_get_within)

-- a fault's place is one of the array
pub place_within : (specs : List Spec) (code : ℕ) (told : Fault)
    → TellsFault (HasArrayFault specs) (IsArrayTold code told) → ¬ told.part ≡ 0 → told.place < length specs
place_within specs code told (None, has, is) other = absurd (other (rw is.numbers refl))
place_within specs code told (Some (Unread index cause), has, is) other =
    rw is.numbers (get_within _ specs index _ refl has.here)
place_within specs code told (Some (Unbuilt fault), has, is) other =
    rw (← AreSaid-long specs has.list has.are) (place_of_build has.list fault told has.first is.numbers)

after : (count : ℕ) (fault : ArrayFault)
    → record (array_told (Some fault)) { place = count + (array_told (Some fault)).place }
    ≡ array_told (Some (counted_on count fault))
after count (Unread index cause) = refl
after count (Unbuilt (RangeOverflow spec index direction range_end)) = refl
after count (Unbuilt (Intersects spec index direction)) = refl

-- it is told behind those of the first
pub told_behind : (count : ℕ) (specs : List Spec) (code : ℕ) (told : Fault)
    → TellsFault (HasArrayFault specs) (IsArrayTold code told) → ¬ told.part ≡ 0
    → TellsFault (HasFaultAfter count specs)
    (IsArrayTold (code_of (record told { place = count + told.place })) (record told { place = count + told.place }))
told_behind count specs code told (None, has, is) other = absurd (other (rw is.numbers refl))
told_behind count specs code told (Some fault, has, is) other = (
  Some (counted_on count fault),
  record { wrong = fault; has = has; as_told = refl },
  record { code_told = refl; numbers = rw is.numbers (after count fault) },
)

pub pair_no_fault : (specs others : List Spec) → IsAccepted specs → IsAccepted others
    → (fault : ArrayFault) → ¬ HasPairFault specs others fault
pair_no_fault specs others first second fault e = grind (arith, array_no_fault)

-- two arrays have at most one fault
pub pair_one_fault : (specs others : List Spec) (fault other : ArrayFault)
    → HasPairFault specs others fault → HasPairFault specs others other → fault ≡ other
pair_one_fault specs others fault other e h = grind (arith, HasArrayFault-one, array_no_fault)

-- ---- what a call tells of two arrays

module _ (specs others : List Spec) (code : ℕ) (told : Fault) where
  pub pair_first : TellsFault (HasArrayFault specs) (IsArrayTold code told)
      → TellsFault (HasPairFault specs others) (IsArrayTold code told)
  pair_first (None, has, is) = (None, tt, is)
  pair_first (Some fault, has, is) = (Some fault, inl has, is)

  pub pair_second : IsAccepted specs → TellsFault (HasFaultAfter (length specs) others) (IsArrayTold code told)
      → TellsFault (HasPairFault specs others) (IsArrayTold code told)
  pair_second first (None, has, is) = (None, tt, is)
  pair_second first (Some fault, has, is) = (Some fault, inr (first, has), is)

  pub pair_complete : (made : Type 0) → TellsFault (HasPairFault specs others) (IsArrayTold code told)
      → IsAccepted specs → IsAccepted others → MakesOrTells made (IsArrayTold code told)
  pair_complete made tells first second =
      refused_complete made (HasPairFault specs others) (IsArrayTold code told) tells
      (pair_no_fault specs others first second)

  pub pair_faulty : TellsFault (HasPairFault specs others) (IsArrayTold code told) → (wrong : ArrayFault)
      → HasPairFault specs others wrong → TellsThis (IsArrayTold code told) wrong
  pair_faulty tells wrong has =
      refused_faulty (HasPairFault specs others) (IsArrayTold code told) tells wrong
      (λ other it. pair_one_fault specs others other wrong it has)
