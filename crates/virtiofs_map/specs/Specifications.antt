-- What a list of texts means, and what is wrong with a list of texts from which no map can be made.
use Rattle.std.specs.Prelude.{ℕ, ◌<◌, List, length, map, take, slice_get, Option, IsSomeAnd, ⊤}
use Rattle.std.specs.Borrow.{Bor}
use Rattle.std.specs.List.{AllZip}
use Rattle.std.specs.Option.{option_map}
use Rattle.std.specs.Str.{chars}
use Rattle.virtiofs_map.specs.SpecificationText.{Says, SpecificationFault, HasSpecificationFault}
use Rattle.virtiofs_map.specs.SpecificationText.{specification_fault_of}
use Rattle.virtiofs_map.specs.Build.{BuildFault, HasFirstFault, build_fault_of}
use Rattle.virtiofs_map.specs.declared.cmdline.IdMap.{IdMap}
use Rattle.virtiofs_map.specs.declared.soft_idmap.errors.SpecsError.{SpecsError}
use Rattle.virtiofs_map.specs.declared.soft_idmap.errors.SpecsError.TheVariants.{Spec, Build}

-- the texts as characters
abbrev pub texts_of : List (Bor (List ℕ)) → List (List ℕ)
texts_of texts = map (λ text. chars text.now) texts

-- each text says the specification at its place
abbrev pub AllSay : List (List ℕ) → List IdMap → Type 0
AllSay texts specs = AllZip Says texts specs

-- the text at that index has that fault, and each text before it says a specification
pub record HasFirstUnread (texts : List (List ℕ)) (index : ℕ) (fault : SpecificationFault) : Type 0 where
  pub before : List IdMap
  pub say : AllSay (take index texts) before
  pub here : IsSomeAnd (slice_get texts index) (λ text. HasSpecificationFault text fault)

-- each text says a specification, and the list of these has that first fault
pub record HasUnbuilt (texts : List (List ℕ)) (fault : BuildFault) : Type 0 where
  pub specs : List IdMap
  pub say : AllSay texts specs
  pub first : HasFirstFault specs fault

-- what is wrong with a list of texts from which no map can be made
pub data SpecsFault : Type 0 where
  Unread : ℕ → SpecificationFault → SpecsFault
  Unbuilt : BuildFault → SpecsFault

-- the list of texts has that fault
abbrev pub HasSpecsFault : List (List ℕ) → SpecsFault → Type 0
HasSpecsFault texts (Unread index fault) = HasFirstUnread texts index fault
HasSpecsFault texts (Unbuilt fault) = HasUnbuilt texts fault

-- the fault that an error reports; none if the error is out of memory
abbrev pub specs_fault_of : {A : Type 0} → SpecsError A → Option SpecsFault
specs_fault_of (Spec index cause) = option_map (Unread index) (specification_fault_of cause)
specs_fault_of (Build error) = option_map Unbuilt (build_fault_of error)

-- there is a text at that index, and each text before it says a specification
pub record IsReadUpTo (texts : List (List ℕ)) (index : ℕ) : Type 0 where
  pub within : index < length texts
  pub specs : List IdMap
  pub say : AllSay (take index texts) specs

-- where the error names a text, whatever its cause, each text before that one says a specification
abbrev pub NamesReached : {A : Type 0} → List (List ℕ) → SpecsError A → Type 0
NamesReached texts (Spec index cause) = IsReadUpTo texts index
NamesReached texts (Build error) = ⊤
