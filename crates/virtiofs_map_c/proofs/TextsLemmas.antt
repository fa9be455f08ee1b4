-- Texts say one list at most, and have one fault at most.
use Rattle.std.proofs.Common.{◌≡◌, ◌⊎◌, inl, inr, List, [], ℕ, ◌<◌, Bor, Option, Some, None, length}
use Rattle.std.proofs.Common.{take, get_or, subst, refl, sym, ◌∙◌, arith}
use Rattle.std.specs.Option.{option_map_or}
use Rattle.std.specs.Str.{chars, IsUtf8}
use Rattle.virtiofs_map.proofs.ForCallers.{namespace_no_fault, namespace_one_fault, specification_one_value}
use Rattle.virtiofs_map.proofs.ForCallers.{specification_no_fault, specification_one_fault}
use Rattle.virtiofs_map.specs.Build.{Accepted, BuildFault, HasFirstFault}
use Rattle.virtiofs_map.specs.Refusal.{OutOfMemoryOr}
use Rattle.virtiofs_map.specs.SpecificationText.{SpecificationFault, HasSpecificationFault}
use Rattle.virtiofs_map.specs.declared.cmdline.IdMap.{IdMap as Specification}
use Rattle.virtiofs_map_c.specs.Faults.{refused, specification, no_part, TellsFault, MakesOrTells, TellsThis}
use Rattle.virtiofs_map_c.specs.Faults.{IsAnswered, build_told, memory_fault, code_of}
use Rattle.virtiofs_map_c.specs.Texts.{SaysSpec, TextFault, NotUtf8, OfText, HasTextFault, LentSays, LentHas}
use Rattle.virtiofs_map_c.specs.Texts.{AreAccepted}
use Rattle.virtiofs_map_c.specs.Arrays.{Unread, Unbuilt}
use Rattle.virtiofs_map_c.specs.Texts.{TextsFault, HasTextsFault, AllSaySpecs, AreTextsTold, IsNumberError, IsTextAt}
use Rattle.virtiofs_map_c.specs.Texts.{IsTextTold}
use Rattle.virtiofs_map_c.specs.Texts.{fault_told, fault_quoted, SaysRange, RangeFault, HasRangeFault, range_told}
use Rattle.virtiofs_map_c.specs.Texts.{IsRangeTold}
use Rattle.virtiofs_map.specs.NamespaceText.{NamespaceFault, SaysNamespace, HasNamespaceFault}
use Rattle.virtiofs_map_c.specs.Replies.{IsQuoted}
use Rattle.core.specs.declared.str.parse.IntErrorKind.{IntErrorKind}
use Rattle.virtiofs_map_c.specs.declared.fault.Fault.{Fault}
use Rattle.virtiofs_map_c.proofs.MakesLemmas.{refused_complete, refused_faulty}
use Rattle.virtiofs_map_c.proofs.ListsLemmas.{accepted_no_fault, one_fault, unread_here}

-- ---- one text

pub SaysSpec-one : (bytes : List ℕ) (spec other : Specification) → SaysSpec bytes spec → SaysSpec bytes other
    → spec ≡ other
SaysSpec-one bytes spec other first second = specification_one_value (chars bytes) spec other first.1 second.1

pub SaysSpec-no_fault : (bytes : List ℕ) (spec : Specification) (fault : TextFault) → SaysSpec bytes spec
    → ¬ HasTextFault bytes fault
SaysSpec-no_fault bytes spec NotUtf8 says wrong = wrong says.0
SaysSpec-no_fault bytes spec (OfText fault) says wrong = specification_no_fault (chars bytes) spec fault says.1 wrong.1

pub HasTextFault-one : (bytes : List ℕ) (fault other : TextFault) → HasTextFault bytes fault → HasTextFault bytes other
    → fault ≡ other
HasTextFault-one bytes fault other first second = grind (arith, specification_one_fault)

-- what is told of a text that is refused
pub text_refused : (part place : ℕ) (told : Fault) (bytes text old new : List ℕ) (read : Option SpecificationFault)
    (fault : SpecificationFault) (kind : IntErrorKind) → (text ≡ bytes) × IsUtf8 bytes
    → OutOfMemoryOr read (HasSpecificationFault (chars text)) → read ≡ Some fault → IsNumberError (OfText fault) kind
    → told ≡ fault_told kind part place (length old) (OfText fault) → IsQuoted (fault_quoted (OfText fault)) old new
    → TellsFault (HasTextFault bytes) (IsTextAt part place told old new)
text_refused part place told bytes text old new read fault kind is refused same explained numbers quoted =
    let has : HasSpecificationFault (chars text) fault = rw same at refused in (
      Some (OfText fault),
      (is.1, subst (λ (it : List ℕ). HasSpecificationFault (chars it) fault) is.0 has),
      record { kind = kind; explained = explained; numbers = numbers; bytes = quoted },
    )

-- and with its code
pub text_told : (bytes : List ℕ) (code : ℕ) (it told : Fault) (old new : List ℕ) → code ≡ code_of it → told ≡ it
    → TellsFault (HasTextFault bytes) (IsTextAt no_part 0 it old new)
    → TellsFault (HasTextFault bytes) (IsTextTold code told old new)
text_told bytes code it told old new is same (fault, has, at) =
    rw (is, same) (fault, has, record { code_told = refl; is_told = at })

pub unquoted : (old : List ℕ) → IsQuoted [] old old
unquoted old = record { fits = λ _. refl; does_not_fit = λ _. refl }

-- ---- an array of texts

-- what is told of a text after those that are read
pub texts_unread : (texts : List (Bor (List ℕ))) (list : List Specification) (i : ℕ) (d : Bor (List ℕ)) (told : Fault)
    (first old new : List ℕ) → i < length texts → AllSaySpecs (take i texts) list → old ≡ first
    → TellsFault (LentHas (get_or texts i d)) (IsTextAt specification i told old new)
    → TellsFault (HasTextsFault texts) (AreTextsTold (code_of told) told first new)
texts_unread texts list i d told first old new below are same (None, has, is) = (None, tt, (refl, is.0, is.1 ∙ same))
texts_unread texts list i d told first old new below are same (Some fault, has, is) = (
  Some (Unread i fault),
  unread_here LentSays LentHas texts list i d fault below are has,
  (refl, rw (sym same) is),
)

pub AreAccepted-no_fault : (texts : List (Bor (List ℕ))) → AreAccepted texts → (fault : TextsFault)
    → ¬ HasTextsFault texts fault
AreAccepted-no_fault =
    accepted_no_fault LentSays LentHas (λ text. SaysSpec-no_fault text.now) (λ text. SaysSpec-one text.now)
    (λ text. HasTextFault-one text.now)

pub HasTextsFault-one : (texts : List (Bor (List ℕ))) (fault other : TextsFault) → HasTextsFault texts fault
    → HasTextsFault texts other → fault ≡ other
HasTextsFault-one =
    one_fault LentSays LentHas (λ text. SaysSpec-no_fault text.now) (λ text. SaysSpec-one text.now)
    (λ text. HasTextFault-one text.now)

module _ (texts : List (Bor (List ℕ))) (code : ℕ) (told : Fault) (old new : List ℕ) where
  pub texts_tell : (it : Fault) → code ≡ code_of it → told ≡ it
      → TellsFault (HasTextsFault texts) (AreTextsTold (code_of it) it old new)
      → TellsFault (HasTextsFault texts) (AreTextsTold code told old new)
  texts_tell it is same tells = rw (is, same) tells

  pub texts_complete : (made : Type 0) → TellsFault (HasTextsFault texts) (AreTextsTold code told old new)
      → AreAccepted texts → MakesOrTells made (AreTextsTold code told old new)
  texts_complete made tells is =
      refused_complete made (HasTextsFault texts) (AreTextsTold code told old new) tells (AreAccepted-no_fault texts is)

  pub texts_faulty : TellsFault (HasTextsFault texts) (AreTextsTold code told old new) → (wrong : TextsFault)
      → HasTextsFault texts wrong → TellsThis (AreTextsTold code told old new) wrong
  texts_faulty tells wrong has =
      refused_faulty (HasTextsFault texts) (AreTextsTold code told old new) tells wrong
      (λ other it. HasTextsFault-one texts other wrong it has)

  -- what a make tells of the list that the texts say
  pub texts_made : (list : List Specification) → new ≡ old → AllSaySpecs texts list → (IsAnswered code → Accepted list)
      → IsAnswered code ⊎ ((code ≡ code_of told) × TellsFault (HasFirstFault list) (λ (fault : Option BuildFault).
      told ≡ option_map_or build_told fault memory_fault))
      → (AreAccepted texts × IsAnswered code) ⊎ TellsFault (HasTextsFault texts) (AreTextsTold code told old new)
  texts_made list same are made (inl answered) =
      inl (record { list = list; are = are; accepted = made answered }, answered)
  texts_made list same are made (inr (is, (None, wrong, numbers))) = inr (None, tt, (is, numbers, same))
  texts_made list same are made (inr (is, (Some fault, wrong, numbers))) =
      inr (Some (Unbuilt fault), record { list = list; are = are; first = wrong }, (is, numbers, same))

-- ---- a range of a namespace

module _ (bytes text : List ℕ) (fault : NamespaceFault) (is : (text ≡ bytes) × IsUtf8 bytes)
    (has : HasNamespaceFault (chars text) fault) where
  of_bytes : HasNamespaceFault (chars bytes) fault
  of_bytes = subst (λ (it : List ℕ). HasNamespaceFault (chars it) fault) is.0 has

  -- it says no range
  pub range_none : (inside outside count : ℕ) → ¬ SaysRange bytes inside outside count
  range_none inside outside count says = namespace_no_fault (chars bytes) inside outside count fault says.1 of_bytes

-- and its fault is told
pub range_refused : (bytes text : List ℕ) (fault : NamespaceFault) (code : ℕ) (it told : Fault)
    → (text ≡ bytes) × IsUtf8 bytes → HasNamespaceFault (chars text) fault → IsRangeTold it (OfText fault)
    → code ≡ code_of it → told ≡ it
    → (code ≡ refused) × ((wrong : RangeFault) × HasRangeFault bytes wrong × IsRangeTold told wrong)
range_refused bytes text fault code it told is has (kind, numbers) code_told same = (
  code_told ∙ range_code kind fault it numbers,
  (OfText fault, (is.1, of_bytes bytes text fault is has), (kind, same ∙ numbers)),
) where
  range_code : (kind : IntErrorKind) (fault : NamespaceFault) (it : Fault) → it ≡ range_told kind (OfText fault)
      → code_of it ≡ refused
  range_code kind fault it numbers = grind arith

-- text that says a range has no fault
pub range_no_fault : (bytes text : List ℕ) (inside outside count : ℕ) → (text ≡ bytes) × IsUtf8 bytes
    → SaysNamespace (chars text) inside outside count → (wrong : RangeFault) → ¬ HasRangeFault bytes wrong
range_no_fault bytes text inside outside count is says NotUtf8 has = has is.1
range_no_fault bytes text inside outside count is says (OfText fault) has =
    namespace_no_fault (chars bytes) inside outside count fault
    (subst (λ (it : List ℕ). SaysNamespace (chars it) inside outside count) is.0 says) has.1

-- and any other has the fault that is told
pub range_faulty : (bytes text : List ℕ) (fault : NamespaceFault) (code : ℕ) (it told : Fault)
    → (text ≡ bytes) × IsUtf8 bytes → HasNamespaceFault (chars text) fault → IsRangeTold it (OfText fault)
    → code ≡ code_of it → told ≡ it → (wrong : RangeFault) → HasRangeFault bytes wrong
    → (code ≡ refused) × IsRangeTold told wrong
range_faulty bytes text fault code it told is has tells code_told same NotUtf8 wrong = absurd (wrong is.1)
range_faulty bytes text fault code it told is has (kind, numbers) code_told same (OfText other) wrong = (
  (range_refused bytes text fault code it told is has (kind, numbers) code_told same).0,
  subst (λ (f : NamespaceFault). IsRangeTold told (OfText f))
      (namespace_one_fault (chars bytes) fault other (of_bytes bytes text fault is has) wrong.1) (kind, same ∙ numbers),
)
