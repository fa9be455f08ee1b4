-- Queries of ids under the specifications of texts have one answer.
use Rattle.std.proofs.Common.{rules, ◌≡◌, ℕ, List, [], ◌∷◌, ◌++◌, map, Option, Some, None, Result, Ok, Err, IfOk, OnOk}
use Rattle.std.proofs.Common.{String, string_bytes, codes, append_assoc, inl, inr, refl, ap}
use Rattle.std.specs.Borrow.{Bor}
use Rattle.std.specs.Fmt.{decimal}
use Rattle.std.specs.List.{AllZip, concat}
use Rattle.std.specs.Str.{chars}
use Rattle.virtiofs_map.specs.Build.{Accepted, RangeOverflow, Intersects}
use Rattle.virtiofs_map.specs.Printed.{build_error_text}
use Rattle.virtiofs_map.specs.Refusal.{OutOfMemoryOr}
use Rattle.virtiofs_map.specs.SpecificationText.{SpecificationFault, InvalidLength, specification_fault_of}
use Rattle.virtiofs_map.specs.Specifications.{texts_of, AllSay, SpecsFault, Unread, Unbuilt, HasSpecsFault}
use Rattle.virtiofs_map.specs.Specifications.{specs_fault_of}
use Rattle.virtiofs_map.specs.declared.cmdline.IdMap.{IdMap}
use Rattle.virtiofs_map.specs.declared.cmdline.IdMapError.{IdMapError}
use Rattle.virtiofs_map.specs.declared.soft_idmap.entry.Direction.{Direction}
use Rattle.virtiofs_map.specs.declared.soft_idmap.errors.IdMapBuildError.{IdMapBuildError}
use Rattle.virtiofs_map.specs.declared.soft_idmap.errors.IdMapBuildError.TheVariants as errors
use Rattle.virtiofs_map.specs.declared.soft_idmap.errors.RangeEnd.{RangeEnd}
use Rattle.virtiofs_map.specs.declared.soft_idmap.errors.SpecsError.{SpecsError}
use Rattle.virtiofs_map.specs.declared.soft_idmap.errors.SpecsError.TheVariants as specs
use Rattle.virtiofs_map.proofs.ForCallers.{lookup_one_value, texts_one_value, texts_no_fault, texts_one_fault}
use Rattle.virtiofs_map.proofs.ForCallers.{AllZip-one}
use Rattle.virtiofs_mapcheck.specs.IdsAnswer.{IsLine, GivesIds, specification_fault_text, at_index, specs_fault_text}
use Rattle.virtiofs_mapcheck.specs.IdsAnswer.{RefusesIds, AnswersIds}
use Rattle.virtiofs_mapcheck.specs.Outcome.{refusal, AreOne}
use Rattle.virtiofs_mapcheck.specs.Words.{words_of}
use Rattle.virtiofs_output.specs.declared.outcome.Answered.TheVariants.{Refused}
use Rattle.virtiofs_mapcheck.specs.declared.words.Query.{Query}

-- ---- from what the library answers

-- the texts of words as characters
texts_of-words : (texts : List (Bor (List ℕ))) → texts_of texts ≡ map chars (words_of texts)
texts_of-words [] = refl
texts_of-words (t ∷ texts) = ap (λ (xs : List (List ℕ)). chars t.now ∷ xs) (texts_of-words texts)

pub GivesIds-map : (texts : List (Bor (List ℕ))) (queries : List Query) (specs : List IdMap) (text : List ℕ)
    → AllSay (texts_of texts) specs → Accepted specs
    → ((lines : List (List ℕ)) × AllZip (IsLine specs) queries lines × (text ≡ concat lines))
    → GivesIds (words_of texts) queries text
GivesIds-map texts queries specs text say accepted (lines, answered, whole) = search (rules, texts_of-words)

pub RefusesIds-fault : (texts : List (Bor (List ℕ))) (told : Option SpecsFault) (text : List ℕ)
    → OutOfMemoryOr told (HasSpecsFault (texts_of texts))
    → ((fault : SpecsFault) × (told ≡ Some fault) × (text ≡ refusal (specs_fault_text fault)))
    → RefusesIds (words_of texts) Refused text
RefusesIds-fault texts told text refused (fault, tells, is) = search (rules, texts_of-words)

-- the count of numbers that a text has was said at the end
pub length_pushed : {T E : Type 0} (r : Result T E) (old new : List ℕ) (expected seen : ℕ)
    → OnOk r (new ≡ old ++ (codes "InvalidLength expected " ++ (decimal expected ++ (codes " seen " ++ decimal seen))))
    → OnOk r (new ≡ old ++ specification_fault_text (InvalidLength expected seen))
length_pushed r old new expected seen wrote = search (rules, append_assoc)

-- the line says what the error tells
abbrev SaysFault : {A : Type 0} → SpecsError A → String A → Type 0
SaysFault error text =
    (fault : SpecsFault) × (specs_fault_of error ≡ Some fault) × (string_bytes text ≡ refusal (specs_fault_text fault))

pub unread_refused : {A E : Type 0} (r : Result (String A) E) (error : SpecsError A) (index : ℕ) (cause : IdMapError A)
    → error ≡ specs.Spec index cause
    → IfOk r
    (λ text. (fault : SpecificationFault) × (specification_fault_of cause ≡ Some fault)
    × (string_bytes text ≡ refusal (at_index index (specification_fault_text fault)))) → IfOk r (SaysFault error)
unread_refused (Ok text) error index cause is (fault, tells, wrote) =
    rw is (Unread index fault, rw tells refl, wrote)
unread_refused (Err e) error index cause is wrote = tt

pub overflow_refused : {A E : Type 0} (r : Result (String A) E) (error : SpecsError A) (fault : IdMapBuildError)
    (spec : IdMap) (index : ℕ) (direction : Direction) (range_end : RangeEnd) → error ≡ specs.Build fault
    → fault ≡ errors.RangeOverflow spec index direction range_end
    → IfOk r (λ text. string_bytes text ≡ refusal (at_index index (build_error_text fault))) → IfOk r (SaysFault error)
overflow_refused (Ok text) error fault spec index direction range_end is such wrote =
    rw (is, such) (Unbuilt (RangeOverflow spec index direction range_end), refl, rw such at wrote)
overflow_refused (Err e) error fault spec index direction range_end is such wrote = tt

pub overlap_refused : {A E : Type 0} (r : Result (String A) E) (error : SpecsError A) (fault : IdMapBuildError)
    (spec : IdMap) (index : ℕ) (direction : Direction) → error ≡ specs.Build fault
    → fault ≡ errors.Intersects spec index direction
    → IfOk r (λ text. string_bytes text ≡ refusal (at_index index (build_error_text fault))) → IfOk r (SaysFault error)
overlap_refused (Ok text) error fault spec index direction is such wrote =
    rw (is, such) (Unbuilt (Intersects spec index direction), refl, rw such at wrote)
overlap_refused (Err e) error fault spec index direction is such wrote = tt

-- ---- one answer

IsLine-one : (specs : List IdMap) → Accepted specs → (query : Query) (text other : List ℕ) → IsLine specs query text
    → IsLine specs query other → text ≡ other
IsLine-one specs accepted query text other (inl (n, one, is)) (inl (m, two, such)) =
    let value = lookup_one_value specs accepted query.direction query.number (Some n) (Some m) one two in cc
IsLine-one specs accepted query text other (inl (n, one, is)) (inr (two, such)) =
    let value = lookup_one_value specs accepted query.direction query.number (Some n) None one two in cc
IsLine-one specs accepted query text other (inr (one, is)) (inl (n, two, such)) =
    let value = lookup_one_value specs accepted query.direction query.number (Some n) None two one in cc
IsLine-one specs accepted query text other (inr (one, is)) (inr (two, such)) = cc

GivesIds-one : (texts : List (List ℕ)) (queries : List Query) (text other : List ℕ) → GivesIds texts queries text
    → GivesIds texts queries other → text ≡ other
GivesIds-one texts queries text other one two =
    let specs = texts_one_value (map chars texts) one.specs two.specs one.say two.say in
    let lines =
    AllZip-one (IsLine two.specs) (IsLine-one two.specs two.accepted) queries one.lines two.lines
    (rw specs at one.answered) two.answered in cc

pub AnswersIds-one : (texts : List (List ℕ)) (queries : List Query) → AreOne (AnswersIds texts queries)
AnswersIds-one texts queries answered other text another (inl one) (inl two) = search (rules, GivesIds-one)
AnswersIds-one texts queries answered other text another (inl (outcome, one)) (inr (fault, has, two)) =
    absurd (texts_no_fault (map chars texts) one.specs fault one.say one.accepted has)
AnswersIds-one texts queries answered other text another (inr (fault, has, one)) (inl (outcome, two)) =
    absurd (texts_no_fault (map chars texts) two.specs fault two.say two.accepted has)
AnswersIds-one texts queries answered other text another (inr one) (inr two) = search (rules, texts_one_fault)
