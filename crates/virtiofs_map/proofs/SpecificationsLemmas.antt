-- A list of texts says at most one list of specifications, and has at most one fault.
use Rattle.std.proofs.lemmas.Grind.{common_steps}
use Rattle.std.proofs.Common.{◌≡◌, ℕ, ◌+◌, ◌<◌, zero, suc, List, [], ◌∷◌, ◌++◌, length, take, get_or}
use Rattle.std.proofs.Common.{slice_get, Option, Some, IsSomeAnd, Bor, arith, option_map, chars, rules}
use Rattle.std.proofs.lemmas.Bool.{cases_order}
use Rattle.std.proofs.lemmas.List.{take-map, map_more, length-map}
use Rattle.std.proofs.lemmas.Option.{slice_get-map, slice_get-get_or}
use Rattle.virtiofs_map.specs.Build.{Accepted, BuildFault, HasFirstFault}
use Rattle.virtiofs_map.specs.Refusal.{OutOfMemoryOr}
use Rattle.virtiofs_map.specs.SpecificationText.{Says, SpecificationFault, HasSpecificationFault}
use Rattle.virtiofs_map.specs.Specifications.{texts_of, AllSay, HasFirstUnread, SpecsFault, Unread, Unbuilt}
use Rattle.virtiofs_map.specs.Specifications.{HasSpecsFault, IsReadUpTo}
use Rattle.virtiofs_map.specs.declared.cmdline.IdMap.{IdMap}
use Rattle.virtiofs_map.proofs.BuildLemmas.{Accepted-no_fault, HasFirstFault-one}
use Rattle.virtiofs_map.proofs.ReaderLemmas.{out_of_memory, told_fault}
use Rattle.virtiofs_map.proofs.SpecificationLawLemmas.{Says-one, Says-no_fault, HasSpecificationFault-one}
use Rattle.virtiofs_map.proofs.ZipLemmas.{AllZip-push, AllZip-one}

-- one more text
pub AllSay-more : (texts : List (Bor (List ℕ))) (specs : List IdMap) (i : ℕ) (d : Bor (List ℕ)) (spec : IdMap)
    → i < length texts → AllSay (take i (texts_of texts)) specs → Says (chars (get_or texts i d).now) spec
    → AllSay (take (i + 1) (texts_of texts)) (specs ++ spec ∷ [])
AllSay-more texts specs i d spec below say here = grind (arith, common_steps, take-map, map_more, AllZip-push)

pub AllSay-one : (texts : List (List ℕ)) (specs others : List IdMap) → AllSay texts specs → AllSay texts others
    → specs ≡ others
AllSay-one = AllZip-one Says Says-one

-- where each text says a specification, none has a fault
no_unread : (texts : List (List ℕ)) (specs : List IdMap) (i : ℕ) (fault : SpecificationFault) → AllSay texts specs
    → ¬ IsSomeAnd (slice_get texts i) (λ text. HasSpecificationFault text fault)
no_unread [] specs i fault say here = absurd here
no_unread (t ∷ texts) [] i fault say here = absurd say
no_unread (t ∷ texts) (s ∷ specs) zero fault say here = Says-no_fault t s fault say.0 here
no_unread (t ∷ texts) (s ∷ specs) (suc i) fault say here = no_unread texts specs i fault say.1 here

-- where each text of a front does, none of that front has one
no_earlier : (texts : List (List ℕ)) (specs : List IdMap) (i j : ℕ) (fault : SpecificationFault) → i < j
    → AllSay (take j texts) specs → ¬ IsSomeAnd (slice_get texts i) (λ text. HasSpecificationFault text fault)
no_earlier [] specs i j fault before say here = absurd here
no_earlier (t ∷ texts) specs i zero fault before say here = absurd (omega arith)
no_earlier (t ∷ texts) [] i (suc j) fault before say here = absurd say
no_earlier (t ∷ texts) (s ∷ specs) zero (suc j) fault before say here = Says-no_fault t s fault say.0 here
no_earlier (t ∷ texts) (s ∷ specs) (suc i) (suc j) fault before say here =
    no_earlier texts specs i j fault (omega arith) say.1 here

-- texts that say an accepted list have no fault
pub AllSay-no_fault : (texts : List (List ℕ)) (specs : List IdMap) (fault : SpecsFault) → AllSay texts specs
    → Accepted specs → ¬ HasSpecsFault texts fault
AllSay-no_fault texts specs fault say accepted unread = grind (arith, no_unread, Accepted-no_fault, AllSay-one)

-- two texts that are not read, each the first one, are one
one_unread : (texts : List (List ℕ)) (i j : ℕ) (fault other : SpecificationFault) → HasFirstUnread texts i fault
    → HasFirstUnread texts j other → Unread i fault ≡ Unread j other
one_unread texts i j fault other first second = grind (arith, cases_order, HasSpecificationFault-one, no_earlier)

-- a list of texts has at most one fault
pub HasSpecsFault-one : (texts : List (List ℕ)) (fault other : SpecsFault) → HasSpecsFault texts fault
    → HasSpecsFault texts other → fault ≡ other
HasSpecsFault-one texts fault other first second = grind (arith, one_unread, no_unread, HasFirstFault-one, AllSay-one)

-- the text at a place, as characters
text_at : (texts : List (Bor (List ℕ))) (i : ℕ) (d : Bor (List ℕ)) → i < length texts
    → slice_get (texts_of texts) i ≡ Some (chars (get_or texts i d).now)
text_at texts i d below = search (rules, slice_get-map, option_map, slice_get-get_or)

-- a text that is not read, after texts that are
pub refused-text : (texts : List (Bor (List ℕ))) (specs : List IdMap) (i : ℕ) (d : Bor (List ℕ))
    (told : Option SpecificationFault) → i < length texts → AllSay (take i (texts_of texts)) specs
    → OutOfMemoryOr told (HasSpecificationFault (chars (get_or texts i d).now))
    → OutOfMemoryOr (option_map (Unread i) told) (HasSpecsFault (texts_of texts))
refused-text texts specs i d told below say refused = grind (arith, text_at)

pub IsReadUpTo-here : (texts : List (Bor (List ℕ))) (specs : List IdMap) (i : ℕ) → i < length texts
    → AllSay (take i (texts_of texts)) specs → IsReadUpTo (texts_of texts) i
IsReadUpTo-here texts specs i below say = search (rules, length-map)

-- texts that say a list of which no map is made
pub refused-build : (texts : List (List ℕ)) (specs : List IdMap) (told : Option BuildFault) → AllSay texts specs
    → OutOfMemoryOr told (HasFirstFault specs) → OutOfMemoryOr (option_map Unbuilt told) (HasSpecsFault texts)
refused-build texts specs told say refused = grind arith

-- that a list of texts means one list of specifications, or has one fault
pub ruleset what_is_read = (out_of_memory, told_fault, AllSay-one, AllSay-no_fault, HasSpecsFault-one, refused-build)

-- how the texts are read
pub ruleset all_said = (AllSay-more, refused-text, IsReadUpTo-here)
