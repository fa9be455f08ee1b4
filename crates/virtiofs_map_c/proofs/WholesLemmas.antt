-- A map that a make wrote is all of its words, and all of its bytes.
use Rattle.std.proofs.Common.{◌≡◌, ℕ, ◌+◌, ◌≤◌, cond, List, [], ◌∷◌, length, take, length-take, Option, Some, None, refl}
use Rattle.std.proofs.Common.{sym, ◌∙◌, arith, rules}
use Rattle.std.specs.List.{cons_option}
use Rattle.std.proofs.lemmas.Bool.Decides.{nat_tests}
use Rattle.std.proofs.lemmas.List.Sorted.{length_permutation}
use Rattle.std.proofs.lemmas.List.Sums.{sum_by-cons}
use Rattle.virtiofs_map.specs.Image.{IsImage, image_length}
use Rattle.virtiofs_map.specs.LookupSteps.{acting, covers_some}
use Rattle.virtiofs_map.specs.Mapping.{entry_of}
use Rattle.virtiofs_map.specs.RangeParts.{entries, if_acts}
use Rattle.virtiofs_map.specs.WordParts.{table_in}
use Rattle.virtiofs_map.specs.declared.cmdline.IdMap.{IdMap as Specification}
use Rattle.virtiofs_map.specs.declared.soft_idmap.entry.Direction.{Direction}
use Rattle.virtiofs_map.specs.declared.soft_idmap.entry.Direction.TheVariants.{GuestToHost, HostToGuest}
use Rattle.virtiofs_map.specs.declared.soft_idmap.entry.Entry.{Entry}
use Rattle.virtiofs_map_c.specs.Wholes.{IsIdMap}

length-entries : (specs : List Specification) (direction : Direction)
    → length (entries specs direction) ≡ acting specs direction
length-entries [] direction = refl
length-entries (spec ∷ specs) direction =
    rw (sum_by-cons (λ own. cond (covers_some (entry_of own direction)) 1 0) spec specs)
    (by (entry_of spec direction) (length-entries specs direction)) where
      by : (o : Option Entry) → length (entries specs direction) ≡ acting specs direction
          → length (cons_option (if_acts o) (entries specs direction)) ≡ cond (covers_some o) 1 0 + acting specs direction
      by None rest = omega arith
      by (Some entry) rest = grind (arith, nat_tests)

-- an image has as many ranges as specifications act
counted : (specs : List Specification) (words : List ℕ) (direction : Direction) → IsImage specs words
    → (table_in words direction).count ≡ acting specs direction
counted specs words direction image =
    let ranges = image.ranges direction in
    sym ranges.stand.counted ∙ length_permutation (entries specs direction) ranges.ranges ranges.are.whole
    ∙ length-entries specs direction

-- an image that is as long as that of its specifications is the whole map
pub all_words : (specs : List Specification) (words : List ℕ) → IsImage specs words
    → length words ≤ image_length specs → IsIdMap specs words
all_words specs words image short =
    let guests = counted specs words GuestToHost image in
    let hosts = counted specs words HostToGuest image in
    search rules

pub taken_words : (specs : List Specification) (new : List ℕ) → IsImage specs (take (image_length specs) new)
    → IsIdMap specs (take (image_length specs) new)
taken_words specs new image = search (rules, all_words, length-take)
