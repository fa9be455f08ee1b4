-- What was written for the ranges of a list is the image of a map.
use Rattle.std.proofs.Common.{◌≡◌, ℕ, ◌+◌, ◌*◌, ◌<◌, ◌≤◌, List, length, slice_index, ap, ◌∙◌, arith, rules}
use Rattle.std.proofs.Common.{refl, sym, subst, take, drop, ◌++◌}
use Rattle.std.proofs.Math.Seq.{take-append_seam, drop-append_seam}
use Rattle.std.proofs.lemmas.List.Sorted.{length_permutation}
use Rattle.std.proofs.lemmas.List.Sums.{count_by-le-length}
use Rattle.std.proofs.lemmas.Option.{slice_get_within}
use Rattle.virtiofs_map.specs.Build.{Accepted}
use Rattle.virtiofs_map.specs.Image.{IsImage, image_length, IsWritten}
use Rattle.virtiofs_map.specs.LookupSteps.{acting}
use Rattle.virtiofs_map.specs.RangeParts.{entries, AreRangesOf, AreRangesBothWays}
use Rattle.virtiofs_map.specs.WordParts.{AreFirstsBelow, AreRowsBelow, KeepsBefore, HasRanges, image_kind}
use Rattle.virtiofs_map.specs.WordParts.{table_in}
use Rattle.virtiofs_map.specs.declared.cmdline.IdMap.{IdMap}
use Rattle.virtiofs_map.specs.declared.soft_idmap.entry.Direction.{Direction}
use Rattle.virtiofs_map.specs.declared.soft_idmap.entry.Direction.TheVariants.{GuestToHost, HostToGuest}
use Rattle.virtiofs_map.specs.declared.soft_idmap.entry.Entry.{Entry}
use Rattle.virtiofs_map.proofs.BuildLemmas.{built}
use Rattle.virtiofs_map.proofs.SortedLemmas.{length-entries}

-- what was written before that place stays
pub firsts_kept : (old new : List ℕ) (start at : ℕ) (ranges : List Entry) (count : ℕ)
    → AreFirstsBelow old start ranges count → KeepsBefore at old new → start + count ≤ at
    → AreFirstsBelow new start ranges count
firsts_kept old new start at ranges count are keeps within k range below here = search rules

pub rows_kept : (old new : List ℕ) (start at : ℕ) (ranges : List Entry) (count : ℕ)
    → AreRowsBelow old start ranges count → KeepsBefore at old new → start + 3 * count ≤ at
    → AreRowsBelow new start ranges count
rows_kept old new start at ranges count are keeps within k range below here = search rules

pub keeps_further : (old middle new : List ℕ) (at next : ℕ) → KeepsBefore at old middle → KeepsBefore next middle new
    → at ≤ next → KeepsBefore at old new
keeps_further old middle new at next first second order k below = second k (omega arith) ∙ first k below

-- the ranges of a direction stand there
has_ranges : (specs : List IdMap) (direction : Direction) (ranges : List Entry) (words : List ℕ) (firsts rows : ℕ)
    → AreRangesOf specs direction ranges → AreFirstsBelow words firsts ranges (length ranges)
    → AreRowsBelow words rows ranges (length ranges)
    → HasRanges specs direction (record { words = words; firsts = firsts; rows = rows; count = length ranges })
has_ranges specs direction ranges words firsts rows are are_firsts are_rows = record {
  ranges = ranges;
  are = are;
  stand = record {
    counted = refl;
    each = λ k range here. (let below : k < length ranges = slice_get_within ranges k range here in
        record { first = are_firsts k range below here; row = are_rows k range below here });
  };
}

-- the words are those of both directions
pub IsImage-written : (specs : List IdMap) (guests hosts : List Entry) (words : List ℕ)
    → Accepted specs → AreRangesOf specs GuestToHost guests → AreRangesOf specs HostToGuest hosts
    → slice_index words 0 ≡ image_kind → slice_index words 1 ≡ length guests → slice_index words 2 ≡ length hosts
    → 4 + 4 * length guests + 4 * length hosts ≤ length words
    → slice_index words (3 + length guests + length hosts + 3 * length guests + 3 * length hosts) ≡ image_kind
    → AreFirstsBelow words 3 guests (length guests)
    → AreFirstsBelow words (3 + length guests) hosts (length hosts)
    → AreRowsBelow words (3 + length guests + length hosts) guests (length guests)
    → AreRowsBelow words (3 + length guests + length hosts + 3 * length guests) hosts (length hosts)
    → IsImage specs words
IsImage-written specs guests hosts words accepted from_guest from_host kind many_guests many_hosts room end guest_firsts host_firsts guest_rows
    host_rows = record {
      kind = kind;
      ended = ap (slice_index words) (omega (arith, many_guests, many_hosts)) ∙ end;
      room = omega arith;
      accepted = accepted;
      ranges = ranges;
    } where
      ranges : (direction : Direction) → HasRanges specs direction (table_in words direction)
      ranges GuestToHost =
          rw (many_guests, many_hosts) (has_ranges specs GuestToHost guests words _ _ from_guest guest_firsts guest_rows)
      ranges HostToGuest =
          rw (many_guests, many_hosts) (has_ranges specs HostToGuest hosts words _ _ from_host host_firsts host_rows)

-- how long an image is
acting-count : (specs : List IdMap) (direction : Direction) (ranges : List Entry) → AreRangesOf specs direction ranges
    → length ranges ≡ acting specs direction
acting-count specs direction ranges are =
    length_permutation (entries specs direction) ranges are.whole ∙ length-entries specs direction

pub image-length : (specs : List IdMap) (guests hosts : List Entry) (len : ℕ) → AreRangesBothWays specs guests hosts
    → len ≡ 4 + 4 * length guests + 4 * length hosts → len ≡ image_length specs
image-length specs guests hosts len are is =
    omega (arith, acting-count specs GuestToHost guests are.from_guest, acting-count specs HostToGuest hosts are.from_host)

pub image-bound : (specs : List IdMap) → image_length specs ≤ 4 + 8 * length specs
image-bound specs = search (rules, count_by-le-length)

-- and where there is no room for one
pub IsWritten-none : (specs : List IdMap) (words : List ℕ) (len : ℕ) → len ≡ image_length specs → length words < len
    → IsWritten specs words words
IsWritten-none specs words len is short = search rules

-- and where there is
pub IsWritten-here : (specs : List IdMap) (old front back : List ℕ) (len : ℕ) → len ≡ image_length specs
    → len ≤ length old → length front ≡ len → back ≡ drop len old → IsImage specs front
    → IsWritten specs old (front ++ back)
IsWritten-here specs old front back len is room long rest image =
    let whole : length front ≡ image_length specs = long ∙ is in
    record {
      image = λ _. subst (λ n. IsImage specs (take n (front ++ back))) whole (rw (take-append_seam front back) image);
      rest = λ _. subst (λ n. drop n (front ++ back) ≡ drop n old) whole
          (drop-append_seam front back ∙ rest ∙ ap (λ n. drop n old) (sym long));
      no_room = λ short. absurd (omega arith);
    }

-- what the writing of an image promises
pub ruleset image_written = (built, image-bound)
