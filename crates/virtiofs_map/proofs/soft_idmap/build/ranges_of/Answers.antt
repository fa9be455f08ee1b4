use Rattle.std.proofs.Common.{refl}
use Rattle.std.proofs.lemmas.Bool.{false≢true}
use Rattle.virtiofs_map.specs.RangeParts.{AreRangesOf}
use Rattle.virtiofs_map.specs.declared.soft_idmap.entry.Direction.TheVariants.{GuestToHost, HostToGuest}
use Rattle.virtiofs_map.proofs.SortedLemmas.{some_numbers, AreRanges-accepted, Accepted-ranges}
use Rattle.virtiofs_map.proofs.soft_idmap.build.ranges_of.Goals as goal

pub are_ranges-requires : goal.are_ranges-requires
are_ranges-requires g c =
    rw c.deref.ensures.value (some_numbers c.args.specs.now GuestToHost c.in_ok-guests.guests.items c.in_ok-guests.ensures)

pub returns-then-not-are_ranges : goal.returns-then-not-are_ranges
returns-then-not-are_ranges g c = λ accepted.
    false≢true (c.if-not-are_ranges.ensures.1 (rw c.deref.ensures.value
    (AreRanges-accepted c.args.specs.now GuestToHost c.in_ok-guests.guests.items accepted c.in_ok-guests.ensures)))

pub are_ranges-requires-2 : goal.are_ranges-requires-2
are_ranges-requires-2 g c =
    rw c.deref-2.ensures.value (some_numbers c.args.specs.now HostToGuest c.in_ok-hosts.hosts.items c.in_ok-hosts.ensures)

pub returns-then-not-are_ranges-2 : goal.returns-then-not-are_ranges-2
returns-then-not-are_ranges-2 g c = λ accepted.
    false≢true (c.if-not-are_ranges-2.ensures.1 (rw c.deref-2.ensures.value
    (AreRanges-accepted c.args.specs.now HostToGuest c.in_ok-hosts.hosts.items accepted c.in_ok-hosts.ensures)))

pub returns : goal.returns
returns g c =
    let guests : AreRangesOf c.args.specs.now GuestToHost c.in_ok-guests.guests.items = record {
      whole = c.in_ok-guests.ensures.whole;
      ordered = rw c.deref.ensures.value at (c.if-not-are_ranges.ensures.0 refl);
    } in
    let hosts : AreRangesOf c.args.specs.now HostToGuest c.in_ok-hosts.hosts.items = record {
      whole = c.in_ok-hosts.ensures.whole;
      ordered = rw c.deref-2.ensures.value at (c.if-not-are_ranges-2.ensures.0 refl);
    } in
    record {
      accepted = Accepted-ranges c.args.specs.now c.in_ok-guests.guests.items c.in_ok-hosts.hosts.items guests hosts;
      from_guest = guests;
      from_host = hosts;
    }
