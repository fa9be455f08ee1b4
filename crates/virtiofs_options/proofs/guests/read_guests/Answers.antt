use Rattle.std.proofs.Common.{◌+◌, Some, arith, map, length}
use Rattle.virtiofs_options.proofs.GuestsLemmas.{GuestsThen-more, WrongOnly-map, none-left}
use Rattle.virtiofs_options.specs.Guests.{IsGuestFault}
use Rattle.virtiofs_options.specs.Unknown.{told}
use Rattle.virtiofs_options.proofs.guests.read_guests.Goals as goal

pub loop-left-init : goal.loop-left-init
loop-left-init c = grind arith

pub loop-left-preserved : goal.loop-left-preserved
loop-left-preserved c =
    let (guest, here, is, items, told_is) = c.in-Ok.ensures.read in
    rw (items, told_is) (GuestsThen-more c.args.options 1 c.args.first c.loop-left.read.guests.items (Some c.args.words.now)
    (map told c.loop-left.read.unknown.items) c.in-Some.here.now c.loop-left.guest
    (length c.loop-left.read.guests.items + 1) guest here _ c.new-guest.result
    (rw c.in-Some.is at c.loop-left.invariant) (omega arith) is c.new-guest.ensures)

pub returns-in-Err-clause-refused : goal.returns-in-Err-clause-refused
returns-in-Err-clause-refused c =
    WrongOnly-map
    (IsGuestFault c.args.options (length c.loop-left.read.guests.items + 1) c.loop-left.guest c.in-Some.here.now) _
    c.in-Err.error (λ fault wrong. (
      c.loop-left.read.guests.items,
      map told c.loop-left.read.unknown.items,
      c.in-Some.here.now,
      c.loop-left.guest,
      rw c.in-Some.is at c.loop-left.invariant,
      wrong,
    )) c.in-Err.ensures.refused

pub returns-clause-read : goal.returns-clause-read
returns-clause-read c = (
  c.loop-left.guest,
  rw (none-left c.loop-left.left c.in_default.not-Some) at c.loop-left.invariant,
)
