use Rattle.std.proofs.Common.{refl}
use Rattle.virtiofs_mapaudit.proofs.guests.guest_of.Goals as goal

pub returns-in-Ok-OfGuest : goal.returns-in-Ok-OfGuest
returns-in-Ok-OfGuest c = record {
  words = c.in-Ok.words.items;
  has = rw c.as_slice.ensures.value at c.in-Ok.ensures.read;
  is = rw (c.as_slice-2.ensures.value, c.in-Ok-OfGuest.field-0-is) at c.in-Ok-OfGuest.ensures.read;
  runner = refl;
}
