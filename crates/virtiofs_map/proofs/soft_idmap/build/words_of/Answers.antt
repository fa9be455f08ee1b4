use Rattle.virtiofs_map.proofs.soft_idmap.build.words_of.Goals as goal

pub write_words-requires-clause-guests : goal.write_words-requires-clause-guests
write_words-requires-clause-guests g c = rw c.deref.ensures.value c.in_ok-guests.ensures.from_guest.ordered

pub write_words-requires-clause-hosts : goal.write_words-requires-clause-hosts
write_words-requires-clause-hosts g c = rw c.deref-2.ensures.value c.in_ok-guests.ensures.from_host.ordered
