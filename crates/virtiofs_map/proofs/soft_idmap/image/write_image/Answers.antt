use Rattle.std.proofs.Common.{◌+◌, ◌*◌, arith}
use Rattle.std.proofs.lemmas.Result.{err_from_is_err_and}
use Rattle.virtiofs_map.specs.Build.{HasFirstFault}
use Rattle.virtiofs_map.proofs.BuildLemmas.{HasFirstFault-one}
use Rattle.virtiofs_map.proofs.ReaderLemmas.{told_fault}
use Rattle.virtiofs_map.proofs.WrittenLemmas.{image-length, image-bound, IsWritten-none, IsWritten-here}
use Rattle.virtiofs_map.proofs.soft_idmap.image.write_image.Goals as goal

pub returns-in_err-guests-clause-faulty : goal.returns-in_err-guests-clause-faulty
returns-in_err-guests-clause-faulty g c = λ fault has.
    let p = err_from_is_err_and c.from_residual.result c.from_residual.ensures.1 in
    let specs = c.args.specs.now in
    rw (p.1, p.2)
    (told_fault _ (HasFirstFault specs) fault c.in_err-guests.ensures
    (λ other told. HasFirstFault-one specs other fault told has))

pub write_words-requires-clause-guests : goal.write_words-requires-clause-guests
write_words-requires-clause-guests g c = rw c.deref.ensures.value c.in_ok-guests.ensures.from_guest.ordered

pub write_words-requires-clause-hosts : goal.write_words-requires-clause-hosts
write_words-requires-clause-hosts g c = rw c.deref-2.ensures.value c.in_ok-guests.ensures.from_host.ordered

pub returns-then-words-len-clause-len : goal.returns-then-words-len-clause-len
returns-then-words-len-clause-len g c =
    image-length c.args.specs.now c.in_ok-guests.guests.items c.in_ok-guests.hosts.items _ c.in_ok-guests.ensures
    (omega arith)

pub returns-then-words-len-clause-bound : goal.returns-then-words-len-clause-bound
returns-then-words-len-clause-bound g c =
    omega (arith, returns-then-words-len-clause-len g c, image-bound c.args.specs.now)

pub returns-then-words-len-clause-written : goal.returns-then-words-len-clause-written
returns-then-words-len-clause-written g c =
    IsWritten-none c.args.specs.now c.args.words.now (4 + 4 * c.len.result + 4 * c.len-2.result)
    (returns-then-words-len-clause-len g c) (omega arith)

pub returns-clause-len : goal.returns-clause-len
returns-clause-len g c =
    image-length c.args.specs.now c.in_ok-guests.guests.items c.in_ok-guests.hosts.items _ c.in_ok-guests.ensures
    (omega arith)

pub returns-clause-bound : goal.returns-clause-bound
returns-clause-bound g c = omega (arith, returns-clause-len g c, image-bound c.args.specs.now)

pub returns-clause-written : goal.returns-clause-written
returns-clause-written g c =
    let ranges = c.in_ok-guests.ensures in
    IsWritten-here c.args.specs.now c.args.words.now c.write_words.new.words c.split_at_mut-front.result.1.now
    (4 + 4 * c.len.result + 4 * c.len-2.result) (returns-clause-len g c) (omega arith)
    (omega (arith, c.split_at_mut-front.ensures.front_len)) c.split_at_mut-front.ensures.back
    (c.write_words.ensures c.args.specs.now ranges.accepted (rw c.deref.ensures.value ranges.from_guest)
    (rw c.deref-2.ensures.value ranges.from_host))
