use Rattle.std.proofs.Common.{◌∙◌, ◌+◌, ◌*◌, length, arith}
use Rattle.virtiofs_map.proofs.WrittenLemmas.{firsts_kept, rows_kept, keeps_further, IsImage-written}
use Rattle.virtiofs_map.proofs.soft_idmap.write.write_words.Goals as goal

pub returns : goal.returns
returns c = λ specs accepted from_guest from_host.
    let guests = length c.args.guests.now in
    let hosts = length c.args.hosts.now in
    let rows = 3 + guests + hosts in
    let end = rows + 3 * guests + 3 * hosts in
    let last = c.write_end.ensures.before in
    let third = keeps_further _ _ _ (rows + 3 * guests) end c.write_rows-2.ensures.before last (omega arith) in
    let second = keeps_further _ _ _ rows (rows + 3 * guests) c.write_rows.ensures.before third (omega arith) in
    let first = keeps_further _ _ _ (3 + guests) rows c.write_firsts-2.ensures.before second (omega arith) in
    let whole = keeps_further _ _ _ 3 (3 + guests) c.write_firsts.ensures.before first (omega arith) in
    IsImage-written specs c.args.guests.now c.args.hosts.now c.write_end.new.words accepted from_guest from_host
    (whole 0 (omega arith) ∙ c.write_head.ensures.kind) (whole 1 (omega arith) ∙ c.write_head.ensures.guests)
    (whole 2 (omega arith) ∙ c.write_head.ensures.hosts) (omega arith) c.write_end.ensures.end
    (firsts_kept _ _ 3 (3 + guests) _ guests c.write_firsts.ensures.firsts first (omega arith))
    (firsts_kept _ _ (3 + guests) rows _ hosts c.write_firsts-2.ensures.firsts second (omega arith))
    (rows_kept _ _ rows (rows + 3 * guests) _ guests c.write_rows.ensures.rows third (omega arith))
    (rows_kept _ _ (rows + 3 * guests) end _ hosts c.write_rows-2.ensures.rows last (omega arith))
