use Rattle.std.proofs.Common.{refl, inl, inr, ◌++◌, ◌∷◌, []}
use Rattle.std.specs.Fmt.{decimal}
use Rattle.virtiofs_mapcheck.proofs.QueryLineLemmas.{line_written}
use Rattle.virtiofs_mapcheck.proofs.ids.push_line.Goals as goal

pub returns-in-Ok : goal.returns-in-Ok
returns-in-Ok g c =
    line_written _ _ _ _ _ (decimal c.in-Ok.id ++ 10 ∷ [])
    (inl (c.in-Ok.id, rw (c.in-GuestToHost.is, ← c.from.ensures) c.in-Ok.ensures.looks_up.value, refl))
    c.writeln.ensures.bytes

pub returns-in-Ok-map_host : goal.returns-in-Ok-map_host
returns-in-Ok-map_host g c =
    line_written _ _ _ _ _ (decimal c.in-Ok-map_host.id ++ 10 ∷ [])
    (inl (
      c.in-Ok-map_host.id,
      rw (c.in-HostToGuest.is, ← c.from-in-HostToGuest.ensures) c.in-Ok-map_host.ensures.looks_up.value,
      refl,
    ))
    c.writeln-in-Ok-map_host.ensures.bytes

pub returns-in-Err : goal.returns-in-Err
returns-in-Err g c =
    line_written _ _ _ _ _ _ (inr (rw (c.in-GuestToHost.is, ← c.from.ensures) c.in-Err.ensures.looks_up.fails, refl))
    (rw (c.in-Err.ensures.looks_up.names, c.from.ensures) at c.writeln-in-Err.ensures.bytes)
