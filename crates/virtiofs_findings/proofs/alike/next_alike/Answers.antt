use Rattle.std.proofs.Common.{◌+◌, ℕ, Option, ap}
use Rattle.std.proofs.lemmas.List.{take_rest}
use Rattle.std.specs.Option.{option_map_or}
use Rattle.virtiofs_findings.proofs.alike.next_alike.Goals as goal

pub returns-in-Some-clause-next : goal.returns-in-Some-clause-next
returns-in-Some-clause-next g c =
    ap (λ (place : Option ℕ). option_map_or (λ between. c.args.number + between + 1) place c.args.number)
    (rw (take_rest c.args.guests.now c.args.number) at c.in-Some.ensures.first)

pub returns-in-None-clause-next : goal.returns-in-None-clause-next
returns-in-None-clause-next g c =
    ap (λ (place : Option ℕ). option_map_or (λ between. c.args.number + between + 1) place c.args.number)
    (rw (take_rest c.args.guests.now c.args.number) at c.in-None.ensures.first)
