use Rattle.std.proofs.Common.{sym}
use Rattle.virtiofs_options.proofs.GuestsLemmas.{WrongOnly-map}
use Rattle.virtiofs_options.specs.Guests.{IsLineFault}
use Rattle.virtiofs_options.proofs.guests.read_process.Goals as goal

pub returns-in-Ok-clause-read : goal.returns-in-Ok-clause-read
returns-in-Ok-clause-read c =
    let (here, line, said) = c.in-Ok.ensures.read in (
      c.in-Some.start,
      sym c.in-Some.ensures.first,
      (
        c.new-first.result,
        c.new-first.ensures,
        rw (said, c.new-unknown.ensures.items) (rw (c.line_of-line.ensures, c.tail_of.ensures) at line),
      ),
    )

pub returns-clause-refused : goal.returns-clause-refused
returns-clause-refused c =
    WrongOnly-map (IsLineFault c.args.options c.line_of-line.result.now) _ c.in-Err.error
    (λ fault wrong. (
      c.in-Some.start,
      sym c.in-Some.ensures.first,
      rw (c.line_of-line.ensures, c.tail_of.ensures) at wrong,
    ))
    c.in-Err.ensures.refused
