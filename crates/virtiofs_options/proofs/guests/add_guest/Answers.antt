use Rattle.std.proofs.Common.{◌≡◌, ◌∙◌, length, sym, ap, inr, rules}
use Rattle.virtiofs_options.proofs.GuestsLemmas.{WrongOnly-map}
use Rattle.virtiofs_options.specs.Guests.{IsLineFault}
use Rattle.virtiofs_options.specs.Lines.{after_line}
use Rattle.virtiofs_options.proofs.guests.add_guest.Goals as goal

pub returns-in_ok-push-in-Ok-clause-read : goal.returns-in_ok-push-in-Ok-clause-read
returns-in_ok-push-in-Ok-clause-read c =
    let same : c.len-number.result ≡ length c.args.read.now.guests.items = search rules in
    let (here, line, told) = c.in-Ok.ensures.read in (
      c.in-Ok.guest,
      here,
      (
        c.in-Some.start,
        sym (rw c.has_any.ensures at c.in-Some.ensures.first),
        rw (same, c.line_of.ensures, c.tail_of-words.ensures) at line,
        rw c.in-Ok.ensures.starter c.starter_of-starter.ensures,
        c.after_line.ensures.after ∙ ap after_line c.tail_of-words.ensures,
      ),
      c.in_ok-push-in-Ok.ensures.items,
      told,
    )

pub returns-in-Err-clause-refused : goal.returns-in-Err-clause-refused
returns-in-Err-clause-refused c =
    WrongOnly-map (IsLineFault c.args.options c.line_of.result.now) _ c.in-Err.error
    (λ fault wrong. inr (
      c.in-Some.start,
      sym (rw c.has_any.ensures at c.in-Some.ensures.first),
      rw (c.line_of.ensures, c.tail_of-words.ensures) at wrong,
    ))
    c.in-Err.ensures.refused
