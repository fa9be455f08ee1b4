use Rattle.std.proofs.Common.{◌∙◌, sym, ap, ◌++◌, List, ℕ}
use Rattle.virtiofs_map.specs.declared.soft_idmap.entry.Direction.TheVariants.{GuestToHost, HostToGuest}
use Rattle.virtiofs_mapcheck.specs.Words.{query_front}
use Rattle.virtiofs_mapcheck.proofs.WordsLemmas.{Asks-unread}
use Rattle.virtiofs_mapcheck.proofs.words.read_query.Goals as goal

pub returns-in_default-number : goal.returns-in_default-number
returns-in_default-number c =
    let (n, found, rest, whole) = c.in-Some.ensures.cases in
    λ query. Asks-unread _ _ GuestToHost query
    (found.1 ∙ ap (λ (xs : List ℕ). query_front GuestToHost ++ xs) (sym rest)) c.in_default-number.ensures.refused

pub returns-in_default-number-2 : goal.returns-in_default-number-2
returns-in_default-number-2 c =
    let (n, found, rest, whole) = c.in_ok-numeral.ensures.cases in
    λ query. Asks-unread _ _ HostToGuest query
    (found.1 ∙ ap (λ (xs : List ℕ). query_front HostToGuest ++ xs) (sym rest)) c.in_default-number-2.ensures.refused
