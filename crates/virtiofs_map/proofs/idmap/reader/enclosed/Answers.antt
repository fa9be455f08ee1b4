use Rattle.std.proofs.Common.{sym, ◌∙◌, inl, rules}
use Rattle.virtiofs_map.proofs.NamespaceLemmas.{IsBeforeLast-here, chars-empty, InvalidDelimiter-letter}
use Rattle.virtiofs_map.proofs.NamespaceLemmas.{InvalidDelimiter-first, HasFields-here, same_option, other_option}
use Rattle.virtiofs_map.proofs.idmap.reader.enclosed.Goals as goal

pub returns-in_default-clause-refused : goal.returns-in_default-clause-refused
returns-in_default-clause-refused c =
    inl (rw (← c.chars-characters.ensures.rest) (chars-empty _ c.in_default.ensures.steps.0))

pub returns-then-is_alphanumeric-clause-refused : goal.returns-then-is_alphanumeric-clause-refused
returns-then-is_alphanumeric-clause-refused c =
    let last = c.in-Some.ensures.steps in
    let before = IsBeforeLast-here _ _ _ c.utf8.text (search rules) (sym c.chars-characters.ensures.rest ∙ last) in
    InvalidDelimiter-letter _ _ _ before (sym c.is_alphanumeric.ensures ∙ c.if-is_alphanumeric.true)

pub returns-then-ne-clause-refused : goal.returns-then-ne-clause-refused
returns-then-ne-clause-refused c =
    let last = c.in-Some.ensures.steps in
    let before = IsBeforeLast-here _ _ _ c.utf8.text (search rules) (sym c.chars-characters.ensures.rest ∙ last) in
    let first = c.next.ensures.steps in
    InvalidDelimiter-first _ _ _ before (λ same. other_option _ _ (sym c.ne.ensures ∙ c.if-ne.true) (first.2 ∙ same))

pub returns-clause-found : goal.returns-clause-found
returns-clause-found c =
    let last = c.in-Some.ensures.steps in
    let before = IsBeforeLast-here _ _ _ c.utf8.text (search rules) (sym c.chars-characters.ensures.rest ∙ last) in
    let same = same_option c.next.result c.in-Some.delimiter (sym c.ne.ensures ∙ c.if-ne.false) in
    let begins = rw same at c.next.ensures.steps.0 in
    rw c.as_str.ensures
    (HasFields-here _ _ _ _ before (sym c.is_alphanumeric.ensures ∙ c.if-is_alphanumeric.false) begins)
