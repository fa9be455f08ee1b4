use Rattle.std.proofs.Common.{◌≡◌, inr, subst, ap, ◌∙◌, rules, chars}
use Rattle.std.proofs.lemmas.Result.{err_from_is_err_and}
use Rattle.std.proofs.lemmas.Str.{chars-nil}
use Rattle.virtiofs_map.specs.RuleParts.{head_of, as_written, IsOpened}
use Rattle.virtiofs_map.specs.RuleText as texts
use Rattle.virtiofs_map.specs.declared.xattrmap.reader.Head.TheVariants.{Map}
use Rattle.virtiofs_map.proofs.RuleFieldLemmas.{opens_at, empty_is_not_opened, fault_from}
use Rattle.virtiofs_map.proofs.xattrmap.RuleWordLemmas.{chars_nonempty}
use Rattle.virtiofs_map.proofs.xattrmap.reader.next_rule.Goals as goal

pub returns-in_default-clause-err : goal.returns-in_default-clause-err
returns-in_default-clause-err g c =
    absurd (empty_is_not_opened (subst IsOpened (ap chars c.in_default.ensures.none ∙ chars-nil) c.requires))

pub returns-in_err-rule-clause-err : goal.returns-in_err-rule-clause-err
returns-in_err-rule-clause-err g c =
    let p = err_from_is_err_and c.from_residual.result c.from_residual.ensures.1 in
    rw (p.1, p.2) (fault_from _ _ _ _ _ c.requires c.in-Some.ensures.found c.in_err-rule.ensures.err)

pub returns-then-not-is_empty-clause-err : goal.returns-then-not-is_empty-clause-err
returns-then-not-is_empty-clause-err g c =
    let is_map : head_of c.in_ok-rule.rule.head ≡ texts.Map = let e : c.in_ok-rule.rule.head ≡ Map = search rules in
    ap head_of e in
    inr (
      c.in-Some.delimiter,
      chars c.in-Some.body.now,
      opens_at _ _ _ c.requires c.in-Some.ensures.found,
      (
        as_written c.in_ok-rule.rule,
        chars c.in_ok-rule.after.now,
        is_map,
        c.in_ok-rule.ensures.ok,
        c.in_ok-rule.ensures.no_nul,
        chars_nonempty _ c.in_ok-rule.ensures.text.2 _ c.is_empty.ensures c.if-not-is_empty.true,
      ),
    )
