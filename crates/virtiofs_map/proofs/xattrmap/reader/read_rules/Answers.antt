use Rattle.std.proofs.Common.{length, inl, inr, ap, ◌∙◌, arith, rules, ◌+◌, length-append, chars}
use Rattle.std.proofs.lemmas.Str.{chars-nil}
use Rattle.virtiofs_map.specs.RuleParts.{as_written}
use Rattle.virtiofs_map.proofs.ReadSoFarLemmas.{start, opened, refused_at, not_out_of_memory, step, finish, nothing}
use Rattle.virtiofs_map.proofs.ReadSoFarLemmas.{rule_shorter}
use Rattle.virtiofs_map.proofs.xattrmap.MadeRuleLemmas.{head_is_map}
use Rattle.virtiofs_map.proofs.TrimLemmas.{chars-trim, skips}
use Rattle.virtiofs_map.proofs.xattrmap.RuleWordLemmas.{chars_empty, chars_nonempty}
use Rattle.virtiofs_map.proofs.xattrmap.reader.read_rules.Goals as goal

pub loop-number-init : goal.loop-number-init
loop-number-init g c = (
  c.trim-rest.utf8,
  start _ _ _ (ap chars c.trim-rest.ensures.trim ∙ chars-trim c.args.text.now c.utf8.text) c.in_ok-rules.ensures,
)

pub next_rule-requires : goal.next_rule-requires
next_rule-requires g c =
    opened _ _ _ _ c.loop-number.invariant.1
    (chars_nonempty _ c.loop-number.invariant.0 _ c.is_empty.ensures c.loop-number-test.true)

pub returns-in-Err-clause-refused : goal.returns-in-Err-clause-refused
returns-in-Err-clause-refused g c =
    let more = chars_nonempty _ c.loop-number.invariant.0 _ c.is_empty.ensures c.loop-number-test.true in
    elim c.in-Err.ensures.err [
      | inl memory ↦ rw (c.in_rule.ensures.cause, c.in_rule.ensures.memory memory, memory) tt
      | inr wrong ↦
          (rw (c.in_rule.ensures.cause, c.in_rule.ensures.rule (not_out_of_memory _ _ wrong))
          (refused_at _ _ _ _ _ _ c.loop-number.invariant.1 more
          (ap (λ n. n + 1) (c.len-number.ensures ∙ search rules)) wrong))
    ]

pub loop-number-smaller : goal.loop-number-smaller
loop-number-smaller g c =
    let skipped = skips _ _ c.trim_ascii_start-rest.utf8 c.trim_ascii_start-rest.ensures.value in
    omega (
      arith,
      rule_shorter _ _ _ c.in-Ok.ensures.ok,
      ap length skipped.spells,
      length-append skipped.blanks (chars c.trim_ascii_start-rest.result.now),
    )

pub loop-number-preserved : goal.loop-number-preserved
loop-number-preserved g c =
    let more = chars_nonempty _ c.loop-number.invariant.0 _ c.is_empty.ensures c.loop-number-test.true in
    let skipped = skips _ _ c.trim_ascii_start-rest.utf8 c.trim_ascii_start-rest.ensures.value in (
      c.trim_ascii_start-rest.utf8,
      step _ _ _ _ _ _ (as_written c.in-Ok.found.0) _ _ c.loop-number.invariant.1
          (ap (λ n. n + 1) (c.len-number.ensures ∙ search rules)) more c.in-Ok.ensures.ok
          (λ e. ap chars (c.in-Ok.ensures.last (head_is_map _ e)) ∙ chars-nil) skipped c.in_ok-rules-2.ensures,
    )

pub returns-then-number-eq0-clause-refused : goal.returns-then-number-eq0-clause-refused
returns-then-number-eq0-clause-refused g c =
    rw c.from.ensures
    (nothing _ _ _ _ c.loop-number.invariant.1 (chars_empty _ _ c.is_empty.ensures c.loop-number-test.false)
    c.if-number-eq0.true)

pub returns-clause-read : goal.returns-clause-read
returns-clause-read g c =
    let whole =
    finish _ _ _ _ c.loop-number.invariant.1 (chars_empty _ _ c.is_empty.ensures c.loop-number-test.false)
    c.if-number-eq0.false in
    whole.0

pub returns-clause-counted : goal.returns-clause-counted
returns-clause-counted g c =
    let whole =
    finish _ _ _ _ c.loop-number.invariant.1 (chars_empty _ _ c.is_empty.ensures c.loop-number-test.false)
    c.if-number-eq0.false in
    whole.1
