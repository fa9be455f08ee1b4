use Rattle.std.proofs.Common.{◌≡◌, ◌+◌, length, inl, inr, sym, ap, ◌∙◌, arith}
use Rattle.std.proofs.lemmas.Bool.{cases_lt}
use Rattle.virtiofs_map.specs.TrieBuildParts.{text, IsInside}
use Rattle.virtiofs_map.specs.declared.xattrmap.trie.patterns.Pattern.{Pattern}
use Rattle.virtiofs_map.proofs.xattrmap.trie.build.PatternOrderLemmas.{IsLeast-more, IsLeast-same}
use Rattle.virtiofs_map.proofs.xattrmap.trie.build.TrieBuildLemmas.{IsMet, least_ended}
use Rattle.virtiofs_map.proofs.xattrmap.trie.build.ended.Goals as goal

pub loop-at-init : goal.loop-at-init
loop-at-init c = record {
  ended = λ i from upto. absurd (omega arith);
  least = IsLeast-same c.args.patterns.now (IsInside c.args.patterns.now c.args.range)
      (IsMet c.args.patterns.now c.args.range c.args.range.low) c.args.range.answer c.requires.range.least
      (λ i inside. inl inside) (λ i either. grind arith);
}

pub loop-at-preserved : goal.loop-at-preserved
loop-at-preserved c =
    let at = c.loop-at.at in
    let range = c.args.range in
    let patterns = c.args.patterns.now in
    record {
      ended = λ i from upto. elim (cases_lt i at) [
        | inl b ↦ c.loop-at.invariant.ended i from b
        | inr g ↦
            (let same : i ≡ at = omega (arith, g) in
            ap (λ n. length (text patterns n)) same ∙ sym (ap (λ (p : Pattern). length p.bytes.now) c.pattern_at-pattern.ensures) ∙ omega arith)
      ];
      least = IsLeast-more patterns (IsMet patterns range at) (IsMet patterns range (at + 1)) at c.loop-at.answer
          c.min-answer.result c.loop-at.invariant.least (omega (arith, c.min-answer.ensures, ap (λ (p : Pattern). p.answer) c.pattern_at-pattern.ensures))
          (λ i either. grind arith) (inr (omega arith, omega arith)) (λ i either. grind (arith, cases_lt));
    }

pub returns-then-pattern-range-clause-on : goal.returns-then-pattern-range-clause-on
returns-then-pattern-range-clause-on c = λ more. record {
  low = omega arith;
  some = more;
  ended = c.loop-at.invariant.ended;
  longer = omega (arith, c.requires.range.long c.loop-at.at (omega arith) more, ap (λ (p : Pattern). length p.bytes.now) c.pattern_at-pattern.ensures);
}

pub returns-then-pattern-range-clause-least : goal.returns-then-pattern-range-clause-least
returns-then-pattern-range-clause-least c =
    least_ended c.requires.ready c.requires.range c.loop-at.at c.loop-at.answer (omega arith) c.loop-at.invariant.ended
    (returns-then-pattern-range-clause-on c) c.loop-at.invariant.least

pub returns-clause-least : goal.returns-clause-least
returns-clause-least c =
    least_ended c.requires.ready c.requires.range c.loop-at.at c.loop-at.answer (omega arith) c.loop-at.invariant.ended
    (λ more. absurd (omega arith)) c.loop-at.invariant.least
