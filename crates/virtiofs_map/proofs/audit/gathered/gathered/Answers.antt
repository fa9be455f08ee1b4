use Rattle.std.proofs.Common.{◌≡◌, List, [], ℕ, ◌++◌, append-nil, sym, ap, subst, ◌∙◌, arith, rules}
use Rattle.std.specs.Cmp.Lexicographic.{slice_cmp, nat_list_cmp_total}
use Rattle.std.specs.Ordering.{nat_cmp, is_lt}
use Rattle.std.proofs.lemmas.List.Sorted.{ranks_by, answers_always}
use Rattle.std.proofs.lemmas.List.{drop_all}
use Rattle.std.specs.List.{cons_option, filter_map}
use Rattle.std.specs.List.Sorted.{IsPermutation}
use Rattle.virtiofs_map.specs.AuditParts.{part_of}
use Rattle.virtiofs_map.specs.RuleParts.{rule_meant}
use Rattle.virtiofs_map.proofs.AuditAddedLemmas.{none_is}
use Rattle.virtiofs_map.proofs.RuleRowLemmas.{there}
use Rattle.virtiofs_map.proofs.audit.AuditGatheredLemmas.{bytes_left, bytes_within, gathered_more}
use Rattle.virtiofs_map.proofs.audit.gathered.gathered.Goals as goal

pub loop-place-init : goal.loop-place-init
loop-place-init g c = λ rules is. (
  ap (λ (names : List (List ℕ)). names ++ filter_map (part_of c.args.part) rules) c.new-names.ensures.items,
  bytes_within rules c.args.map.bytes.now is,
)

pub loop-place-preserved : goal.loop-place-preserved
loop-place-preserved g c = λ rules is.
    let here = c.in-Some.ensures rules is in
    let so_far = c.loop-place.invariant rules is in
    let left = bytes_left rules c.loop-place.place (rule_meant c.in-Some.rule) here in (
      gathered_more (part_of c.args.part) rules c.loop-place.place (rule_meant c.in-Some.rule)
          c.loop-place.names.items is.no_zero here so_far.0 c.in_ok-name.ensures
          (c.in_ok-push.ensures.items ∙ ap (λ o. c.loop-place.names.items ++ cons_option o []) (sym c.in-Some-2.is)),
      omega (arith, so_far.1),
    )

pub loop-place-preserved-in_default : goal.loop-place-preserved-in_default
loop-place-preserved-in_default g c = λ rules is.
    (let here = there rules c.loop-place.place (omega (arith, c.len-place-end.ensures rules is)) in
    let none = c.in_default.ensures rules is in
    absurd (cc (here.1, none)))

pub loop-place-preserved-then-count-left : goal.loop-place-preserved-then-count-left
loop-place-preserved-then-count-left g c = λ rules is.
    (let left = bytes_left rules c.loop-place.place (rule_meant c.in-Some.rule) (c.in-Some.ensures rules is) in
    absurd (omega (arith, (c.loop-place.invariant rules is).1)))

pub loop-place-preserved-in_default-2 : goal.loop-place-preserved-in_default-2
loop-place-preserved-in_default-2 g c = λ rules is.
    let here = c.in-Some.ensures rules is in
    let so_far = c.loop-place.invariant rules is in
    let names = c.loop-place.names.items in
    let left = bytes_left rules c.loop-place.place (rule_meant c.in-Some.rule) here in (
      gathered_more (part_of c.args.part) rules c.loop-place.place (rule_meant c.in-Some.rule) names is.no_zero here so_far.0
          c.in_ok-name.ensures
          (sym (append-nil names)
          ∙ ap (λ o. names ++ cons_option o []) (sym (none_is c.in_ok-name.field-0 c.in_default-2.not-Some))),
      omega (arith, so_far.1),
    )

pub returns-clause-parts : goal.returns-clause-parts
returns-clause-parts g c = λ rules is.
    let f = part_of c.args.part in
    let names = c.loop-place.names.items in
    let behind =
    drop_all c.loop-place.place rules (omega (arith, c.len-place-end.ensures rules is, c.loop-place-test.false)) in
    let whole : names ≡ filter_map f rules = sym (append-nil names) ∙ ap (λ l. names ++ filter_map f l) (sym behind)
    ∙ (c.loop-place.invariant rules is).0 in
    subst (λ (l : List (List ℕ)). IsPermutation l c.sort_unstable_by.new.self.items) whole
    c.sort_unstable_by.ensures.permutation

pub returns-clause-ordered : goal.returns-clause-ordered
returns-clause-ordered g c =
    c.sort_unstable_by.ensures.sorted (λ (a b : List ℕ). is_lt (slice_cmp nat_cmp a b))
    (ranks_by nat_list_cmp_total (λ (a : List ℕ). a)) (answers_always _ _ _ (λ f a r q k. search rules))
