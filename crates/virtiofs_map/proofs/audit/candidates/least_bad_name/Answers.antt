use Rattle.std.proofs.Common.{sym, ◌∙◌, ap, subst, List}
use Rattle.std.specs.List.Sorted.{IsPermutation}
use Rattle.virtiofs_map.specs.AuditParts.{AllTried, IsAskedOf, IsBad, IsTried, ends_of, none_tried, side_of, parts}
use Rattle.virtiofs_map.specs.Rule.{MappingRule}
use Rattle.virtiofs_map.specs.Steps.{count_after}
use Rattle.virtiofs_map.specs.declared.audit.gathered.Part.TheVariants.{Pattern, Added}
use Rattle.virtiofs_map.proofs.audit.AuditFaultLemmas.{shortens}
use Rattle.virtiofs_map.proofs.audit.AuditGatheredLemmas.{AreGathered, tries_all, few_lost, counts_between}
use Rattle.virtiofs_map.proofs.audit.AuditLeastLemmas.{answers_least}
use Rattle.virtiofs_map.proofs.audit.candidates.least_bad_name.Goals as goal

pub returns : goal.returns
returns g c =
    let question = c.args.question.now in
    let fault = question.fault in
    let beginning = question.beginning.bytes.now in
    let patterns = c.deref.result.now in
    let fronts = c.deref-2.result.now in
    let ends = c.deref-3.result.now in
    let end = c.try_one_byte_names.new.tried in
    let tries : AllTried question (λ rules. IsTried (side_of fault) rules beginning patterns fronts ends) _ none_tried
    end =
    λ rules others asked.
    tries_all (side_of fault) rules patterns fronts ends c.new-tried.ensures (c.in_ok-look_at.ensures.tried rules others asked)
    (c.in_ok-try_wholes.ensures rules others asked) (c.in_ok-try_led.ensures rules others asked)
    (c.in_ok-try_one_byte_names.ensures.tried rules others asked) in
    let are : (rules others : List MappingRule) → IsAskedOf question rules others
    → AreGathered (side_of fault) rules (ends_of fault rules others) patterns fronts ends =
    λ rules others asked. record {
      are_patterns = subst (λ side. IsPermutation (parts (Pattern side) rules) patterns) c.side.ensures
          (subst (IsPermutation _) (sym c.deref.ensures.value) (c.in_ok-patterns.ensures.parts rules asked.map));
      are_fronts = subst (λ side. IsPermutation (parts (Added side) rules) fronts) c.side-2.ensures
          (subst (IsPermutation _) (sym c.deref-2.ensures.value) (c.in_ok-fronts.ensures.parts rules asked.map));
      are_ends = subst (IsPermutation _) (sym c.deref-3.ensures.value) (c.in_ok-ends.ensures.parts rules others asked);
    } in
    record {
      answer = λ rules others asked.
          answers_least (IsBad question rules others)
          (IsTried (side_of fault) rules beginning patterns fronts ends) _ end c.into_answer.result
          (tries rules others asked)
          (shortens rules others beginning patterns fronts ends asked.map.no_zero fault (are rules others asked))
          c.into_answer.ensures;
      counted = λ rules others asked lost.
          counts_between (tries rules others asked)
          (few_lost rules patterns fronts ends
          (subst (λ f. AreGathered (side_of f) rules (ends_of f rules others) patterns fronts ends) lost
          (are rules others asked)))
          c.in_ok-try_one_byte_names.ensures.counted
          (c.add.ensures ∙ ap (count_after c.args.steps.now) c.steps.ensures);
      uncounted = tt;
    }
