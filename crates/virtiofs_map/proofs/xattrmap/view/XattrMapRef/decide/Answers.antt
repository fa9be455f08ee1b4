use Rattle.std.proofs.Common.{◌∙◌}
use Rattle.std.specs.List.{before_first}
use Rattle.virtiofs_map.proofs.ServerListLemmas.{is_zero}
use Rattle.virtiofs_map.proofs.xattrmap.FirstNameLemmas.{answer_of_list}
use Rattle.virtiofs_map.proofs.xattrmap.view.XattrMapRef.decide.Goals as goal

pub returns-clause-says : goal.returns-clause-says
returns-clause-says c = λ rules is.
    c.decode.ensures c.args.side rules c.args.name.now is
    (c.look_up-answer.ensures.passes c.args.side rules _ _ _ (c.trie.ensures rules is)).answers

pub returns-clause-before_zero : goal.returns-clause-before_zero
returns-clause-before_zero c = λ rules is.
    (let passes = c.look_up-answer.ensures.passes c.args.side rules _ _ _ (c.trie.ensures rules is) in
    c.decode.ensures c.args.side rules (before_first is_zero c.args.name.now) is
    (passes.answers ∙ answer_of_list c.args.side rules c.args.name.now is.no_zero))
