use Rattle.std.proofs.lemmas.Bool.{ne_eqb}
use Rattle.virtiofs_acl.proofs.ways.Ways.becomes.Goals as goal

pub returns-then-tag-eq2 : goal.returns-then-tag-eq2
returns-then-tag-eq2 c =
    λ users groups of_users of_groups. rw c.if-tag-eq2.true (c.becomes.ensures users of_users)

pub returns-else-tag-eq2 : goal.returns-else-tag-eq2
returns-else-tag-eq2 c = λ users groups of_users of_groups.
    rw (ne_eqb c.args.tag 2 c.if-tag-eq2.false) (c.becomes-else-tag-eq2.ensures groups of_groups)
