use Rattle.std.proofs.Common.{sym, ◌∙◌}
use Rattle.std.proofs.Math.Facts.{Fits-lt-pow}
use Rattle.std.proofs.lemmas.Bool.Decides.{Decides-eqb}
use Rattle.virtiofs_map.proofs.xattrmap.trie.compare.SameBytesLemmas.{first_of_sixteen, same_sixteen, second_of_sixteen}
use Rattle.virtiofs_map.proofs.xattrmap.trie.compare.are_same_there.Goals as goal

pub returns-then-le_u64_at : goal.returns-then-le_u64_at
returns-then-le_u64_at c = (
  λ yes. same_sixteen c.args.one.now c.args.other.now c.args.from (λ k. Fits-lt-pow (c.type_inv.one k)) (λ k. Fits-lt-pow (c.type_inv.other k)) c.requires.one c.requires.other
      (sym c.le_u64_at.ensures ∙ c.if-le_u64_at.true ∙ c.le_u64_at-2.ensures)
      (sym c.le_u64_at-then-le_u64_at.ensures ∙ (Decides-eqb _ _).0 yes ∙ c.le_u64_at-then-le_u64_at-2.ensures),
  λ same. (Decides-eqb _ _).1 (
      c.le_u64_at-then-le_u64_at.ensures ∙ second_of_sixteen c.args.one.now c.args.other.now c.args.from same
      ∙ sym c.le_u64_at-then-le_u64_at-2.ensures),
)

pub returns-else-le_u64_at : goal.returns-else-le_u64_at
returns-else-le_u64_at c = (
  λ yes. absurd (c.if-le_u64_at.false ((Decides-eqb _ _).0 yes)),
  λ same. absurd (c.if-le_u64_at.false (
      c.le_u64_at.ensures ∙ first_of_sixteen c.args.one.now c.args.other.now c.args.from same ∙ sym c.le_u64_at-2.ensures)),
)
