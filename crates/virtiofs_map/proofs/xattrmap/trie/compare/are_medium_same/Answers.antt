use Rattle.std.proofs.Common.{ℕ, ◌-◌, length, ap, sym, ◌∙◌, arith}
use Rattle.std.proofs.Math.Facts.{Fits-lt-pow}
use Rattle.std.proofs.lemmas.Bool.Decides.{Decides-eqb}
use Rattle.virtiofs_map.specs.LeU64Parts.{le_u64_at}
use Rattle.virtiofs_map.proofs.xattrmap.trie.compare.SameBytesLemmas.{same_to_end, same_word}
use Rattle.virtiofs_map.proofs.xattrmap.trie.compare.are_medium_same.Goals as goal

pub returns-then-le_u64_at : goal.returns-then-le_u64_at
returns-then-le_u64_at c =
    let one = c.args.one.now in
    let other = c.args.other.now in
    let words = λ (k : ℕ). same_word one other k (λ i. Fits-lt-pow (c.type_inv.one i)) (λ i. Fits-lt-pow (c.type_inv.other i)) in (
      λ yes. same_to_end 8 8 one other c.requires.lengths c.requires.long c.requires.short
          (words 0 c.requires.long (omega (arith, c.requires.long, c.requires.lengths))
          (sym c.le_u64_at.ensures ∙ c.if-le_u64_at.true ∙ c.le_u64_at-2.ensures))
          (words (length one - 8) (omega (arith, c.requires.long)) (omega (arith, c.requires.long, c.requires.lengths))
          (sym c.le_u64_at-then-le_u64_at.ensures ∙ (Decides-eqb _ _).0 yes ∙ c.le_u64_at-then-le_u64_at-2.ensures)),
      λ same. (Decides-eqb _ _).1 (
          c.le_u64_at-then-le_u64_at.ensures ∙ ap (λ l. le_u64_at l (length one - 8)) same
          ∙ sym c.le_u64_at-then-le_u64_at-2.ensures),
    )
