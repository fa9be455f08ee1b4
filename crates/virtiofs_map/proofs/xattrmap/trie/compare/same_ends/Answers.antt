use Rattle.std.proofs.Common.{◌≡◌, ◌-◌, take, drop, length, ap, sym, ◌∙◌, arith}
use Rattle.std.proofs.lemmas.Bool.Decides.{Decides-eqb}
use Rattle.std.proofs.lemmas.Slice.Eq.{slice_eq-Decides}
use Rattle.virtiofs_map.proofs.xattrmap.trie.compare.SameBytesLemmas.{same_to_end}
use Rattle.virtiofs_map.proofs.xattrmap.trie.compare.same_ends.Goals as goal

pub returns-then-eq : goal.returns-then-eq
returns-then-eq g c =
    let n = g.row.N in
    let one = c.args.one.now in
    let other = c.args.other.now in
    let first : c.in-Some-Some.first.now ≡ take n one = c.in-Some-Some.ensures.cases.same in
    let last : c.in-Some-Some.last.now ≡ drop (length one - n) one = c.in-Some-Some.ensures'.cases.1.same in
    let other_first : c.in-Some-Some-2.other_first.now ≡ take n other = c.in-Some-Some-2.ensures.cases.same in
    let other_last : c.in-Some-Some-2.other_last.now ≡ drop (length other - n) other =
    c.in-Some-Some-2.ensures'.cases.1.same in
    let firsts = (slice_eq-Decides Decides-eqb _ _ _ c.eq.ensures).0 c.if-eq.true in
    let lasts = slice_eq-Decides Decides-eqb _ _ _ c.eq-then-eq.ensures in (
      λ same. same_to_end n n one other c.requires.lengths c.requires.long (omega (arith, c.requires.short))
          (sym first ∙ firsts ∙ other_first)
          (ap (take n) (sym last ∙ lasts.0 same ∙ other_last ∙ ap (λ k. drop (k - n) other) (sym c.requires.lengths))),
      λ same. lasts.1 (last ∙ ap (λ row. drop (length row - n) row) same ∙ sym other_last),
    )
