use Rattle.std.proofs.Common.{refl, sym, ◌∙◌, arith}
use Rattle.virtiofs_id_audit.proofs.ImageLemmas.{counts-forbidden, counts-each, counts-one, counts-two}
use Rattle.virtiofs_id_audit.proofs.images.push_image.Goals as goal

pub returns-in_default : goal.returns-in_default
returns-in_default g c = λ specs low host accepted is up before.
    counts-forbidden specs c.args.piece low host c.args.images.now.items accepted is up before c.in_default.ensures

pub returns-then-is_one_to_one : goal.returns-then-is_one_to_one
returns-then-is_one_to_one g c = λ specs low host accepted is up before.
    rw c.in_ok-push.ensures.items
    (counts-each specs c.args.piece low host c.args.images.now.items accepted is up before c.in-Some.to
    c.min-last.result _ (sym c.is_one_to_one.ensures ∙ c.if-is_one_to_one.true) c.in-Some.ensures (omega arith)
    c.if-last-piece.false refl refl)

pub returns-in_ok-push-3 : goal.returns-in_ok-push-3
returns-in_ok-push-3 g c = λ specs low host accepted is up before.
    rw (c.in_ok-push-3.ensures.items, c.in_ok-push-2.ensures.items)
    (counts-two specs c.args.piece low host c.args.images.now.items accepted is up before c.in-Some.to _
    (sym c.is_one_to_one.ensures ∙ c.if-is_one_to_one.false) c.in-Some.ensures refl refl (omega arith))

pub returns-else-piece-last : goal.returns-else-piece-last
returns-else-piece-last g c = λ specs low host accepted is up before.
    rw c.in_ok-push-2.ensures.items
    (counts-one specs c.args.piece low host c.args.images.now.items accepted is up before c.in-Some.to _
    (sym c.is_one_to_one.ensures ∙ c.if-is_one_to_one.false) c.in-Some.ensures refl refl (omega arith) (omega arith))
