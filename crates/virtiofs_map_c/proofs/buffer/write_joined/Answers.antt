use Rattle.std.proofs.Common.{◌≡◌, ◌++◌, ℕ, List, drop, length, refl, sym, arith}
use Rattle.std.proofs.lemmas.List.{append_assoc, drop-drop, length-append}
use Rattle.virtiofs_map_c.proofs.buffer.write_joined.Goals as goal

-- two rows and what is left of a third, one after the other
joined : (front rest out first second after left : List ℕ) → first ≡ front → second ≡ rest
    → after ≡ drop (length front) out → left ≡ drop (length rest) after
    → first ++ (second ++ left) ≡ (front ++ rest) ++ drop (length (front ++ rest)) out
joined front rest out first second after left a b c d = grind (arith, append_assoc, drop-drop, length-append)

pub returns : goal.returns
returns c = record {
  length_told = sym (length-append c.args.front.now c.args.rest.now);
  fits = λ within. (
    refl,
    joined c.args.front.now c.args.rest.now c.args.out.now _ _ _ _ c.copy_from_slice.ensures.after
        c.copy_from_slice-2.ensures.after c.split_at_mut-first.ensures.back c.split_at_mut-second.ensures.back,
  );
  does_not_fit = λ short. absurd (let l = length-append c.args.front.now c.args.rest.now in omega (arith, l, short));
}
