use lib.Seq.{take-append_seam}
use Rattle.std.proofs.Common.{◌≡◌, ℕ, ◌-◌, ◌<◌, ◌==◌, false, List, [], ◌∷◌, ◌++◌, length, take, drop, refl, sym, ap}
use Rattle.std.proofs.Common.{◌∙◌, subst, arith, append_assoc, append-nil, length-append, take-append-drop}
use Rattle.std.specs.Io.KnownBytes.{Appends}
use Rattle.std.proofs.lemmas.List.{take_rest}
use Rattle.std.proofs.KnownBytes.{Appends-nil, Appends-kept, Appends-trans}
use Rattle.std.proofs.lemmas.Result.{err_from_is_err_and}
use Rattle.std.proofs.lemmas.Bool.{eqb-true}
use Rattle.virtiofs_output.proofs.emit.emit.Goals as goal

moves_front : (text done rest : List ℕ) (n : ℕ) → text ≡ done ++ rest
    → text ≡ (done ++ take n rest) ++ take (length rest - n) (drop n rest)
moves_front text done rest n e =
    e ∙ ap (λ l. done ++ l) (sym (take-append-drop n rest)) ∙ sym (append_assoc done (take n rest) (drop n rest))
    ∙ ap (λ l. (done ++ take n rest) ++ l) (sym (take_rest rest n))

lacks_rest : (text done rest : List ℕ) → text ≡ done ++ rest → false ≡ (length rest == 0) → length done < length text
lacks_rest text done [] split some = cc
lacks_rest text done (x ∷ rest) split some = rw split (omega (arith, length-append done (x ∷ rest)))

all_done : (text done rest : List ℕ) → text ≡ done ++ rest → length rest ≡ 0 → text ≡ done
all_done text done [] split empty = split ∙ append-nil done
all_done text done (x ∷ rest) split empty = absurd (omega arith)

pub loop-rest-preserved : goal.loop-rest-preserved
loop-rest-preserved g c =
    let (done, split, appended, sound) = c.loop-rest.invariant in
    let n = c.in_ok-taken.taken in (
      done ++ take n c.loop-rest.rest.now,
      moves_front _ done _ n split,
      Appends-trans _ _ _ _ _ appended c.in_ok-taken.ensures.taken,
      c.in_ok-taken.ensures.sound,
    )

pub loop-rest-init : goal.loop-rest-init
loop-rest-init g c = ([], refl, Appends-nil _, c.requires)

pub returns-in_err-taken-clause-front : goal.returns-in_err-taken-clause-front
returns-in_err-taken-clause-front g c =
    let p = err_from_is_err_and c.from_residual.result c.from_residual.ensures.1 in
    let (done, split, appended, sound) = c.loop-rest.invariant in
    rw p.1 (record {
      front = done;
      begins = ap (take (length done)) split ∙ take-append_seam done _;
      lacks = lacks_rest _ done _ split c.loop-rest-test.ensures;
      appended = Appends-kept _ _ _ _ appended c.in_err-taken.ensures.kept;
      failed = c.in_err-taken.ensures.fails;
    })

pub returns-clause-whole : goal.returns-clause-whole
returns-clause-whole g c =
    let (done, split, appended, sound) = c.loop-rest.invariant in
    let empty = eqb-true _ _ (sym c.loop-rest-test.ensures) in
    record { whole = subst (Appends _ _) (sym (all_done _ done _ split empty)) appended; sound = sound }
