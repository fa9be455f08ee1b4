-- `grants` and `takes_back` at a call: what they are handed, and what a caller has of it. Assumes `Logic`.
use Rattle.std.proofs.Common.{◌≡◌, ℕ, List, [], ◌∷◌, refl, ap}
use mathlib.Core.Bool.{Bool}
use seplogic.Ra.Ura.{Ura}
use mir.Val.{Val, vunit, vbool, vptr}
use base.Logic.{SProp, ent, ex, sep, guard, id⊢}
use base.Fml.{Lft, Share, ftrue, fsep, flft}
use prog.Memory.{Memory}
use prog.Routine.{Routine}
use types.Logic.{Logic, sem}
use contract.Monad.{Fun}
use types.Kit.{‵, ◌⊛◌, some, later, ◌$◌, ◌∵◌, !, qed, move, keep, use1, split, join, pick, fjoin, feq_i, feq_l, check}
use types.Kit.{show, await, updating, now as at_once, done}
use denote.RattleType.{RattleType}
use denote.Memory.{hidden_shr}
use denote.Builtin.{bool, unit}
use denote.Steps.{nothing, only}
use denote.Triple.Statement.{Contract}
use denote.Triple.Spec.{triple_of}
use Rattle.std.specs.contracts.cell.Cell as CE
use Rattle.rationed.specs.contracts.Book as BK
use Rattle.rationed.specs.contracts.grants as GR
use Rattle.rationed.specs.contracts.takes_back as TB

abbrev pub Books : RattleType
Books = CE.the_row BK.the_row

module _ {M : Type 1} {𝓤 : Ura M} (𝓛 : Logic 𝓤) (at_mem : Memory → SProp 𝓤) (run : Routine → Fun 𝓤) where
  abbrev pub Grants : Contract 𝓤
  Grants = triple_of 𝓛 GR.signature (GR.spec 𝓛 at_mem run)

  abbrev pub at_grants : Lft → Share → ℕ × ℕ → Grants.Ghost
  at_grants κ q c =
      (((κ, tt), (q, tt), tt, (record { ref_ptr = c; now = record { value = tt } }, tt), (vptr c.0 c.1 ∷ [], tt)), tt)

  abbrev pub TakesBack : Contract 𝓤
  TakesBack = triple_of 𝓛 TB.signature (TB.spec 𝓛 at_mem run)

  abbrev pub at_takes_back : Lft → Share → ℕ × ℕ → TakesBack.Ghost
  at_takes_back κ q c =
      (((κ, tt), (q, tt), tt, (record { ref_ptr = c; now = record { value = tt } }, tt), (vptr c.0 c.1 ∷ [], tt)), tt)

module _ {M : Type 1} {𝓤 : Ura M} (𝓛 : Logic 𝓤) (at_mem : Memory → SProp 𝓤) (run : Routine → Fun 𝓤) (κ : Lft)
    (q : Share) (c : ℕ × ℕ) where
  open 𝓛 use {H, A}

  pub Grants-goes : ent 𝓤 (sep 𝓤 (sem 𝓛 (hidden_shr Books κ (record { value = tt }) c.0 c.1)) (A.lft κ q))
      ((Grants 𝓛 at_mem run).pre (at_grants 𝓛 at_mem run κ q c))
  Grants-goes =
      qed 𝓛 (‵ (hidden_shr Books κ (record { value = tt }) c.0 c.1) ∷ ‵ (flft κ q) ∷ []) ∵
      feq_i ! (List Val) (vptr c.0 c.1 ∷ []) (vptr c.0 c.1 ∷ []) refl $ fjoin ! $
      nothing ! $ move ! (1 ∷ []) $ fjoin ! $ nothing ! $ move ! (2 ∷ []) $ join ! $ join ! $ nothing ! $
      move ! (1 ∷ []) $ done !

  pub Grants-gives : (v : Val)
      → ent 𝓤 ((Grants 𝓛 at_mem run).post (at_grants 𝓛 at_mem run κ q c) v)
      (H.⇛ (ex 𝓤 (λ (t : Bool). guard 𝓤 (v ≡ vbool t) (A.lft κ q))))
  Grants-gives v =
      qed 𝓛 (types.Kit.raw ((Grants 𝓛 at_mem run).post (at_grants 𝓛 at_mem run κ q c) v) ∷ []) ∵ updating ! $
      use1 𝓛 (later
      (some (λ (r : Bool). ((‵ (flft κ q) ⊛ ‵ ftrue) ⊛ ‵ (bool.own_val r (v ∷ []))) ⊛ some
      (λ (ws : Unit {0} × Unit {0}). ‵ (fsep ftrue ftrue) ⊛ ‵ ftrue)))) (id⊢ 𝓤 _) $ await ! tt $ pick ! (λ r.
      split ! $ split ! $ move ! (1 ∷ []) $ feq_l ! (λ e. split ! $ at_once ! $
      show ! (λ (t : Bool). guard 𝓤 (v ≡ vbool t) (A.lft κ q)) r $ check ! (ap only e) $ keep ! (0 ∷ []) $ done !))

  pub TakesBack-goes : ent 𝓤 (sep 𝓤 (sem 𝓛 (hidden_shr Books κ (record { value = tt }) c.0 c.1)) (A.lft κ q))
      ((TakesBack 𝓛 at_mem run).pre (at_takes_back 𝓛 at_mem run κ q c))
  TakesBack-goes =
      qed 𝓛 (‵ (hidden_shr Books κ (record { value = tt }) c.0 c.1) ∷ ‵ (flft κ q) ∷ []) ∵
      feq_i ! (List Val) (vptr c.0 c.1 ∷ []) (vptr c.0 c.1 ∷ []) refl $ fjoin ! $
      nothing ! $ move ! (1 ∷ []) $ fjoin ! $ nothing ! $ move ! (2 ∷ []) $ join ! $ join ! $ nothing ! $
      move ! (1 ∷ []) $ done !

  pub TakesBack-gives : (v : Val)
      → ent 𝓤 ((TakesBack 𝓛 at_mem run).post (at_takes_back 𝓛 at_mem run κ q c) v)
      (H.⇛ (guard 𝓤 (v ≡ vunit) (A.lft κ q)))
  TakesBack-gives v =
      qed 𝓛 (types.Kit.raw ((TakesBack 𝓛 at_mem run).post (at_takes_back 𝓛 at_mem run κ q c) v) ∷ []) ∵ updating ! $
      use1 𝓛 (later
      (some (λ (r : Unit {0}). ((‵ (flft κ q) ⊛ ‵ ftrue) ⊛ ‵ (unit.own_val r (v ∷ []))) ⊛ some
      (λ (ws : Unit {0} × Unit {0}). ‵ (fsep ftrue ftrue) ⊛ ‵ ftrue)))) (id⊢ 𝓤 _) $ await ! tt $ pick ! (λ r.
      split ! $ split ! $ move ! (1 ∷ []) $
      feq_l ! (λ e. split ! $ at_once ! $ check ! (ap only e) $ keep ! (0 ∷ []) $ done !))
