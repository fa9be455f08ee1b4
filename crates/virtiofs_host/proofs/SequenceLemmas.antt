-- Texts that are values, one after another.
use Rattle.std.proofs.Common.{◌≡◌, ◌==◌, ℕ, List, [], ◌∷◌, ◌++◌, length, true, false, refl, sym, ◌∙◌, subst, arith}
use Rattle.std.proofs.lemmas.Bool.Decides.{nat_tests}
use Rattle.std.proofs.lemmas.List.{nil_from_length}
use Rattle.virtiofs_host.specs.Sequence.{ThenRest, AreAll, StopsAfter}

-- one value more
pub ThenRest-more : {V : Type 0} (Begins : List ℕ → V → List ℕ → Type 0) (text : List ℕ) (values : List V)
    (rest : List ℕ) (value : V) (after : List ℕ) → ThenRest Begins text values rest → Begins rest value after
    → ThenRest Begins text (values ++ value ∷ []) after
ThenRest-more Begins text [] rest value after same begins = grind arith
ThenRest-more Begins text (first ∷ values) rest value after (next, here, there) begins =
    (next, here, ThenRest-more Begins next values rest value after there begins)

-- no value begins the empty text, and a text begins with at most one
pub record IsRead {V : Type 0} (Begins : List ℕ → V → List ℕ → Type 0) : Type 0 where
  pub some : (value : V) (rest : List ℕ) → Begins [] value rest → ⊥
  pub one : (text : List ℕ) (v w : V) (a b : List ℕ) → Begins text v a → Begins text w b → (v ≡ w) × (a ≡ b)

-- no value begins the text
abbrev pub IsStuck : {V : Type 0} → (List ℕ → V → List ℕ → Type 0) → List ℕ → Type 0
IsStuck {V} Begins text = (value : V) (after : List ℕ) → Begins text value after → ⊥

-- so only one row of values leads to where no further one stands
pub stuck_once : {V : Type 0} (Begins : List ℕ → V → List ℕ → Type 0) → IsRead Begins → (text : List ℕ) (vs ws : List V)
    (a b : List ℕ) → ThenRest Begins text vs a → ThenRest Begins text ws b → IsStuck Begins a → IsStuck Begins b
    → (vs ≡ ws) × (a ≡ b)
stuck_once Begins read text [] [] a b first second left right = (refl, sym first ∙ second)
stuck_once Begins read text [] (w ∷ ws) a b first (after, here, there) left right = grind arith
stuck_once Begins read text (v ∷ vs) [] a b (after, here, there) second left right = grind arith
stuck_once {V} Begins read text (v ∷ vs) (w ∷ ws) a b (after, here, there) (later, also, thence) left right =
    let same = read.one text v w after later here also in
    let moved : ThenRest Begins later vs a = subst (λ (it : List ℕ). ThenRest Begins it vs a) same.1 there in
    let others = stuck_once Begins read later vs ws a b moved thence left right in
    (cons_same v w vs ws same.0 others.0, others.1)
  where
    cons_same : (v w : V) (vs ws : List V) → v ≡ w → vs ≡ ws → v ∷ vs ≡ w ∷ ws
    cons_same v w vs ws first rest = cc

-- and then nothing in it is wrong
pub AreAll-not_wrong : {V : Type 0} (Begins : List ℕ → V → List ℕ → Type 0) → IsRead Begins → (text : List ℕ)
    (vs : List V) (place : ℕ) → AreAll Begins text vs → StopsAfter Begins text place → ⊥
AreAll-not_wrong Begins read text vs place all stops = grind (arith, stuck_once)

-- one place is the first that is wrong
pub StopsAfter-one : {V : Type 0} (Begins : List ℕ → V → List ℕ → Type 0) → IsRead Begins → (text : List ℕ) (i j : ℕ)
    → StopsAfter Begins text i → StopsAfter Begins text j → i ≡ j
StopsAfter-one Begins read text i j first second = grind (arith, stuck_once)

-- no value begins what is left
pub stops_here : {V : Type 0} (Begins : List ℕ → V → List ℕ → Type 0) (text : List ℕ) (values : List V)
    (rest : List ℕ) (place : ℕ) → ThenRest Begins text values rest → length values ≡ place
    → false ≡ (length rest == 0) → IsStuck Begins rest → StopsAfter Begins text place
stops_here Begins text values rest place before counted some wrong = grind arith

-- nothing is left
pub all_here : {V : Type 0} (Begins : List ℕ → V → List ℕ → Type 0) (text : List ℕ) (values : List V) (rest : List ℕ)
    → ThenRest Begins text values rest → true ≡ (length rest == 0) → AreAll Begins text values
all_here Begins text values rest before none = grind (arith, nil_from_length, nat_tests)

-- values that are read one after another
pub ruleset read_all = (ThenRest-more, all_here, stuck_once)
