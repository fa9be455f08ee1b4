-- Which patterns begin a name and a front of it, and the first rule where rules fit two names alike.
use Rattle.std.proofs.Common.{◌≡◌, ℕ, zero, suc, ◌+◌, ◌≤◌, Bool, true, ◌&&◌, not, cond, eqb, List, [], ◌∷◌, ◌++◌}
use Rattle.std.proofs.Common.{length, take, drop, Contains, refl, sym, ap, ◌∙◌, add-one, arith}
use Rattle.std.specs.List.{position_or_len}
use Rattle.std.proofs.lemmas.List.{append_assoc, drop_at}
use Rattle.std.proofs.lemmas.List.Elements.{Contains-append_right}
use Rattle.std.proofs.Math.Seq.{take-append-add}
use Rattle.virtiofs_map.specs.FirstRule.{acts, pattern}
use Rattle.virtiofs_map.specs.Names.{begins, fits, first}
use Rattle.virtiofs_map.specs.Rule.{MappingRule}
use Rattle.virtiofs_map.specs.declared.xattrmap.scopes.Side.{Side}
use Rattle.virtiofs_map.proofs.BeginsLemmas.{begins_split, begins_from}

pub fits_is : (side : Side) (name : List ℕ) (rule : MappingRule)
    → fits side name rule ≡ (acts side rule && begins (pattern side rule) name)
fits_is side name rule = grind arith

-- a pattern no longer than a front begins the front where it begins the name
pub begins_front : (p name : List ℕ) (k : ℕ) → length p ≤ k → begins p (take k name) ≡ begins p name
begins_front [] name k l = refl
begins_front (x ∷ p) [] zero l = refl
begins_front (x ∷ p) [] (suc k) l = refl
begins_front (x ∷ p) (y ∷ name) zero l = absurd (omega arith)
begins_front (x ∷ p) (y ∷ name) (suc k) l = ap (λ b. eqb x y && b) (begins_front p name k (omega arith))

-- a path, and the byte after it
pub front_more : (path left name : List ℕ) (byte : ℕ) → name ≡ path ++ byte ∷ left
    → take (suc (length path)) name ≡ path ++ byte ∷ []
front_more path left name byte e =
    ap (λ n. take n name) (sym (add-one (length path))) ∙ ap (take (length path + 1)) e
    ∙ take-append-add path (byte ∷ left) 1

-- where a pattern goes on with a label and begins the name, the label begins what is left of the name
pub label_begins : (path label left name p : List ℕ) (byte : ℕ) → name ≡ path ++ byte ∷ left
    → begins (path ++ byte ∷ label) p ≡ true → begins p name ≡ true → begins label left ≡ true
label_begins path label left name p byte split goes_on fit =
    let more = drop (length (path ++ byte ∷ label)) p ++ drop (length p) name in
    let whole : name ≡ path ++ (byte ∷ (label ++ more)) =
    begins_split p name fit ∙ ap (λ row. row ++ drop (length p) name) (begins_split (path ++ byte ∷ label) p goes_on)
    ∙ append_assoc (path ++ byte ∷ label) (drop (length (path ++ byte ∷ label)) p) (drop (length p) name)
    ∙ append_assoc path (byte ∷ label) more in
    let both : byte ∷ left ≡ byte ∷ (label ++ more) = sym (drop_at path (byte ∷ left) (length path) refl)
    ∙ ap (drop (length path)) (sym split ∙ whole) ∙ drop_at path (byte ∷ (label ++ more)) (length path) refl in
    let tails : left ≡ label ++ more = cc in
    begins_from label left more tails

-- two tests that agree on the elements of a list pass first at one place
pub first_among : {X : Type 0} (p q : X → Bool) (xs : List X) → ((x : X) → Contains xs x → p x ≡ q x)
    → position_or_len p xs ≡ position_or_len q xs
first_among p q [] same = refl
first_among p q (x ∷ xs) same =
    ap (λ b. cond (not b) (1 + position_or_len p xs) 0) (same x (0, omega arith, refl))
    ∙ ap (λ n. cond (not (q x)) (1 + n) 0)
    (first_among p q xs (λ y inside. same y (Contains-append_right (x ∷ []) xs y inside)))

-- where the rules fit two names alike, the first of them is one
pub same_first : (side : Side) (rules : List MappingRule) (name other : List ℕ)
    → ((rule : MappingRule) → Contains rules rule → fits side name rule ≡ fits side other rule)
    → first side rules name ≡ first side rules other
same_first side rules name other same = grind (arith, first_among)
