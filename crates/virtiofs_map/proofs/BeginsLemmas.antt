-- A row of bytes that begins a name, and the first rule that fits a name.
use Rattle.std.proofs.Common.{◌≡◌, ℕ, Bool, cond, ltb, List, length, Some, None, refl, sym, ◌∙◌, ◌≤◌, true, [], ◌∷◌}
use Rattle.std.proofs.Common.{◌++◌, drop, ap, append_assoc, append-nil, arith}
use Rattle.std.specs.List.{slice_get, find}
use Rattle.std.specs.Option.{option_and_then}
use Rattle.std.proofs.lemmas.List.Folds.{find_at}
use Rattle.std.proofs.lemmas.Bool.{cond_both, ltb-false, and_parts}
use Rattle.std.proofs.lemmas.Option.{slice_get_past}
use Rattle.virtiofs_map.specs.Rule.{MappingRule}
use Rattle.virtiofs_map.specs.declared.xattrmap.scopes.Side.{Side}
use Rattle.virtiofs_map.specs.Names.{fits, deciding, begins}
use Rattle.std.proofs.lemmas.Bool.Decides.{Decides-eqb}
use Rattle.std.proofs.lemmas.Slice.Eq.{starts_is}
use Rattle.std.proofs.lemmas.List.Prefix.{front_fits}
use Rattle.virtiofs_map.specs.declared.xattrmap.scopes.Side.TheVariants.{Server}

-- the element at a place, where past the end is no place
within : {X : Type 0} (xs : List X) (i : ℕ)
    → option_and_then (slice_get xs) (cond (ltb i (length xs)) (Some i) None) ≡ slice_get xs i
within xs i = grind (arith, cond_both, slice_get_past, ltb-false)

-- the rule at the first place that passes is the first rule that passes
pub deciding-find : (side : Side) (rules : List MappingRule) (name : List ℕ)
    → deciding side rules name ≡ find (fits side name) rules
deciding-find side rules name = search (within, find_at)

-- a name that p begins is p, and then the rest
pub begins_split : (p n : List ℕ) → begins p n ≡ true → n ≡ p ++ drop (length p) n
begins_split p n b = (starts_is Decides-eqb n p (begins p n) refl).0 b

pub begins_from : (p n rest : List ℕ) → n ≡ p ++ rest → begins p n ≡ true
begins_from p n rest e = (starts_is Decides-eqb n p (begins p n) refl).1 rest e

pub begins-append : (p rest : List ℕ) → begins p (p ++ rest) ≡ true
begins-append p rest = begins_from p (p ++ rest) rest refl

pub begins_itself : (p : List ℕ) → begins p p ≡ true
begins_itself p = begins_from p p [] (sym (append-nil p))

pub begins_trans : (p q n : List ℕ) → begins p q ≡ true → begins q n ≡ true → begins p n ≡ true
begins_trans p q n b d =
    begins_from p n (drop (length p) q ++ drop (length q) n)
    (begins_split q n d ∙ ap (λ front. front ++ drop (length q) n) (begins_split p q b)
    ∙ append_assoc p (drop (length p) q) (drop (length q) n))

pub begins_length : (p n : List ℕ) → begins p n ≡ true → length p ≤ length n
begins_length p n b = front_fits n p (drop (length p) n) (begins_split p n b)

-- what `find` gives passes
pub found_passes : {X : Type 0} (p : X → Bool) (xs : List X) (x : X) → find p xs ≡ Some x → p x ≡ true
found_passes p [] x e = cc
found_passes p (y ∷ ys) x e = grind (arith, found_passes p ys x)

-- the rule that decides a name fits it
pub deciding_fits : (side : Side) (rules : List MappingRule) (name : List ℕ) (rule : MappingRule)
    → Some rule ≡ deciding side rules name → fits side name rule ≡ true
deciding_fits side rules name rule e = grind (arith, found_passes, deciding-find)

-- the prepend of the rule that decides a host's name is no longer than the name
pub deciding_length : (rules : List MappingRule) (name : List ℕ) (rule : MappingRule)
    → Some rule ≡ deciding Server rules name → length rule.prepend ≤ length name
deciding_length rules name rule e =
    begins_length rule.prepend name
    (and_parts rule.server (begins rule.prepend name) (deciding_fits Server rules name rule e)).1
