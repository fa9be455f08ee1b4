-- The first process of each directory, one process after another.
use Rattle.std.proofs.Common.{◌≡◌, ◌∙◌, ◌+◌, ◌<◌, ℕ, List, [], ◌∷◌, ◌++◌, Bool, map, take, get_or, length, sym, ap, append_assoc}
use Rattle.std.proofs.lemmas.List.{append-nil, map-append, take_more}
use Rattle.std.specs.Prelude.{if◌then◌else◌}
use Rattle.virtiofs_mapaudit.specs.Running.{firsts, group, has_beside}
use Rattle.virtiofs_mapaudit.specs.declared.running.Running.{Running}

-- with one process more
firsts_more : (before all : List Running) (it : Running)
    → firsts before (all ++ it ∷ []) ≡ firsts before all ++ (if has_beside (before ++ all) it then [] else it ∷ [])
firsts_more before [] it =
    append-nil _ ∙ ap (λ (those : List Running). if has_beside those it then [] else it ∷ []) (sym (append-nil before))
firsts_more before (one ∷ all) it =
    ap (λ (those : List Running). (if has_beside before one then [] else one ∷ []) ++ those) (firsts_more (before ++ one ∷ []) all it)
    ∙ sym (append_assoc (if has_beside before one then [] else one ∷ []) (firsts (before ++ one ∷ []) all) _)
    ∙ ap (λ (those : List Running). firsts before (one ∷ all) ++ (if has_beside those it then [] else it ∷ []))
    (append_assoc before (one ∷ []) all)

-- the groups with that of one process more, or without
pub groups_more : (all : List Running) (place : ℕ) (it : Running) (is_seen : Bool) → place < length all
    → it ≡ get_or all place it → is_seen ≡ has_beside (take place all) it
    → map (group all) (firsts [] (take (place + 1) all))
    ≡ map (group all) (firsts [] (take place all)) ++ map (group all) (if is_seen then [] else it ∷ [])
groups_more all place it is_seen inside is seen =
    ap (λ (those : List Running). map (group all) (firsts [] those))
    (take_more all place it inside ∙ ap (λ (x : Running). take place all ++ x ∷ []) (sym is))
    ∙ ap (map (group all)) (firsts_more [] (take place all) it)
    ∙ ap (λ (b : Bool). map (group all) (firsts [] (take place all) ++ (if b then [] else it ∷ []))) (sym seen)
    ∙ map-append (group all) (firsts [] (take place all)) (if is_seen then [] else it ∷ [])
