-- Words have one form alone.
use Rattle.std.proofs.Common.{rules, ◌≡◌, ℕ, List, ◌∷◌, sym, ◌∙◌, subst}
use Rattle.std.specs.List.{AllZip}
use Rattle.virtiofs_map.proofs.ForCallers.{AllZip-one}
use Rattle.virtiofs_mapcheck.specs.Words.{Asks, Form, Ids, IsIds, HasForm}
use Rattle.virtiofs_mapcheck.specs.declared.words.Query.{Query}
use Rattle.virtiofs_mapcheck.proofs.WordsLemmas.{Asks-one, same_cut}

-- the words after `ids` are cut in one way
IsIds-one : (words specs texts : List (List ℕ)) (queries asked : List Query) → IsIds words specs queries
    → IsIds words texts asked → Ids specs queries ≡ Ids texts asked
IsIds-one words specs texts queries asked first second =
    let (fronts, after) =
    same_cut specs texts first.asked second.asked (tail (sym first.whole ∙ second.whole)) first.first second.first in
    both fronts
    (AllZip-one Asks Asks-one second.asked queries asked
    (subst (λ (xs : List (List ℕ)). AllZip Asks xs queries) after first.read) second.read) where
      tail : {x y : List ℕ} {xs ys : List (List ℕ)} → x ∷ xs ≡ y ∷ ys → xs ≡ ys
      tail cells = cc

      both : specs ≡ texts → queries ≡ asked → Ids specs queries ≡ Ids texts asked
      both fronts queries_too = cc

pub HasForm-one : (words : List (List ℕ)) (form other : Form) → HasForm words form → HasForm words other → form ≡ other
HasForm-one words form other has had = search (rules, IsIds-one)
