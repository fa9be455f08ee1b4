-- The lines of queries.
use Rattle.std.proofs.Common.{rules, ◌≡◌, ℕ, ◌+◌, ◌<◌, List, [], ◌∷◌, ◌++◌, length, take, get_or, sym, ap, ◌∙◌}
use Rattle.std.proofs.Common.{append_assoc, Result, OnOk}
use Rattle.std.specs.List.{AllZip, concat}
use Rattle.std.proofs.lemmas.List.{take_more, append-nil}
use Rattle.virtiofs_map.proofs.ForCallers.{AllZip-push}
use Rattle.virtiofs_map.specs.declared.cmdline.IdMap.{IdMap}
use Rattle.virtiofs_mapcheck.specs.IdsAnswer.{IsLine}
use Rattle.virtiofs_mapcheck.specs.declared.words.Query.{Query}

concat-push : (xs : List (List ℕ)) (x : List ℕ) → concat (xs ++ x ∷ []) ≡ concat xs ++ x
concat-push [] x = append-nil x
concat-push (y ∷ xs) x = ap (λ (zs : List ℕ). y ++ zs) (concat-push xs x) ∙ sym (append_assoc y (concat xs) x)

-- a line for each query so far, and one more
pub lines_more : (specs : List IdMap) (queries : List Query) (i : ℕ) (d : Query) (lines : List (List ℕ))
    (line text new : List ℕ) → i < length queries → AllZip (IsLine specs) (take i queries) lines
    → IsLine specs (get_or queries i d) line → text ≡ concat lines → new ≡ text ++ line
    → (all : List (List ℕ)) × AllZip (IsLine specs) (take (i + 1) queries) all × (new ≡ concat all)
lines_more specs queries i d lines line text new below answered is whole same =
    let more = AllZip-push (IsLine specs) (take i queries) lines (get_or queries i d) line answered is in
    (lines ++ line ∷ [], rw (take_more queries i d below) more, cc (concat-push lines line))

-- a line that was written is the line of its query
pub line_written : {T E : Type 0} (specs : List IdMap) (query : Query) (r : Result T E) (old new text : List ℕ)
    → IsLine specs query text → OnOk r (new ≡ old ++ text)
    → OnOk r ((x : List ℕ) × IsLine specs query x × (new ≡ old ++ x))
line_written specs query r old new text is wrote = search rules
