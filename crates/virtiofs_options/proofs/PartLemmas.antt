-- Parts of a command line, one after another.
use Rattle.std.proofs.Common.{arith}
use Rattle.std.proofs.Common.{◌≡◌, ◌-◌, ◌==◌, List, [], ◌∷◌, ◌++◌, ℕ, subst, sym, length, take, drop, get_or, false}
use Rattle.std.proofs.lemmas.List.{take_rest}
use Rattle.virtiofs_options.specs.Parts.{Begins, PartsThen, read_after}
use Rattle.virtiofs_options.specs.declared.command.Part.{Part}
use Rattle.virtiofs_options.specs.declared.options.Options.{Options}
use Rattle.virtiofs_options.specs.declared.command.Word.{Word}

-- one part more
pub PartsThen-more : (options : Options) (words : List Word) (parts : List Part)
    (left : List Word) (part : Part) (rest : List Word) → PartsThen options words parts left
    → Begins options left part rest → PartsThen options words (parts ++ part ∷ []) (read_after part rest)
PartsThen-more options words [] left part rest so_far begins = grind arith
PartsThen-more options words (first ∷ parts) left part rest so_far begins =
    let (after, here, there) = so_far in
    (after, here, PartsThen-more options (read_after first after) parts left part rest there begins)

-- the same, where the words left are read by a loop
pub parts_then_next : (options : Options) (words : List Word) (parts : List Part)
    (left : List Word) (part : Part) (count : ℕ) (d : Word) (next : List Word) → PartsThen options words parts left
    → false ≡ (length left == 0)
    → Begins options (get_or left 0 d ∷ take (length left - 1) (drop 1 left)) part
    (drop count (get_or left 0 d ∷ take (length left - 1) (drop 1 left)))
    → next ≡ read_after part (take (length left - count) (drop count left))
    → PartsThen options words (parts ++ part ∷ []) next
parts_then_next options words parts [] part count d next so_far some begins is = grind arith
parts_then_next options words parts (word ∷ after) part count d next so_far some begins is =
    let tail = λ (it : List Word). Begins options (word ∷ it) part (drop count (word ∷ it)) in
    let here : Begins options (word ∷ after) part (drop count (word ∷ after)) =
    subst tail (take_rest (word ∷ after) 1) begins in
    subst (PartsThen options words (parts ++ part ∷ [])) (sym is)
    (PartsThen-more options words parts (word ∷ after) part _ so_far
    (subst (Begins options (word ∷ after) part) (sym (take_rest (word ∷ after) count)) here))
