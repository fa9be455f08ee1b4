use Rattle.std.proofs.Common.{◌≡◌, ℕ, List, ◌∷◌, Result, sym, ap, ◌∙◌, subst}
use Rattle.std.specs.Borrow.{Bor}
use Rattle.std.specs.Global.{Global}
use Rattle.virtiofs_map.specs.Listing.{item_bytes}
use Rattle.virtiofs_map.specs.declared.xattrmap.errors.Error.{Error}
use Rattle.virtiofs_findings.specs.ExplainNames.{StandsAs}
use Rattle.virtiofs_findings.specs.declared.explain.names.Listed.{Listed}
use Rattle.virtiofs_findings.specs.declared.explain.names.Listed.TheVariants.{Under, Hidden, Undecided}
use Rattle.virtiofs_findings.proofs.explain.names.stands.Goals as goal

-- by the first item that is given
by_first : (all given rest : List (Result (List ℕ) (Error Global))) (item one : Result (Bor (List ℕ)) (Error Global))
    (it : Listed) → all ≡ given → all ≡ item_bytes item ∷ rest → item ≡ one → StandsAs (item_bytes one ∷ rest) it
    → StandsAs given it
by_first all given rest item one it are is same stands =
    subst (λ (xs : List (Result (List ℕ) (Error Global))). StandsAs xs it)
    (ap (λ (i : Result (Bor (List ℕ)) (Error Global)). item_bytes i ∷ rest) (sym same) ∙ sym is ∙ are) stands

pub returns-in-Some-Ok : goal.returns-in-Some-Ok
returns-in-Some-Ok c =
    by_first _ _ _ _ _ (Under c.in_ok-from_slice-in-Some-Ok.field-0) c.listed_names.ensures.items
    c.in-Some-Ok.ensures.steps c.in-Some-Ok.field-0-is c.in_ok-from_slice-in-Some-Ok.ensures.items

pub returns-in-Some-Err : goal.returns-in-Some-Err
returns-in-Some-Err c =
    by_first _ _ _ _ _ Undecided c.listed_names.ensures.items c.in-Some-Err.ensures.steps c.in-Some-Err.field-0-is tt

pub returns : goal.returns
returns c =
    subst (λ (xs : List (Result (List ℕ) (Error Global))). StandsAs xs Hidden)
    (sym c.in-None.ensures.steps.0 ∙ c.listed_names.ensures.items) tt
