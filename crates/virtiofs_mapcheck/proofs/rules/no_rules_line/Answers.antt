use Rattle.std.proofs.Common.{◌≡◌, ℕ, List, [], ◌∷◌, ◌++◌, codes, ap, ◌∙◌, arith}
use Rattle.virtiofs_mapcheck.specs.Outcome.{refusal}
use Rattle.virtiofs_mapcheck.proofs.rules.no_rules_line.Goals as goal

written : (text mid new which rest end : List ℕ) → text ≡ codes "refused: " ++ which → mid ≡ text ++ rest
    → new ≡ mid ++ end → end ≡ 10 ∷ [] → new ≡ refusal (which ++ rest)
written text mid new which rest end first second third is =
    third ∙ ap (λ (xs : List ℕ). mid ++ xs) is
    ∙ ap (λ (xs : List ℕ). xs ++ 10 ∷ []) (second ∙ ap (λ (xs : List ℕ). xs ++ rest) first)

pub returns : goal.returns
returns g c =
    written _ _ _ c.args.which.now (codes "NoRulesProvided") _ c.in_ok-text.ensures.ok
    c.in_ok-push_str.ensures.bytes c.in_ok-push.ensures.bytes (c.in_ok-push.ensures.ascii (omega arith))
