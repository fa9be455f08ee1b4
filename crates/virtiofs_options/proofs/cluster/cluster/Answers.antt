use Rattle.std.proofs.Common.{append_assoc}
use Rattle.std.proofs.Common.{◌≡◌, ◌∙◌, ◌++◌, ◌∷◌, [], ℕ, List, Bool, true, false, Some, map, option_map, slice_get, ap, sym, arith, rules}
use Rattle.std.proofs.lemmas.List.{map-append}
use Rattle.virtiofs_options.proofs.ClusterLemmas.{before-at, cluster-bare, step-is, step-some}
use Rattle.virtiofs_options.specs.Clusters.{cluster, is_bare, plain}
use Rattle.virtiofs_options.specs.Parts.{is_last}
use Rattle.virtiofs_options.proofs.cluster.cluster.Goals as goal

pub returns-in_default-after_letter : goal.returns-in_default-after_letter
returns-in_default-after_letter c = grind (arith, step-some)

pub returns-then-not-is_bare : goal.returns-then-not-is_bare
returns-then-not-is_bare c = grind (arith, step-is, map-append, option_map, append_assoc)

pub loop-letter-smaller : goal.loop-letter-smaller
loop-letter-smaller c = grind (arith, step-is)

pub loop-letter-preserved : goal.loop-letter-preserved
loop-letter-preserved c =
    let first : Some c.in-Some.letter.now ≡ slice_get c.loop-letter.left.now 0 =
    c.in-Some.ensures.value ∙ ap (λ (xs : List ℕ). slice_get xs 0) c.as_bytes.ensures.value in
    let is = step-is c.args.options c.loop-letter.left.now c.in-Some.letter.now c.in-Some-after_letter.rest.now
    c.in-Some-short_of.row first (sym c.in-Some-short_of.ensures) c.in-Some-after_letter.ensures in
    let bare : is_bare c.in-Some-short_of.row.takes ≡ true = search rules in
    let last : is_last c.in-Some-short_of.row.sets ≡ false = search rules in
    let pushed : map plain c.push.new.self.items
    ≡ map plain c.loop-letter.words.items ++ (c.in-Some-short_of.row.name.now, false) ∷ [] =
    ap (map plain) c.in_ok-push.ensures.items
    ∙ map-append plain c.loop-letter.words.items _ in (
      search rules,
      cluster-bare c.args.options c.args.letters.now c.in-Some-after_letter.rest.now c.in-Some.letter.now c.in-Some-short_of.row _
          (before-at c.args.options c.args.letters.now _ _ _ _ is c.loop-letter.invariant.1) (sym c.in-Some-short_of.ensures) bare last
          ∙ ap (λ (ws : List (List ℕ × Bool)). option_map (λ more. ws ++ more) (cluster c.args.options c.in-Some-after_letter.rest.now))
          (sym pushed),
    )
