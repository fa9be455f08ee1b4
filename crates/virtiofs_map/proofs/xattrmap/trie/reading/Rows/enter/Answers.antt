use Rattle.std.proofs.Common.{◌≡◌, ◌+◌, ◌∷◌, ℕ, List, false, true, length, take, length-take, refl}
use Rattle.std.proofs.Common.{sym, ap, ◌∙◌, arith, rules}
use Rattle.std.proofs.lemmas.Bool.{false≢true}
use Rattle.virtiofs_map.specs.FirstRule.{shared}
use Rattle.virtiofs_map.specs.NodeParts.{label_of, placed}
use Rattle.virtiofs_map.specs.Steps.{count_after}
use Rattle.virtiofs_map.proofs.xattrmap.trie.reading.ChildStepLemmas.{after_label, label_there, stays_nowhere, stays_unlike}
use Rattle.virtiofs_map.proofs.xattrmap.trie.reading.ChildStepLemmas.{unlike_label}
use Rattle.virtiofs_map.proofs.xattrmap.trie.reading.Rows.enter.Goals as goal
use Rattle.virtiofs_map.proofs.xattrmap.trie.reading.Rows.enter.Goals.{then-whole_count, else-whole_count}
use Rattle.virtiofs_map.proofs.xattrmap.trie.reading.Rows.enter.Goals.{then-count-after-via-then-count-after}
use Rattle.virtiofs_map.proofs.xattrmap.trie.reading.Rows.enter.Goals.{then-count-after-via-else-count-after+then-not-begins}

pub returns-in_err-child-clause-step : goal.returns-in_err-child-clause-step
returns-in_err-child-clause-step c = λ first labels nodes bytes node has texts readable row.
    rw c.from_residual-in_err-child.ensures
    (stays_nowhere c.in_ok-byte.ensures.cases.0 (c.in_err-child.ensures first labels nodes bytes node has readable row) refl)

pub returns-then-count-after-clause-step : goal.returns-then-count-after-clause-step
returns-then-count-after-clause-step c = λ first labels nodes bytes node has texts readable row.
    (let to = c.in_ok-child.ensures first labels nodes bytes node has readable row in
    let after : List ℕ = c.in_ok-byte.after.now in
    let (inside, same, size) =
    label_there to.child c.label_of-from.result c.length_of-count.result texts (readable.labels _ to.place to.child to.leads)
    (c.label_of-from.ensures.value (placed first labels to.child) to.is)
    (c.length_of-count.ensures.value (placed first labels to.child) to.is) in
    let differ : take c.length_of-count.result after ≡ label_of bytes to.child → ⊥ =
    elim c.then-count-after.branch [
      | then-count-after-via-then-count-after w ↦ λ e.
          (let less = w.if-count-after.true in
          absurd (omega (arith, ap length e, length-take c.length_of-count.result after, size, less)))
      | then-count-after-via-else-count-after+then-not-begins w ↦ λ e.
          (let fails : w.begins.result ≡ false = search rules in
          absurd (false≢true (sym fails ∙ (w.begins.ensures inside).1 (e ∙ sym same))))
    ] in
    stays_unlike c.in_ok-byte.ensures.cases.0 to.leads
    (unlike_label (label_of bytes to.child) after c.length_of-count.result size differ)
    (elim c.if-whole_count.branch [
      | then-whole_count w ↦ λ _. w.steps-is ∙ w.count_more.ensures
          ∙ ap (λ n. count_after c.args.steps.now (n + 1)) (w.shared.ensures.shared inside ∙ ap (λ l. shared l after) same)
      | else-whole_count w ↦ λ is. absurd (false≢true (sym w.if-whole_count.false ∙ is))
    ]))

pub returns-clause-step : goal.returns-clause-step
returns-clause-step c = λ first labels nodes bytes node has texts readable row.
    (let to = c.in_ok-child.ensures first labels nodes bytes node has readable row in
    let (inside, same, size) =
    label_there to.child c.label_of-from.result c.length_of-count.result texts (readable.labels _ to.place to.child to.leads)
    (c.label_of-from.ensures.value (placed first labels to.child) to.is)
    (c.length_of-count.ensures.value (placed first labels to.child) to.is) in
    let holds : c.begins.result ≡ true = search rules in
    let whole = after_label (label_of bytes to.child) c.in_ok-byte.after.now c.length_of-count.result
    ((c.begins.ensures inside).0 holds ∙ same) in
    record {
      byte = c.in_ok-byte.byte.now;
      place = to.place;
      child = to.child;
      leads = to.leads;
      is = to.is;
      passed = c.in_ok-byte.ensures.cases.0 ∙ ap (λ (l : List ℕ). c.in_ok-byte.byte.now ∷ l) whole;
      counted = c.count_more-2.ensures ∙ ap (λ n. count_after c.args.steps.now (n + 1)) (sym size);
    })
