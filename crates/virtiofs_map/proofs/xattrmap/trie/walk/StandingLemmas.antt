-- A walk along a trie: where it stands, and what it has found where it ends.
use Rattle.std.proofs.Common.{◌≡◌, ◌≢◌, inl, inr, ℕ, suc, ◌+◌, ◌-◌, ◌<◌, ◌≤◌, Bool, true, List, [], ◌∷◌, ◌++◌, length}
use Rattle.std.proofs.Common.{take, Contains, slice_get, Some, refl, sym, ap, ◌∙◌, arith}
use Rattle.std.proofs.lemmas.Bool.{cases_lt, true≢false}
use Rattle.std.proofs.lemmas.List.{append_assoc, length-append, take_at}
use Rattle.std.proofs.lemmas.List.Elements.{All-same}
use Rattle.virtiofs_map.specs.NodeParts.{IsNode, IsChild, IsReadable, IsReal, IsTrie, Ends, Misses, Passes}
use Rattle.virtiofs_map.specs.NodeParts.{StandsAt, StaysAt, StepsTo, answer_for, answer_of, label_of}
use Rattle.virtiofs_map.specs.FirstRule.{CountsFronts, acts, pattern, most_shared, shared}
use Rattle.virtiofs_map.specs.Names.{begins, fits, first}
use Rattle.virtiofs_map.specs.Rule.{MappingRule}
use Rattle.virtiofs_map.specs.Steps.{count_after}
use Rattle.virtiofs_map.specs.declared.xattrmap.trie.node.Node.{Node}
use Rattle.virtiofs_map.specs.declared.xattrmap.scopes.Side.{Side}
use Rattle.virtiofs_map.proofs.BeginsLemmas.{begins_length}
use Rattle.virtiofs_map.proofs.xattrmap.FittingLemmas.{begins_front, fits_is, front_more, label_begins}
use Rattle.virtiofs_map.proofs.xattrmap.FittingLemmas.{same_first}
use Rattle.virtiofs_map.proofs.xattrmap.trie.SharedLemmas.{most_at_least, most_at_most, shared_front, shared_misses}
use Rattle.virtiofs_map.proofs.xattrmap.trie.SharedLemmas.{shared_path, shared_whole, shared_within}
use Rattle.virtiofs_map.proofs.xattrmap.PathLemmas.{path_no_zero}

module _ {side : Side} {rules : List MappingRule} {nodes : List Node} {bytes : List ℕ}
    (trie : IsTrie side rules nodes bytes) where
  -- a child is no hole
  is_real : (parent child : Node) (byte at : ℕ) → IsChild nodes parent byte at child → IsReal at child
  is_real parent child byte at leads = inr (λ none. leads.real (sym leads.first_byte ∙ none))

  child_is : (parent child : Node) (byte at : ℕ) → IsChild nodes parent byte at child
      → IsNode side rules nodes bytes trie.path at child
  child_is parent child byte at leads = trie.each at child leads.here (is_real parent child byte at leads)

  -- the children of each node can be found
  pub readable : (at : ℕ) (node : Node) → slice_get nodes at ≡ Some node → IsReal at node
      → IsReadable nodes bytes node
  readable at node here real = grind (arith, child_is)

  module _ {name : List ℕ} {start : ℕ} where
    -- at the root nothing is passed
    pub stands_at_root : (root : Node) (count : ℕ) → slice_get nodes 0 ≡ Some root
        → count ≡ count_after start 1 → StandsAt side rules nodes bytes trie name root name start count
    stands_at_root root count here counts = grind arith

    module _ {node : Node} {rest : List ℕ} {before : ℕ}
        (stands : StandsAt side rules nodes bytes trie name node rest start before) where
      this : IsNode side rules nodes bytes trie.path stands.at node
      this = trie.each stands.at node stands.here stands.real

      pub stands_readable : IsReadable nodes bytes node
      stands_readable = readable stands.at node stands.here stands.real

      -- a step leads on to the child
      pub stands_on : {first labels after : ℕ} {left row : List ℕ}
          → (step : StepsTo first labels nodes bytes node rest row left before after)
          → StandsAt side rules nodes bytes trie name step.child left start after
      stands_on step =
          let path = this.paths step.byte step.place step.child step.leads in
          record {
            at = step.place;
            here = step.leads.here;
            real = is_real node step.child step.byte step.place step.leads;
            split = grind (arith, append_assoc);
            counted = grind (arith, length-append);
          }

      -- ---- the end of the path

      -- a pattern that shares more with the name than the path goes on with the next byte
      next_byte : (byte : ℕ) (left : List ℕ) → rest ≡ byte ∷ left → (rule : MappingRule)
          → length (trie.path stands.at) < shared (pattern side rule) name
          → begins (trie.path stands.at ++ byte ∷ []) (pattern side rule) ≡ true
      next_byte byte left some rule more =
          let split : name ≡ trie.path stands.at ++ byte ∷ left = grind arith in
          ap (λ row. begins row (pattern side rule)) (sym (front_more (trie.path stands.at) left name byte split))
          ∙ shared_front (pattern side rule) name (suc (length (trie.path stands.at))) (omega arith)

      module _ {after : ℕ} (ends : Ends nodes node rest before after) where
        -- where no child is there, no pattern shares more than the path
        stops : (rule : MappingRule) → Contains rules rule → acts side rule ≡ true
            → length (trie.path stands.at) < shared (pattern side rule) name → ⊥
        stops rule within acting more = at_rest rest refl where
          at_rest : (left : List ℕ) → rest ≡ left → ⊥
          at_rest [] none =
              let whole = ap length (stands.split ∙ ap (λ row. trie.path stands.at ++ row) none) in
              let short = (shared_within (pattern side rule) name).1 in
              absurd (omega (arith, whole, length-append (trie.path stands.at) [], short, more))
          at_rest (byte ∷ left) some =
              let there = this.complete byte rule within acting (next_byte byte left some rule more) in
              ends.nowhere byte left some there.0 there.1 there.2

        most_at_end : most_shared side rules name ≡ length (trie.path stands.at)
        most_at_end = grind (arith, this, shared_path, most_at_least, most_at_most, cases_lt, stops)

      module _ {whole : Bool} {after : ℕ} (misses : Misses nodes bytes node rest whole before after) where
        missed : name ≡ trie.path stands.at ++ misses.byte ∷ misses.left
        missed = stands.split ∙ ap (λ row. trie.path stands.at ++ row) misses.split

        path_on : trie.path misses.place
            ≡ trie.path stands.at ++ misses.byte ∷ label_of bytes misses.child
        path_on = this.paths misses.byte misses.place misses.child misses.leads

        -- a pattern that shares more than the path goes on with the label of the child
        goes_on : (rule : MappingRule) → Contains rules rule → acts side rule ≡ true
            → length (trie.path stands.at) < shared (pattern side rule) name
            → begins (trie.path stands.at ++ misses.byte ∷ label_of bytes misses.child) (pattern side rule) ≡ true
        goes_on rule within acting more =
            ap (λ row. begins row (pattern side rule)) (sym path_on)
            ∙ this.whole misses.byte misses.place misses.child rule misses.leads within acting
            (next_byte misses.byte misses.left misses.split rule more)

        -- and shares as much of it as the name does
        label_shared : (rule : MappingRule)
            → begins (trie.path stands.at ++ misses.byte ∷ label_of bytes misses.child) (pattern side rule) ≡ true
            → shared (pattern side rule) name ≡ length (trie.path stands.at)
            + (1 + shared (label_of bytes misses.child) misses.left)
        label_shared rule starts = search (rules, shared_misses, missed)

        most_at_miss : most_shared side rules name
            ≡ length (trie.path stands.at) + (1 + shared (label_of bytes misses.child) misses.left)
        most_at_miss =
            let top = most_at_most side rules name
            (length (trie.path stands.at) + (1 + shared (label_of bytes misses.child) misses.left)) each in
            omega (arith, least, top) where
              each : (rule : MappingRule) → Contains rules rule → acts side rule ≡ true
                  → shared (pattern side rule) name ≤ length (trie.path stands.at)
                  + (1 + shared (label_of bytes misses.child) misses.left)
              each rule within acting =
                  elim (cases_lt (length (trie.path stands.at)) (shared (pattern side rule) name)) [
                    | inl more ↦ omega (arith, label_shared rule (goes_on rule within acting more))
                    | inr low ↦ omega arith
                  ]

              -- the path of the child begins a pattern
              least : length (trie.path stands.at) + (1 + shared (label_of bytes misses.child) misses.left)
                  ≤ most_shared side rules name
              least = elim (child_is node misses.child misses.byte misses.place misses.leads).front [
                | inl none ↦
                    absurd
                    (let both = length-append (trie.path stands.at) (misses.byte ∷ label_of bytes misses.child) in
                    omega (arith, ap length (sym none ∙ path_on), both))
                | inr of ↦
                    (let is = label_shared of.rule (search path_on) in
                    omega (arith, is, most_at_least side rules name of.rule of.inside of.acting))
              ]

      module _ {whole : Bool} {after : ℕ} (stays : StaysAt nodes bytes node rest whole before after) where
        front_is : take (length (trie.path stands.at)) name ≡ trie.path stands.at
        front_is = grind (arith, take_at)

        -- no rule whose pattern is longer than the path fits
        none_longer : (rule : MappingRule) → Contains rules rule → acts side rule ≡ true
            → length (trie.path stands.at) < length (pattern side rule) → begins (pattern side rule) name ≡ true
            → ⊥
        none_longer rule within acting long fit =
            let more : length (trie.path stands.at) < shared (pattern side rule) name =
            omega (arith, shared_whole (pattern side rule) name fit) in
            elim stays [
              | inl ends ↦ stops ends rule within acting more
              | inr misses ↦
                  (let starts = goes_on misses rule within acting more in
                  let begun = label_begins (trie.path stands.at) (label_of bytes misses.child) misses.left name
                  (pattern side rule) misses.byte (missed misses) starts fit in
                  true≢false (sym begun ∙ misses.unlike))
            ]

        by_length : (rule : MappingRule) → Contains rules rule → acts side rule ≡ true
            → begins (pattern side rule) name ≡ begins (pattern side rule) (trie.path stands.at)
        by_length rule within acting = grind (arith, cases_lt, begins_front, front_is, begins_length, none_longer)

        -- so a rule fits the name where it fits the path
        fits_alike : (rule : MappingRule) → Contains rules rule
            → fits side name rule ≡ fits side (trie.path stands.at) rule
        fits_alike rule within = grind (arith, fits_is, by_length)

        first_is : first side rules name ≡ first side rules (trie.path stands.at)
        first_is = same_first side rules name (trie.path stands.at) fits_alike

        path_within : length (trie.path stands.at) + length rest ≡ length name
        path_within = sym (length-append (trie.path stands.at) rest) ∙ ap length (sym stands.split)

        answers : node.answer ≡ answer_of side rules name
        answers = this.answers ∙ ap (answer_for rules) (sym first_is)

        -- where no step is left, the node has the answer, and its path was passed
        pub stands_passed : Passes side rules name node.answer (length name - length rest)
        stands_passed =
            let size : length name - length rest ≡ length (trie.path stands.at) = omega (arith, path_within) in
            record {
              answers = answers;
              no_zero = λ plain. All-same (λ byte. byte ≢ 0) _ (trie.path stands.at)
                  (ap (λ n. take n name) size ∙ front_is)
                  (path_no_zero side rules (trie.path stands.at) this.front plain);
            }

        -- and where the count is whole, so many steps were counted
        pub stands_counted : whole ≡ true → CountsFronts side rules name start after
        stands_counted is = elim stays [
          | inl ends ↦
              (let most = most_at_end ends in let was = stands.counted in let same = ends.counted in
              omega (arith, most, was, same))
          | inr misses ↦
              (let most = most_at_miss misses in let was = stands.counted in
              omega (arith, most, was, misses.counted is))
        ]
