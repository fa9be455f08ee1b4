-- Nodes that were built from patterns are a trie of them.
use Rattle.std.proofs.Common.{◌≡◌, ◌⊎◌, ℕ, ◌+◌, ◌-◌, ◌*◌, ◌<◌, ◌≤◌, true, false, List, [], ◌∷◌}
use Rattle.std.proofs.Common.{◌++◌, Some, None, Option, length, take, drop, get_or, inl, inr, refl, sym, ap, subst, ◌∙◌, arith}
use Rattle.std.proofs.Common.{All, Contains, slice_get}
use Rattle.std.proofs.lemmas.Bool.{cases_lt}
use Rattle.std.proofs.lemmas.List.{drop-drop, drop-take, get_or-drop, get_or-take, get_or_read, take-append-drop, take-take}
use Rattle.std.proofs.lemmas.Option.{slice_get_within, slice_get_read, slice_get-get_or, get_or_from_slice_get}
use Rattle.virtiofs_map.specs.NodeParts.{answer_for, answer_of, AreFew, IsPattern, ArePatterns, label_of, IsChild}
use Rattle.virtiofs_map.specs.NodeParts.{AreInSlots, BeginsPattern, IsNode, IsTrie, IsBounded}
use Rattle.virtiofs_map.specs.FirstRule.{acts, pattern}
use Rattle.virtiofs_map.specs.TrieBuildParts.{pattern_at, text, AreReady, IsLeast, IsPatternRange, IsKid, IsKidOrHole}
use Rattle.virtiofs_map.specs.TrieBuildParts.{path_of_range, range_at, AreBuilt, IsBuilt, hole}
use Rattle.virtiofs_map.specs.Names.{begins, first}
use Rattle.virtiofs_map.specs.Rule.{MappingRule, type_number}
use Rattle.virtiofs_map.specs.declared.xattrmap.trie.build.PatternRange.{PatternRange}
use Rattle.virtiofs_map.specs.declared.xattrmap.trie.node.Node.{Node}
use Rattle.virtiofs_map.specs.declared.xattrmap.trie.patterns.Pattern.{Pattern}
use Rattle.virtiofs_map.specs.declared.xattrmap.scopes.Side.{Side}
use Rattle.virtiofs_map.proofs.BeginsLemmas.{begins_from}
use Rattle.virtiofs_map.proofs.RuleRowLemmas.{below_four}
use Rattle.virtiofs_map.proofs.xattrmap.DecidingLemmas.{first_at, first_where_fits, fit_from, fit_parts}
use Rattle.virtiofs_map.proofs.xattrmap.trie.build.KidLemmas.{kid_path}
use Rattle.virtiofs_map.proofs.xattrmap.trie.build.PatternOrderLemmas.{no_zero, ready_at}
use Rattle.virtiofs_map.proofs.xattrmap.trie.build.RangePathLemmas.{goes_in}

-- ---- rules and their patterns

-- the pattern of a rule, with its place
record HasPlace (side : Side) (patterns : List Pattern) (place : ℕ) (rule : MappingRule) : Type 0 where
  pub at : ℕ
  pub within : at < length patterns
  pub are : text patterns at ≡ pattern side rule
  pub stands_for : (pattern_at patterns at).answer ≡ 4 * place + type_number rule.kind

module _ (side : Side) (rules : List MappingRule) (bytes : List ℕ) (patterns : List Pattern)
    (of_rules : ArePatterns side rules bytes (length rules) patterns) where
  rule_of : (i : ℕ) → i < length patterns → IsPattern side rules bytes (pattern_at patterns i)
  rule_of i l = of_rules.each i _ l

  pattern_of : (place : ℕ) (rule : MappingRule) → slice_get rules place ≡ Some rule → acts side rule ≡ true
      → HasPlace side patterns place rule
  pattern_of place rule here acting =
      let (one, stored, are, answer) = of_rules.every place rule (slice_get_within rules place rule here) here acting in
      let same : one ≡ pattern_at patterns stored.0 = get_or_read patterns stored.0 one stored.1 (sym stored.2) _ in
      record {
        at = stored.0;
        within = stored.1;
        are = ap (λ (p : Pattern). p.bytes.now) (sym same) ∙ are;
        stands_for = ap (λ (p : Pattern). p.answer) (sym same) ∙ answer;
      }

  -- ---- answers

  -- the least answer of the patterns that begin a name is that of the first rule that fits it
  pub answer_is : AreFew rules → (name : List ℕ) (value : ℕ)
      → IsLeast patterns (λ i. (i < length patterns) × (begins (text patterns i) name ≡ true)) value
      → value ≡ answer_of side rules name
  answer_is few name value least = by (first side rules name) refl where
    -- the first rule that fits is no later than that of a pattern that begins the name
    no_later : (i : ℕ) (within : i < length patterns) → begins (text patterns i) name ≡ true
        → (at : ℕ) × (first side rules name ≡ Some at) × (at ≤ (rule_of i within).place)
    no_later i within b =
        let of = (rule_of i within).is in
        first_where_fits side rules name (rule_of i within).place of.rule of.here
        (fit_from side name of.rule of.acting (ap (λ w. begins w name) (sym of.are) ∙ b))

    by : (place : Option ℕ) → first side rules name ≡ place → value ≡ answer_of side rules name
    by None none = elim least.met [
      | inl is ↦ is ∙ sym (ap (answer_for rules) none)
      | inr (j, (within, b), e) ↦ absurd (let some = (no_later j within b).1 in cc)
    ]
    by (Some at) some =
        let is = first_at side rules name at some in
        let parts = fit_parts side name is.rule is.fit in
        let has = pattern_of at is.rule is.here parts.0 in
        let low = least.below has.at (has.within, ap (λ w. begins w name) has.are ∙ parts.1) in
        let answer : answer_of side rules name ≡ 4 * at + type_number is.rule.kind = grind arith in
        elim least.met [
          | inl none ↦
              absurd (omega (
                arith,
                low,
                has.stands_for,
                below_four is.rule.kind,
                slice_get_within rules at is.rule is.here,
                few,
              ))
          | inr (j, (within, b), e) ↦
              (let of = (rule_of j within).is in
              let (sooner, found, early) = no_later j within b in
              let first_is : sooner ≡ at = cc in
              let same : (rule_of j within).place ≡ at =
              omega (
                arith,
                first_is,
                early,
                low,
                has.stands_for,
                below_four is.rule.kind,
                below_four of.rule.kind,
                of.stands_for,
                e,
              ) in
              let there = ap (slice_get rules) (sym same) ∙ of.here in
              let same_rule : of.rule ≡ is.rule = (let here = is.here in cc) in
              omega (
                arith,
                e,
                of.stands_for,
                same,
                ap (λ (one : MappingRule). type_number one.kind) same_rule,
                answer,
              ))
        ]

-- bytes of a part of a front
inner_bytes : (n k l : ℕ) (ys : List ℕ) → k + l ≤ n → take l (drop k (take n ys)) ≡ take l (drop k ys)
inner_bytes n k l ys b =
    subst (λ m. take l (drop k (take m ys)) ≡ take l (drop k ys)) (omega arith)
    (ap (take l) (drop-take k (n - k) ys) ∙ take-take l (n - k) (drop k ys) (omega arith))

-- ---- nodes

-- the path of the range at a place
abbrev pub path_of : List Pattern → List PatternRange → ℕ → List ℕ
path_of patterns ranges at = path_of_range patterns (range_at ranges at)

module _ (side : Side) (rules : List MappingRule) (bytes : List ℕ) (patterns : List Pattern)
    (of_rules : ArePatterns side rules bytes (length rules) patterns) (few : AreFew rules) (ready : AreReady (length bytes) patterns)
    (ranges : List PatternRange) (nodes : List Node) (built : AreBuilt patterns ranges nodes) (full : length nodes ≡ length ranges) where
  module _ (at : ℕ) (node : Node) (here : slice_get nodes at ≡ Some node)
      (is : IsPatternRange patterns (range_at ranges at)) where
    abbrev range : PatternRange
    range = range_at ranges at

    abbrev path : List ℕ
    path = path_of patterns ranges at

    made : IsBuilt patterns (take node.width (drop node.base ranges)) range node
    made = built.each at node here

    -- a place among its children
    kid_at : (k : ℕ) → k < node.width
        → range_at (take node.width (drop node.base ranges)) k ≡ range_at ranges (node.base + k)
    kid_at k below = get_or-take node.width (drop node.base ranges) k hole below ∙ get_or-drop node.base ranges k hole

    module _ (byte next : ℕ) (child : Node) (leads : IsChild nodes node byte next child) where
      abbrev kid : PatternRange
      kid = range_at ranges next

      kid_first : kid.first_byte ≡ byte
      kid_first = sym (built.each next child leads.here).first_byte ∙ leads.first_byte

      kid_is : IsPatternRange patterns kid × IsKid patterns range kid
      kid_is =
          let from = leads.from in
          let below : next - node.base < node.width = omega (arith, leads.below, from) in
          let there : node.base + (next - node.base) ≡ next = omega (arith, from) in
          elim (subst (IsKidOrHole patterns range) (kid_at (next - node.base) below ∙ ap (range_at ranges) there)
          (made.all.each (next - node.base) hole (omega (arith, below, made.width)))) [
            | inl both ↦ both
            | inr h ↦ absurd (leads.real (sym kid_first ∙ ap (λ (p : PatternRange). p.first_byte) h))
          ]

      label_is : label_of bytes child ≡ take kid.length (drop (range.depth + 1) (text patterns kid.low))
      label_is =
          let some = kid_is.1.group.some in
          let depth = kid_is.1.depth in
          let child_made = built.each next child leads.here in
          let start = (pattern_at patterns kid.low).start in
          let at : start + (range.depth + 1) ≡ child.label = omega (arith, child_made.label some, depth) in
          let long = kid_is.0.long kid.low (omega arith) some in
          ap (λ n. take n (drop child.label bytes)) child_made.size
          ∙ ap (λ n. take kid.length (drop n bytes)) (sym at)
          ∙ ap (take kid.length) (sym (drop-drop (range.depth + 1) start bytes))
          ∙ sym (inner_bytes (length (text patterns kid.low)) (range.depth + 1) kid.length
          (drop start bytes) (omega (arith, long, depth)))
          ∙ ap (λ s. take kid.length (drop (range.depth + 1) s))
          (rule_of side rules bytes patterns of_rules kid.low (omega (arith, kid_is.0.within, some))).is.among

      paths : path_of patterns ranges next ≡ path ++ byte ∷ label_of bytes child
      paths = kid_path is kid_is.1
          ∙ ap (λ b. path ++ b ∷ take kid.length (drop (range.depth + 1) (text patterns kid.low))) kid_first
          ∙ ap (λ l. path ++ byte ∷ l) (sym label_is)

    -- the pattern of a rule that goes on with a byte
    goes_on_at : (byte : ℕ) (rule : MappingRule) → Contains rules rule → acts side rule ≡ true
        → begins (path ++ byte ∷ []) (pattern side rule) ≡ true
        → (i : ℕ) × (i < length patterns) × (text patterns i ≡ pattern side rule) × (range.low ≤ i) × (i < range.high)
        × (range.depth < length (text patterns i)) × (get_or (text patterns i) range.depth 0 ≡ byte)
    goes_on_at byte rule holds acting b =
        let has =
        pattern_of side rules bytes patterns of_rules holds.0 rule
        (slice_get_read rules (length rules) holds.0 rule refl holds.1 (sym holds.2)) acting in
        let inside = goes_in ready is has.at byte has.within (ap (begins (path ++ byte ∷ [])) has.are ∙ b) in
        (has.at, has.within, has.are, inside.0, inside.1, inside.2, inside.3)

    whole : (byte next : ℕ) (child : Node) (rule : MappingRule) → IsChild nodes node byte next child
        → Contains rules rule → acts side rule ≡ true → begins (path ++ byte ∷ []) (pattern side rule) ≡ true
        → begins (path_of patterns ranges next) (pattern side rule) ≡ true
    whole byte next child rule leads holds acting b =
        let (kid_range, cut) = kid_is byte next child leads in
        let found = goes_on_at byte rule holds acting b in
        let in' = cut.group.all found.0 found.3 found.4 (found.6 ∙ sym (kid_first byte next child leads) ∙ cut.first_byte) in
        let depth = (range_at ranges next).depth in
        begins_from (path_of patterns ranges next) (pattern side rule) (drop depth (text patterns found.0))
        (sym found.2 ∙ sym (take-append-drop depth (text patterns found.0))
        ∙ ap (λ s. s ++ drop depth (text patterns found.0)) (kid_range.same found.0 in'.0 in'.1))

    complete : (byte : ℕ) (rule : MappingRule) → Contains rules rule → acts side rule ≡ true
        → begins (path ++ byte ∷ []) (pattern side rule) ≡ true
        → (next : ℕ) × (child : Node) × IsChild nodes node byte next child
    complete byte rule holds acting b =
        let found = goes_on_at byte rule holds acting b in
        let (k, inside, first_byte) = made.all.complete found.0 found.3 found.4 found.5 in
        let below : k < node.width = omega (arith, inside, made.width) in
        let within = built.within at node here in
        let child = get_or nodes (node.base + k) node in
        let e = slice_get-get_or nodes (node.base + k) node (omega (arith, full)) in (
          node.base + k,
          child,
          record {
            from = omega arith;
            below = omega (arith, below);
            here = e;
            first_byte = (built.each (node.base + k) child e).first_byte
                ∙ ap (λ (p : PatternRange). p.first_byte) (sym (kid_at k below)) ∙ first_byte ∙ found.6;
            real = λ z. no_zero ready found.0 range.depth found.1 found.5 (found.6 ∙ z);
          },
        )

    slots : node.is_sparse ≡ false → AreInSlots nodes node
    slots s = record {
      low_byte = made.low_byte;
      high = made.high;
      slots = λ k child b e ne.
          (let same : child.first_byte ≡ (range_at (take node.width (drop node.base ranges)) k).first_byte =
          (built.each (node.base + k) child e).first_byte ∙ ap (λ (p : PatternRange). p.first_byte) (sym (kid_at k b)) in
          same ∙ made.all.placed s k (omega (arith, b, made.width)) (λ z. ne (same ∙ z)));
    }

    label_within : node.label + node.length ≤ length bytes
    label_within =
        let size = made.size in
        elim (cases_lt range.low range.high) [
          | inl l ↦
              omega (
                arith,
                made.label l,
                (ready_at ready range.low (omega (arith, is.within))).within,
                is.long range.low (omega arith) l,
                size,
              )
          | inr g ↦
              (let same : range.low ≡ range.high = omega (arith, is.rising) in
              let depth : range.depth ≡ 0 = grind arith in
              omega (arith, made.bare same, is.label, depth, size))
        ]

    -- the path begins the first pattern of the range
    front : (path ≡ []) ⊎ BeginsPattern side rules path
    front = elim is.some [
      | inl z ↦ inl (ap (λ n. take n (text patterns range.low)) z)
      | inr l ↦
          (let of = rule_of side rules bytes patterns of_rules range.low (omega (arith, is.within)) in
          inr record {
            rule = of.is.rule;
            inside = (
              of.place,
              slice_get_within rules of.place of.is.rule of.is.here,
              get_or_from_slice_get rules of.place of.is.rule of.is.rule of.is.here,
            );
            acting = of.is.acting;
            starts = begins_from path (pattern side of.is.rule) (drop range.depth (text patterns range.low))
                (sym of.is.are ∙ sym (take-append-drop range.depth (text patterns range.low)));
          })
    ]

    is_node : IsNode side rules nodes bytes (path_of patterns ranges) at node
    is_node = record {
      answers = answer_is side rules bytes patterns of_rules few path node.answer (made.least is);
      within = omega (arith, built.within at node here, full);
      label = label_within;
      placed = λ s _. slots s;
      paths = paths;
      whole = whole;
      complete = complete;
      front = front;
    }

  -- the nodes are a trie
  pub is_trie : IsTrie side rules nodes bytes
  is_trie = record {
    path = path_of patterns ranges;
    root = omega (arith, full, built.some);
    begun = ap (λ n. take n (text patterns (range_at ranges 0).low)) built.root;
    each = λ at node here real.
        is_node at node here (elim (built.places at hole (omega (arith, slice_get_within nodes at node here, full))) [
          | inl p ↦ p
          | inr h ↦ absurd (elim real [
            | inl z ↦
                omega (
                  arith,
                  ap (λ n. (range_at ranges n).depth) z,
                  built.root,
                  ap (λ (p : PatternRange). p.depth) h,
                )
            | inr ne ↦ ne ((built.each at node here).first_byte ∙ ap (λ (p : PatternRange). p.first_byte) h)
          ])
        ]);
  }

  -- and their numbers are bounded
  pub are_bounded : All (IsBounded nodes bytes) nodes
  are_bounded k d l =
      let node = get_or nodes k d in
      let here = slice_get-get_or nodes k d l in
      let made = built.each k node here in
      let within = built.within k node here in
      let place = built.places k hole (omega (arith, l, full)) in
      record {
        answer = made.answer;
        label = elim place [
          | inl is ↦ omega (arith, label_within k node here is)
          | inr h ↦ omega (
            arith,
            made.bare (ap (λ (p : PatternRange). p.low) h ∙ sym (ap (λ (p : PatternRange). p.high) h)),
          )
        ];
        size = elim place [
          | inl is ↦ omega (arith, made.size, is.size)
          | inr h ↦ omega (arith, made.size, ap (λ (p : PatternRange). p.length) h)
        ];
        base = omega (arith, within, full);
        width = omega (arith, made.high, made.low_byte);
      }
