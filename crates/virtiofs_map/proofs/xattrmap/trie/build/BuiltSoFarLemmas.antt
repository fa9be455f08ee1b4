-- The nodes that are built so far, and how many places are to come.
use Rattle.std.proofs.Common.{◌≡◌, ◌⊎◌, ℕ, zero, suc, ◌+◌, ◌<◌, ◌≤◌, List, [], ◌∷◌, ◌++◌, Some, length}
use Rattle.std.proofs.Common.{inl, inr, refl, sym, subst, ap, take, drop, sum_by, ◌∙◌, arith, slice_get, length-append}
use Rattle.std.proofs.Common.{take_all, length-drop}
use Rattle.std.proofs.lemmas.List.{drop-append-le, drop_at, get_or_append_left, length_push, take-append-le}
use Rattle.std.proofs.lemmas.List.Elements.{All-append}
use Rattle.std.proofs.lemmas.List.Sums.{sum_by-append, sum_by-cons, sum_by_more}
use Rattle.virtiofs_map.specs.NodeParts.{no_answer}
use Rattle.virtiofs_map.specs.TrieBuildParts.{AreBuilt, IsBuilt, IsExpanded, IsRangeOrHole, below, hole, range_at, texts_of}
use Rattle.virtiofs_map.specs.PatternTrie.{nodes_in_all}
use Rattle.virtiofs_map.specs.declared.xattrmap.trie.node.Node.{Node}
use Rattle.virtiofs_map.specs.declared.xattrmap.trie.build.PatternRange.{PatternRange}
use Rattle.virtiofs_map.specs.declared.xattrmap.trie.patterns.Pattern.{Pattern}

-- ---- parts of lists

module _ {X : Type 0} where
  -- an element of a list with one more is one of the list, or the last
  push_cases : (xs : List X) (y : X) (k : ℕ) (z : X) → slice_get (xs ++ y ∷ []) k ≡ Some z
      → ((k < length xs) × (slice_get xs k ≡ Some z)) ⊎ ((k ≡ length xs) × (y ≡ z))
  push_cases [] y zero z e = inr (refl, cc)
  push_cases [] y (suc k) z e = absurd cc
  push_cases (x ∷ xs) y zero z e = inl (omega arith, e)
  push_cases (x ∷ xs) y (suc k) z e = grind (arith, push_cases xs y k z e)

  part_keeps : (xs ys : List X) (from size : ℕ) → from + size ≤ length xs
      → take size (drop from (xs ++ ys)) ≡ take size (drop from xs)
  part_keeps xs ys from size within = grind (arith, drop-append-le, take-append-le, length-drop)

  part_last : (xs ys : List X) (from size : ℕ) → from ≡ length xs → size ≡ length ys
      → take size (drop from (xs ++ ys)) ≡ ys
  part_last xs ys from size is_from is_size =
      ap (take size) (drop_at xs ys from (sym is_from)) ∙ take_all size ys (omega arith)

-- ---- one node more

module _ (patterns : List Pattern) (old new : List PatternRange) (range : PatternRange) (node : Node) (at : ℕ)
    (inside : at < length old) (here : range ≡ range_at old at) (made : IsExpanded patterns old new range node) where
  pub built_more : (nodes : List Node) → at ≡ length nodes → AreBuilt patterns old nodes
      → AreBuilt patterns new (nodes ++ node ∷ [])
  built_more nodes is built = subst (λ ranges. AreBuilt patterns ranges (nodes ++ node ∷ [])) (sym made.are) record {
    places = All-append (IsRangeOrHole patterns) old made.kids built.places
        (λ k d l. elim (made.built.all.each k d l) [ inl both ↦ inl both.0 | inr h ↦ inr h ]);
    counted = omega (arith, length_push nodes node, size, inside);
    some = omega (arith, built.some, size);
    root = ap (λ (p : PatternRange). p.depth) (kept 0 built.some) ∙ built.root;
    within = λ k other f. elim (push_cases nodes node k other f) [
      | inl (_, h) ↦ omega (arith, built.within k other h, size)
      | inr (_, same) ↦ subst (λ (n : Node). n.base + n.width ≤ length (old ++ made.kids)) same
          (omega (arith, made.base, made.built.width, size))
    ];
    each = λ k other f. elim (push_cases nodes node k other f) [
      | inl (earlier, h) ↦
          subst (λ kids. IsBuilt patterns kids (range_at (old ++ made.kids) k) other)
          (sym (part_keeps old made.kids other.base other.width (built.within k other h)))
          (subst (λ one. IsBuilt patterns (take other.width (drop other.base old)) one other)
          (sym (kept k (omega (arith, earlier, built.counted)))) (built.each k other h))
      | inr (now, same) ↦
          (let there : range ≡ range_at (old ++ made.kids) k =
          here ∙ ap (range_at old) (is ∙ sym now) ∙ sym (kept k (omega (arith, is, now, inside))) in
          subst (λ (n : Node). IsBuilt patterns (take n.width (drop n.base (old ++ made.kids))) (range_at (old ++ made.kids) k) n)
          same
          (subst (λ kids. IsBuilt patterns kids (range_at (old ++ made.kids) k) node)
          (sym (part_last old made.kids node.base node.width made.base made.built.width))
          (subst (λ one. IsBuilt patterns made.kids one node) there made.built)))
    ];
  } where
    size : length (old ++ made.kids) ≡ length old + length made.kids
    size = length-append old made.kids

    kept : (k : ℕ) → k < length old → range_at (old ++ made.kids) k ≡ range_at old k
    kept k l = get_or_append_left old made.kids hole k l

  -- and the places that are to come
  pub total_more : (total : ℕ)
      → length old + sum_by (below patterns) old ≡ total + sum_by (below patterns) (take at old)
      → length new + sum_by (below patterns) new ≡ total + sum_by (below patterns) (take (at + 1) new)
  total_more total are =
      let front = ap (sum_by (below patterns)) (ap (take (at + 1)) made.are ∙ take-append-le (at + 1) old made.kids (omega arith)) in
      omega (
        arith,
        front,
        ap (below patterns) here,
        sum_by_more (below patterns) old at hole inside,
        made.counted,
        ap length made.are ∙ length-append old made.kids,
        ap (sum_by (below patterns)) made.are ∙ sum_by-append (below patterns) old made.kids,
      )

-- ---- the root

-- the range of all patterns
abbrev pub root : ℕ → PatternRange
root high = record { low = 0; high = high; depth = 0; length = 0; answer = no_answer; first_byte = 0 }

pub root_built : (patterns : List Pattern) → AreBuilt patterns (root (length patterns) ∷ []) []
root_built patterns = grind arith

pub root_total : (patterns : List Pattern)
    → 1 + sum_by (below patterns) (root (length patterns) ∷ []) ≡ nodes_in_all (texts_of patterns) + 0
unfolding below nodes_in_all
root_total patterns = grind (arith, sum_by-cons)
