-- How many nodes the trie of some texts has does not depend on their order.
use Rattle.std.proofs.Common.{◌≡◌, ℕ, zero, suc, ◌+◌, ◌-◌, Bool, ◌&&◌, not, cond, nat_lt, nat_eq, List, [], ◌∷◌, ◌++◌}
use Rattle.std.proofs.Common.{length, sum_by, IsPermutation, refl, sym, ap, ◌∙◌}
use Rattle.std.proofs.Math.Path.{fun_ext}
use Rattle.std.specs.List.{filter, range_with_len}
use Rattle.std.proofs.lemmas.List.Sorted.{list_any-IsPermutation, sum_by-IsPermutation}
use Rattle.virtiofs_map.specs.Names.{begins}
use Rattle.virtiofs_map.specs.PatternTrie.{leads, ends, next_bytes, places, longest_label, goes_on, places_below}
use Rattle.virtiofs_map.specs.PatternTrie.{nodes_in_all}

module _ (texts other : List (List ℕ)) (moved : IsPermutation texts other) where
  next_same : (path : List ℕ) → next_bytes texts path ≡ next_bytes other path
  unfolding next_bytes leads
  next_same path =
      let same : ◌≡◌ {A = ℕ → Bool} (λ byte. leads texts (path ++ byte ∷ [])) (λ byte. leads other (path ++ byte ∷ [])) =
      fun_ext (λ byte. list_any-IsPermutation (begins (path ++ byte ∷ [])) texts other moved) in
      ap (λ p. filter p (range_with_len 1 255)) same

  goes_same : (room : ℕ) (path : List ℕ) → goes_on room texts path ≡ goes_on room other path
  unfolding goes_on ends
  goes_same room path =
      ap (λ b. nat_lt 0 room && not b && nat_eq (length (next_bytes texts path)) 1)
      (list_any-IsPermutation (λ text. begins path text && nat_eq (length text) (length path)) texts other moved)
      ∙ ap (λ (next : List ℕ). nat_lt 0 room && not (ends other path) && nat_eq (length next) 1) (next_same path)

  below_same : (levels room : ℕ) (path : List ℕ)
      → places_below levels room texts path ≡ places_below levels room other path
  unfolding places_below
  below_same zero room path = refl
  below_same (suc levels) room path =
      let deep : (List (List ℕ)) → ℕ → ℕ → ℕ = λ all room byte. places_below levels room all (path ++ byte ∷ []) in
      let label = fun_ext (λ byte. below_same levels (room - 1) (path ++ byte ∷ [])) in
      let node = fun_ext (λ byte. below_same levels longest_label (path ++ byte ∷ [])) in
      ap (λ b. cond b (sum_by (deep texts (room - 1)) (next_bytes texts path))
      (places (next_bytes texts path) + sum_by (deep texts longest_label) (next_bytes texts path))) (goes_same room path)
      ∙ ap (λ (next : List ℕ). cond (goes_on room other path) (sum_by (deep texts (room - 1)) next)
      (places next + sum_by (deep texts longest_label) next)) (next_same path)
      ∙ ap (λ (f : ℕ → ℕ). cond (goes_on room other path) (sum_by f (next_bytes other path))
      (places (next_bytes other path) + sum_by (deep texts longest_label) (next_bytes other path))) label
      ∙ ap (λ (f : ℕ → ℕ). cond (goes_on room other path) (sum_by (deep other (room - 1)) (next_bytes other path))
      (places (next_bytes other path) + sum_by f (next_bytes other path))) node

  pub nodes_same : nodes_in_all texts ≡ nodes_in_all other
  unfolding nodes_in_all
  nodes_same =
      ap (λ n. 1 + places_below (suc n) 0 texts []) (sym (sum_by-IsPermutation length texts other moved))
      ∙ ap (λ n. 1 + n) (below_same (suc (sum_by length other)) 0 [])
