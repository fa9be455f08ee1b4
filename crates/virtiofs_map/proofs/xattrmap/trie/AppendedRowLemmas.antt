-- Rows that are appended, of nodes whose numbers fit.
use Rattle.std.proofs.Common.{◌≡◌, ℕ, ◌+◌, ◌*◌, ◌<◌, List, [], ◌∷◌, ◌++◌, All, length, sym, ap, subst, ◌∙◌, arith}
use Rattle.std.proofs.Common.{append-nil, flat_map}
use Rattle.std.proofs.Math.Seq.{drop-append_seam, take-append_seam}
use Rattle.std.proofs.lemmas.List.{length_push}
use Rattle.std.proofs.lemmas.List.Concat.{flat_map-append}
use Rattle.std.proofs.lemmas.List.Elements.{All-drop, All-head, All-nil, All-push, All-take}
use Rattle.virtiofs_map.specs.NodeParts.{AreRowsOf, HasBytes, IsSmall, IsSmallIn, placed, row_in, row_of}
use Rattle.virtiofs_map.specs.declared.xattrmap.trie.node.Node.{Node}

-- what holds of a list with one more holds of the list, and of the last
module _ {X : Type 0} (P : X → Type 0) (xs : List X) (x : X) (all : All P (xs ++ x ∷ [])) where
  pub all_before : All P xs
  all_before = subst (All P) (take-append_seam xs (x ∷ [])) (All-take P (length xs) (xs ++ x ∷ []) all)

  pub all_last : P x
  all_last =
      All-head P x [] (subst (All P) (drop-append_seam xs (x ∷ [])) (All-drop P (length xs) (xs ++ x ∷ []) all))

pub rows_none : (rows : List ℕ) (first : ℕ) → rows ≡ [] → AreRowsOf rows first []
rows_none rows first none = record { long = ap length none; are = λ small. none; bytes = All-nil HasBytes }

-- one row more
pub rows_more : (old new : List ℕ) (first : ℕ) (nodes : List Node) (node there : Node) → AreRowsOf old first nodes
    → (first + 3 * node.base < 18446744073709551616 → there ≡ placed first 0 node) → HasBytes node
    → (IsSmall there → new ≡ old ++ row_of there) → length new ≡ length old + 24
    → AreRowsOf new first (nodes ++ node ∷ [])
rows_more old new first nodes node there of is_placed bytes row longer = record {
  long = omega (arith, length_push nodes node);
  are = λ small.
      (let one : IsSmallIn first 0 node = all_last (IsSmallIn first 0) nodes node small in
      let same : there ≡ placed first 0 node = is_placed (omega (arith, one.base)) in
      row (subst IsSmall (sym same) one)
      ∙ ap (λ (l : List ℕ). l ++ row_of there) (of.are (all_before (IsSmallIn first 0) nodes node small))
      ∙ ap (λ (n : Node). flat_map (row_in first 0) nodes ++ row_of n) same
      ∙ ap (λ (l : List ℕ). flat_map (row_in first 0) nodes ++ l) (sym (append-nil (row_in first 0 node)))
      ∙ sym (flat_map-append (row_in first 0) nodes (node ∷ [])));
  bytes = All-push HasBytes nodes node of.bytes bytes;
}
