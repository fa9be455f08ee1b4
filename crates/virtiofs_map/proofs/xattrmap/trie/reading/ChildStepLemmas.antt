-- Where the children of a node stand, and what a step to one of them passes.
use Rattle.std.proofs.Common.{◌≡◌, ◌≢◌, ℕ, ◌+◌, ◌-◌, ◌*◌, ◌%◌, ◌<◌, ◌≤◌, Bool, true, false, List, ◌∷◌}
use Rattle.std.proofs.Common.{◌++◌, length, take, drop, slice_get, Some, sym, ap, ◌∙◌, subst, arith, rules}
use Rattle.std.proofs.Math.Seq.{take-append_seam}
use Rattle.std.proofs.lemmas.Bool.{cases_Bool}
use Rattle.std.proofs.lemmas.List.{length-drop, length-take-le, take-append-drop, take_rest}
use Rattle.std.proofs.lemmas.Option.{slice_get_within, get_or_from_slice_get}
use Rattle.virtiofs_map.specs.NodeParts.{HasBytes, HasBytesAt, HasRows, IsChild, IsReadable, IsRootRow, IsRow}
use Rattle.virtiofs_map.specs.NodeParts.{IsSmallIn, LeadsNowhere, StaysAt, label_of, placed, row_in}
use Rattle.virtiofs_map.specs.FirstRule.{shared}
use Rattle.virtiofs_map.specs.Names.{begins}
use Rattle.virtiofs_map.specs.Steps.{count_after}
use Rattle.virtiofs_map.specs.declared.xattrmap.trie.node.Node.{Node}
use Rattle.virtiofs_map.proofs.BeginsLemmas.{begins_split}
use Rattle.virtiofs_map.proofs.RuleRowLemmas.{there}
use Rattle.virtiofs_map.proofs.LeU64Lemmas.{inside, length-row_of, row_at}

-- ---- rows

module _ {image : List ℕ} {first labels : ℕ} {nodes : List Node} (has : HasRows image first labels nodes) where
  -- the row of the node at a place
  pub row_there : (at : ℕ) (node : Node) → slice_get nodes at ≡ Some node
      → (8 * first + at * 24 + 24 ≤ length image)
      × IsRow first labels node (take 24 (drop (8 * first + at * 24) image))
  row_there at node here =
      let below = slice_get_within nodes at node here in
      let is = get_or_from_slice_get nodes at node node here in
      let bytes = subst HasBytes is (has.bytes at node below) in (
        omega (arith, below, has.within),
        record {
          is = sym (search (rules, inside))
              ∙ ap (λ (l : List ℕ). take 24 (drop (at * 24) l)) has.are
              ∙ row_at (row_in first labels) (λ one. length-row_of (placed first labels one)) nodes at node below
              ∙ ap (row_in first labels) is;
          small = subst (IsSmallIn first labels) is (has.small at node below);
          bytes = record { low_byte = bytes.low_byte; first_byte = bytes.first_byte };
        },
      )

  -- the row of the root
  pub root_there : (root : ℕ) → root ≡ 8 * first → 0 < length nodes
      → IsRootRow first labels nodes (take 24 (drop root image))
  root_there root is some =
      let one = there nodes 0 some in
      let row = row_there 0 one.0 one.1 in
      let same : 8 * first + 0 * 24 ≡ root = omega arith in
      record {
        node = one.0;
        here = one.1;
        is = grind arith;
      }

  -- the row that stands so many places behind the first child of a node
  pub child_there : {parent : Node} {bytes : List ℕ} (start behind place : ℕ) (row : List ℕ)
      → IsReadable nodes bytes parent → behind < parent.width → start ≡ first + 3 * parent.base
      → place ≡ 8 * (start + 3 * behind) → row ≡ take 24 (drop place image)
      → (child : Node) × (slice_get nodes (parent.base + behind) ≡ Some child) × (place + 24 ≤ length image)
      × IsRow first labels child row
  child_there {parent} {bytes} start behind place row readable below is_start is_place is_row =
      let one = there nodes (parent.base + behind) (omega arith) in
      let stands = row_there (parent.base + behind) one.0 one.1 in
      let same : 8 * first + (parent.base + behind) * 24 ≡ place = omega arith in (grind arith)

-- the label of a node stands in the image at its place there
pub label_there : {image bytes : List ℕ} {labels : ℕ} (node : Node) (from count : ℕ)
    → HasBytesAt image labels bytes → node.label + node.length ≤ length bytes
    → from ≡ labels + node.label → count ≡ node.length
    → (from + count ≤ length image) × (take count (drop from image) ≡ label_of bytes node)
    × (length (label_of bytes node) ≡ count)
label_there {bytes = bytes} node from count has within is_from is_count = (
  omega (arith, has.within),
  search (rules, inside),
  length-take-le node.length (drop node.label bytes) (omega (arith, length-drop node.label bytes)) ∙ sym is_count,
)

-- a row that begins with a label goes on after it
pub after_label : (label row : List ℕ) (count : ℕ) → take count row ≡ label
    → row ≡ label ++ take (length row - count) (drop count row)
after_label label row count same =
    sym (take-append-drop count row) ∙ ap (λ (l : List ℕ). l ++ drop count row) same
    ∙ ap (λ (l : List ℕ). label ++ l) (sym (take_rest row count))

-- a row that does not begin with it
pub unlike_label : (label row : List ℕ) (count : ℕ) → length label ≡ count → (take count row ≡ label → ⊥)
    → begins label row ≡ false
unlike_label label row count size differ = search (rules, cases_Bool, begins_split, take-append_seam)

-- ---- places

module _ {nodes : List Node} {bytes : List ℕ} {parent : Node} (byte : ℕ)
    (readable : IsReadable nodes bytes parent) where
  -- a child that is not sparse stands as far behind the first place as its byte behind the lowest
  pub slot_of : (at behind : ℕ) (child : Node) → parent.is_sparse ≡ false → byte < 256
      → behind ≡ (byte + (256 - parent.low_byte)) % 256 → IsChild nodes parent byte at child → at ≡ parent.base + behind
  slot_of at behind child flat fits far leads =
      let from = leads.from in
      let below = leads.below in
      let wide : 1 ≤ parent.width = omega (arith, from, below) in
      let slots = readable.placed flat wide in
      let there : parent.base + (at - parent.base) ≡ at = omega (arith, from) in
      let here : slice_get nodes (parent.base + (at - parent.base)) ≡ Some child = grind arith in
      let real : child.first_byte ≢ 0 = λ none. leads.real (sym leads.first_byte ∙ none) in
      let stands : child.first_byte ≡ parent.low_byte + (at - parent.base) =
      grind arith in
      omega (arith, stands, leads.first_byte, slots.low_byte, slots.high, from, below, far, fits)

  -- no child stands there
  module _ (behind : ℕ) (flat : parent.is_sparse ≡ false) (fits : byte < 256)
      (far : behind ≡ (byte + (256 - parent.low_byte)) % 256) where
    pub past_slots : parent.width ≤ behind → LeadsNowhere nodes parent byte
    past_slots past at child leads = omega (arith, slot_of at behind child flat fits far leads)

    pub other_slot : (other : Node) → slice_get nodes (parent.base + behind) ≡ Some other → other.first_byte ≢ byte
        → LeadsNowhere nodes parent byte
    other_slot other read unlike at child leads = search (rules, slice_get, slot_of)

  -- none of the places of sparse children has the byte
  pub nowhere : (count : ℕ) → parent.width ≤ count
      → ((k : ℕ) (child : Node) → k < count → slice_get nodes (parent.base + k) ≡ Some child → child.first_byte ≡ byte
      → ⊥)
      → LeadsNowhere nodes parent byte
  nowhere count all none at child leads =
      let from = leads.from in
      let there : parent.base + (at - parent.base) ≡ at = omega (arith, from) in
      none (at - parent.base) child (omega (arith, from)) (ap (slice_get nodes) there ∙ leads.here)
      leads.first_byte

-- ---- no step

module _ {nodes : List Node} {bytes : List ℕ} {parent : Node} {rest : List ℕ} {whole : Bool}
    {before after : ℕ} where
  module _ {byte : ℕ} {left : List ℕ} (split : rest ≡ byte ∷ left) where
    -- the first byte leads nowhere
    pub stays_nowhere : LeadsNowhere nodes parent byte → after ≡ before
        → StaysAt nodes bytes parent rest whole before after
    stays_nowhere nowhere same = search rules

    -- the label of the child does not fit
    pub stays_unlike : {place : ℕ} {child : Node} → IsChild nodes parent byte place child
        → begins (label_of bytes child) left ≡ false
        → (whole ≡ true → after ≡ count_after before (shared (label_of bytes child) left + 1))
        → StaysAt nodes bytes parent rest whole before after
    stays_unlike leads unlike counts = search rules
