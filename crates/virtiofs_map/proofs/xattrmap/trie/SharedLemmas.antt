-- How many bytes a name shares with patterns.
use Rattle.std.proofs.Common.{◌≡◌, ℕ, zero, suc, ◌+◌, ◌≤◌, true, false, eqb, List, [], ◌∷◌, ◌++◌, length}
use Rattle.std.proofs.Common.{take, drop, max, min, Contains, Option, Some, None, refl, sym, ap, ◌∙◌}
use Rattle.std.proofs.Common.{arith, append_assoc, append-nil, slice_get, option_and_then, eqb-true, true≢false}
use Rattle.std.proofs.Common.{length-drop, rules}
use Rattle.std.specs.Option.{option_map_or}
use Rattle.std.proofs.lemmas.Bool.{cond_both, and_from}
use Rattle.std.proofs.lemmas.Bool.Decides.{Decides-eqb}
use Rattle.std.proofs.lemmas.List.Sums.{common_prefix_len-le}
use Rattle.std.proofs.lemmas.List.Elements.{Contains-append_right}
use Rattle.std.proofs.lemmas.Option.{get_or_from_slice_get, slice_get_within}
use Rattle.virtiofs_map.specs.FirstRule.{CountsLookup, acts, pattern, deciding_length, longest, shared, most_shared}
use Rattle.virtiofs_map.specs.Names.{begins, first}
use Rattle.virtiofs_map.specs.Rule.{MappingRule}
use Rattle.virtiofs_map.specs.Steps.{count_after}
use Rattle.virtiofs_map.specs.declared.xattrmap.scopes.Side.{Side}
use Rattle.virtiofs_map.proofs.BeginsLemmas.{begins_split}
use Rattle.virtiofs_map.proofs.xattrmap.DecidingLemmas.{first_at, fit_parts}
use Rattle.virtiofs_map.proofs.xattrmap.PathLemmas.{no_longer}

-- ---- two rows

-- no more than either of them has
pub shared_within : (one other : List ℕ) → (shared one other ≤ length one) × (shared one other ≤ length other)
shared_within one other = common_prefix_len-le eqb one other

-- what they begin with alike, and then what the rests share
pub shared_past : (front one other : List ℕ) → shared (front ++ one) (front ++ other) ≡ length front + shared one other
shared_past [] one other = omega arith
shared_past (x ∷ front) one other = grind (arith, shared_past front one other)

-- all of a row that begins the other
pub shared_whole : (one other : List ℕ) → begins one other ≡ true → shared one other ≡ length one
shared_whole one other b =
    let alone = ap (λ row. shared row (one ++ drop (length one) other)) (append-nil one) in
    ap (shared one) (begins_split one other b) ∙ sym alone ∙ omega (arith, shared_past one [] (drop (length one) other))

-- where a label does not begin a row, what goes on after the label shares no more
pub shared_label : (label more left : List ℕ) → begins label left ≡ false
    → shared (label ++ more) left ≡ shared label left
shared_label [] more left unlike = absurd (true≢false unlike)
shared_label (x ∷ label) more [] unlike = refl
shared_label (x ∷ label) more (y ∷ left) unlike = grind (arith, shared_label label more left)

-- a front that is shared begins the other
pub shared_front : (one other : List ℕ) (k : ℕ) → k ≤ shared one other → begins (take k other) one ≡ true
shared_front one other zero low = refl
shared_front one [] (suc k) low = refl
shared_front [] (y ∷ other) (suc k) low = absurd (omega arith)
shared_front (x ∷ one) (y ∷ other) (suc k) low =
    cond_both (eqb x y) (1 + shared one other) 0 (λ n. suc k ≤ n → begins (take (suc k) (y ∷ other)) (x ∷ one) ≡ true)
    (λ e below. and_from (eqb y x) (begins (take k other) one) ((Decides-eqb y x).1 (sym (eqb-true x y e)))
    (shared_front one other k (omega arith)))
    (λ _ below. absurd (omega arith)) low

pub shared_ended : (one other : List ℕ) (n : ℕ) → min (length one) (length other) ≤ n
    → n + shared (drop n one) (drop n other) ≡ shared one other → n ≡ shared one other
shared_ended one other n past so_far = search (rules, shared_within, length-drop)

-- ---- a path and a label

module _ (path label left name p : List ℕ) (byte : ℕ) where
  -- a pattern that goes on with a label, which does not begin what is left of the name
  pub shared_misses : name ≡ path ++ byte ∷ left → begins (path ++ byte ∷ label) p ≡ true → begins label left ≡ false
      → shared p name ≡ length path + (1 + shared label left)
  shared_misses split goes_on unlike =
      let more = drop (length (path ++ byte ∷ label)) p in
      let whole : p ≡ path ++ (byte ∷ (label ++ more)) = begins_split (path ++ byte ∷ label) p goes_on
      ∙ append_assoc path (byte ∷ label) more in
      ap (λ row. shared row name) whole
      ∙ ap (shared (path ++ (byte ∷ (label ++ more)))) split
      ∙ shared_past path (byte ∷ (label ++ more)) (byte ∷ left)
      ∙ ap (λ n. length path + n) (grind (arith, shared_past, shared_label))

-- a pattern that goes on after the path
pub shared_path : (path rest name p : List ℕ) → name ≡ path ++ rest → begins path p ≡ true → length path ≤ shared p name
shared_path path rest name p split goes_on =
    let more = drop (length path) p in
    let same = ap (λ row. shared row name) (begins_split path p goes_on) ∙ ap (shared (path ++ more)) split
    ∙ shared_past path more rest in
    omega (arith, same)

-- ---- the patterns of all rules

-- a pattern shares no more than the most
pub most_at_least : (side : Side) (rules : List MappingRule) (name : List ℕ) (rule : MappingRule) → Contains rules rule
    → acts side rule ≡ true → shared (pattern side rule) name ≤ most_shared side rules name
most_at_least side [] name rule (at, below, is) acting = absurd (omega arith)
most_at_least side (r ∷ rules) name rule (zero, below, is) acting = grind arith
most_at_least side (r ∷ rules) name rule (suc at, below, is) acting =
    let later = most_at_least side rules name rule (at, omega arith, is) acting in
    grind arith

-- what is no less than each is no less than the most
pub most_at_most : (side : Side) (rules : List MappingRule) (name : List ℕ) (top : ℕ)
    → ((rule : MappingRule) → Contains rules rule → acts side rule ≡ true → shared (pattern side rule) name ≤ top)
    → most_shared side rules name ≤ top
most_at_most side [] name top each = omega arith
most_at_most side (r ∷ rules) name top each =
    let later = most_at_most side rules name top
    (λ rule inside. each rule (Contains-append_right (r ∷ []) rules rule inside)) in
    cond_both (acts side r) (max (shared (pattern side r) name) (most_shared side rules name))
    (most_shared side rules name) (λ n. n ≤ top)
    (λ acting. omega (arith, later, each r (0, omega arith, refl) acting)) (λ _. later)

module _ (side : Side) (rules : List MappingRule) (name : List ℕ) where
  -- the pattern that decides is shared whole
  deciding_shared : deciding_length side rules name ≤ most_shared side rules name
  deciding_shared = by (first side rules name) refl where
    length_of : Option MappingRule → ℕ
    length_of o = option_map_or (λ rule. length (pattern side rule)) o 0

    by : (place : Option ℕ) → first side rules name ≡ place → deciding_length side rules name ≤ most_shared side rules name
    by None none = omega (arith, ap length_of (ap (option_and_then (slice_get rules)) none))
    by (Some at) some =
        let is = first_at side rules name at some in
        let (on, starts) = fit_parts side name is.rule is.fit in
        omega (
          arith,
          ap length_of (ap (option_and_then (slice_get rules)) some ∙ is.here),
          shared_whole (pattern side is.rule) name starts,
          most_at_least side rules name is.rule
              (at, slice_get_within rules at is.rule is.here, get_or_from_slice_get rules at is.rule is.rule is.here) on,
        )

  most_within : most_shared side rules name ≤ length name
  most_within = grind (arith, most_at_most, shared_within)

  most_longest : most_shared side rules name ≤ longest side rules
  most_longest = grind (arith, most_at_most, shared_within, no_longer)

  -- so the count is between the least and the most
  pub lookup_counted : (before after : ℕ) → after ≡ count_after before (most_shared side rules name + 1)
      → CountsLookup side rules name before after
  lookup_counted before after e = grind (arith, deciding_shared, most_within, most_longest)

-- a count that is added to another
pub counted_on : (before none counted after n : ℕ) → none ≡ 0 → counted ≡ count_after none n
    → after ≡ count_after before counted → after ≡ count_after before n
counted_on before none counted after n begun count added = omega arith
