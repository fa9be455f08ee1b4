-- Names in the order of their bytes.
use Rattle.std.proofs.Common.{◌≡◌, ℕ, ◌<◌, ◌≤◌, true, false, List, [], ◌∷◌, ◌++◌, length, get_or, Contains}
use Rattle.std.proofs.Common.{Some, refl, ap, ◌∙◌, arith, rules}
use Rattle.std.specs.BTreeMap.Comparable.{le_lt_trans}
use Rattle.std.specs.Cmp.Lexicographic.{slice_cmp, nat_list_cmp_total}
use Rattle.std.specs.List.{slice_get}
use Rattle.std.specs.List.Sorted.{IsPartitionedBy, IsPartitionPoint}
use Rattle.std.specs.Ordering.{nat_cmp, is_lt, is_le, ordering_index, ordering_reverse, ordering_then}
use Rattle.std.specs.declared.cmp.Ordering.{Ordering}
use Rattle.std.specs.declared.cmp.Ordering.TheVariants.{Less}
use Rattle.std.proofs.lemmas.Bool.{false≢true}
use Rattle.std.proofs.lemmas.Cmp.{ranked, by_ranked, nat_cmp_total, tied_itself}
use Rattle.std.proofs.lemmas.List.Sorted.{ranks_by, sorted_far, searchable_from_sorted}
use Rattle.std.proofs.lemmas.Option.{slice_get-get_or, slice_get_within, get_or_from_slice_get}
use Rattle.virtiofs_map.specs.Audit.{IsBefore}
use Rattle.virtiofs_map.specs.AuditParts.{AreOrdered, CountsBefore}
use Rattle.virtiofs_map.specs.Names.{begins}
use Rattle.virtiofs_map.proofs.audit.AuditLeastLemmas.{is_lt-true, is_lt-false}

-- ---- names in order

-- of two names the later does not come before the earlier
pub in_order : (names : List (List ℕ)) → AreOrdered names → (i j : ℕ) (one other : List ℕ) → i ≤ j
    → slice_get names i ≡ Some one → slice_get names j ≡ Some other → ¬ IsBefore other one
in_order names ordered i j one other l here there =
    let far =
    sorted_far (λ (a b : List ℕ). is_lt (slice_cmp nat_cmp a b)) (ranks_by nat_list_cmp_total (λ (a : List ℕ). a)) names
    ordered i j one l (slice_get_within names j other there) in
    let at_i : get_or names i one ≡ one = get_or_from_slice_get names i one one here in
    let at_j : get_or names j one ≡ other = get_or_from_slice_get names j other one there in
    is_lt-false (slice_cmp nat_cmp other one)
    (grind arith)

lt_lower : (o p : Ordering) → ordering_index o ≤ ordering_index p → is_lt p ≡ true → is_lt o ≡ true
lt_lower o p l e = grind (arith, false≢true)

pub before_partitioned : (names : List (List ℕ)) (bytes : List ℕ) → AreOrdered names
    → IsPartitionedBy (λ name. is_lt (slice_cmp nat_cmp name bytes)) names
before_partitioned names bytes ordered = λ i j d l within e.
    (let rises = searchable_from_sorted nat_list_cmp_total (λ (a : List ℕ). a) names bytes ordered in
    lt_lower (slice_cmp nat_cmp (get_or names i d) bytes) (slice_cmp nat_cmp (get_or names j d) bytes)
    (rises i j d l within) e)

-- ---- what a search finds

pub counts_before : (names : List (List ℕ)) (bytes : List ℕ) (count : ℕ) → count ≤ length names
    → IsPartitionPoint (λ name. is_lt (slice_cmp nat_cmp name bytes) ≡ true)
    (λ name. is_lt (slice_cmp nat_cmp name bytes) ≡ false) names count
    → CountsBefore names bytes count
counts_before names bytes count l parted =
    search (rules, get_or_from_slice_get, is_lt-true, is_lt-false, slice_get_within)

-- a name of the list, and its place
pub place_of : {X : Type 0} (names : List X) (name : X) → Contains names name
    → (k : ℕ) × (k < length names) × (slice_get names k ≡ Some name)
place_of names name (k, l, e) = (k, l, slice_get-get_or names k name l ∙ ap Some e)

-- ---- what stands between

-- a byte that is neither before nor after another is that byte
first_byte : (x y : ℕ) (rest more : Ordering) → ¬ (ordering_then (nat_cmp x y) rest ≡ Less)
    → ¬ (ordering_then (nat_cmp y x) more ≡ Less) → x ≡ y
first_byte x y rest more fails others = search (rules, by_ranked, ranked)

pub level : (x : ℕ) (rest : Ordering) → ordering_then (nat_cmp x x) rest ≡ rest
level x rest = ap (λ o. ordering_then o rest) (tied_itself nat_cmp_total x)

-- what begins a name begins all names that stand between it and that name
pub between : (front middle name : List ℕ) → begins front name ≡ true → ¬ IsBefore middle front → ¬ IsBefore name middle
    → begins front middle ≡ true
between [] middle name b low high = refl
between (x ∷ front) middle [] b low high = absurd (false≢true b)
between (x ∷ front) [] (z ∷ name) b low high = absurd (low refl)
between (x ∷ front) (y ∷ middle) (z ∷ name) b low high = grind (arith, between front middle name)

-- a name does not come before what begins it
pub front_not_before : (front name : List ℕ) → begins front name ≡ true → ¬ IsBefore name front
front_not_before [] [] b l = cc
front_not_before [] (y ∷ name) b l = cc
front_not_before (x ∷ front) [] b l = false≢true b
front_not_before (x ∷ front) (y ∷ name) b l = grind (arith, front_not_before front name)

-- ---- names after the same bytes

pub cmp_after : (cut one other : List ℕ) → slice_cmp nat_cmp (cut ++ one) (cut ++ other) ≡ slice_cmp nat_cmp one other
cmp_after [] one other = refl
cmp_after (x ∷ cut) one other = level x (slice_cmp nat_cmp (cut ++ one) (cut ++ other)) ∙ cmp_after cut one other

turned : (o p : Ordering) → o ≡ ordering_reverse p → (p ≡ Less → ⊥) → is_le o ≡ true
turned o p e not = grind arith

-- what does not come before a name does not come before what that does not come before
pub not_before_trans : (one other more : List ℕ) → ¬ IsBefore one other → ¬ IsBefore other more → ¬ IsBefore one more
not_before_trans one other more first then = λ less.
    then (le_lt_trans nat_list_cmp_total other one more
    (turned _ _ (nat_list_cmp_total.antisymm other one) first) less)
