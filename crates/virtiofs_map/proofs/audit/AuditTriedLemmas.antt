-- The loops over the names that an audit tries.
use Rattle.std.proofs.Common.{◌≡◌, ◌⊎◌, ℕ, ◌+◌, ◌<◌, ◌≤◌, false, List, [], ◌∷◌, ◌++◌, length, get_or}
use Rattle.std.proofs.Common.{Some, inl, inr, sym, ap, ◌∙◌, subst, arith, rules}
use Rattle.std.specs.List.{slice_get}
use Rattle.std.proofs.lemmas.Bool.{cases_lt, false≢true}
use Rattle.std.proofs.lemmas.Option.{same_Some, slice_get-get_or}
use Rattle.virtiofs_map.specs.Audit.{IsBefore}
use Rattle.virtiofs_map.specs.AuditParts.{Handled, TriedSoFar, Tries, is_first, LedTo, IsLiveRest, IsWhole, AreOrdered, CountsBefore, IsRepeated}
use Rattle.virtiofs_map.specs.Names.{begins, Passes, client_answer}
use Rattle.virtiofs_map.specs.Rule.{MappingRule}
use Rattle.virtiofs_map.proofs.BeginsLemmas.{begins_from}
use Rattle.virtiofs_map.proofs.audit.AuditLeastLemmas.{tries_none, tries_both, tries_fewer, not_first}
use Rattle.virtiofs_map.proofs.audit.AuditOrderLemmas.{place_of, in_order, between, front_not_before, cmp_after}
use Rattle.virtiofs_map.proofs.audit.AuditOrderLemmas.{not_before_trans}

-- one of the elements before that place leads to the name
pub record LedBelow {X : Type 0} (xs : List X) (n : ℕ) (leads : X → List ℕ → Type 0) (name : List ℕ) : Type 0 where
  pub element : X
  pub place : ℕ
  pub before : place < n
  pub here : slice_get xs place ≡ Some element
  pub led : leads element name

earlier : {X : Type 0} (xs : List X) (n m : ℕ) (leads : X → List ℕ → Type 0) (name : List ℕ)
    (below : LedBelow xs m leads name) → below.place < n → LedBelow xs n leads name
earlier xs n m leads name below before = search rules

-- at one place more stands the element itself
last_place : {X : Type 0} (xs : List X) (n : ℕ) (leads : X → List ℕ → Type 0) (name : List ℕ)
    (below : LedBelow xs (n + 1) leads name) → n ≤ below.place → slice_get xs n ≡ Some below.element
last_place xs n leads name below over = search rules

led_more : {X : Type 0} (xs : List X) (n : ℕ) (leads : X → List ℕ → Type 0) (name : List ℕ) (x : X)
    → slice_get xs n ≡ Some x → LedBelow xs (n + 1) leads name → LedBelow xs n leads name ⊎ leads x name
led_more xs n leads name x here below = search (rules, cases_lt, earlier, same_Some, last_place)

led_repeated : (xs : List (List ℕ)) (n : ℕ) (leads : List ℕ → List ℕ → Type 0) (name : List ℕ) → IsRepeated xs n
    → LedBelow xs (n + 1) leads name → LedBelow xs n leads name
led_repeated xs n leads name (some_before, same) below = search (rules, cases_lt, earlier, last_place)

pub tries_start : {Bad : List ℕ → Type 0} {xs : List (List ℕ)} {leads : List ℕ → List ℕ → Type 0} {most : ℕ}
    (tried : TriedSoFar) → Tries Bad (LedBelow xs 0 leads) most tried tried
tries_start tried = tries_none tried (λ name below. absurd (omega (arith, below.before)))

-- the element at the place leads to what was tried then
pub tries_next : {Bad : List ℕ → Type 0} {xs : List (List ℕ)} {leads : List ℕ → List ℕ → Type 0} {n m k most : ℕ}
    {a b c : TriedSoFar} {x element : List ℕ} → n < length xs → element ≡ get_or xs n element → x ≡ element
    → Tries Bad (LedBelow xs n leads) m a b → Tries Bad (leads x) k b c → m + k ≤ most
    → Tries Bad (LedBelow xs (n + 1) leads) most a c
tries_next {xs = xs} {leads = leads} {n = n} {x = x} {element = element} l e same first then few =
    tries_fewer (tries_both first then)
    (λ name below. led_more xs n leads name x (slice_get-get_or xs n element l ∙ ap Some (sym e ∙ sym same)) below) few

-- it stands just before it too
pub tries_repeated : {Bad : List ℕ → Type 0} {xs : List (List ℕ)} {leads : List ℕ → List ℕ → Type 0} {n m most : ℕ}
    {a b : TriedSoFar} → IsRepeated xs n → Tries Bad (LedBelow xs n leads) m a b → m ≤ most
    → Tries Bad (LedBelow xs (n + 1) leads) most a b
tries_repeated {xs = xs} {leads = leads} {n = n} same first few =
    tries_fewer first (λ name below. led_repeated xs n leads name same below) few

pub tries_end : {Bad : List ℕ → Type 0} {xs : List (List ℕ)} {leads : List ℕ → List ℕ → Type 0} {n m most : ℕ}
    {a b : TriedSoFar} → length xs ≤ n → Tries Bad (LedBelow xs n leads) m a b → m ≤ most
    → Tries Bad (LedTo xs leads) most a b
tries_end {xs = xs} l first few =
    tries_fewer first
    (λ name (x, among, led).
    (let (k, within, here) = place_of xs x among in
    record { element = x; place = k; before = omega arith; here = here; led = led })) few

-- the elements from a place on may be left out, if what they lead to was handled
ends_early : {Bad : List ℕ → Type 0} {xs : List (List ℕ)} {leads : List ℕ → List ℕ → Type 0} {here : List ℕ}
    {n m most : ℕ} {old now : TriedSoFar} → AreOrdered xs → slice_get xs n ≡ Some here
    → Tries Bad (LedBelow xs n leads) m old now → m ≤ most
    → ((other name : List ℕ) → ¬ IsBefore other here → leads other name → Handled Bad now.least name)
    → Tries Bad (LedTo xs leads) most old now
ends_early {xs = xs} {here = here} {n = n} ordered is first few handled = record {
  handled = λ name (other, among, led).
      (let (k, within, there) = place_of xs other among in
      elim (cases_lt k n) [
        | inl less ↦
            first.handled name (record { element = other; place = k; before = less; here = there; led = led })
        | inr over ↦ handled other name (in_order xs ordered n k here other over is there) led
      ]);
  kept = first.kept;
  found = first.found;
  counts = omega (arith, first.counts);
}

-- ---- what is left of patterns after an added prefix

-- the name is what is left of the pattern, and passes as it
abbrev pub IsAfter : List MappingRule → List ℕ → List ℕ → List ℕ → Type 0
IsAfter rules added pattern name = (pattern ≡ added ++ name) × (client_answer rules name ≡ Passes pattern)

pub rests_start : {Bad : List ℕ → Type 0} (rules : List MappingRule) (patterns : List (List ℕ)) (added : List ℕ)
    (count : ℕ) (tried : TriedSoFar) → CountsBefore patterns added count
    → Tries Bad (LedBelow patterns count (IsAfter rules added)) count tried tried
rests_start rules patterns added count tried counts =
    tries_none tried
    (λ name below.
    absurd
    (front_not_before added below.element (begins_from added below.element name below.led.0)
    (counts.before below.place below.element below.before below.here)))

-- once a pattern does not begin with the added prefix, nor do those after it
pub rests_end : {Bad : List ℕ → Type 0} (rules : List MappingRule) {patterns : List (List ℕ)} {added pattern element : List ℕ}
    {count n m most : ℕ} {a b : TriedSoFar} → AreOrdered patterns → CountsBefore patterns added count → count ≤ n
    → n < length patterns → element ≡ get_or patterns n element → pattern ≡ element → begins added pattern ≡ false
    → Tries Bad (LedBelow patterns n (IsAfter rules added)) m a b → m ≤ most → Tries Bad (IsLiveRest rules patterns added) most a b
rests_end rules {patterns = patterns} {added = added} {pattern = pattern} {element = element} {n = n} ordered counts l u e
    same fails first few =
    let here : slice_get patterns n ≡ Some pattern = slice_get-get_or patterns n element u ∙ ap Some (sym e ∙ sym same) in
    ends_early ordered here first few
    (λ other name late split bad. absurd
    (false≢true (sym fails
    ∙ between added pattern other (begins_from added other name split.0) (counts.after n pattern l here) late)))

-- ---- keys after a cut

abbrev pub GoesAfter : List ℕ → List ℕ → List ℕ → Type 0
GoesAfter cut key name = name ≡ cut ++ key

-- once a name does not come before the least bad one, nor do those after it
pub wholes_end : {Bad : List ℕ → Type 0} {element whole : List ℕ} {keys : List (List ℕ)} {n m most : ℕ}
    {old now : TriedSoFar} (cut : List ℕ) → AreOrdered keys → n < length keys → element ≡ get_or keys n element
    → whole ≡ cut ++ element → is_first now.least whole ≡ false
    → Tries Bad (LedBelow keys n (GoesAfter cut)) m old now → m ≤ most → Tries Bad (IsWhole keys cut) most old now
wholes_end {element = element} {whole = whole} {keys = keys} {n = n} {now = now} cut ordered l e is fails first few =
    ends_early ordered (slice_get-get_or keys n element l ∙ ap Some (sym e)) first few
    (λ other name late other_is bad.
    (let (found, some, after) = not_first now.least whole fails in (
      found,
      some,
      subst (λ w. ¬ IsBefore w found) (sym other_is)
          (not_before_trans (cut ++ other) (cut ++ element) found
          (λ less. late (sym (cmp_after cut other element) ∙ less)) (subst (λ w. ¬ IsBefore w found) is after)),
    )))

-- ---- names of one byte

abbrev pub ByteBelow : ℕ → List ℕ → Type 0
ByteBelow n name = (byte : ℕ) × (0 < byte) × (byte < n) × (name ≡ byte ∷ [])

pub bytes_start : {Bad : List ℕ → Type 0} (tried : TriedSoFar) → Tries Bad (ByteBelow 1) 0 tried tried
bytes_start tried = tries_none tried (λ name (byte, some, below, is). absurd (omega arith))

pub bytes_next : {Bad : List ℕ → Type 0} {n m most : ℕ} {a b c : TriedSoFar} → Tries Bad (ByteBelow n) m a b
    → Tries Bad (λ one. one ≡ n ∷ []) 1 b c → m + 1 ≤ most → Tries Bad (ByteBelow (n + 1)) most a c
bytes_next {n = n} first then few =
    tries_fewer (tries_both first then)
    (λ name (byte, some, below, is). elim (cases_lt byte n) [
      | inl less ↦ inl (byte, some, less, is)
      | inr over ↦ inr (let same : byte ≡ n = omega arith in is ∙ ap (λ x. x ∷ []) same)
    ]) few
