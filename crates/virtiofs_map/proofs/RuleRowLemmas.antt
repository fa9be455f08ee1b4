-- A rule is read back from its row, and the rules from their rows.
use Rattle.std.proofs.Common.{◌≡◌, ℕ, ◌+◌, ◌-◌, ◌*◌, ◌/◌, ◌%◌, ◌<◌, ◌≤◌, zero, suc, Bool, if◌then◌else◌, List, [], ◌∷◌, ◌++◌}
use Rattle.std.proofs.Common.{Some, length, take, drop, slice_get, cond, eqb, ◌⊎◌, inl, inr, refl, ap, sym, subst, ◌∙◌}
use Rattle.std.proofs.Common.{arith, append_assoc, length-append, length-drop, rules}
use Rattle.std.proofs.Math.Seq.{drop-append_seam}
use Rattle.std.proofs.lemmas.List.{drop-append-le, drop-drop, take-append-le, take_all}
use Rattle.std.proofs.lemmas.Option.{slice_get_within}
use Rattle.virtiofs_map.specs.NodeParts.{IsSpan}
use Rattle.virtiofs_map.specs.NamesImage.{AreRuleRows, IsRuleRow, acts_number, pattern_bytes, row_at, span_of}
use Rattle.virtiofs_map.specs.NamesImageParts.{rule_of_row, rules_of_rows, rules_stored, type_numbered}
use Rattle.virtiofs_map.specs.RuleParts.{AreKept, holds}
use Rattle.virtiofs_map.specs.declared.xattrmap.scopes.Side.TheVariants.{Client, Server}
use Rattle.virtiofs_map.specs.Rule.{MappingRule, RuleType, Prefix, Okay, Bad, Unsupported, type_number}
use Rattle.virtiofs_map.specs.LeU64Parts.{le_u64_bytes}
use Rattle.virtiofs_map.specs.declared.xattrmap.spans.Span.{Span}
use Rattle.virtiofs_map.proofs.LeU64Lemmas.{first_of_three, second_of_three, third_of_three, length-three, shared_low}
use Rattle.virtiofs_map.proofs.LeU64Lemmas.{shared_high, shared_fits}

-- an element below the length is there
pub there : {X : Type 0} (xs : List X) (at : ℕ) → at < length xs → (x : X) × (slice_get xs at ≡ Some x)
there [] at below = absurd (omega arith)
there (x ∷ xs) zero below = (x, refl)
there (x ∷ xs) (suc at) below = there xs at (omega arith)

-- ---- what a rule does, as a number

pub below_four : (kind : RuleType) → type_number kind < 4
below_four kind = grind arith

kind_at : ℕ → RuleType
kind_at n = cond (eqb n 0) Prefix (cond (eqb n 1) Okay (cond (eqb n 2) Bad Unsupported))

pub same_type : (kind other : RuleType) → type_number kind ≡ type_number other → kind ≡ other
same_type kind other same = grind (arith, kind_at)

-- rules are the same whose fields are
pub same_rule_fields : (one other : MappingRule) → one.kind ≡ other.kind → one.client ≡ other.client
    → one.server ≡ other.server → one.key ≡ other.key → one.prepend ≡ other.prepend → one ≡ other
same_rule_fields one other kinds clients servers keys prepends = rw (kinds, clients, servers, keys, prepends) refl

module _ (kind : RuleType) (client server : Bool) where
  abbrev number : ℕ
  number = type_number kind + 4 * (if client then 1 else 0) + 8 * (if server then 1 else 0)

  number_small : number < 16
  number_small = grind arith

  kind_back : type_numbered (number % 4) ≡ kind
  kind_back = grind arith

  client_back : holds Client (number / 4 % 4) ≡ client
  client_back = grind arith

  server_back : holds Server (number / 4 % 4) ≡ server
  server_back = grind arith

-- ---- rows that are read

pub row_back : (bytes : List ℕ) (rule : MappingRule) (row : List ℕ) → IsRuleRow bytes rule row
    → rule_of_row bytes row ≡ rule
row_back bytes rule row is =
    same_rule_fields (rule_of_row bytes row) rule
    (ap (λ n. type_numbered (n % 4)) is.acts ∙ kind_back rule.kind rule.client rule.server)
    (ap (λ n. holds Client (n / 4 % 4)) is.acts ∙ client_back rule.kind rule.client rule.server)
    (ap (λ n. holds Server (n / 4 % 4)) is.acts ∙ server_back rule.kind rule.client rule.server)
    is.is.key is.is.prepend

rows_back : (bytes : List ℕ) (rules : List MappingRule) (rows : List ℕ)
    → ((place : ℕ) (rule : MappingRule) → slice_get rules place ≡ Some rule → IsRuleRow bytes rule (row_at rows place))
    → rules_of_rows bytes (length rules) rows ≡ rules
rows_back bytes [] rows each = refl
rows_back bytes (rule ∷ rules) rows each =
    let later = rows_back bytes rules (drop 24 rows) (λ place r here.
    (let next : suc place * 24 ≡ 24 + place * 24 = omega arith in
    let same : row_at rows (suc place) ≡ row_at (drop 24 rows) place =
    ap (λ n. take 24 (drop n rows)) next ∙ ap (take 24) (sym (drop-drop (place * 24) 24 rows)) in
    subst (IsRuleRow bytes r) same (each (suc place) r here))) in
    rw (row_back bytes rule (take 24 rows) (each 0 rule refl), later) refl

pub stored_are : (rules : List MappingRule) (rows bytes : List ℕ) → AreRuleRows rules rows bytes
    → rules_stored bytes rows ≡ rules
unfolding rules_stored
stored_are rules rows bytes are =
    let count : length rows / 24 ≡ length rules = omega (arith, are.long) in
    ap (λ n. rules_of_rows bytes n rows) count ∙ rows_back bytes rules rows are.each

-- the rule at a place, whose patterns stand there, is read back from its row
pub record HasRuleAt (rules : List MappingRule) (bytes row : List ℕ) (span : Span) (at : ℕ) : Type 0 where
  pub rule : MappingRule
  pub here : slice_get rules at ≡ Some rule
  pub is : IsSpan bytes rule span
  pub back : rule_of_row bytes row ≡ rule

pub rule_there : (rules : List MappingRule) (rows bytes row : List ℕ) (span : Span) (at : ℕ)
    → AreRuleRows rules rows bytes → at < length rows / 24 → row ≡ row_at rows at → span ≡ span_of row
    → HasRuleAt rules bytes row span at
rule_there rules rows bytes row span at are here is_row is_span =
    let (rule, is) = there rules at (omega (arith, are.long)) in
    let stands : IsRuleRow bytes rule row = rw is_row (are.each at rule is) in
    record { rule = rule; here = is; is = rw is_span stands.is; back = row_back bytes rule row stands }

-- ---- one row more

-- an element of a list that one was put behind
pushed : {X : Type 0} (xs : List X) (x y : X) (at : ℕ) → slice_get (xs ++ x ∷ []) at ≡ Some y
    → (slice_get xs at ≡ Some y) ⊎ ((at ≡ length xs) × (x ≡ y))
pushed [] x y zero e = inr (refl, cc)
pushed [] x y (suc at) e = absurd (cc)
pushed (z ∷ xs) x y zero e = inl e
pushed (z ∷ xs) x y (suc at) e = grind (arith, pushed xs x y at e)

pattern_bytes_more : (rules : List MappingRule) (rule : MappingRule)
    → pattern_bytes (rules ++ rule ∷ []) ≡ pattern_bytes rules + length rule.key + length rule.prepend
pattern_bytes_more [] rule = omega arith
pattern_bytes_more (one ∷ rules) rule = omega (arith, pattern_bytes_more rules rule)

-- the three numbers of a row
abbrev row_of : MappingRule → Span → List ℕ
row_of rule span =
    le_u64_bytes (span.key + 281474976710656 * acts_number rule) ++ le_u64_bytes span.prepend ++ le_u64_bytes span.end

is_row : (bytes : List ℕ) (rule : MappingRule) (span : Span) → IsSpan bytes rule span
    → length bytes < 281474976710656 → IsRuleRow bytes rule (row_of rule span)
is_row bytes rule span is few =
    let small = number_small rule.kind rule.client rule.server in
    let begins : span.key < 281474976710656 = omega (arith, is.rising, is.rising_on, is.within) in
    let one = first_of_three (span.key + 281474976710656 * acts_number rule) span.prepend span.end
    (shared_fits span.key (acts_number rule) begins (omega (arith, small))) in
    let two = second_of_three (span.key + 281474976710656 * acts_number rule) span.prepend span.end
    (omega (arith, is.rising_on, is.within)) in
    let three = third_of_three (span.key + 281474976710656 * acts_number rule) span.prepend span.end
    (omega (arith, is.within)) in
    record {
      acts = ap (λ n. n / 281474976710656) one ∙ shared_high span.key (acts_number rule) begins;
      is = rw (one, two, three, shared_low span.key (acts_number rule) begins) is;
    }

-- patterns stay where they stand
inside_grown : (bytes more : List ℕ) (from to : ℕ) → from ≤ to → to ≤ length bytes
    → take (to - from) (drop from (bytes ++ more)) ≡ take (to - from) (drop from bytes)
inside_grown bytes more from to rising within =
    rw (drop-append-le from bytes more (omega arith))
    (take-append-le (to - from) (drop from bytes) more (omega (arith, length-drop from bytes)))

grown : (bytes more : List ℕ) (rule : MappingRule) (span : Span) → IsSpan bytes rule span
    → IsSpan (bytes ++ more) rule span
grown bytes more rule span is = record {
  key = inside_grown bytes more span.key span.prepend is.rising (omega (arith, is.rising_on, is.within)) ∙ is.key;
  prepend = inside_grown bytes more span.prepend span.end is.rising_on is.within ∙ is.prepend;
  rising = is.rising;
  rising_on = is.rising_on;
  within = omega (arith, is.within, length-append bytes more);
}

module _ (bytes : List ℕ) (rule : MappingRule) where
  abbrev all : List ℕ
  all = bytes ++ rule.key ++ rule.prepend

  -- where those of a rule more stand
  abbrev new_span : Span
  new_span = record { key = length bytes; prepend = length (bytes ++ rule.key); end = length all }

  abbrev last_row : List ℕ
  last_row = row_of rule new_span

  is_span : IsSpan all rule new_span
  is_span =
      let middle : length (bytes ++ rule.key) ≡ length bytes + length rule.key = length-append bytes rule.key in
      let end : length all ≡ length (bytes ++ rule.key) + length rule.prepend =
      length-append (bytes ++ rule.key) rule.prepend in
      let size : length (bytes ++ rule.key) - length bytes ≡ length rule.key = omega arith in
      let rest : length all - length (bytes ++ rule.key) ≡ length rule.prepend = omega arith in
      record {
        key =
            inside_grown (bytes ++ rule.key) rule.prepend (length bytes) (length (bytes ++ rule.key)) (omega arith)
            (omega arith)
            ∙ rw (drop-append_seam bytes rule.key) (take_all _ rule.key (omega arith));
        prepend = rw (drop-append_seam (bytes ++ rule.key) rule.prepend) (take_all _ rule.prepend (omega arith));
        rising = omega arith;
        rising_on = omega arith;
        within = omega arith;
      }

module _ (rules : List MappingRule) (rows bytes : List ℕ) (rule : MappingRule) (kept : AreKept rules rows bytes)
    (short : length (all bytes rule) < 281474976710656) where
  one_more : (place : ℕ) (r : MappingRule) → slice_get (rules ++ rule ∷ []) place ≡ Some r
      → IsRuleRow (all bytes rule) r (row_at (rows ++ (last_row bytes rule)) place)
  one_more place r here = elim (pushed rules rule r place here) [
    | inl earlier ↦
        (let below = slice_get_within rules place r earlier in
        let long = kept.stored.long in
        let was = kept.stored.each place r earlier in
        let same : row_at (rows ++ (last_row bytes rule)) place ≡ row_at rows place =
        rw (
          drop-append-le (place * 24) rows (last_row bytes rule) (omega arith),
          take-append-le 24 (drop (place * 24) rows) (last_row bytes rule) (omega (arith, length-drop (place * 24) rows)),
        ) refl in
        let parts : all bytes rule ≡ bytes ++ (rule.key ++ rule.prepend) =
        append_assoc bytes rule.key rule.prepend in
        rw same (record {
          acts = was.acts;
          is = rw parts (grown bytes (rule.key ++ rule.prepend) r (span_of (row_at rows place)) was.is);
        }))
    | inr (last, is_it) ↦
        (let at : place * 24 ≡ length rows = omega (arith, kept.stored.long) in
        let size = length-three (length bytes + 281474976710656 * acts_number rule) (length (bytes ++ rule.key))
        (length (all bytes rule)) in
        let same : row_at (rows ++ (last_row bytes rule)) place ≡ (last_row bytes rule) =
        rw (at, drop-append_seam rows (last_row bytes rule)) (take_all 24 (last_row bytes rule) (omega (arith, size))) in
        rw (same, sym is_it) (is_row (all bytes rule) rule (new_span bytes rule) (is_span bytes rule) short))
  ]

  kept_more : AreKept (rules ++ rule ∷ []) (rows ++ (last_row bytes rule)) (all bytes rule)
  kept_more =
      let size = length-three (length bytes + 281474976710656 * acts_number rule) (length (bytes ++ rule.key))
      (length (all bytes rule)) in
      let longer = length-append rules (rule ∷ []) in
      record {
        stored = record {
          long = omega (arith, length-append rows (last_row bytes rule), size, kept.stored.long, longer);
          each = one_more;
          few = short;
        };
        whole = omega (
          arith,
          kept.whole,
          length-append (bytes ++ rule.key) rule.prepend,
          length-append bytes rule.key,
          pattern_bytes_more rules rule,
        );
      }

-- three numbers one after the other are a row
written : (rows one two : List ℕ) (rule : MappingRule) (span : Span) (number : ℕ) → number ≡ acts_number rule
    → one ≡ rows ++ le_u64_bytes (span.key + 281474976710656 * number) → two ≡ one ++ le_u64_bytes span.prepend
    → two ++ le_u64_bytes span.end ≡ rows ++ row_of rule span
written rows one two rule span number is first second = search (rules, append_assoc)

-- as they are written, number by number
pub rule_pushed : (rules : List MappingRule) (rows bytes : List ℕ) (rule : MappingRule)
    (middle end one two three : List ℕ) (a b c number : ℕ)
    → AreKept rules rows bytes → middle ≡ bytes ++ rule.key → end ≡ middle ++ rule.prepend → a ≡ length bytes
    → b ≡ length middle → c ≡ length end → number ≡ acts_number rule → c < 281474976710656
    → one ≡ rows ++ le_u64_bytes (a + 281474976710656 * number) → two ≡ one ++ le_u64_bytes b
    → three ≡ two ++ le_u64_bytes c
    → (rules_stored end three ≡ rules ++ rule ∷ []) × AreKept (rules_stored end three) three end
rule_pushed rules rows bytes rule middle end one two three a b c number kept key prepend is_a is_b is_c is_number short
    first second third =
    let whole : end ≡ all bytes rule = prepend ∙ ap (λ l. l ++ rule.prepend) key in
    let more = kept_more rules rows bytes rule kept (omega (arith, is_c, ap length whole)) in
    let span : record { key = a; prepend = b; end = c } ≡ new_span bytes rule =
    rw (is_a, is_b ∙ ap length key, is_c ∙ ap length whole) refl in
    let row : three ≡ rows ++ last_row bytes rule =
    third ∙ written rows one two rule (record { key = a; prepend = b; end = c }) number is_number first second
    ∙ ap (λ s. rows ++ row_of rule s) span in
    let stored = stored_are (rules ++ rule ∷ []) _ _ more.stored in
    rw (row, whole) (stored, rw stored more)
