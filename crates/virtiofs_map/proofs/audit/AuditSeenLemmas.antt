-- Names whose host name another map does not hide: what the code tests of them, and what they mean for lists.
use Rattle.std.proofs.Common.{◌≡◌, ◌≢◌, ◌⊎◌, ℕ, ◌<◌, Bool, true, ◌&&◌, cond, List, [], ◌∷◌, ◌++◌, length, ◌↔◌}
use Rattle.std.proofs.Common.{Some, None, inl, inr, refl, sym, ap, ◌∙◌, subst, arith, rules}
use Rattle.std.specs.List.{All, cons_option, list_all, filter_map}
use Rattle.std.proofs.lemmas.Bool.{ne_eqb}
use Rattle.std.proofs.lemmas.List.{length-append}
use Rattle.std.proofs.lemmas.List.Elements.{All-nil, All-cons, All-append, All-weaker}
use Rattle.std.proofs.lemmas.List.Splits.{slice_split_at}
use Rattle.virtiofs_map.specs.Audit.{Reached, Apart, IsSeen, Leaves, IsList, Isolated}
use Rattle.virtiofs_map.specs.AuditParts.{added_prefix}
use Rattle.virtiofs_map.specs.MapRule.{IsName}
use Rattle.virtiofs_map.specs.Names.{HostAnswer, IsListed, IsHidden, IsUndecided, host_answer}
use Rattle.virtiofs_map.specs.Names.{is_decided, listed_name, names, as_list, server_answer}
use Rattle.virtiofs_map.specs.Rule.{MappingRule}
use Rattle.virtiofs_map.specs.declared.xattrmap.scopes.Side.TheVariants.{Client}
use Rattle.virtiofs_map.proofs.AuditAddedLemmas.{added_passes}
use Rattle.virtiofs_map.proofs.audit.AuditPassLemmas.{host_is}
use Rattle.virtiofs_map.proofs.MapRuleLemmas.{not_zero_name, some_name}
use Rattle.virtiofs_map.proofs.NoZeroLemmas.{IsNotZero}
use Rattle.virtiofs_map.proofs.ServerListLemmas.{is_name, is_zero}

-- ---- the test

abbrev IsByteOfName : ℕ → Type 0
IsByteOfName byte = (0 < byte) × (byte < 256)

pub seen_as : (rules others : List MappingRule) (name added : List ℕ) → IsName name
    → added_prefix Client rules name ≡ Some added
    → IsSeen rules others name
    ↔ (IsName (added ++ name) × (added ++ name ≢ []) × (host_answer others (added ++ name) ≢ IsHidden))
seen_as rules others name added is e = (
  λ seen.
      (let same = host_is rules name seen.host added seen.passes e in
      subst (λ host. IsName host × (host ≢ []) × (host_answer others host ≢ IsHidden)) same
      (seen.is_host, seen.not_empty, seen.not_hidden)),
  λ (is_host, some, shown). record {
    is_name = is;
    host = added ++ name;
    is_host = is_host;
    not_empty = some;
    passes = added_passes rules name added e;
    not_hidden = shown;
  },
)

-- ---- apart

hidden_or : (answer : HostAnswer) → (answer ≡ IsHidden) ⊎ (answer ≢ IsHidden)
hidden_or answer = grind arith

pub apart_where_none : (rules others : List MappingRule) → ((name : List ℕ) → ¬ IsSeen rules others name)
    → Apart rules others
apart_where_none rules others none host reached =
    elim (hidden_or (host_answer others host)) [
      | inl hidden ↦ hidden
      | inr fails ↦ absurd (none reached.name (grind arith))
    ]

reached_by : (rules others : List MappingRule) (name : List ℕ) (seen : IsSeen rules others name)
    → Reached rules seen.host
reached_by rules others name seen = search (rules, is_name)

pub none_where_apart : (rules others : List MappingRule) → Apart rules others → (name : List ℕ)
    → ¬ IsSeen rules others name
none_where_apart rules others apart name seen = grind (arith, reached_by)

-- ---- isolated

abbrev all_decided : List MappingRule → List (List ℕ) → Bool
all_decided rules names = list_all (λ name. is_decided (host_answer rules name)) names

abbrev all_listed : List MappingRule → List (List ℕ) → List (List ℕ)
all_listed rules names = filter_map (λ name. listed_name (host_answer rules name)) names

-- hidden names may be left out
record SameWithout (rules : List MappingRule) (all rest : List (List ℕ)) : Type 0 where
  decided : all_decided rules all ≡ all_decided rules rest
  listed : all_listed rules all ≡ all_listed rules rest

same_without : (rules : List MappingRule) (set : List ℕ → Type 0)
    → ((name : List ℕ) → set name → host_answer rules name ≡ IsHidden) → (all rest : List (List ℕ))
    → Leaves set all rest → SameWithout rules all rest
same_without rules set hides [] rest e = grind arith
same_without rules set hides (name ∷ all) rest (inl (within, leaves)) =
    grind (arith, same_without rules set hides all rest leaves)
same_without rules set hides (name ∷ all) rest (inr (out, others, e, leaves)) =
    search (same_without rules set hides all others leaves)

same_answer : (rules : List MappingRule) (list other : List ℕ)
    → all_decided rules (names list) ≡ all_decided rules (names other)
    → all_listed rules (names list) ≡ all_listed rules (names other)
    → server_answer rules list ≡ server_answer rules other
same_answer rules list other d l = rw (d, l) refl

pub isolated_where_apart : (rules others : List MappingRule) → Apart rules others → Isolated rules others
isolated_where_apart rules others apart list other is also (rest, leaves, left) =
    let one = same_without others (Reached rules) apart (names list) rest leaves in
    let two = same_without others (Reached rules) apart (names other) rest left in
    same_answer others list other (one.decided ∙ sym two.decided) (one.listed ∙ sym two.listed)

-- a host name that is not hidden, twice in a list, shows in the answer
abbrev twice : List ℕ → List ℕ
twice host = host ++ 0 ∷ (host ++ 0 ∷ [])

first_name : (host rest : List ℕ) → host ≢ [] → All IsNotZero host → names (host ++ 0 ∷ rest) ≡ host ∷ names rest
first_name [] rest some no_zero = absurd (some refl)
first_name (x ∷ xs) rest some no_zero = search (rules, is_name, slice_split_at, is_zero, All-weaker, ne_eqb, some_name)

names_twice : (host : List ℕ) → host ≢ [] → All IsNotZero host → names (twice host) ≡ host ∷ host ∷ []
names_twice host some no_zero = search (rules, first_name)

shown_twice : (answer : HostAnswer) → answer ≢ IsHidden
    → cond (is_decided answer && (is_decided answer && true))
    (Some (as_list (cons_option (listed_name answer) (cons_option (listed_name answer) [])))) None ≡ Some (0 ∷ []) → ⊥
shown_twice (IsListed name) fails e =
    let same : (name ++ 0 ∷ []) ++ ((name ++ 0 ∷ []) ++ []) ≡ 0 ∷ [] = cc in
    omega (
      arith,
      ap length same,
      length-append (name ++ 0 ∷ []) ((name ++ 0 ∷ []) ++ []),
      length-append (name ++ 0 ∷ []) [],
      length-append name (0 ∷ []),
    )
shown_twice IsHidden fails e = fails refl
shown_twice IsUndecided fails e = cc

is_list : (host : List ℕ) → IsName host → IsList host
is_list host is = All-weaker IsByteOfName (λ byte. byte < 256) (λ byte h. h.1) host is

is_list_twice : (host : List ℕ) → IsName host → IsList (twice host)
is_list_twice host is = search (rules, All-cons, All-nil, All-append, is_list)

pub none_where_isolated : (rules others : List MappingRule) → Isolated rules others → (name : List ℕ)
    → ¬ IsSeen rules others name
none_where_isolated rules others isolated name seen =
    let host = seen.host in
    let reached = reached_by rules others name seen in
    let two = names_twice host seen.not_empty (not_zero_name host seen.is_host) in
    let leaves : Leaves (Reached rules) (names (twice host)) [] =
    grind arith in
    let same =
    isolated [] (twice host) (All-nil (λ byte. byte < 256)) (is_list_twice host seen.is_host) ([], refl, leaves) in
    shown_twice (host_answer others host) seen.not_hidden
    (grind (arith, all_decided, all_listed))
