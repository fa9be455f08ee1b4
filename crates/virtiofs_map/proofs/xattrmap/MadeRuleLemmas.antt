-- The rules that are made for a written one.
use Rattle.std.proofs.Common.{◌≡◌, ◌≢◌, ℕ, List, [], ◌∷◌, Result, IfOk, ap, chars, IsUtf8, refl, rules, sym, ◌∙◌, arith}
use Rattle.std.proofs.lemmas.Str.{encodes-chars}
use Rattle.virtiofs_map.specs.Rule as types
use Rattle.virtiofs_map.specs.RuleParts.{type_of, scope_of, head_of, holds, bits_of, rule_with}
use Rattle.virtiofs_map.specs.RuleText.{All, Map, rule_of, rules_of, on_client, on_server}
use Rattle.virtiofs_map.specs.declared.xattrmap.reader.Head.{Head}
use Rattle.virtiofs_map.specs.declared.xattrmap.rules.RuleKind.{RuleKind}
use Rattle.virtiofs_map.specs.declared.xattrmap.rules.RuleKind.TheVariants.{Prefix, Okay, Bad}
use Rattle.virtiofs_map.specs.declared.xattrmap.scopes.Scope.{Scope}
use Rattle.virtiofs_map.specs.declared.xattrmap.scopes.ScopeWord.{ScopeWord}
use Rattle.virtiofs_map.specs.declared.xattrmap.scopes.ScopeWord.TheVariants as words
use Rattle.virtiofs_map.specs.declared.xattrmap.scopes.Side.TheVariants as sides
use Rattle.virtiofs_map.specs.declared.xattrmap.reader.Head.TheVariants as heads

holds_client : (word : ScopeWord) → holds sides.Client (bits_of word) ≡ on_client (scope_of word)
holds_client word = grind arith

holds_server : (word : ScopeWord) → holds sides.Server (bits_of word) ≡ on_server (scope_of word)
holds_server word = grind arith

-- a head that means the word map is that word
pub head_is_map : (head : Head) → head_of head ≡ Map → head ≡ heads.Map
head_is_map head e = grind arith

made : (kind : RuleKind) (word : ScopeWord) (scope : Scope) (key prepend : List ℕ) → scope.0 ≡ bits_of word
    → IsUtf8 key → IsUtf8 prepend
    → rule_with kind scope key prepend ≡ rule_of (type_of kind) (scope_of word) (chars key) (chars prepend)
made kind word scope key prepend sides key_text prepend_text = search (rules, holds_client, holds_server, encodes-chars)

-- the rules that are made for a written one
module _ (key prepend k p : List ℕ) (is_key : k ≡ key) (is_prepend : p ≡ prepend) (key_text : IsUtf8 key)
    (prepend_text : IsUtf8 prepend) where
  pub made-typed : (kind : RuleKind) (word : ScopeWord) (scope : Scope) → scope.0 ≡ bits_of word
      → rule_with kind scope k p ∷ [] ≡ rules_of (head_of (heads.Typed kind word)) (chars key) (chars prepend)
  made-typed kind word scope sides =
      rw (is_key, is_prepend) (ap (λ rule. rule ∷ []) (made kind word scope key prepend sides key_text prepend_text))

  module _ (all : Scope) (both : all.0 ≡ 3) where
    first_made : rule_with Prefix all k p ≡ rule_of types.Prefix All (chars key) (chars prepend)
    first_made = rw (is_key, is_prepend) (made Prefix words.All all key prepend both key_text prepend_text)

    pub made-all : chars k ≡ []
        → rule_with Prefix all k p ∷ rule_with Bad all [] [] ∷ [] ≡ rules_of Map (chars key) (chars prepend)
    made-all none =
        let nothing : chars key ≡ [] = ap chars (sym is_key) ∙ none in rw (first_made, both, nothing) refl

    pub made-some : chars k ≢ []
        → rule_with Prefix all k p ∷ rule_with Bad all p k ∷ rule_with Okay all [] [] ∷ []
        ≡ rules_of Map (chars key) (chars prepend)
    made-some some =
        let second : rule_with Bad all p k ≡ rule_of types.Bad All (chars prepend) (chars key) =
        rw (is_key, is_prepend) (made Bad words.All all prepend key both prepend_text key_text) in
        let last : rule_with Okay all [] [] ≡ rule_of types.Okay All [] [] = rw both refl in
        rw (first_made, second, last) (by (chars key) (λ e. some (ap chars is_key ∙ e))) where
          by : (cs : List ℕ) → cs ≢ []
              → rule_of types.Prefix All cs (chars prepend) ∷ rule_of types.Bad All (chars prepend) cs
              ∷ rule_of types.Okay All [] [] ∷ []
              ≡ rules_of Map cs (chars prepend)
          by [] some = absurd (some refl)
          by (c ∷ cs) some = refl

-- a result of which something is equal, is equal to what that is
pub same_then : {T E X : Type 0} (r : Result T E) (f : T → X) (y z : X) → IfOk r (λ t. f t ≡ y) → y ≡ z
    → IfOk r (λ t. f t ≡ z)
same_then r f y z e same = rw (sym same) e
