-- Names of the guest that pass.
use Rattle.std.proofs.Common.{◌≡◌, ◌≢◌, ◌↔◌, ℕ, ◌<◌, ◌==◌, Bool, true, false, not, List, [], ◌∷◌, ◌++◌, length, None, Some, refl}
use Rattle.std.proofs.Common.{sym}
use Rattle.std.proofs.Common.{◌∙◌, subst, arith}
use Rattle.std.specs.Bool.{IsTrue}
use Rattle.std.proofs.lemmas.Bool.{false≢true, true≢false}
use Rattle.std.specs.List.{All}
use Rattle.std.proofs.lemmas.List.Elements.{All-append, All-from_get_or}
use Rattle.virtiofs_map.specs.Audit.{Within}
use Rattle.virtiofs_map.specs.AuditParts.{added_prefix}
use Rattle.virtiofs_map.specs.MapRule.{IsName}
use Rattle.virtiofs_map.specs.Names.{begins, Passes, client_answer}
use Rattle.virtiofs_map.specs.Rule.{MappingRule, HasNoZero}
use Rattle.virtiofs_map.specs.declared.xattrmap.scopes.Side.TheVariants.{Client}
use Rattle.virtiofs_map.proofs.AuditAddedLemmas.{passes_added, added_passes, added_no_zero}
use Rattle.virtiofs_map.proofs.MapRuleLemmas.{not_zero_name}
use Rattle.virtiofs_map.proofs.NoZeroLemmas.{IsNotZero}

pub some_is : (name : List ℕ) → (length name == 0) ≡ false → name ≢ []
some_is [] e none = true≢false e
some_is (x ∷ xs) e none = cc

pub never : (P : Type 0) → (P → ⊥) → IsTrue false ↔ P
never P fails = (λ yes. absurd (false≢true yes), λ p. absurd (fails p))

-- a test that answers no where another answers yes
pub not_iff : (test : Bool) (P Q : Type 0) → IsTrue test ↔ P → (¬ P) ↔ Q → IsTrue (not test) ↔ Q
not_iff true P Q (to, from) (fails, others) = (
  λ no. absurd (false≢true no),
  λ q. absurd (others q (to refl)),
)
not_iff false P Q (to, from) (fails, others) = (λ yes. fails (λ p. false≢true (from p)), λ q. refl)

-- of a name that begins so, the test is one whether it is bad
pub within_iff : (test : Bool) {beginning : List ℕ} (bad : List ℕ → Type 0) (name : List ℕ) → begins beginning name ≡ true
    → IsTrue test ↔ bad name → IsTrue test ↔ Within beginning bad name
within_iff test bad name front (to, from) = (λ yes. record { is_bad = to yes; front = front }, λ is. from is.is_bad)

-- what a name becomes
pub host_is : (rules : List MappingRule) (name host added : List ℕ) → client_answer rules name ≡ Passes host
    → added_prefix Client rules name ≡ Some added → host ≡ added ++ name
host_is rules name host added passes e = let both = sym passes ∙ added_passes rules name added e in cc

pub not_passing : (rules : List MappingRule) (name host : List ℕ) → added_prefix Client rules name ≡ None
    → client_answer rules name ≡ Passes host → ⊥
not_passing rules name host none passes = let by = passes_added rules name host passes in let e = by.is in cc

pub host_not_empty : (added name : List ℕ) → name ≢ [] → added ++ name ≢ []
host_not_empty [] name some e = some e
host_not_empty (x ∷ added) name some e = cc

pub host_no_zero : (rules : List MappingRule) (name added : List ℕ) → All HasNoZero rules → IsName name
    → added_prefix Client rules name ≡ Some added → All IsNotZero (added ++ name)
host_no_zero rules name added no_zero is e =
    All-append IsNotZero added name (added_no_zero Client rules name added no_zero e) (not_zero_name name is)

-- bytes with no zero among them are a name
pub name_of : (name : List ℕ) → All IsNotZero name → All (λ byte. byte < 256) name → IsName name
name_of name no_zero below =
    All-from_get_or (λ byte. (0 < byte) × (byte < 256)) name 0
    (λ i l. (omega (arith, no_zero i 0 l), below i 0 l))

pub host_is_name : (rules : List MappingRule) (name added host : List ℕ) → All HasNoZero rules → IsName name
    → added_prefix Client rules name ≡ Some added → host ≡ added ++ name → All (λ byte. byte < 256) host → IsName host
host_is_name rules name added host no_zero is e same below =
    name_of host (subst (All IsNotZero) (sym same) (host_no_zero rules name added no_zero is e)) below
