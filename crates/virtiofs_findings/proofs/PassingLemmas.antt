-- The texts of the rules by which guests are compared that have none.
use Rattle.std.proofs.Common.{◌≡◌, ◌≢◌, ◌++◌, ◌∷◌, ℕ, Bool, true, false, cond, eqb, List, [], refl, arith}
use Rattle.std.specs.Prelude.{codes}
use Rattle.std.specs.Str.{chars}
use Rattle.virtiofs_map.specs.Rule.{Bad, Okay}
use Rattle.virtiofs_map.specs.RuleText.{All, Map, RuleAsWritten, RuleThen, SaysRules, Typed}
use Rattle.virtiofs_map.specs.Separator.{Lacks}
use Rattle.virtiofs_findings.specs.AclNames.{acl_bytes}
use Rattle.virtiofs_findings.specs.PairFindings.{passes_all, passes_others}
use Rattle.virtiofs_findings.specs.declared.names.acl.AclName.TheVariants.{Access, Default}

-- no character of a text is d, as a test
abbrev lacks : ℕ → List ℕ → Bool
lacks d [] = true
lacks d (c ∷ cs) = cond (eqb c d) false (lacks d cs)

lacks_tested : (d : ℕ) (text : List ℕ) → lacks d text ≡ true → Lacks d text
lacks_tested d [] e = tt
lacks_tested d (c ∷ cs) e = grind (arith, lacks_tested d cs)

-- the rule that passes each name, and one that refuses those that begin with a key
abbrev passing : RuleAsWritten
passing = record { head = Typed Okay All; key = []; prepend = [] }

abbrev refusing : List ℕ → RuleAsWritten
refusing key = record { head = Typed Bad All; key = key; prepend = key }

passing_then : RuleThen (codes ":ok:all:::") passing []
passing_then = record {
  delimiter = 58;
  body = codes "ok:all:::";
  opens = (refl, refl);
  fields = grind (arith, lacks_tested);
  no_nul = (tt, tt);
}

refusing_then : (key after : List ℕ) → lacks 58 key ≡ true → lacks 0 key ≡ true
    → RuleThen (codes ":bad:all:" ++ (key ++ 58 ∷ (key ++ 58 ∷ after))) (refusing key) after
refusing_then key after no_colon no_nul = grind (arith, lacks_tested)

-- a rule that refuses names is no map rule
plain : (key : List ℕ) → (refusing key).head ≢ Map
plain key e = let f : Typed Bad All ≡ Map = e in (cc)

-- the two texts
pub says_passes_all : SaysRules (chars (codes ":ok:all:::")) passes_all
unfolding chars
says_passes_all = (
  passing ∷ [],
  record { front = []; last = passing; rest = codes ":ok:all:::"; are = refl; before = refl; ends = passing_then },
  refl,
)

pub says_passes_others : SaysRules (chars (codes ":bad:all:system.posix_acl_access:system.posix_acl_access::bad:all:system.posix_acl_default:system.posix_acl_default::ok:all:::")) passes_others
unfolding chars lib.Utf8.encode
says_passes_others = (
  refusing (acl_bytes Access) ∷ refusing (acl_bytes Default) ∷ passing ∷ [],
  record {
    front = refusing (acl_bytes Access) ∷ refusing (acl_bytes Default) ∷ [];
    last = passing;
    rest = codes ":ok:all:::";
    are = refl;
    before = (
      [],
      codes ":bad:all:system.posix_acl_default:system.posix_acl_default::ok:all:::",
      refusing_then (acl_bytes Access) (codes ":bad:all:system.posix_acl_default:system.posix_acl_default::ok:all:::") refl
          refl,
      plain (acl_bytes Access),
      tt,
      (
        [],
        codes ":ok:all:::",
        refusing_then (acl_bytes Default) (codes ":ok:all:::") refl refl,
        plain (acl_bytes Default),
        tt,
        refl,
      ),
    );
    ends = passing_then;
  },
  refl,
)
