-- Fields of rules, and the fault of a rule that is not whole.
use Rattle.std.proofs.Common.{◌≡◌, ℕ, List, [], ◌∷◌, ◌++◌, Option, IsSomeAnd, ◌⊎◌, inl, inr, refl, sym, subst, codes}
use Rattle.std.proofs.Common.{append_assoc, rules, arith}
use Rattle.virtiofs_map.specs.Rule.{RuleType}
use Rattle.virtiofs_map.specs.RuleText.{All, RuleHead, Typed, Map, Fields, Opens, head_fields, type_word}
use Rattle.virtiofs_map.specs.RulesFault.{RuleFault, IsUnfinished, HasRuleFault}
use Rattle.virtiofs_map.specs.Separator.{Lacks}
use Rattle.virtiofs_map.specs.RuleParts.{HasPatternFault, IsOpened, BeginsWithFault}
use Rattle.virtiofs_map.specs.declared.xattrmap.errors.PatternField.TheVariants.{Key, Prepend}

-- fields, and then more fields
pub fields_append : (d : ℕ) (text : List ℕ) (front back : List (List ℕ)) (middle rest : List ℕ)
    → Fields d text front middle → Fields d middle back rest → Fields d text (front ++ back) rest
fields_append d text [] back middle rest e more = subst (λ t. Fields d t back rest) (sym e) more
fields_append d text (field ∷ front) back middle rest (after, spells, lacks, others) more =
    (after, spells, lacks, fields_append d after front back middle rest others more)

-- ---- the fields of a rule that is not whole

pub unfinished_none : IsUnfinished []
unfinished_none = record {
  rule = record { head = Map; key = []; prepend = [] };
  missing = codes "map" ∷ [] ∷ [] ∷ [];
  more = λ e. (cc);
  are = refl;
  no_nul = (tt, tt);
}

pub unfinished_type : (kind : RuleType) → IsUnfinished (type_word kind ∷ [])
unfinished_type kind = record {
  rule = record { head = Typed kind All; key = []; prepend = [] };
  missing = codes "all" ∷ [] ∷ [] ∷ [];
  more = λ e. (cc);
  are = refl;
  no_nul = (tt, tt);
}

pub unfinished_head : (head : RuleHead) → IsUnfinished (head_fields head)
unfinished_head head = record {
  rule = record { head = head; key = []; prepend = [] };
  missing = [] ∷ [] ∷ [];
  more = λ e. (cc);
  are = refl;
  no_nul = (tt, tt);
}

pub unfinished_key : (head : RuleHead) (key : List ℕ) → Lacks 0 key → IsUnfinished (head_fields head ++ key ∷ [])
unfinished_key head key lacks = record {
  rule = record { head = head; key = key; prepend = [] };
  missing = [] ∷ [];
  more = λ e. (cc);
  are = append_assoc (head_fields head) (key ∷ []) ([] ∷ []);
  no_nul = (lacks, tt);
}

-- ---- faults of the patterns, as faults of the rule

pub key_fault : (d : ℕ) (text rest : List ℕ) (head : RuleHead) (cause : RuleFault)
    → Fields d text (head_fields head) rest → HasPatternFault d rest Key cause → HasRuleFault d text cause
key_fault d text rest head cause before (inl (e, lacks)) = grind (arith, unfinished_head)
key_fault d text rest head cause before (inr (e, key, after, found, holds)) =
    subst (HasRuleFault d text) (sym e)
    (head, key, after, fields_append d text (head_fields head) (key ∷ []) rest after before found, holds)

pub prepend_fault : (d : ℕ) (text middle rest : List ℕ) (head : RuleHead) (key : List ℕ) (cause : RuleFault)
    → Fields d text (head_fields head) middle → Fields d middle (key ∷ []) rest → Lacks 0 key
    → HasPatternFault d rest Prepend cause → HasRuleFault d text cause
prepend_fault d text middle rest head key cause before found no_nul (inl (e, lacks)) =
    subst (HasRuleFault d text) (sym e) (
      head_fields head ++ key ∷ [],
      rest,
      fields_append d text (head_fields head) (key ∷ []) middle rest before found,
      unfinished_key head key no_nul,
      lacks,
    )
prepend_fault d text middle rest head key cause before found no_nul (inr (e, prepend, after, last, holds)) =
    subst (HasRuleFault d text) (sym e) (
      head,
      key,
      prepend,
      after,
      fields_append d text (head_fields head) (key ∷ prepend ∷ []) middle after before
          (fields_append d middle (key ∷ []) (prepend ∷ []) rest after found last),
      no_nul,
      holds,
    )

-- a text that some delimiter opens is opened by its first character
pub opens_at : (text : List ℕ) (d : ℕ) (body : List ℕ) → IsOpened text → text ≡ d ∷ body → Opens text d body
opens_at text d body (first, others, (e, solid)) f = search rules

pub empty_is_not_opened : IsOpened [] → ⊥
empty_is_not_opened (first, others, (e, solid)) = (cc)

-- what P says of the fault that is told, Q says of it
pub some_and : (told : Option RuleFault) (P Q : RuleFault → Type 0) → ((fault : RuleFault) → P fault → Q fault)
    → IsSomeAnd told P → IsSomeAnd told Q
some_and told P Q all none = grind arith

-- a fault of the fields, unless something else holds, is one of the text
pub fault_from : (text : List ℕ) (d : ℕ) (body : List ℕ) (told : Option RuleFault) (Other : Type 0)
    → IsOpened text → text ≡ d ∷ body → Other ⊎ IsSomeAnd told (HasRuleFault d body)
    → Other ⊎ IsSomeAnd told (BeginsWithFault text)
fault_from text d body told Other opened e x7 = grind arith
