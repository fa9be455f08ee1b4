-- The texts that say a range of a namespace, as `:0:100000:65536:`, and what is wrong with the others.
use Rattle.std.specs.Prelude.{◌≡◌, ◌≢◌, ◌⊎◌, ℕ, false, List, [], ◌∷◌, ◌++◌, length, Contains}
use Rattle.std.specs.List.{AllZip}
use Rattle.virtiofs_map.specs.Alphanumeric.{is_alphanumeric}
use Rattle.virtiofs_map.specs.Numeral.{IsNumeral}
use Rattle.virtiofs_map.specs.Separator.{split_at_each}
use Rattle.virtiofs_map.specs.declared.idmap.IdMapError.{IdMapError}
use Rattle.virtiofs_map.specs.declared.idmap.IdMapError.TheVariants as errors

-- the text begins and ends with the same character, which is not alphanumeric, and that character stands between the
-- fields
pub record HasFields (text : List ℕ) (fields : List (List ℕ)) : Type 0 where
  pub delimiter : ℕ
  pub inner : List ℕ
  pub whole : text ≡ delimiter ∷ inner ++ delimiter ∷ []
  pub delimits : is_alphanumeric delimiter ≡ false
  pub split : fields ≡ split_at_each delimiter inner

-- the text is three numerals, with a delimiter that is not alphanumeric before, between and after them
pub record SaysNamespace (text : List ℕ) (inside outside count : ℕ) : Type 0 where
  pub fields : List (List ℕ)
  pub between : HasFields text fields
  pub numbers : AllZip IsNumeral fields (inside ∷ outside ∷ count ∷ [])

-- what is wrong with a text that says no range
pub data NamespaceFault : Type 0 where
  InvalidDelimiter : NamespaceFault
  IncompleteMap : NamespaceFault
  InvalidValue : NamespaceFault

-- the text has that fault: it is not empty, and does not begin and end with one character that is not alphanumeric; it is
-- empty, or has not exactly three fields; or it has three, of which one is no numeral
abbrev pub HasNamespaceFault : List ℕ → NamespaceFault → Type 0
HasNamespaceFault text InvalidDelimiter = (text ≢ []) × ((fields : List (List ℕ)) → ¬ HasFields text fields)
HasNamespaceFault text IncompleteMap =
    (text ≡ []) ⊎ ((fields : List (List ℕ)) × HasFields text fields × (length fields ≢ 3))
HasNamespaceFault text InvalidValue =
    (fields : List (List ℕ)) × HasFields text fields × (length fields ≡ 3)
    × ((field : List ℕ) × Contains fields field × ((value : ℕ) → ¬ IsNumeral field value))

-- the fault that an error tells
abbrev pub namespace_fault_of : IdMapError → NamespaceFault
namespace_fault_of errors.InvalidDelimiter = InvalidDelimiter
namespace_fault_of errors.IncompleteMap = IncompleteMap
namespace_fault_of (errors.InvalidValue error) = InvalidValue
