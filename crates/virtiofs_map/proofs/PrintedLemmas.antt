-- The printed forms of a specification and of a range of a namespace are texts that say them.
use Rattle.std.proofs.Common.{◌≡◌, ℕ, ◌^◌, ◌<◌, true, false, List, [], ◌∷◌, ◌++◌, All, flat_map, codes, refl, sym}
use Rattle.std.proofs.Common.{subst, arith, decimal, chars, IsAscii, append-nil, rules, append_assoc, ◌∙◌, ap}
use Rattle.std.specs.List.{AllZip, list_all}
use Rattle.std.proofs.lemmas.Fmt.{IsAscii-decimal}
use Rattle.std.proofs.lemmas.List.Elements.{All-head, All-tail, All-cons, All-nil}
use Rattle.std.proofs.lemmas.List.Sums.{AllPass-from_list_all}
use Rattle.std.proofs.lemmas.Str.{chars-IsAscii, IsAscii-append}
use Rattle.std.proofs.lemmas.Str.Ascii.{IsAscii-nil, IsAscii-cons}
use Rattle.unicode.proofs.DerivedComputing.{ucd_derived}
use Rattle.unicode.proofs.CategoryComputing.{ucd_category}
use Rattle.virtiofs_map.specs.Alphanumeric.{is_alphanumeric}
use Rattle.virtiofs_map.specs.Numeral.{IsNumeral}
use Rattle.virtiofs_map.specs.Printed.{specification_text, namespace_text}
use Rattle.virtiofs_map.specs.SpecificationText.{is_word_character, lowered, word_of, numbers_of, Says}
use Rattle.virtiofs_map.specs.Separator.{split_at_each}
use Rattle.virtiofs_map.specs.declared.cmdline.IdMap.{IdMap}
use Rattle.virtiofs_map.proofs.NumeralLemmas.{decimal_lacks_colon, IsNumeral-decimal}
use Rattle.virtiofs_map.proofs.SpecificationLemmas.{split_at_each-cut, split_at_each-last, IsAscii-word_of}
use Rattle.virtiofs_map.specs.NamespaceText.{SaysNamespace}

-- a colon ends a word
colon_ends : is_word_character 58 ≡ false
unfolding is_alphanumeric ucd_derived ucd_category
colon_ends = refl

-- the letters of the words are alphanumeric
all_word : (spec : IdMap) → list_all is_word_character (word_of spec) ≡ true
unfolding is_alphanumeric ucd_derived ucd_category
all_word spec = grind arith

-- and in lower case
lowered-word_of : (spec : IdMap) → lowered (word_of spec) ≡ word_of spec
lowered-word_of spec = grind arith

-- numbers in decimal, each after a colon
abbrev after_colons : List ℕ → List ℕ
after_colons ns = flat_map (λ n. codes ":" ++ decimal n) ns

-- their fields are the numbers
AllZip-fields : (n : ℕ) (ns : List ℕ) → All (λ m. m < 2 ^ 32) (n ∷ ns)
    → AllZip IsNumeral (split_at_each 58 (decimal n ++ after_colons ns)) (n ∷ ns)
AllZip-fields n [] small =
    grind (arith, All-head, append-nil, split_at_each-last, decimal_lacks_colon, IsNumeral-decimal)
AllZip-fields n (m ∷ ns) small =
    let below : n < 2 ^ 32 = All-head (λ m. m < 2 ^ 32) n (m ∷ ns) small in
    let cut : split_at_each 58 (decimal n ++ after_colons (m ∷ ns)) ≡ decimal n ∷ split_at_each 58
    (decimal m ++ after_colons ns) =
    search (rules, split_at_each-cut, decimal_lacks_colon) in
    subst (λ (fs : List (List ℕ)). AllZip IsNumeral fs (n ∷ m ∷ ns)) (sym cut)
    (IsNumeral-decimal n below, AllZip-fields m ns (All-tail (λ m. m < 2 ^ 32) n (m ∷ ns) small))

IsAscii-after_colons : (ns : List ℕ) → All (λ m. m < 2 ^ 32) ns → IsAscii (after_colons ns)
IsAscii-after_colons [] small = IsAscii-nil
IsAscii-after_colons (n ∷ ns) small =
    let below : n < 2 ^ 32 = All-head (λ m. m < 2 ^ 32) n ns small in
    IsAscii-cons 58 (decimal n ++ after_colons ns) (omega arith)
    (IsAscii-append (decimal n) (after_colons ns) (IsAscii-decimal n (omega arith))
    (IsAscii-after_colons ns (All-tail (λ m. m < 2 ^ 32) n ns small)))

-- the printed form is ASCII, so its characters are its bytes
chars-printed : (spec : IdMap) → All (λ n. n < 2 ^ 32) (numbers_of spec)
    → chars (specification_text spec) ≡ specification_text spec
chars-printed spec small = search (rules, chars-IsAscii, IsAscii-append, IsAscii-word_of, IsAscii-after_colons)

-- the word, and the numbers after it
Says-parts : (spec : IdMap) (n : ℕ) (ns : List ℕ) → numbers_of spec ≡ n ∷ ns → All (λ m. m < 2 ^ 32) (numbers_of spec)
    → Says (chars (specification_text spec)) spec
Says-parts spec n ns are small = record {
  fields = split_at_each 58 (decimal n ++ after_colons ns);
  parts = record {
    prefix = word_of spec;
    separator = 58;
    rest = decimal n ++ after_colons ns;
    whole = grind (arith, chars-printed, after_colons);
    passed = AllPass-from_list_all is_word_character (word_of spec) (all_word spec);
    ends = colon_ends;
    lower = sym (lowered-word_of spec);
    split = refl;
  };
  numbers =
      grind (arith, after_colons, AllZip-fields);
}

pub specification_printed : (spec : IdMap) → All (λ n. n < 2 ^ 32) (numbers_of spec)
    → Says (chars (specification_text spec)) spec
specification_printed spec small = grind (arith, Says-parts)

-- a colon is no letter and no number
pub colon_delimits : is_alphanumeric 58 ≡ false
unfolding is_alphanumeric ucd_derived ucd_category
colon_delimits = refl

IsAscii-colon : IsAscii (codes ":")
IsAscii-colon = IsAscii-cons 58 [] (omega arith) IsAscii-nil

-- one more field, and a colon after it
IsAscii-field : (front : List ℕ) (n : ℕ) → IsAscii front → n < 2 ^ 32 → IsAscii (front ++ decimal n ++ codes ":")
IsAscii-field front n ascii small = search (rules, IsAscii-append, decimal, codes, IsAscii-decimal, IsAscii-colon)

IsAscii-namespace_text : (a b c : ℕ) → a < 2 ^ 32 → b < 2 ^ 32 → c < 2 ^ 32 → IsAscii (namespace_text a b c)
IsAscii-namespace_text a b c small_a small_b small_c = search (rules, codes, decimal, IsAscii-field, IsAscii-colon)

-- what stands between the first colon and the last
enclosed : (a b c : List ℕ)
    → 58 ∷ (a ++ 58 ∷ (b ++ 58 ∷ (c ++ 58 ∷ []))) ≡ 58 ∷ (a ++ 58 ∷ (b ++ 58 ∷ c)) ++ 58 ∷ []
enclosed a b c =
    sym (ap (λ (cs : List ℕ). 58 ∷ cs) (append_assoc a (58 ∷ (b ++ 58 ∷ c)) (58 ∷ [])
    ∙ ap (λ (cs : List ℕ). a ++ 58 ∷ cs) (append_assoc b (58 ∷ c) (58 ∷ []))))

-- what a range is printed as says the range
pub namespace_printed : (a b c : ℕ) → a < 2 ^ 32 → b < 2 ^ 32 → c < 2 ^ 32
    → SaysNamespace (chars (namespace_text a b c)) a b c
namespace_printed a b c small_a small_b small_c =
    let whole : namespace_text a b c
    ≡ 58 ∷ (decimal a ++ 58 ∷ (decimal b ++ 58 ∷ (decimal c ++ 58 ∷ []))) = simp append_assoc in
    let rest : after_colons (b ∷ c ∷ []) ≡ 58 ∷ (decimal b ++ 58 ∷ decimal c) = simp append-nil in
    let small : All (λ m. m < 2 ^ 32) (a ∷ b ∷ c ∷ []) = search (rules, All-cons, All-nil) in
    let inner : List ℕ = decimal a ++ 58 ∷ (decimal b ++ 58 ∷ decimal c) in
    record {
      fields = split_at_each 58 inner;
      between = record {
        delimiter = 58;
        inner = inner;
        whole = chars-IsAscii (namespace_text a b c) (IsAscii-namespace_text a b c small_a small_b small_c) ∙ whole
            ∙ enclosed (decimal a) (decimal b) (decimal c);
        delimits = colon_delimits;
        split = refl;
      };
      numbers = subst (λ (cs : List ℕ). AllZip IsNumeral (split_at_each 58 (decimal a ++ cs)) (a ∷ b ∷ c ∷ [])) rest
          (AllZip-fields a (b ∷ c ∷ []) small);
    }
