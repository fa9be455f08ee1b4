-- A text says at most one specification, and has at most one fault.
use Rattle.std.proofs.Common.{◌≡◌, inl, inr, ◌==◌, ℕ, Bool, true, false, cond, List, [], ◌∷◌, ◌++◌, length, refl, sym}
use Rattle.std.proofs.Common.{ap, ◌∙◌, rules, arith, Contains, get_or, length-append, ◌<◌}
use Rattle.std.specs.List.{AllZip, AllPass}
use Rattle.std.proofs.Math.Seq.{get_or-append_seam}
use Rattle.std.proofs.lemmas.Bool.{false≢true, cases_order}
use Rattle.std.proofs.lemmas.List.{get_or_append_left}
use Rattle.std.proofs.lemmas.List.Elements.{All-head, All-tail}
use Rattle.virtiofs_map.specs.Numeral.{IsNumeral}
use Rattle.virtiofs_map.specs.SpecificationText.{IsFirstNonNumeral, HasParts, HasNoSeparator, IsWordFault, IsPartsFault}
use Rattle.virtiofs_map.specs.SpecificationText.{word_of, numbers_of, is_word_character, Says, lowered}
use Rattle.virtiofs_map.specs.SpecificationText.{SpecificationFault, InvalidValue, HasSpecificationFault}
use Rattle.virtiofs_map.specs.declared.cmdline.IdMap.{IdMap}
use Rattle.virtiofs_map.specs.declared.cmdline.IdMap.TheVariants.{Guest, Host, SquashGuest, SquashHost, Bidirectional}
use Rattle.virtiofs_map.specs.declared.cmdline.IdMap.TheVariants.{ForbidGuest}
use Rattle.virtiofs_map.proofs.NumeralLemmas.{IsNumeral-one}
use Rattle.virtiofs_map.proofs.ZipLemmas.{AllZip-one, AllZip-contains}

failing : (p : ℕ → Bool) (c d : ℕ) → c ≡ d → p c ≡ true → p d ≡ false → ⊥
failing p c d same passes fails = false≢true (sym fails ∙ ap p (sym same) ∙ passes)

-- one character that fails a test stands after the longest front that passes it
one_cut : (p : ℕ → Bool) (front other : List ℕ) (c d : ℕ) (back rest : List ℕ) → front ++ c ∷ back ≡ other ++ d ∷ rest
    → AllPass p front → AllPass p other → p c ≡ false → p d ≡ false → (front ≡ other) × (c ∷ back ≡ d ∷ rest)
one_cut p [] [] c d back rest same first second c_fails d_fails = (refl, same)
one_cut p [] (y ∷ other) c d back rest same first second c_fails d_fails = grind (arith, All-head, failing)
one_cut p (x ∷ front) [] c d back rest same first second c_fails d_fails = grind (arith, All-head, failing)
one_cut p (x ∷ front) (y ∷ other) c d back rest same first second c_fails d_fails =
    let is : x ≡ y = cc in
    let tails : front ++ c ∷ back ≡ other ++ d ∷ rest = cc in
    let later = one_cut p front other c d back rest tails (All-tail (λ (z : ℕ). p z ≡ true) x front first)
    (All-tail (λ (z : ℕ). p z ≡ true) y other second) c_fails d_fails in
    (cc, later.1)

-- so a text has one word, and fields
HasParts-one : (text word other : List ℕ) (fields others : List (List ℕ)) → HasParts text word fields
    → HasParts text other others → (word ≡ other) × (fields ≡ others)
HasParts-one text word other fields others first second =
    let (front, back) = one_cut is_word_character first.prefix second.prefix first.separator second.separator first.rest
    second.rest (sym first.whole ∙ second.whole) first.passed second.passed first.ends second.ends in
    let character : first.separator ≡ second.separator = cc in
    let rest : first.rest ≡ second.rest = cc in (
      first.lower ∙ ap lowered front ∙ sym second.lower,
      first.split ∙ rw (character, rest) (sym second.split),
    )

-- a text of nothing but word characters has none
cut_apart : (p : ℕ → Bool) (front : List ℕ) (c : ℕ) (back : List ℕ) → AllPass p (front ++ c ∷ back) → p c ≡ false → ⊥
cut_apart p [] c back all fails = failing p c c refl (All-head (λ (x : ℕ). p x ≡ true) c back all) fails
cut_apart p (x ∷ front) c back all fails = search (rules, cut_apart p front c back, All-tail)

HasNoSeparator-uncut : (text word : List ℕ) (fields : List (List ℕ)) → HasNoSeparator text → HasParts text word fields
    → ⊥
HasNoSeparator-uncut text word fields none parts = search (rules, cut_apart)

-- a word and its numbers are those of one specification
spec_of : ℕ → List ℕ → IdMap
spec_of n (a ∷ b ∷ c ∷ []) =
    cond (n == 5) (Guest a b c)
    (cond (n == 4) (Host a b c)
    (cond (n == 12) (SquashGuest a b c) (cond (n == 11) (SquashHost a b c) (Bidirectional a b c))))
spec_of n (a ∷ b ∷ []) = ForbidGuest a b
spec_of n _ = ForbidGuest 0 0

spec_is : (spec : IdMap) → spec_of (length (word_of spec)) (numbers_of spec) ≡ spec
unfolding spec_of
spec_is spec = grind arith

one_spec : (spec other : IdMap) → word_of spec ≡ word_of other → numbers_of spec ≡ numbers_of other → spec ≡ other
one_spec spec other word numbers = search (rules, spec_is, spec_of)

-- how many numbers a word takes
takes_of : List ℕ → ℕ
takes_of [] = 0
takes_of (c ∷ word) = cond (c == 102) 2 3

one_count : (spec other : IdMap) → word_of spec ≡ word_of other → length (numbers_of spec) ≡ length (numbers_of other)
one_count spec other word = grind (arith, takes_of)

-- fields are one list of numbers
one_list : (fields : List (List ℕ)) (numbers others : List ℕ) → AllZip IsNumeral fields numbers
    → AllZip IsNumeral fields others → numbers ≡ others
one_list = AllZip-one IsNumeral IsNumeral-one

pub Says-one : (text : List ℕ) (spec other : IdMap) → Says text spec → Says text other → spec ≡ other
Says-one text spec other first second =
    let (word, fields) = HasParts-one text (word_of spec) (word_of other) first.fields second.fields first.parts
    second.parts in
    one_spec spec other word
    (one_list second.fields (numbers_of spec) (numbers_of other) (rw fields at first.numbers) second.numbers)

-- there is only one first field that is no numeral
unread_after : (fields : List (List ℕ)) (numbers : List ℕ) (field : List ℕ) → AllZip IsNumeral fields numbers
    → Contains fields field → ((value : ℕ) → ¬ IsNumeral field value) → ⊥
unread_after fields numbers field read here unread =
    let (value, is) = AllZip-contains IsNumeral fields numbers field read here in unread value is

-- a field at the seam of two lists, of which the second one's front is longer
earlier : (before others : List (List ℕ)) (field other : List ℕ) (after rest : List (List ℕ))
    → before ++ field ∷ after ≡ others ++ other ∷ rest → length before < length others → Contains others field
earlier before others field other after rest same shorter = (
  length before,
  shorter,
  sym (get_or_append_left others (other ∷ rest) field (length before) shorter)
      ∙ ap (λ (fs : List (List ℕ)). get_or fs (length before) field) (sym same)
      ∙ get_or-append_seam before field after field,
)

IsFirstNonNumeral-one : (fields : List (List ℕ)) (field other : List ℕ) → IsFirstNonNumeral fields field
    → IsFirstNonNumeral fields other → field ≡ other
IsFirstNonNumeral-one fields field other first second =
    elim (cases_order (length first.before) (length second.before)) [
      | inl same ↦ sym (get_or-append_seam first.before field first.after field)
          ∙ ap (λ (fs : List (List ℕ)). get_or fs (length first.before) field) (sym first.here ∙ second.here)
          ∙ rw same (get_or-append_seam second.before other second.after field)
      | inr (inl shorter) ↦ absurd
          (unread_after second.before second.values field second.read
          (earlier first.before second.before field other first.after second.after (sym first.here ∙ second.here) shorter)
          first.unread)
      | inr (inr longer) ↦ absurd
          (unread_after first.before first.values other first.read
          (earlier second.before first.before other field second.after first.after (sym second.here ∙ first.here) longer)
          second.unread)
    ]

unread_fields : (fields : List (List ℕ)) (numbers field : List ℕ) → AllZip IsNumeral fields numbers
    → IsFirstNonNumeral fields field → ⊥
unread_fields fields numbers field read first =
    unread_after fields numbers field read (
      length first.before,
      rw first.here (omega (arith, length-append first.before (field ∷ first.after))),
      rw first.here (get_or-append_seam first.before field first.after field),
    ) first.unread

-- a word and fields have at most one fault, and none if they say a specification
IsWordFault-one : (word numbers : List ℕ) (fault other : SpecificationFault) → IsWordFault word numbers fault
    → IsWordFault word numbers other → fault ≡ other
IsWordFault-one word numbers fault other first second = grind (arith, one_count)

IsPartsFault-one : (word : List ℕ) (fields : List (List ℕ)) (fault other : SpecificationFault)
    → IsPartsFault word fields fault → IsPartsFault word fields other → fault ≡ other
IsPartsFault-one word fields fault other (inl (field, is, first)) (inl (also, was, second)) =
    is ∙ ap InvalidValue (IsFirstNonNumeral-one fields field also first second) ∙ sym was
IsPartsFault-one word fields fault other (inl (field, is, first)) (inr (numbers, read, _)) =
    absurd (unread_fields fields numbers field read first)
IsPartsFault-one word fields fault other (inr (numbers, read, _)) (inl (field, is, first)) =
    absurd (unread_fields fields numbers field read first)
IsPartsFault-one word fields fault other (inr (numbers, read, first)) (inr (others, told, second)) =
    IsWordFault-one word others fault other (rw (one_list fields numbers others read told) at first) second

IsPartsFault-none : (spec : IdMap) (fields : List (List ℕ)) (fault : SpecificationFault)
    → AllZip IsNumeral fields (numbers_of spec) → IsPartsFault (word_of spec) fields fault → ⊥
IsPartsFault-none spec fields fault read (inl (field, is, first)) =
    unread_fields fields (numbers_of spec) field read first
IsPartsFault-none spec fields fault read (inr (numbers, told, inl (is, unknown))) = unknown spec refl
IsPartsFault-none spec fields fault read (inr (numbers, told, inr (other, word, (is, wrong)))) =
    wrong (ap (λ (ns : List ℕ). length ns) (one_list fields numbers (numbers_of spec) told read) ∙ one_count spec other word)

pub Says-no_fault : (text : List ℕ) (spec : IdMap) (fault : SpecificationFault) → Says text spec
    → HasSpecificationFault text fault → ⊥
unfolding HasSpecificationFault
Says-no_fault text spec fault said (inl (none, _)) =
    HasNoSeparator-uncut text (word_of spec) said.fields none said.parts
Says-no_fault text spec fault said (inr (word, fields, parts, has)) =
    let same = HasParts-one text word (word_of spec) fields said.fields parts said.parts in
    IsPartsFault-none spec said.fields fault said.numbers (rw (same.0, same.1) at has)

-- a text has at most one fault
pub HasSpecificationFault-one : (text : List ℕ) (fault other : SpecificationFault) → HasSpecificationFault text fault
    → HasSpecificationFault text other → fault ≡ other
unfolding HasSpecificationFault
HasSpecificationFault-one text fault other (inl (_, is)) (inl (_, was)) = is ∙ sym was
HasSpecificationFault-one text fault other (inl (none, _)) (inr (word, fields, parts, _)) =
    absurd (HasNoSeparator-uncut text word fields none parts)
HasSpecificationFault-one text fault other (inr (word, fields, parts, _)) (inl (none, _)) =
    absurd (HasNoSeparator-uncut text word fields none parts)
HasSpecificationFault-one text fault other (inr (word, fields, parts, has)) (inr (mot, others, again, had)) =
    let same = HasParts-one text word mot fields others parts again in
    IsPartsFault-one mot others fault other (rw (same.0, same.1) at has) had
