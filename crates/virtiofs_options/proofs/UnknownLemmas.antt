-- What is not known in parts, one after another.
use Rattle.std.proofs.Common.{arith}
use Rattle.std.proofs.Common.{◌≡◌, ◌++◌, ℕ, List, [], ◌∷◌, true, false, Option, Some, None, is_some, Bor, map, sym, ap, subst, ◌∙◌, append_assoc}
use Rattle.std.proofs.lemmas.List.{map-append}
use Rattle.std.proofs.lemmas.List.Elements.{filter-append}
use Rattle.std.proofs.lemmas.List.Folds.{find-append}
use Rattle.std.specs.Option.{option_or}
use Rattle.virtiofs_options.proofs.SearchLemmas.{any-find}
use Rattle.virtiofs_options.specs.GuestOptions.{is_set, split_at_commas}
use Rattle.virtiofs_options.specs.Guests.{Told}
use Rattle.virtiofs_options.specs.Unknown.{allows, first_bad, unknown_words, is_bad, is_faulty, FaultsIn, HasTextFault}
use Rattle.virtiofs_options.specs.Whole.{follows}
use Rattle.virtiofs_options.specs.declared.command.Part.{Part}
use Rattle.virtiofs_options.specs.declared.command.Part.TheVariants.{Valued}
use Rattle.virtiofs_options.specs.declared.fault.Fault.{Fault}
use Rattle.virtiofs_options.specs.declared.options.Known.{Known}
use Rattle.virtiofs_options.specs.declared.options.Options.{Options}
use Rattle.virtiofs_options.specs.declared.options.Sets.TheVariants as sets

-- one part of `-o` more
pub words-more : (options : Options) (guest : ℕ) (a b c : Told) (xs : List (Bor (List ℕ))) (x : Bor (List ℕ))
    → b ≡ a ++ unknown_words options guest (map (λ it. it.now) xs)
    → c ≡ b ++ unknown_words options guest (x.now ∷ [])
    → c ≡ a ++ unknown_words options guest (map (λ it. it.now) (xs ++ x ∷ []))
words-more options guest a b c xs x first second = grind (arith, append_assoc, map-append, filter-append)

-- one part of `-o` more, where none so far is wrong
pub first-more : (options : Options) (xs : List (Bor (List ℕ))) (x : Bor (List ℕ)) (o : Option Fault)
    → first_bad options (map (λ it. it.now) xs) ≡ None → HasTextFault options (first_bad options (x.now ∷ [])) o
    → HasTextFault options (first_bad options (map (λ it. it.now) (xs ++ x ∷ []))) o
first-more options xs x o none found =
    subst (λ (first : Option (List ℕ)). HasTextFault options first o) (sym is) found
  where
    is : first_bad options (map (λ it. it.now) (xs ++ x ∷ [])) ≡ first_bad options (x.now ∷ [])
    is =
        ap (first_bad options) (map-append (λ (it : Bor (List ℕ)). it.now) xs (x ∷ []))
        ∙ find-append (is_bad options) (map (λ (it : Bor (List ℕ)). it.now) xs) (x.now ∷ [])
        ∙ ap (λ (it : Option (List ℕ)). option_or it (first_bad options (x.now ∷ []))) none

-- what is wrong with an option that has its value, and parts of `-o` in it
pub older_faulty : (options : Options) (row : Known) (value : Bor (List ℕ)) (o : Option Fault)
    → follows options value.now ≡ false → allows row.values value.now ≡ true → is_set sets.Older row.sets ≡ true
    → HasTextFault options (first_bad options (split_at_commas value.now)) o
    → FaultsIn options (Valued row value) o
older_faulty options row value x3 no_line allowed older none = grind (arith, any-find, is_some)

-- what is wrong with a part, where it is known what is
pub faults-some : (options : Options) (part : Part) (o : Option Fault) (fault : Fault) → FaultsIn options part o
    → o ≡ Some fault → FaultsIn options part (Some fault)
faults-some options part o fault told is = subst (FaultsIn options part) is told

pub faults-none : (options : Options) (part : Part) (o : Option Fault) → FaultsIn options part o → o ≡ None
    → is_faulty options part ≡ false
faults-none options part o told is = subst (FaultsIn options part) is told
