-- What parts add to the options of a guest, one after another.
use Rattle.std.proofs.Common.{arith}
use Rattle.std.proofs.Common.{◌≡◌, ◌<◌, ◌+◌, ℕ, List, [], ◌∷◌, ◌++◌, Option, Bor, map, filter_map, flat_map, take, get_or, length, refl, sym, subst, ap, ◌∙◌, append_assoc}
use Rattle.std.proofs.lemmas.Grind.{flat_map-append}
use Rattle.std.proofs.lemmas.List.{map-append, take_more}
use Rattle.std.proofs.lemmas.List.Elements.{filter_map-append}
use Rattle.std.proofs.lemmas.List.Folds.{list_any-append}
use Rattle.std.specs.List.{last_or}
use Rattle.virtiofs_options.specs.GuestOptions.{Adds, AreOlder, older_options, older_part, plain_part, setting_in, settings, split_at_commas}
use Rattle.virtiofs_options.specs.declared.command.Part.{Part}
use Rattle.virtiofs_options.specs.declared.guest.Guest.{Guest}
use Rattle.virtiofs_options.specs.declared.options.Options.{Options}
use Rattle.virtiofs_options.specs.declared.options.Sets.TheVariants as sets

-- the last of two lists
last_or-append : {A : Type 0} (o : Option A) (xs ys : List A) → last_or o (xs ++ ys) ≡ last_or (last_or o xs) ys
last_or-append o [] ys = refl
last_or-append o (x ∷ xs) ys = last_or-append _ xs ys

Adds-then : {A : Type 0} (a b c : Guest A) (xs ys : List Part) → Adds a b xs → Adds b c ys → Adds a c (xs ++ ys)
Adds-then a b c xs ys first second =
    grind (arith, append_assoc, filter_map-append, filter_map, last_or-append, list_any-append)

pub adds_more : {A : Type 0} (a b c : Guest A) (parts : List Part) (i : ℕ) (d : Part) → i < length parts
    → Adds a b (take i parts) → Adds b c (get_or parts i d ∷ []) → Adds a c (take (i + 1) parts)
adds_more a b c parts i d below first second =
    subst (Adds a c) (sym (take_more parts i d below)) (Adds-then a b c (take i parts) (get_or parts i d ∷ []) first second)

-- the texts in the values of `-o`, of parts one after another
older_options-more : (parts : List Part) (i : ℕ) (d : Part) → i < length parts
    → older_options (take (i + 1) parts) ≡ older_options (take i parts) ++ older_options (get_or parts i d ∷ [])
older_options-more parts i d below =
    ap older_options (take_more parts i d below)
    ∙ ap (flat_map (λ (value : Bor (List ℕ)). split_at_commas value.now))
    (filter_map-append (setting_in sets.Older) (take i parts) (get_or parts i d ∷ []))
    ∙ flat_map-append (λ (value : Bor (List ℕ)). split_at_commas value.now)
    (settings sets.Older (take i parts)) (settings sets.Older (get_or parts i d ∷ []))

-- the parts of `-o` in a part more
pub are_older_more : (options : Options) (parts : List Part) (i : ℕ) (d : Part) (a b : List Part) → i < length parts
    → AreOlder options (take i parts) a
    → map plain_part b ≡ map plain_part a ++ map (older_part options) (older_options (get_or parts i d ∷ []))
    → AreOlder options (take (i + 1) parts) b
are_older_more options parts i d a b below so_far added =
    added ∙ ap (λ xs. xs ++ map (older_part options) (older_options (get_or parts i d ∷ []))) so_far
    ∙ sym (map-append (older_part options) (older_options (take i parts)) _)
    ∙ ap (map (older_part options)) (sym (older_options-more parts i d below))
