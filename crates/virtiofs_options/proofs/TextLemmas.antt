-- What texts begin with, what stands before a byte, and words that have a value after `=`.
use Rattle.std.proofs.Common.{◌≡◌, ◌<◌, ℕ, List, ◌∷◌, ◌++◌, Bool, true, false, if◌then◌else◌, Option, Some, None, MatchOption, option_map}
use Rattle.std.proofs.Common.{Bor, IsCharBoundary, length, nat_lt, position, take, drop, get_or, arith, length-append, sym, ap, subst, ◌∙◌}
use Rattle.std.proofs.Math.Seq.{get_or-append_seam}
use Rattle.std.proofs.lemmas.Bool.{ltb-false}
use Rattle.std.proofs.lemmas.List.{take_all}
use Rattle.std.proofs.lemmas.Str.Pattern.{IsSplitOnceResult, split_parts, starts_text}
use Rattle.std.specs.List.{before_first}
use Rattle.std.specs.Str.Pattern.{FindsTextPrefix, StripsPrefix}
use Rattle.virtiofs_options.specs.Clusters.{stripped}
use Rattle.virtiofs_options.specs.Parts.{JoinsLong, LacksEquals}

-- what a text has after another that it begins with
pub strips : (begin text : List ℕ) (r : Option (Bor (List ℕ)))
    → MatchOption r (FindsTextPrefix begin text None) (λ x. StripsPrefix (FindsTextPrefix begin) text x.now)
    → option_map (λ it. it.now) r ≡ stripped begin text
strips begin text None lacks =
    ap (λ (b : Bool). if b then Some (drop (length begin) text) else None) (starts_text false begin text lacks)
strips begin text (Some x) (k, found, cut, long) =
    ap Some (cut ∙ ap (λ n. drop n text) found.0)
    ∙ ap (λ (b : Bool). if b then Some (drop (length begin) text) else None)
    (starts_text true begin text (k, found, subst (IsCharBoundary text) (sym found.0) found.2))

-- what stands before the first element that passes a test
pub before_position : {X : Type 0} (p : X → Bool) (xs : List X) (r : Option ℕ) → r ≡ position p xs
    → MatchOption r (xs ≡ before_first p xs) (λ k. take k xs ≡ before_first p xs)
before_position p xs r is = grind (arith, take_all, ltb-false, nat_lt)

-- a text with a `=` does not lack it
has_equals : (word name value : List ℕ) → word ≡ name ++ (61 ∷ value) → LacksEquals word → ⊥
has_equals word name value whole lacks =
    let below : length name < length word = omega (arith, ap length whole, length-append name (61 ∷ value)) in
    lacks (length name) below (ap (λ (w : List ℕ). get_or w (length name) 0) whole ∙ get_or-append_seam name 61 value 0)

-- what `split_once` gives at a word that begins with two `-`
pub joins_long : (word : List ℕ) (r : Option (Bor (List ℕ) × Bor (List ℕ))) → IsSplitOnceResult 61 word r
    → get_or word 0 0 ≡ 45 → get_or word 1 0 ≡ 45
    → MatchOption r ((name value : List ℕ) → ¬ JoinsLong word name value) (λ p. JoinsLong word p.0.now p.1.now)
joins_long word None split first second =
    λ name value joins. has_equals word name value joins.0 (split_parts 61 word None split (omega arith))
joins_long word (Some p) split first second =
    let parts = split_parts 61 word (Some p) split (omega arith) in (parts.0, parts.1, first, second)
