-- The texts of /proc/PID/cmdline.
use Rattle.std.specs.Prelude.{◌≡◌, ◌≢◌, ◌⊎◌, ℕ, List, [], ◌∷◌, ◌++◌}
use Rattle.std.specs.Str.{IsUtf8}
use Rattle.virtiofs_map.specs.Separator.{Lacks}
use Rattle.virtiofs_host.specs.Sequence.{AreAll, StopsAfter}

-- the text begins with the word, which a zero byte ends; the last word may lack it, if it is not empty
pub record BeginsWord (text word rest : List ℕ) : Type 0 where
  pub ends : (text ≡ word ++ 0 ∷ rest) ⊎ ((text ≡ word) × (text ≢ []) × (rest ≡ []))
  pub one_word : Lacks 0 word
  pub utf8 : IsUtf8 word

-- the text is these words
abbrev pub AreWords : List ℕ → List (List ℕ) → Type 0
AreWords text words = AreAll BeginsWord text words

-- the place, counted from 0, of the first word that is not UTF-8: nothing else keeps a text from beginning with a word
abbrev pub HasWrongWord : List ℕ → ℕ → Type 0
HasWrongWord text place = StopsAfter BeginsWord text place
