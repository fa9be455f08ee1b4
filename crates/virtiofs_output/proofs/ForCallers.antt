-- What callers may cite of this crate's proofs. All the rest is private and may change.
use Rattle.std.proofs.Common.{◌≡◌, ℕ, List, ◌++◌, Result, Ok, Err, OnOk, is_ok, if◌then◌else◌}

-- a word was written at the end of a text
pub word_pushed : {T E : Type 0} (r : Result T E) (old new word : List ℕ) → new ≡ (if is_ok r then old ++ word else old)
    → OnOk r (new ≡ old ++ word)
word_pushed (Ok x) old new word wrote = wrote
word_pushed (Err e) old new word wrote = tt
