-- Bytes as the programs write them.
use Rattle.std.proofs.Common.{◌≡◌, ◌<◌, ◌+◌, ℕ, List, [], ◌∷◌, ◌++◌, length, take, get_or, sym, ap, ◌∙◌, append-nil}
use Rattle.std.proofs.lemmas.Grind.{flat_map-append}
use Rattle.std.proofs.lemmas.List.{take_more}
use Rattle.virtiofs_output.specs.Written.{written, written_byte}

-- one more byte
pub written_more : (bytes : List ℕ) (i d : ℕ) → i < length bytes
    → written (take i bytes) ++ written_byte (get_or bytes i d) ≡ written (take (i + 1) bytes)
written_more bytes i d below =
    ap (λ (one : List ℕ). written (take i bytes) ++ one) (sym (append-nil (written_byte (get_or bytes i d))))
    ∙ sym (flat_map-append written_byte (take i bytes) (get_or bytes i d ∷ []))
    ∙ ap written (sym (take_more bytes i d below))
