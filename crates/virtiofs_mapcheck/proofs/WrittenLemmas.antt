-- What was written at the end of a text.
use Rattle.std.proofs.Common.{rules, ◌≡◌, ℕ, List, ◌++◌, Option, Some, Result, OnOk, is_ok, if◌then◌else◌, String}
use Rattle.std.proofs.Common.{string_bytes, ap, append_assoc}
use Rattle.std.specs.Str.{chars, encode_utf8_all}
use Rattle.std.proofs.lemmas.Str.{encodes-chars, IsUtf8-string_bytes}
use Rattle.virtiofs_output.specs.Written.{quoted}

-- a fault that an error tells was said at the end
pub fault_pushed : {F T E : Type 0} (text_of : F → List ℕ) (told : Option F) (fault : F) (r : Result T E)
    (old new : List ℕ) → told ≡ Some fault → OnOk r (new ≡ old ++ text_of fault)
    → OnOk r ((x : F) × (told ≡ Some x) × (new ≡ old ++ text_of x))
fault_pushed text_of told fault r old new tells wrote = search rules

-- a word and another were written
pub words_pushed : {T E : Type 0} (r : Result T E) (old mid new front word said : List ℕ) → mid ≡ old ++ front
    → new ≡ (if is_ok r then mid ++ word else mid) → front ++ word ≡ said → OnOk r (new ≡ old ++ said)
words_pushed r old mid new front word said start wrote is = search (rules, append_assoc)

-- a field that an error tells, by its bytes
quoted_got : {A : Type 0} (got : String A)
    → quoted (encode_utf8_all (chars (string_bytes got))) ≡ quoted (string_bytes got)
quoted_got got = ap quoted (encodes-chars (string_bytes got) (IsUtf8-string_bytes got))

-- a word and the field that an error tells were written
pub field_pushed : {A T E : Type 0} (r : Result T E) (old mid new front bytes : List ℕ) (got : String A)
    → mid ≡ old ++ front → bytes ≡ string_bytes got → OnOk r (new ≡ mid ++ quoted bytes)
    → OnOk r (new ≡ old ++ (front ++ quoted (encode_utf8_all (chars (string_bytes got)))))
field_pushed r old mid new front bytes got start value wrote = search (rules, append_assoc, quoted_got)
