-- Guests with other options in place of theirs, as they are tried.
use Rattle.std.specs.Prelude.{◌≡◌, ℕ, ◌&&◌, List, map, string_bytes, Option, Some, None}
use Rattle.std.specs.Borrow.{Bor}
use Rattle.std.specs.declared.string.String.{String}
use Rattle.std.specs.declared.vec.Vec.{Vec}
use Rattle.virtiofs_options.specs.GuestOptions.{text_in}
use Rattle.virtiofs_findings.specs.Lists.{AllZip3}
use Rattle.virtiofs_findings.specs.Narrower.{SameRest}
use Rattle.virtiofs_findings.specs.declared.advice.options.Options.{Options}
use Rattle.virtiofs_findings.specs.declared.guest.Guest.{Guest}

-- the bytes of the texts
abbrev pub bytes_of : List (Bor (List ℕ)) → List (List ℕ)
bytes_of = map (λ text. text.now)

-- the other texts, or the given ones where there are none
abbrev pub texts_or : {A : Type 0} → Option (Vec (String A) A) → List (Bor (List ℕ)) → List (List ℕ)
texts_or None given = bytes_of given
texts_or (Some texts) given = map string_bytes texts.items

-- the other rules, or the given ones where there are none; rules only where some are given
abbrev pub rules_or : {A : Type 0} → Option (String A) → Option (List ℕ) → Option (List ℕ)
rules_or None given = given
rules_or (Some rules) None = None
rules_or (Some rules) (Some given) = Some (string_bytes rules)

-- the guest with these options
pub record IsWith {A : Type 0} (given : Guest A) (options : Options A) (other : Guest A) : Type 0 where
  pub users : bytes_of other.options.translate_uid.items
      ≡ texts_or options.translate_uid given.options.translate_uid.items
  pub groups : bytes_of other.options.translate_gid.items
      ≡ texts_or options.translate_gid given.options.translate_gid.items
  pub names : text_in other.options.xattrmap ≡ rules_or options.rules (text_in given.options.xattrmap)
  pub lists : other.options.posix_acl ≡ (given.options.posix_acl && options.keeps_acl)
  pub flag : other.options.acl_flag ≡ (given.options.acl_flag && options.keeps_acl)
  pub rest : SameRest given other

-- each of the guests with the options at its place
abbrev pub AreWith : {A : Type 0} → List (Guest A) → List (Options A) → List (Guest A) → Type 0
AreWith = AllZip3 IsWith
